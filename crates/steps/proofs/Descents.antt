-- A list that is gone through from its end: what is left is its front.
use Rattle.std.proofs.Common.{◌≡◌, ◌+◌, ◌≤◌, List, [], ◌∷◌, ◌++◌, length, get_or, take, sym, refl, ap, ◌∙◌, arith}
use Rattle.std.proofs.lemmas.List.{take_at, take-take, take_all, get_or-take, get_or_push, length_push}

module _ {A : Type 0} where
  pub record Left (all left : List A) : Type 0 where
    pub within : length left ≤ length all
    pub front : left ≡ take (length left) all

  pub all_left : (all : List A) → Left all all
  all_left all = record { within = omega arith; front = sym (take_all (length all) all (omega arith)) }

  -- the last of what is left is taken
  pub record Taken (all left rest : List A) (x : A) : Type 0 where
    pub less : length left ≡ length rest + 1
    pub rests : Left all rest
    pub is : (d : A) → x ≡ get_or all (length rest) d

  pub taken : (all left rest : List A) (x : A) → Left all left → left ≡ rest ++ x ∷ [] → Taken all left rest x
  taken all left rest x old e =
      let n : length left ≡ length rest + 1 = ap length e ∙ length_push rest x in
      record {
        less = n;
        rests = record {
          within = omega (arith, n, old.within);
          front = sym (take_at rest (x ∷ []) (length rest) refl) ∙ ap (take (length rest)) (sym e ∙ old.front) ∙ take-take (length rest) (length left) all (omega (arith, n));
        };
        is = λ d. sym (get_or_push rest x d (length rest) refl) ∙ ap (λ xs. get_or xs (length rest) d) (sym e ∙ old.front) ∙ get_or-take (length left) all (length rest) d (omega (arith, n));
      }
