-- Why the places that are named lie inside the list.
use Rattle.std.specs.Prelude.{◌≡◌, ℕ, zero, suc, ◌<◌, Bool, true, false, cond, List, [], ◌∷◌, length, Some, None, nat_lt, refl}
use Rattle.std.specs.List.{position, position_or_len}
use Rattle.std.specs.Option.{unwrap_or}
use Rattle.std.proofs.Common.{ap, inl, inr, arith}
use Rattle.std.proofs.lemmas.Bool.{ltb-true, ltb-false, lt-ltb, le-ltb, both_ways, not_from_false, cases_lt}
use Rattle.std.proofs.lemmas.List.Elements.{All-from_get_or}
use Rattle.std.proofs.lemmas.List.Folds.{list_any_none}
use Rattle.std.proofs.lemmas.List.Sums.{fails_before_first}
use Rattle.steps.specs.declared.ready.Ready.{Ready}
use Rattle.steps.specs.Placing.{Placing, rising, no_ready}
use Rattle.policies.specs.Places.{Strict, entry, unbeaten, best, in_order}

-- the lesser number comes first, or the greater
pub by_less : (key : Ready → ℕ) → Strict (λ s r. nat_lt (key s) (key r))
by_less key = record {
  itself = λ r. le-ltb (key r) (key r) (omega arith);
  through = λ a b c p q. let x = ltb-true (key a) (key b) p in let y = ltb-true (key b) (key c) q in lt-ltb (key a) (key c) (omega arith);
  level = λ a b c p q. let x = ltb-true (key a) (key b) p in let y = ltb-false (key c) (key b) q in lt-ltb (key a) (key c) (omega arith);
}

pub by_more : (key : Ready → ℕ) → Strict (λ s r. nat_lt (key r) (key s))
by_more key = record {
  itself = (by_less key).itself;
  through = λ a b c p q. (by_less key).through c b a q p;
  level = λ a b c p q. let x = ltb-true (key b) (key a) p in let y = ltb-false (key b) (key c) q in lt-ltb (key c) (key a) (omega arith);
}

-- where an entry passes a test, the first that does is inside
position_inside : (p : Ready → Bool) (rs : List Ready) (at : ℕ) → at < length rs → p (entry rs at) ≡ true → position_or_len p rs < length rs
position_inside p rs at within passes =
    elim (cases_lt at (position_or_len p rs)) [
      | inl before ↦ absurd (both_ways _ (fails_before_first p rs at no_ready before) passes)
      | inr high ↦ omega arith
    ]

pub none_before : (beats : Ready → Ready → Bool) (rs : List Ready) (at : ℕ) → ((k : ℕ) → k < length rs → beats (entry rs k) (entry rs at) ≡ false) → unbeaten beats rs (entry rs at) ≡ true
none_before beats rs at alone =
    not_from_false _ (list_any_none (λ s. beats s (entry rs at)) rs (All-from_get_or (λ s. beats s (entry rs at) ≡ false) rs no_ready alone))

module _ (beats : Ready → Ready → Bool) (strict : Strict beats) where
  -- an entry that none comes before
  record Best (rs : List Ready) : Type 0 where
    at : ℕ
    inside : at < length rs
    alone : (k : ℕ) → k < length rs → beats (entry rs k) (entry rs at) ≡ false

  also : (r : Ready) (rs : List Ready) → Best rs → Best (r ∷ rs)
  also r rs h = go (beats r (entry rs h.at)) refl
    where
      behind : beats r (entry rs h.at) ≡ true → (k : ℕ) → k < length rs → (b : Bool) → beats (entry rs k) r ≡ b → b ≡ false
      behind e k l true f = absurd (both_ways _ (h.alone k l) (strict.through (entry rs k) r (entry rs h.at) f e))
      behind e k l false f = refl

      first : beats r (entry rs h.at) ≡ true → (k : ℕ) → k < length (r ∷ rs) → beats (entry (r ∷ rs) k) r ≡ false
      first e zero l = strict.itself r
      first e (suc k) l = behind e k (omega arith) (beats (entry rs k) r) refl

      later : beats r (entry rs h.at) ≡ false → (k : ℕ) → k < length (r ∷ rs) → beats (entry (r ∷ rs) k) (entry rs h.at) ≡ false
      later e zero l = e
      later e (suc k) l = h.alone k (omega arith)

      go : (b : Bool) → beats r (entry rs h.at) ≡ b → Best (r ∷ rs)
      go true e = record { at = 0; inside = omega arith; alone = first e }
      go false e = record { at = suc h.at; inside = omega (arith, h.inside); alone = later e }

  best_there : (r : Ready) (rs : List Ready) → Best (r ∷ rs)
  best_there r [] = record { at = 0; inside = omega arith; alone = λ k l. only k l }
    where
      only : (k : ℕ) → k < length (r ∷ []) → beats (entry (r ∷ []) k) r ≡ false
      only zero l = strict.itself r
      only (suc k) l = absurd (omega arith)
  best_there r (s ∷ rs) = also r (s ∷ rs) (best_there s rs)

  pub best_inside : (rs : List Ready) → 0 < length rs → best beats rs < length rs
  best_inside [] some = absurd (omega arith)
  best_inside (r ∷ rs) some =
      let h = best_there r rs in
      position_inside (unbeaten beats (r ∷ rs)) (r ∷ rs) h.at h.inside (none_before beats (r ∷ rs) h.at h.alone)

-- the first entry that passes a test if one does, else a place inside the list, is inside the list
pub first_or_inside : (p : Ready → Bool) (other : ℕ) (rs : List Ready) → other < length rs → unwrap_or (position p rs) other < length rs
first_or_inside p other rs h = go (nat_lt (position_or_len p rs) (length rs)) (position_or_len p rs) (ltb-true _ _)
  where
    go : (b : Bool) (n : ℕ) → (b ≡ true → n < length rs) → unwrap_or (cond b (Some n) None) other < length rs
    go true n f = f refl
    go false n f = h

-- what a rule means that names places inside the list, and 0 in the empty list
abbrev pub placing : (rule : List Ready → ℕ) → ((rs : List Ready) → 0 < length rs → rule rs < length rs) → rule [] ≡ 0 → Placing
placing rule inside none = record {
  place = in_order rule;
  inside = λ rs some. within (rising rs) rs (inside rs some) some;
  unordered = λ rs e. ap (λ b. cond b (rule rs) 0) e;
  nothing = none;
}
  where
    within : (b : Bool) (rs : List Ready) → rule rs < length rs → 0 < length rs → cond b (rule rs) 0 < length rs
    within true rs h some = h
    within false rs h some = some
