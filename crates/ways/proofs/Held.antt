-- A table that holds a value for each number below n, after one write or two.
use Rattle.std.proofs.Common.{◌≡◌, ℕ, ◌<◌, List, length, get_or, set, sym, ◌∙◌, subst, inl, inr, arith}
use Rattle.std.proofs.lemmas.List.{get_or-set_same, get_or-set_other, length-set}
use Rattle.std.proofs.lemmas.Bool.{cases_eq}

module _ {B : Type 0} (d : B) (n : ℕ) where
  abbrev pub Holds : (ℕ → B) → List B → Type 0
  Holds f es = (k : ℕ) → k < n → get_or es k d ≡ f k

  pub hold_one : (f g : ℕ → B) (es : List B) (i : ℕ) (x : B) → i < length es → Holds f es → x ≡ g i → ((k : ℕ) → k < n → (k ≡ i → ⊥) → g k ≡ f k) → Holds g (set es i x)
  hold_one f g es i x l old is_x same k h =
      elim (cases_eq k i) [
        | inl e ↦ subst (λ v. get_or (set es i x) v d ≡ g v) (sym e) (get_or-set_same es i x d l ∙ is_x)
        | inr e ↦ get_or-set_other es i k x d e ∙ old k h ∙ sym (same k h e)
      ]

  pub hold_two : (f g : ℕ → B) (es : List B) (i t : ℕ) (x y : B) → i < length es → t < i → Holds f es → x ≡ g i → y ≡ g t → ((k : ℕ) → k < n → (k ≡ i → ⊥) → (k ≡ t → ⊥) → g k ≡ f k) → Holds g (set (set es i x) t y)
  hold_two f g es i t x y l low old is_x is_y same k h =
      elim (cases_eq k t) [
        | inl e ↦ subst (λ v. get_or (set (set es i x) t y) v d ≡ g v) (sym e) (get_or-set_same (set es i x) t y d (omega (arith, length-set es i x)) ∙ is_y)
        | inr e ↦ get_or-set_other (set es i x) t k y d e ∙ elim (cases_eq k i) [
          | inl q ↦ subst (λ v. get_or (set es i x) v d ≡ g v) (sym q) (get_or-set_same es i x d l ∙ is_x)
          | inr q ↦ get_or-set_other es i k x d q ∙ old k h ∙ sym (same k h q e)
        ]
      ]
