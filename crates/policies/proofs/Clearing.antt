-- What is left where one value after the other is set to 0.
use Rattle.std.proofs.Common.{◌≡◌, ℕ, zero, suc, ◌<◌, ◌≤◌, refl, ap, ◌∙◌, ⊎_elim, arith}
use Rattle.std.proofs.lemmas.Bool.{cases_eq}
use Rattle.policies.specs.Values.{cleared}

module _ {C : Type 0} (put : C → ℕ → ℕ → C) where
  pub cleared_rest : {R : Type 0} (rest : C → R) → ((c : C) (step v : ℕ) → rest (put c step v) ≡ rest c) → (n : ℕ) (c : C) → rest (cleared put n c) ≡ rest c
  unfolding cleared
  cleared_rest rest leaves zero c = refl
  cleared_rest rest leaves (suc n) c = leaves (cleared put n c) n 0 ∙ cleared_rest rest leaves n c

  -- up to a limit below which values are read back
  module _ (keeps : C → ℕ → ℕ) (limit : ℕ) (reads : (c : C) (step v : ℕ) → step < limit → keeps (put c step v) step ≡ v) (others : (c : C) (step v other : ℕ) → (other ≡ step → ⊥) → keeps (put c step v) other ≡ keeps c other) where
    pub cleared_zeros : (n : ℕ) (c : C) → n ≤ limit → (k : ℕ) → k < n → keeps (cleared put n c) k ≡ 0
    unfolding cleared
    cleared_zeros zero c low k h = absurd (omega arith)
    cleared_zeros (suc n) c low k h =
        ⊎_elim
        (λ e. ap (λ j. keeps (put (cleared put n c) n 0) j) e ∙ reads (cleared put n c) n 0 (omega arith))
        (λ ne. others (cleared put n c) n 0 k ne ∙ cleared_zeros n c (omega arith) k (omega arith))
        (cases_eq k n)
