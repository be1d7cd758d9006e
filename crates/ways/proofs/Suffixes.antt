-- The steps of a sheet from a number on, and what holds of each of them.
use Rattle.std.proofs.Common.{◌≡◌, ℕ, suc, ◌<◌, ◌≤◌, List, [], ◌∷◌, length, drop, ap, inl, inr, le_refl, arith, length-drop, drop-cons}
use Rattle.std.proofs.lemmas.Bool.{cases_eq}
use Rattle.steps.specs.declared.step.Step.{Step}
use Rattle.steps.specs.Sheet.{blank, step}

-- P of each step, with its number and the steps after it
abbrev pub Each : (ℕ → Step → List Step → Type 0) → ℕ → List Step → Type 0
Each P j [] = Unit {0}
Each P j (s ∷ ss) = P j s ss × Each P (suc j) ss

-- induction from the last step to the first
pub back : (P : ℕ → Step → List Step → Type 0) → ((j : ℕ) (s : Step) (ss : List Step) → Each P (suc j) ss → P j s ss) → (j : ℕ) (ss : List Step) → Each P j ss
back P f j [] = tt
back P f j (s ∷ ss) = let t = back P f (suc j) ss in (f j s ss t, t)

module _ (sheet : List Step) where
  pub none_left : (j k : ℕ) → drop j sheet ≡ [] → j ≤ k → k < length sheet → ⊥
  none_left j k e a b = omega (arith, length-drop j sheet, ap length e)

  pub uncons : (j : ℕ) (s : Step) (ss : List Step) → drop j sheet ≡ s ∷ ss → (j < length sheet) × (step sheet j ≡ s) × (drop (suc j) sheet ≡ ss)
  uncons j s ss e =
      let l : j < length sheet = omega (arith, length-drop j sheet, ap length e) in
      let d : drop j sheet ≡ step sheet j ∷ drop (suc j) sheet = drop-cons sheet j blank l in
      (l, (cc), (cc))

  pub each_from : (P : ℕ → Step → List Step → Type 0) (j : ℕ) (ss : List Step) → drop j sheet ≡ ss → ((k : ℕ) → j ≤ k → k < length sheet → P k (step sheet k) (drop (suc k) sheet)) → Each P j ss
  each_from P j [] e f = tt
  each_from P j (s ∷ ss) e f =
      let t = uncons j s ss e in
      (rw (t.1, t.2) at (f j (le_refl j) t.0), each_from P (suc j) ss t.2 (λ k l. f k (omega arith)))

  pub each_at : (P : ℕ → Step → List Step → Type 0) (j : ℕ) (ss : List Step) → drop j sheet ≡ ss → Each P j ss → (k : ℕ) → j ≤ k → k < length sheet → P k (step sheet k) (drop (suc k) sheet)
  each_at P j [] e h k a b = absurd (none_left j k e a b)
  each_at P j (s ∷ ss) e h k a b =
      let t = uncons j s ss e in
      elim (cases_eq j k) [
        | inl q ↦ rw (← q, t.1, t.2) h.0
        | inr q ↦ each_at P (suc j) ss t.2 h.1 k (omega arith) b
      ]
