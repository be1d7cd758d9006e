-- What holds of each step, with its number, holds of each when one more is put behind them.
use Rattle.std.proofs.Common.{ℕ, ◌<◌, List, [], ◌∷◌, ◌++◌, length, sym, refl, subst, inl, inr, arith}
use Rattle.std.proofs.lemmas.List.{length_push, get_or_append_left, get_or_push}
use Rattle.std.proofs.lemmas.Bool.{cases_eq}
use Rattle.steps.specs.declared.step.Step.{Step}
use Rattle.steps.specs.Sheet.{blank, step}

pub each_push : (ss : List Step) (x : Step) (P : ℕ → Step → Type 0) → ((i : ℕ) → i < length ss → P i (step ss i)) → P (length ss) x → (i : ℕ) → i < length (ss ++ x ∷ []) → P i (step (ss ++ x ∷ []) i)
each_push ss x P old new i h =
    let l = length_push ss x in
    elim (cases_eq i (length ss)) [
      | inl e ↦ subst (λ n. P n (step (ss ++ x ∷ []) n)) (sym e) (subst (P (length ss)) (sym (get_or_push ss x blank (length ss) refl)) new)
      | inr n ↦ let q : i < length ss = omega (arith, l, h, n) in subst (P i) (sym (get_or_append_left ss (x ∷ []) blank i q)) (old i q)
    ]
