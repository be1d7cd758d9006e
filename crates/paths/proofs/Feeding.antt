-- Which steps are led into, marked step by step.
use Rattle.std.proofs.Common.{◌≡◌, ℕ, zero, suc, ◌+◌, ◌<◌, ◌≤◌, Bool, true, false, ◌||◌, eqb, List, [], ◌∷◌, ◌++◌, length, get_or, drop, set, sym, ap, ◌∙◌, subst, inl, inr, arith, drop-cons}
use Rattle.std.proofs.lemmas.List.{drop_all, get_or-set_same, get_or-set_other}
use Rattle.std.proofs.lemmas.Bool.{cases_lt, cases_eq, eq-eqb, ne_eqb}
use Rattle.std.proofs.Math.Bool.{or-true}
use Rattle.steps.specs.declared.step.Step.{Step}
use Rattle.steps.specs.Sheet.{blank, step, Descending}
use Rattle.plans.specs.Leaves.{fed}

-- one step more, which leads into k
fed_last : (k : ℕ) (ss : List Step) (s : Step) → s.target ≡ k → fed k (ss ++ s ∷ []) ≡ true
fed_last k [] s e = rw (eq-eqb s.target k e)
fed_last k (r ∷ ss) s e = ap (λ b. eqb r.target k || b) (fed_last k ss s e) ∙ or-true (eqb r.target k)

-- or does not
fed_same : (k : ℕ) (ss : List Step) (s : Step) → (s.target ≡ k → ⊥) → fed k (ss ++ s ∷ []) ≡ fed k ss
fed_same k [] s n = rw (ne_eqb s.target k n)
fed_same k (r ∷ ss) s n = ap (λ b. eqb r.target k || b) (fed_same k ss s n)

pub marked_more : (bs : List Bool) (ss : List Step) (s : Step) → s.target < length bs → ((k : ℕ) → get_or bs k false ≡ fed k ss) → (k : ℕ) → get_or (set bs s.target true) k false ≡ fed k (ss ++ s ∷ [])
marked_more bs ss s inside old k =
    elim (cases_eq k s.target) [
      | inl e ↦ subst (λ j. get_or (set bs s.target true) j false ≡ true) (sym e) (get_or-set_same bs s.target true false inside) ∙ sym (fed_last k ss s (sym e))
      | inr n ↦ get_or-set_other bs s.target k true false n ∙ old k ∙ sym (fed_same k ss s (λ e. n (sym e)))
    ]

-- no step up to k leads into k
pub fed_above : (ss : List Step) → Descending ss → (k : ℕ) → fed k (drop 1 ss) ≡ fed k (drop (suc k) ss)
fed_above ss low k = go k 1 (omega arith) (omega arith)
  where
    go : (d i : ℕ) → 1 ≤ i → i + d ≡ suc k → fed k (drop i ss) ≡ fed k (drop (suc k) ss)
    go zero i above e = ap (λ n. fed k (drop n ss)) (let z : i ≡ suc k = omega arith in z)
    go (suc d) i above e = elim (cases_lt i (length ss)) [
      | inl h ↦
          let less = low i above h in
          ap (fed k) (drop-cons ss i blank h)
          ∙ ap (λ b. b || fed k (drop (suc i) ss)) (ne_eqb (step ss i).target k (λ z. omega arith))
          ∙ go d (suc i) (omega arith) (omega arith)
      | inr h ↦ ap (fed k) (drop_all i ss h ∙ sym (drop_all (suc k) ss (omega arith)))
    ]
