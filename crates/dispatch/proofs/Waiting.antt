-- The pass that marks the steps which wait for a feeder, from the highest step down.
use Rattle.std.proofs.Common.{◌≡◌, ℕ, zero, suc, ◌+◌, ◌<◌, Bool, true, false, not, ◌&&◌, ◌||◌, eqb, List, length, get_or, drop, set, sym, refl, ap, ◌∙◌, ⊎_elim, arith, drop-cons}
use Rattle.std.proofs.lemmas.List.{get_or-set_same, get_or-set_other}
use Rattle.std.proofs.lemmas.Bool.{eq-eqb, ne_eqb, cases_eq}
use Rattle.steps.proofs.Clashes.{clash}
use Rattle.steps.specs.declared.step.Step.{Step}
use Rattle.steps.specs.Sheet.{step, blank, Descending}
use Rattle.ways.specs.Ways.{Set}
use Rattle.schedules.specs.Dispatch.{fed}

module _ (w done : Set) (ss : List Step) where
  fed_step : (i k : ℕ) → k < length ss → fed w done i k (drop k ss) ≡ ((not (eqb (step ss k).target i && w k) || done k) && fed w done i (suc k) (drop (suc k) ss))
  fed_step i k h = ap (fed w done i k) (drop-cons ss k blank h)

  -- a step that is not on the way, or is done, keeps nobody waiting
  pub waits_same : (i k : ℕ) → k < length ss → (w k && not (done k)) ≡ false → not (fed w done i (suc k) (drop (suc k) ss)) ≡ not (fed w done i k (drop k ss))
  waits_same i k h e = ap not (sym (fed_step i k h ∙ go (eqb (step ss k).target i) (w k) (done k) (fed w done i (suc k) (drop (suc k) ss)) e))
    where
      go : (t a d f : Bool) → (a && not d) ≡ false → ((not (t && a) || d) && f) ≡ f
      go false a d f e = refl
      go true false d f e = refl
      go true true true f e = refl
      go true true false f e = clash (cc)

  -- any other keeps its target waiting
  pub waits_more : (waiting : List Bool) (k : ℕ) → k < length ss → (w k && not (done k)) ≡ true → (step ss k).target < length waiting →
      ((i : ℕ) → i < length ss → get_or waiting i false ≡ not (fed w done i (suc k) (drop (suc k) ss))) →
      (i : ℕ) → i < length ss → get_or (set waiting (step ss k).target true) i false ≡ not (fed w done i k (drop k ss))
  waits_more waiting k h e room old i l =
      ⊎_elim
      (λ q. ap (λ j. get_or (set waiting (step ss k).target true) j false) q ∙ get_or-set_same waiting (step ss k).target true false room
      ∙ sym (ap not (fed_step i k h ∙ here (w k) (done k) (eqb (step ss k).target i) (fed w done i (suc k) (drop (suc k) ss)) e (eq-eqb (step ss k).target i (sym q)))))
      (λ ne. get_or-set_other waiting (step ss k).target i true false ne ∙ old i l
      ∙ sym (ap not (fed_step i k h ∙ other (w k) (done k) (eqb (step ss k).target i) (fed w done i (suc k) (drop (suc k) ss)) (ne_eqb (step ss k).target i (λ q. ne (sym q))))))
      (cases_eq i (step ss k).target)
    where
      here : (a d t f : Bool) → (a && not d) ≡ true → t ≡ true → ((not (t && a) || d) && f) ≡ false
      here true false true f e q = refl
      here a d false f e q = clash (cc)
      here false d true f e q = clash (cc)
      here true true true f e q = clash (cc)

      other : (a d t f : Bool) → t ≡ false → ((not (t && a) || d) && f) ≡ f
      other a d false f q = refl
      other a d true f q = clash (cc)

  -- the feeders of a step have higher numbers
  pub fed_above : Descending ss → (i n k : ℕ) → suc i ≡ n + k → 0 < k → i < length ss → fed w done i k (drop k ss) ≡ fed w done i (suc i) (drop (suc i) ss)
  fed_above low i zero k e p l = ap (λ j. fed w done i j (drop j ss)) (let q : k ≡ suc i = omega arith in q)
  fed_above low i (suc n) k e p l =
      let here : k < length ss = omega arith in
      let below = low k p here in
      let not_i : eqb (step ss k).target i ≡ false = ne_eqb _ _ (λ q. omega (arith, q, below)) in
      fed_step i k here ∙ go (eqb (step ss k).target i) (w k) (done k) (fed w done i (suc k) (drop (suc k) ss)) not_i ∙ fed_above low i n (suc k) (omega arith) (omega arith) l
    where
      go : (t a d f : Bool) → t ≡ false → ((not (t && a) || d) && f) ≡ f
      go false a d f q = refl
      go true a d f q = clash (cc)
