-- The best feeder of a step, as the steps are settled from the highest down.
use Rattle.std.proofs.Common.{◌≡◌, ℕ, suc, ◌<◌, ◌≤◌, Bool, true, false, cond, eqb, ltb, leb, List, length, drop, Some, None, sym, refl, ap, ◌∙◌, inl, inr, arith, drop-cons}
use Rattle.std.proofs.lemmas.List.{drop_all}
use Rattle.std.proofs.lemmas.Bool.{cases_lt, eq-eqb, ne_eqb, le-leb, lt-leb, lt-ltb, le-ltb, cond-true, cond-false}
use Rattle.steps.specs.declared.step.Join.{Join}
use Rattle.steps.specs.declared.step.Join.TheVariants.{And, Or}
use Rattle.steps.specs.declared.step.Step.{Step}
use Rattle.steps.specs.Sheet.{blank, step}
use Rattle.ways.specs.Least.{best_of, least_table, least_of}
use Rattle.ways.specs.Measures.{Measure}
use Rattle.ways.specs.Progress.{so_far, progress}
use Rattle.ways.specs.Taken.{rest, wins, pick, chosen}
use Rattle.choice.specs.Entries.{take_feeder, picked, if_step, feeder_at, is_step}

-- a step that is taken is one of so many
if_taken : (n i old : ℕ) → i < n → (b : Bool) → if_step n (cond b i old) ≡ cond b (Some i) (if_step n old)
if_taken n i old h true = cond-true (ltb i n) _ _ (lt-ltb i n h)
if_taken n i old h false = refl

is_if_step : (n k x : ℕ) → k < n → is_step k (if_step n x) ≡ eqb k x
is_if_step n k x h = elim (cases_lt x n) [
  | inl l ↦ ap (is_step k) (cond-true (ltb x n) _ _ (lt-ltb x n l))
  | inr l ↦ ap (is_step k) (cond-false (ltb x n) _ _ (le-ltb x n l)) ∙ sym (ne_eqb k x (λ e. omega arith))
]

module _ {A : Type 0} (m : Measure A) (ss : List Step) where
  picked_now : (i k : ℕ) → i ≤ k → picked m ss i k ≡ pick m k (suc k) (rest m ss k)
  picked_now i k h = cond-true (leb i k) _ _ (le-leb i k h)

  picked_yet : (i k : ℕ) → k < i → picked m ss i k ≡ pick m k i (least_table m i (drop i ss))
  picked_yet i k h = cond-false (leb i k) _ _ (lt-leb i k h)

  picked_more : (i k : ℕ) → i < length ss → k < i → (b : Bool) → eqb (step ss i).target k ≡ b → picked m ss i k ≡ cond (wins m b (least_of m ss i) (best_of m k (rest m ss i))) i (picked m ss (suc i) k)
  picked_more i k l h b e =
      picked_yet i k h
      ∙ ap (λ xs. pick m k i (least_table m i xs)) (drop-cons ss i blank l)
      ∙ ap (λ t. cond (wins m t (least_of m ss i) (best_of m k (rest m ss i))) i (pick m k (suc i) (rest m ss i))) e
      ∙ ap (λ n. cond (wins m b (least_of m ss i) (best_of m k (rest m ss i))) i n) (sym (picked_yet (suc i) k (omega arith)))

  -- Before any step is settled there is none
  pub feeder_begun : (j : Join) (k : ℕ) → k < length ss → feeder_at m ss j (length ss) k ≡ None
  feeder_begun And k h = refl
  feeder_begun Or k h =
      let n = length ss in
      ap (if_step n) (picked_yet n k h ∙ ap (λ xs. pick m k n (least_table m n xs)) (drop_all n ss (omega arith))) ∙ cond-false (ltb n n) _ _ (le-ltb n n (omega arith))

  -- once a step is settled it stays
  pub feeder_here : (j : Join) (i : ℕ) → feeder_at m ss j i i ≡ feeder_at m ss j (suc i) i
  feeder_here And i = refl
  feeder_here Or i = ap (if_step (length ss)) (picked_now i i (omega arith) ∙ sym (picked_yet (suc i) i (omega arith)))

  pub feeder_later : (j : Join) (i k : ℕ) → i < k → feeder_at m ss j i k ≡ feeder_at m ss j (suc i) k
  feeder_later And i k h = refl
  feeder_later Or i k h = ap (if_step (length ss)) (picked_now i k (omega arith) ∙ sym (picked_now (suc i) k h))

  -- step i is offered to its target
  pub feeder_in : (i : ℕ) (j : Join) → (step ss (step ss i).target).join ≡ j → i < length ss → (step ss i).target < i → feeder_at m ss j i (step ss i).target ≡ take_feeder j (wins m true (least_of m ss i) (progress m ss (suc i) (step ss i).target)) i (feeder_at m ss j (suc i) (step ss i).target)
  feeder_in i And e l low = refl
  feeder_in i Or e l low =
      let t = (step ss i).target in
      ap (if_step (length ss))
      (picked_more i t l low true (eq-eqb t t refl)
      ∙ ap (λ o. cond (wins m true (least_of m ss i) o) i (picked m ss (suc i) t))
      (sym (cond-false (leb (suc i) t) _ _ (lt-leb (suc i) t (omega arith)) ∙ ap (λ n. so_far m n t (rest m ss i)) e)))
      ∙ if_taken (length ss) i (picked m ss (suc i) t) l (wins m true (least_of m ss i) (progress m ss (suc i) t))

  -- and to no other step
  pub feeder_unchanged : (j : Join) (i k : ℕ) → i < length ss → (k ≡ i → ⊥) → (k ≡ (step ss i).target → ⊥) → feeder_at m ss j i k ≡ feeder_at m ss j (suc i) k
  feeder_unchanged And i k l apart other = refl
  feeder_unchanged Or i k l apart other =
      ap (if_step (length ss))
      (elim (cases_lt k i) [
        | inl b ↦ picked_more i k l b false (ne_eqb (step ss i).target k (λ z. other (sym z)))
        | inr b ↦ picked_now i k b ∙ sym (picked_now (suc i) k (omega (arith, apart, b)))
      ])

  -- where all steps are settled, the feeder that comes along
  pub feeder_ended : (j : Join) (t k : ℕ) → k < length ss → chosen j (is_step k (feeder_at m ss j 0 t)) ≡ chosen j (eqb k (pick m t (suc t) (rest m ss t)))
  feeder_ended And t k h = refl
  feeder_ended Or t k h = is_if_step (length ss) k (picked m ss 0 t) h ∙ ap (eqb k) (picked_now 0 t (omega arith))
