-- One step settled, and folded into its target.
use Rattle.std.proofs.Common.{◌≡◌, ℕ, suc, ◌<◌, Bool, true, false, cond, eqb, leb, List, [], ◌∷◌, length, drop, Option, sym, refl, ap, ◌∙◌, inl, inr, arith, drop-cons}
use Rattle.std.proofs.lemmas.List.{drop_all}
use Rattle.std.proofs.lemmas.Bool.{cases_lt, eq-eqb, ne_eqb, le-leb, lt-leb, cond-true, cond-false}
use Rattle.std.specs.Option.{option_map}
use Rattle.steps.specs.declared.step.Join.{Join}
use Rattle.steps.specs.declared.step.Join.TheVariants.{And, Or}
use Rattle.steps.specs.declared.step.Step.{Step}
use Rattle.steps.specs.Sheet.{blank, step}
use Rattle.ways.specs.Figures.{Line, facts}
use Rattle.ways.specs.Least.{by_join, unless_closed, least_line, least_table, least_of}
use Rattle.ways.specs.Measures.{Measure}
use Rattle.ways.specs.Progress.{started, folded, joined, finished, so_far, progress}

module _ {A : Type 0} (m : Measure A) where
  joined_by : (j : Join) (i : ℕ) (t : List (Line (Option A))) → joined m j (so_far m j i t) ≡ by_join m j i t
  joined_by And i t = refl
  joined_by Or i t = refl

  -- one line more
  fold_step : (j : Join) (k : ℕ) (b : Bool) (r : Line (Option A)) (rs : List (Line (Option A))) → eqb r.into k ≡ b → so_far m j k (r ∷ rs) ≡ cond b (folded m j r.entry (so_far m j k rs)) (so_far m j k rs)
  fold_step And k true r rs e = rw e refl
  fold_step And k false r rs e = rw e refl
  fold_step Or k true r rs e = rw e refl
  fold_step Or k false r rs e = rw e refl

  module _ (ss : List Step) where
    -- no line yet
    pub begun : (k : ℕ) → k < length ss → progress m ss (length ss) k ≡ started m (step ss k).join
    begun k h =
        cond-false (leb (length ss) k) _ _ (lt-leb (length ss) k h)
        ∙ ap (λ t. so_far m (step ss k).join k (least_table m (length ss) t)) (drop_all (length ss) ss (omega arith))
        ∙ by (step ss k).join
      where
        by : (j : Join) → so_far m j k [] ≡ started m j
        by And = refl
        by Or = refl

    -- a step that is settled
    pub here : (i : ℕ) → progress m ss i i ≡ least_of m ss i
    here i = cond-true (leb i i) _ _ (le-leb i i (omega arith))

    -- a step whose feeders are all folded in has its least figure
    pub settled_least : (i : ℕ) → finished m i (step ss i) (progress m ss (suc i) i) ≡ least_of m ss i
    settled_least i =
        ap (finished m i (step ss i)) (cond-false (leb (suc i) i) _ _ (lt-leb (suc i) i (omega arith)))
        ∙ ap (λ o. unless_closed (step ss i).closed (option_map (m.grows (facts i (step ss i))) o)) (joined_by (step ss i).join i (least_table m (suc i) (drop (suc i) ss)))

    more : (i k : ℕ) → i < length ss → k < i → (b : Bool) → eqb (step ss i).target k ≡ b → progress m ss i k ≡ cond b (folded m (step ss k).join (least_of m ss i) (progress m ss (suc i) k)) (progress m ss (suc i) k)
    more i k l h b e =
        let t = least_table m (suc i) (drop (suc i) ss) in
        let now = cond-false (leb i k) (least_of m ss k) (so_far m (step ss k).join k (least_table m i (drop i ss))) (lt-leb i k h) in
        let old = cond-false (leb (suc i) k) (least_of m ss k) (so_far m (step ss k).join k t) (lt-leb (suc i) k (omega arith)) in
        now
        ∙ ap (λ xs. so_far m (step ss k).join k (least_table m i xs)) (drop-cons ss i blank l)
        ∙ fold_step (step ss k).join k b (least_line m i (step ss i) t) t e
        ∙ ap (λ o. cond b (folded m (step ss k).join (least_of m ss i) o) o) (sym old)

    -- what is settled stays
    pub later : (i k : ℕ) → i < k → progress m ss i k ≡ progress m ss (suc i) k
    later i k h = cond-true (leb i k) _ _ (le-leb i k (omega arith)) ∙ sym (cond-true (leb (suc i) k) _ _ (le-leb (suc i) k (omega arith)))

    -- step i is folded into its target
    pub folded_in : (i : ℕ) → i < length ss → (step ss i).target < i → progress m ss i (step ss i).target ≡ folded m (step ss (step ss i).target).join (least_of m ss i) (progress m ss (suc i) (step ss i).target)
    folded_in i l low = more i (step ss i).target l low true (eq-eqb _ _ refl)

    -- and nothing else changes
    pub unchanged : (i k : ℕ) → i < length ss → (k ≡ i → ⊥) → (k ≡ (step ss i).target → ⊥) → progress m ss i k ≡ progress m ss (suc i) k
    unchanged i k l apart other = elim (cases_lt k i) [
      | inl b ↦ more i k l b false (ne_eqb (step ss i).target k (λ z. other (sym z)))
      | inr b ↦ later i k (omega (arith, apart, b))
    ]
