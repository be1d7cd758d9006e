-- The planned way keeps its rule, and no other way does.
use Rattle.std.proofs.Common.{◌≡◌, ℕ, zero, suc, ◌<◌, ◌≤◌, Bool, true, false, List, length, Some, None, Option, sym, refl, ap, ◌∙◌, subst, ap₂, inl, inr, le_refl, arith}
use mathlib.Core.Path.{fun_ext}
use Rattle.std.proofs.lemmas.Bool.{cases_order}
use Rattle.steps.specs.declared.step.Join.{Join}
use Rattle.steps.specs.declared.step.Join.TheVariants.{And, Or}
use Rattle.steps.specs.declared.step.Step.{Step}
use Rattle.steps.specs.Sheet.{step, Descending}
use Rattle.ways.specs.Least.{least_of, IsLeast}
use Rattle.ways.specs.Ways.{Set, Feeds}
use Rattle.ways.proofs.LeastRight.{least_right}
use Rattle.ways.proofs.Upper.{taken_way, taken_open}
use Rattle.plans.specs.declared.Sums.{Sums}
use Rattle.plans.specs.Limited.{both, sheet_at, at_limit, taken_at, TakesOrNone}
use Rattle.plans.specs.Rule.{Fewest, Chosen, TakenAt, PlannedKeeps, PlannedOnly}
use Rattle.plans.specs.Scores.{score, score_of}
use Rattle.plans.proofs.Limited.{length_at, join_at, target_at, descending_at, way_at, way_from, open_at, open_from, work_at, taken_right}
use Rattle.plans.proofs.Limits.{limits_right}
use Rattle.plans.proofs.Planned.{planned_from, planned_scores, soonest}
use Rattle.plans.proofs.SideBySide.{both_rising}
use Rattle.plans.proofs.Ties.{least_feeder}

module _ (limit : ℕ) (ss : List Step) (lower_targets : Descending ss) where
  least_at : (k : ℕ) → k < length ss → (o : Option Sums) → least_of both (sheet_at limit ss) k ≡ o → IsLeast both (sheet_at limit ss) k o
  least_at k l o e = subst (IsLeast both (sheet_at limit ss) k) e (least_right Sums both both_rising (sheet_at limit ss) (descending_at limit ss lower_targets) k (rw (length_at limit ss) l))

  -- the fewest minutes of a step are those of its entry in the table
  pub fewest_entry : (k : ℕ) → k < length ss → (r : Sums) → least_of both (sheet_at limit ss) k ≡ Some r → Fewest limit ss k r.work
  fewest_entry k l r e =
      let least = least_at k l (Some r) e in
      let best = least.0 in
      let way = way_from limit ss k best.0 best.1 in
      record {
        attained = (best.0, way, open_from limit ss lower_targets k best.0 way best.2, sym (work_at limit ss best.0 k) ∙ ap (λ (a : Sums). a.work) best.3);
        least = λ w x o. rw (work_at limit ss w k) at (least.1 w (way_at limit ss k w x) (open_at limit ss lower_targets k w x o));
      }

  pub entry_fewest : (k n : ℕ) → Fewest limit ss k n → (r : Sums) × (least_of both (sheet_at limit ss) k ≡ Some r) × (r.work ≡ n)
  entry_fewest k n f =
      let a = f.attained in
      go (least_of both (sheet_at limit ss) k) refl (least_at k (a.1.within k a.1.holds) (least_of both (sheet_at limit ss) k) refl)
    where
      go : (o : Option Sums) → least_of both (sheet_at limit ss) k ≡ o → IsLeast both (sheet_at limit ss) k o → (r : Sums) × (least_of both (sheet_at limit ss) k ≡ Some r) × (r.work ≡ n)
      go None e h =
          let a = f.attained in
          absurd (h a.0 (way_at limit ss k a.0 a.1) (open_at limit ss lower_targets k a.0 a.1 a.2))
      go (Some r) e h =
          let a = f.attained in
          let g = fewest_entry k (a.1.within k a.1.holds) r e in
          let b = g.attained in
          (r, e, omega (arith, a.3, b.3, f.least b.0 b.1 b.2, g.least a.0 a.1 a.2))

  -- what is taken at a limit keeps the rule
  pub taken_keeps : 0 < length ss → (r : Sums) → at_limit limit ss ≡ Some r → TakenAt limit ss (taken_at limit ss)
  taken_keeps some r e =
      let sheet = sheet_at limit ss in
      let low = descending_at limit ss lower_targets in
      let inside : 0 < length sheet = rw (length_at limit ss) some in
      let way = way_from limit ss 0 (taken_at limit ss) (taken_way both sheet low 0 inside r e) in
      record {
        way = way;
        is_open = open_from limit ss lower_targets 0 (taken_at limit ss) way (taken_open both sheet low 0 inside r e);
        chosen = λ i k on or f kept.
            let g = least_feeder both sheet low 0 inside r e i k on (join_at limit ss i ∙ or) (fed k i f) kept in
            record {
              few = g.0.work;
              fewest = fewest_entry k f.1 g.0 g.1;
              none_fewer = λ j n d h. let x = entry_fewest j n h in omega (arith, x.2, (g.2 j x.0 (fed j i d) x.1).0);
              none_lower = λ j n d h l. let x = entry_fewest j n h in omega (arith, x.2, (g.2 j x.0 (fed j i d) x.1).1 l);
            };
      }
    where
      fed : (k i : ℕ) → Feeds ss k i → Feeds (sheet_at limit ss) k i
      fed k i f = (f.0, rw (length_at limit ss) f.1, target_at limit ss k ∙ f.2)

  -- one feeder alone is chosen
  chosen_only : (i k j : ℕ) → Feeds ss k i → Feeds ss j i → Chosen limit ss i k → Chosen limit ss i j → k ≡ j
  chosen_only i k j f g a b = elim (cases_order k j) [
    | inl e ↦ e
    | inr (inl l) ↦ absurd (omega (arith, a.none_fewer j b.few g b.fewest, b.none_lower k a.few f a.fewest l))
    | inr (inr l) ↦ absurd (omega (arith, b.none_fewer k a.few f a.fewest, a.none_lower j b.few g b.fewest l))
  ]

  taken_part : (w v : Set) → TakenAt limit ss w → TakenAt limit ss v → (turns k : ℕ) → k ≤ turns → w k ≡ true → v k ≡ true
  taken_part w v a b turns zero h on = b.way.holds
  taken_part w v a b zero (suc k) h on = absurd (omega arith)
  taken_part w v a b (suc turns) (suc k) h on =
      let l = a.way.within (suc k) on in
      let i = (step ss (suc k)).target in
      let led = (a.way.led (suc k) on (λ z. omega arith)).1 in
      let low = lower_targets (suc k) (omega arith) l in
      let there = taken_part w v a b turns i (omega arith) led in
      go (step ss i).join refl there led (omega arith, l, refl)
    where
      i : ℕ
      i = (step ss (suc k)).target

      go : (n : Join) → (step ss i).join ≡ n → v i ≡ true → w i ≡ true → Feeds ss (suc k) i → v (suc k) ≡ true
      go And e there led f = b.way.every i there e (suc k) f
      go Or e there led f =
          let o = b.way.one i there e in
          let same = chosen_only i (suc k) o.0 f o.1 (a.chosen i (suc k) led e f on) (b.chosen i o.0 there e o.1 o.2) in
          rw same o.2

  -- one way alone is taken at a limit
  pub taken_only : (w v : Set) → TakenAt limit ss w → TakenAt limit ss v → (k : ℕ) → w k ≡ v k
  taken_only w v a b k = same (w k) (v k) (taken_part w v a b k k (le_refl k)) (taken_part v w b a k k (le_refl k))
    where
      same : (x y : Bool) → (x ≡ true → y ≡ true) → (y ≡ true → x ≡ true) → x ≡ y
      same true y f g = sym (f refl)
      same false true f g = g refl
      same false false f g = refl

module _ (benches : ℕ) (ss : List Step) (lower_targets : Descending ss) where
  -- the score of a way taken at a limit is that of what is taken there
  taken_score : (l : ℕ) (v : Set) → TakenAt l ss v → (r : Sums) × (at_limit l ss ≡ Some r) × (score benches r.work r.long ≡ score_of benches ss v)
  taken_score l v t =
      let some = t.way.within 0 t.way.holds in
      go some (at_limit l ss) refl (taken_right l ss lower_targets some) (least_at l ss lower_targets 0 some (at_limit l ss) refl)
    where
      go : 0 < length ss → (o : Option Sums) → at_limit l ss ≡ o → TakesOrNone l ss o → IsLeast both (sheet_at l ss) 0 o → (r : Sums) × (at_limit l ss ≡ Some r) × (score benches r.work r.long ≡ score_of benches ss v)
      go some None e takes h = absurd (h v (way_at l ss 0 v t.way) (open_at l ss lower_targets 0 v t.way t.is_open))
      go some (Some r) e takes h =
          let same = taken_only l ss lower_targets v (taken_at l ss) t (taken_keeps l ss lower_targets some r e) in
          (r, e, ap₂ (score benches) (sym takes.work) (sym takes.long) ∙ ap (score_of benches ss) (sym (fun_ext same)))

pub planned_keeps : PlannedKeeps
planned_keeps benches ss lower_targets p e =
    let f = planned_from benches ss p e in
    let i = (limits_right ss lower_targets).only p.limit f.listed in
    let same = planned_scores benches ss lower_targets p f in
    record {
      limit = p.limit;
      is_limit = i;
      taken = taken_keeps p.limit ss lower_targets (omega (arith, i.1)) f.sums f.there;
      none_less = λ l v is_limit t.
          let s = taken_score benches ss lower_targets l v t in
          omega (arith, same, s.2, (soonest benches ss lower_targets p e l s.0 is_limit s.1).0);
      none_smaller = λ l v is_limit t less.
          let s = taken_score benches ss lower_targets l v t in
          omega (arith, same, s.2, (soonest benches ss lower_targets p e l s.0 is_limit s.1).1 less);
    }

pub planned_only : PlannedOnly
planned_only benches ss lower_targets w v a b = elim (cases_order a.limit b.limit) [
  | inl e ↦ taken_only a.limit ss lower_targets w v a.taken (subst (λ l. TakenAt l ss v) (sym e) b.taken)
  | inr (inl l) ↦ absurd (omega (arith, a.none_less b.limit v b.is_limit b.taken, b.none_smaller a.limit w a.is_limit a.taken l))
  | inr (inr l) ↦ absurd (omega (arith, b.none_less a.limit w a.is_limit a.taken, a.none_smaller b.limit v b.is_limit b.taken l))
]
