-- The sums in the table of a limit are no more than all steps have.
use Rattle.std.proofs.Common.{ℕ, zero, suc, ◌*◌, ◌<◌, ◌≤◌, leb, List, [], ◌∷◌, length, drop, Some, None, Option, sym, subst, le_trans, mul-le-mul_right, arith, drop-cons}
use Rattle.std.proofs.lemmas.Bool.{leb-false, cond_both}
use Rattle.steps.specs.declared.step.Join.{Join}
use Rattle.steps.specs.declared.step.Join.TheVariants.{And, Or}
use Rattle.steps.specs.declared.step.Step.{Step}
use Rattle.steps.specs.Limits.{max_steps, max_minutes}
use Rattle.steps.specs.Sheet.{blank, step, Timed}
use Rattle.ways.specs.Least.{least_table, least_of}
use Rattle.ways.specs.Progress.{so_far, progress}
use Rattle.plans.specs.declared.Sums.{Sums}
use Rattle.plans.specs.Limited.{both, sheet_at}
use Rattle.plans.proofs.Bounds.{steps_minutes, steps_most, work_in, Short, all_fits, best_fits, entry_fits, all_short, best_short, entry_short}
use Rattle.plans.proofs.Limited.{length_at, step_at}
use Rattle.choice.specs.Entries.{Within}

within_from : (o : Option Sums) → Short o → work_in o ≤ max_steps * max_minutes → Within o
within_from None s h = tt
within_from (Some r) s h = (s, h)

-- the steps from i on have no more minutes than all
drop_minutes : (i : ℕ) (ss : List Step) → steps_minutes (drop i ss) ≤ steps_minutes ss
drop_minutes zero ss = omega arith
drop_minutes (suc i) [] = omega arith
drop_minutes (suc i) (s ∷ ss) = omega (arith, drop_minutes i ss)

module _ (limit : ℕ) (ss : List Step) (few : length ss ≤ max_steps) (timed : Timed ss) where
  all_minutes : steps_minutes (sheet_at limit ss) ≤ max_steps * max_minutes
  all_minutes =
      let n = length_at limit ss in
      let each = steps_most (sheet_at limit ss) max_minutes (λ i l. let h : i < length ss = omega (arith, n) in subst (λ (s : Step). s.minutes ≤ max_minutes) (sym (step_at limit ss i h)) (timed i h).1) in
      let wide : length ss * max_minutes ≤ max_steps * max_minutes = mul-le-mul_right max_minutes few in
      le_trans (rw n at each) wide

  from_minutes : (i : ℕ) → steps_minutes (drop i (sheet_at limit ss)) ≤ max_steps * max_minutes
  from_minutes i = le_trans (drop_minutes i (sheet_at limit ss)) all_minutes

  -- of a step that is settled
  pub least_within : (k : ℕ) → k < length ss → Within (least_of both (sheet_at limit ss) k)
  least_within k h =
      let sheet = sheet_at limit ss in
      within_from _ (entry_short k (step sheet k) (drop (suc k) sheet))
      (le_trans (entry_fits k (step sheet k) (drop (suc k) sheet)) (rw (drop-cons sheet k blank (rw (length_at limit ss) h)) at (from_minutes k)))

  fold_within : (j : Join) (i k : ℕ) → k < i → Within (so_far both j k (least_table both i (drop i (sheet_at limit ss))))
  fold_within And i k h = let rs = drop i (sheet_at limit ss) in within_from _ (all_short i rs k) (le_trans (all_fits i rs k h) (from_minutes i))
  fold_within Or i k h = let rs = drop i (sheet_at limit ss) in within_from _ (best_short i rs k) (le_trans (best_fits i rs k h) (from_minutes i))

  -- of a step into which those from i on are folded
  pub progress_within : (i k : ℕ) → k < length ss → Within (progress both (sheet_at limit ss) i k)
  progress_within i k h = cond_both (leb i k) _ _ Within (λ e. least_within k h) (λ e. fold_within (step (sheet_at limit ss) k).join i k (leb-false i k e))
