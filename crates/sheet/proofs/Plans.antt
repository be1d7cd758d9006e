-- What plan's answer and rows say of ways and timetables.
use Rattle.std.proofs.Common.{◌≡◌, ℕ, zero, suc, ◌+◌, ◌-◌, ◌*◌, ◌<◌, ◌≤◌, Bool, true, false, cond, ltb, List, length, take, drop, Some, None, Ok, Err, Option, Result, sym, refl, ap, ◌∙◌, subst, add-mul, mul-le-mul_left, arith}
use Rattle.std.proofs.lemmas.List.{take-append-le, take_all}
use Rattle.std.proofs.lemmas.Bool.{le-ltb}
use Rattle.std.specs.Option.{option_map, ok_or}
use Rattle.steps.proofs.Clashes.{clash}
use Rattle.steps.specs.declared.refusal.Refusal.{Refusal}
use Rattle.steps.specs.declared.refusal.Refusal.TheVariants.{NoOpenWay, TableTooShort}
use Rattle.steps.specs.declared.row.Row.{Row}
use Rattle.steps.specs.declared.step.Step.{Step}
use Rattle.steps.specs.Numbers.{number, told}
use Rattle.steps.specs.Placing.{Placing}
use Rattle.steps.specs.Sheet.{Sheet, Descending}
use Rattle.ways.specs.Sums.{minutes_of, chain_of}
use Rattle.ways.specs.Ways.{Set, Way}
use Rattle.plans.specs.declared.Plan.{Plan as Choice}
use Rattle.plans.specs.Plan.{planned, planned_way}
use Rattle.plans.specs.Planned.{Plans, PlansOrNone}
use Rattle.plans.specs.Scores.{score_of}
use Rattle.plans.proofs.Planned.{planned_right}
use Rattle.plans.proofs.Rule.{planned_keeps, planned_only}
use Rattle.schedules.specs.Dispatch.{finish}
use Rattle.schedules.specs.Timetables.{ValidTimetable, latest}
use Rattle.schedules.proofs.Bounds.{lower_bounds}
use Rattle.schedules.proofs.RuleMet.{dispatch_meets_rule}
use Rattle.schedules.proofs.RuleUnique.{rule_unique}
use Rattle.schedules.proofs.Runs.{dispatch_valid, dispatch_bound}
use Rattle.planning.specs.declared.Plan.{Plan}
use Rattle.planning.specs.Planning.{chosen_plan, chosen_rows, or_no_rows, written}
use Rattle.sheet.specs.Least.{Shut}
use Rattle.sheet.specs.Planning.{plan_or_none, plan_answer, plan_rows, Planned, PlanPromise}

-- where there is no plan, no way is open
pub told_or : (o : Option Plan) (r : Result Plan Refusal) → r ≡ ok_or o NoOpenWay → told r ≡ plan_or_none o
told_or None r e = ap told e
told_or (Some plan) r e = ap told e

-- what is at most a way's score is within the limit of each valid timetable of that way
score_limit : (m : ℕ) (ss : List Step) (w : Set) (rows : List Row) (bound : ℕ) → 0 < m → Descending ss → Way ss w → ValidTimetable m ss w rows → bound ≤ score_of m ss w → bound ≤ (2 * m - 1) * latest rows
score_limit zero ss w rows bound some low way valid h = absurd (omega arith)
score_limit (suc n) ss w rows bound some low way valid h =
    let lower = lower_bounds (suc n) ss w rows low way valid in
    let less : suc n - 1 ≡ n = omega arith in
    let at_most : bound ≤ minutes_of ss w + n * chain_of ss w = subst (λ k. bound ≤ minutes_of ss w + k * chain_of ss w) less h in
    let chains = mul-le-mul_left n lower.0 in
    let all : 2 * suc n - 1 ≡ suc n + n = omega arith in
    let split = add-mul (suc n) n (latest rows) in
    subst (λ k. bound ≤ k * latest rows) (sym all) (omega (arith, at_most, chains, lower.1, split))

module _ (p : Placing) (s : Sheet) (low : Descending s.steps) (some : 0 < s.benches) where
  abbrev m : ℕ
  m = s.benches

  abbrev ss : List Step
  ss = s.steps

  -- of the way that is chosen
  reported : (c : Choice) → planned m ss ≡ Some c → Planned p s (chosen_rows p m ss c) (chosen_plan p m ss c)
  reported c e =
      let plans : Plans m ss c = subst (PlansOrNone m ss) e (planned_right m ss low) in
      let w = planned_way ss c in
      let meets = dispatch_meets_rule m ss w p some low plans.way in
      let carried = dispatch_valid m ss w p some low plans.way in
      let keeps = planned_keeps m ss low c e in
      record {
        way = w;
        is_way = plans.way;
        is_open = plans.is_open;
        chosen = keeps;
        only_way = λ v h. planned_only m ss low v w h keeps;
        score = sym plans.scores;
        least = plans.exactly;
        count = refl;
        dispatched = meets;
        only_rows = λ qs h. rule_unique m ss w p qs (chosen_rows p m ss c) h meets;
        valid = carried.valid;
        finish = refl;
        last = carried.finishes;
        limit = λ v is_way is_open rows valid.
            score_limit m ss v rows (m * finish m ss p w) some low is_way valid (omega (arith, dispatch_bound m ss w p low plans.way, plans.scores, plans.none_less v is_way is_open));
      }

  -- where no way is chosen, none is open
  shut : planned m ss ≡ None → Shut ss
  shut e = subst (PlansOrNone m ss) e (planned_right m ss low)

  module _ (before after : List Row) (r : Result Plan Refusal) where
    -- by whether the rows are too few, and by the way that is chosen
    outcome : (short : Bool) → ltb (length before) (length ss) ≡ short → (o : Option Choice) → planned m ss ≡ o →
        told r ≡ cond short (Err (number TableTooShort)) (plan_or_none (option_map (chosen_plan p m ss) o)) →
        after ≡ cond short before (written (or_no_rows (option_map (chosen_rows p m ss) o)) before) →
        ((e : ℕ) → told r ≡ Err e → after ≡ before) × ((plan : Plan) → told r ≡ Ok plan → Planned p s (take plan.rows after) plan)
        × (short ≡ false → (told r ≡ Err (number NoOpenWay) → Shut ss) × (Shut ss → told r ≡ Err (number NoOpenWay)))
    outcome true t o q answer rows = ((λ e h. rows), (λ plan h. clash (cc)), λ h. clash (cc))
    outcome false t None q answer rows = ((λ e h. rows), (λ plan h. clash (cc)), λ h. ((λ e. shut q), λ closed. answer))
    outcome false t (Some c) q answer rows =
        let plans : Plans m ss c = subst (PlansOrNone m ss) q (planned_right m ss low) in
        let list = chosen_rows p m ss c in
        let front : take (length list) after ≡ list = ap (take (length list)) rows ∙ take-append-le (length list) list (drop (length list) before) (omega arith) ∙ take_all (length list) list (omega arith) in (
          (λ e h. clash (cc)),
          (λ plan h.
              let is : chosen_plan p m ss c ≡ plan = cc in
              subst (λ x. Planned p s (take x.rows after) x) is (subst (λ rs. Planned p s rs (chosen_plan p m ss c)) (sym front) (reported c q))),
          λ h. ((λ e. clash (cc)), λ closed. absurd (closed (planned_way ss c) plans.way plans.is_open)),
        )

    pub promised : told r ≡ plan_answer p s (length before) → after ≡ plan_rows p s before → PlanPromise p s before after r
    promised answer rows =
        let all = outcome (ltb (length before) (length ss)) refl (planned m ss) refl answer rows in
        record { answer = answer; rows = rows; refused = all.0; planned = all.1; none = λ room. all.2 (le-ltb (length before) (length ss) room) }
