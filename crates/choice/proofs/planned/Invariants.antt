-- The limits that are left give the plan.
use Rattle.std.proofs.Common.{◌≡◌, drop}
use Rattle.plans.specs.Plan.{best_plan, planned}
use Rattle.choice.proofs.planned.Given as goal

abbrev pub invariant-loop-limit : goal.invariant-loop-limit
invariant-loop-limit l = best_plan l.benches l.paths.steps.now l.best (drop l.limit-index l.limit-items) ≡ planned l.benches l.paths.steps.now
