-- The targets of the steps so far are marked, and nothing else is.
use Rattle.std.proofs.Common.{◌≡◌, ℕ, false, length, get_or, take}
use Rattle.steps.specs.Limits.{max_steps}
use Rattle.plans.specs.Leaves.{fed}
use Rattle.paths.proofs.feeders.fed_steps.Given as goal

abbrev pub invariant-loop-step : goal.invariant-loop-step
invariant-loop-step l = (length l.fed ≡ max_steps) × ((k : ℕ) → get_or l.fed k false ≡ fed k (take l.step-index l.step-items))
