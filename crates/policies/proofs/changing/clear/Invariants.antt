-- The values of the first steps are set to 0.
use Rattle.std.proofs.Common.{◌≡◌}
use Rattle.policies.specs.Values.{cleared}
use Rattle.policies.proofs.changing.clear.Given as goal

abbrev pub invariant-loop-step : goal.invariant-loop-step
invariant-loop-step g l = l.policy ≡ cleared g.C.Changeable.put l.step l.initial.policy
