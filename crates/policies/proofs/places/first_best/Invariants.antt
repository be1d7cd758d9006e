-- The best of the entries so far.
use Rattle.std.proofs.Common.{Bool, ◌-◌, ◌≤◌}
use Rattle.steps.specs.declared.ready.Ready.{Ready}
use Rattle.policies.specs.Places.{Strict, Says, Leads}
use Rattle.policies.proofs.places.first_best.Given as goal

abbrev pub invariant-loop-i : goal.invariant-loop-i
invariant-loop-i g l = (l.best ≤ l.i - 1) × ((beats : Ready → Ready → Bool) → Strict beats → Says g.F.Fn l.comes_before beats → Leads beats l.ready l.i l.best)
