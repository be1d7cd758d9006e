-- The limits that the steps behind those that are left set are listed.
use Rattle.std.proofs.Common.{◌≡◌, length, drop}
use Rattle.steps.proofs.Descents.{Left}
use Rattle.plans.specs.Limits.{limits_from}
use Rattle.choice.proofs.limits.Given as goal

abbrev pub invariant-loop-i : goal.invariant-loop-i
invariant-loop-i l =
    let ss = l.paths.steps.now in
    let left = l.i-iterator.iter.iter.rest.now in
    (l.i-iterator.iter.count ≡ 0) × Left ss left × (l.limits.items ≡ limits_from ss (length left) (drop (length left) ss))
