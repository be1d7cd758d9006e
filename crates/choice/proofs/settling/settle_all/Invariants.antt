-- The steps from i on are settled.
use Rattle.std.proofs.Common.{◌≡◌, length}
use Rattle.steps.specs.Limits.{max_steps}
use Rattle.choice.specs.Entries.{Settled}
use Rattle.choice.proofs.settling.settle_all.Given as goal

abbrev pub invariant-loop-i : goal.invariant-loop-i
invariant-loop-i l = (length l.table ≡ max_steps) × Settled l.limit l.paths.steps.now l.i l.table
