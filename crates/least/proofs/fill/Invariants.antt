-- How far the table is settled.
use Rattle.std.proofs.Common.{◌≡◌, length, drop}
use Rattle.least.specs.Progress.{Settled}
use Rattle.least.proofs.fill.Given as goal

abbrev pub invariant-loop-i : goal.invariant-loop-i
invariant-loop-i g l =
    Settled (g.M.Measure.meaning l.measure) (g.M.Measure.number l.measure) l.steps l.i l.table
    × (drop (length l.steps) l.table ≡ drop (length l.steps) l.initial.table)
