-- How many entries are begun.
use Rattle.std.proofs.Common.{◌≡◌, ℕ, ◌<◌, map, length, get_or, drop, None}
use Rattle.steps.specs.Sheet.{step}
use Rattle.ways.specs.Measures.{numbers}
use Rattle.ways.specs.Progress.{started}
use Rattle.least.specs.Entries.{shown, entry_for}
use Rattle.least.proofs.settling.begin.Given as goal

abbrev pub invariant-loop-i : goal.invariant-loop-i
invariant-loop-i g l =
    let m = g.M.Measure.meaning l.measure in
    let number = g.M.Measure.number l.measure in
    ((k : ℕ) → k < l.i → get_or (map (shown number) l.table) k (entry_for m None) ≡ entry_for m (started (numbers m) (step l.steps k).join))
    × (drop (length l.steps) l.table ≡ drop (length l.steps) l.initial.table)
