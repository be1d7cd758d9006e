-- The first entries are begun.
use Rattle.std.proofs.Common.{◌≡◌, ℕ, ◌<◌, get_or}
use Rattle.steps.specs.Sheet.{step}
use Rattle.choice.specs.Entries.{blank_entry, start_entry}
use Rattle.choice.proofs.settling.begin.Given as goal

abbrev pub invariant-loop-i : goal.invariant-loop-i
invariant-loop-i l = (k : ℕ) → k < l.i → get_or l.table k blank_entry ≡ start_entry (step l.paths.steps.now k).join
