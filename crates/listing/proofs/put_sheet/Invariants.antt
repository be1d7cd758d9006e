-- How far the listing is written.
use Rattle.std.proofs.Common.{take}
use Rattle.buffer.proofs.Puts.{Written}
use Rattle.listing.specs.Text.{step_lines}
use Rattle.listing.proofs.put_sheet.Given as goal

-- the lines of the steps so far stand behind the crew line
abbrev pub invariant-loop-i : goal.invariant-loop-i
invariant-loop-i l = Written l.initial.buffer l.initial.at (step_lines 0 (take l.i l.steps)) l.buffer l.at
