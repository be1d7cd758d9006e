-- The tails of the first steps are there.
use Rattle.std.proofs.Common.{◌≡◌, ℕ, ◌<◌, length, get_or, drop}
use Rattle.ways.specs.Paths.{tail}
use Rattle.paths.proofs.tails.fill_tails.Given as goal

abbrev pub invariant-loop-i : goal.invariant-loop-i
invariant-loop-i l =
    ((k : ℕ) → k < l.i → get_or l.tails k 0 ≡ tail l.steps k)
    × (drop (length l.steps) l.tails ≡ drop (length l.steps) l.initial.tails)
