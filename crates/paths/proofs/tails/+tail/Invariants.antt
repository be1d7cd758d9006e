-- The step number falls.
use Rattle.paths.proofs.tails.+tail.Given as goal

abbrev pub decreases-tail : goal.decreases-tail
decreases-tail l = l.i
