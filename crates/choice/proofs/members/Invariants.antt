-- The marks below k are the way that is taken, and none is set from k on.
use Rattle.std.proofs.Common.{◌≡◌, ℕ, ◌<◌, ◌≤◌, false, length, get_or}
use Rattle.steps.specs.Limits.{max_steps}
use Rattle.plans.specs.Limited.{taken_at}
use Rattle.choice.proofs.members.Given as goal

abbrev pub invariant-loop-k : goal.invariant-loop-k
invariant-loop-k l =
    (length l.way ≡ max_steps)
    × ((j : ℕ) → j < l.k → get_or l.way j false ≡ taken_at l.limit l.paths.steps.now j)
    × ((j : ℕ) → l.k ≤ j → get_or l.way j false ≡ false)
