-- The chain of a way is the greatest path of a leaf on it.
use Rattle.std.specs.Prelude.{◌≡◌, ℕ, ◌+◌, ◌<◌, ◌≤◌, true, List, length}
use Rattle.steps.specs.declared.step.Step.{Step}
use Rattle.steps.specs.Sheet.{step, Descending}
use Rattle.ways.specs.Paths.{tail}
use Rattle.ways.specs.Ways.{Set, Way, Open}
use Rattle.plans.specs.Leaves.{Leaf}
use Rattle.plans.specs.Limits.{IsLimit}
use Rattle.ways.specs.Sums.{chain_of}

-- a tail is the minutes of the step and the tail of its target
abbrev pub TailsRight : Type 0
TailsRight = (ss : List Step) → Descending ss →
    (tail ss 0 ≡ (step ss 0).minutes) × ((j : ℕ) → 0 < j → j < length ss → tail ss j ≡ (step ss j).minutes + tail ss (step ss j).target)

-- no step of the way has a longer path than its chain, and a leaf of it has that path
pub record Longest (ss : List Step) (w : Set) : Type 0 where
  pub above : (j : ℕ) → w j ≡ true → tail ss j ≤ chain_of ss w
  pub leaf : ℕ
  pub on_way : w leaf ≡ true
  pub is_leaf : Leaf ss leaf
  pub attains : tail ss leaf ≡ chain_of ss w

-- the chain of an open way is one of the limits
abbrev pub ChainsRight : Type 0
ChainsRight = (ss : List Step) → Descending ss → (w : Set) → Way ss w → Longest ss w × (Open ss w → IsLimit ss (chain_of ss w))
