-- On a sheet the sums of the measures never stop.
use Rattle.std.specs.Prelude.{◌≡◌, List, ℕ, ◌*◌, ◌≤◌}
use Rattle.steps.specs.declared.step.Step.{Step}
use Rattle.steps.specs.Limits.{max_fee}
use Rattle.steps.specs.Sheet.{Sheet, WellFormed}
use Rattle.ways.specs.Figures.{figure}
use Rattle.ways.specs.Measures.{numbers}
use Rattle.ways.specs.Sums.{longest, way_sum}
use Rattle.ways.specs.Ways.{Set, Way}
use Rattle.measures.specs.Meanings.{max_sum, minutes_meaning, chain_meaning, fees_meaning}

-- minutes and fees of a way are the plain sums of its steps, and its chain is the longest path by plain sums
pub record PlainSums (ss : List Step) (w : Set) : Type 0 where
  pub minutes : figure (numbers minutes_meaning) ss w 0 ≡ way_sum (λ f. f.minutes) ss w
  pub chain : figure (numbers chain_meaning) ss w 0 ≡ figure longest ss w 0
  pub fees : figure (numbers fees_meaning) ss w 0 ≡ way_sum (λ f. f.fee) ss w

-- wherever the highest fees of as many steps as there may be do not reach the stop
abbrev pub SumsPlain : Type 0
SumsPlain = (limit : ℕ) (s : Sheet) (w : Set) → limit * max_fee ≤ max_sum → WellFormed limit s → Way s.steps w → PlainSums s.steps w
