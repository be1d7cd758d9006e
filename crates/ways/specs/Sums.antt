-- Measures whose sums do not stop, and what a set of steps has in all.
use Rattle.std.specs.Prelude.{ℕ, zero, suc, ◌+◌, max, Bool, true, false, List, length}
use Rattle.steps.specs.declared.step.Step.{Step}
use Rattle.steps.specs.Sheet.{step}
use Rattle.ways.specs.declared.StepFacts.{StepFacts}
use Rattle.ways.specs.Figures.{facts, figure}
use Rattle.ways.specs.Measures.{Measure}
use Rattle.ways.specs.Ways.{Set}

-- what each step has, added up
abbrev pub adding : (StepFacts → ℕ) → Measure ℕ
adding has = record { empty = 0; joins = λ a b. a + b; grows = λ s a. a + has s; key = λ n. n }

-- the most minutes along a path: the critical path
abbrev pub longest : Measure ℕ
longest = record { empty = 0; joins = max; grows = λ s a. a + s.minutes; key = λ n. n }

-- x where a test holds, else nothing
abbrev pub only : Bool → ℕ → ℕ
only true x = x
only false x = 0

-- the first n values of a function, added up
abbrev pub sum_below : (ℕ → ℕ) → ℕ → ℕ
sum_below g zero = 0
sum_below g (suc n) = g n + sum_below g n

-- what the steps of a set have, one by one, added up
abbrev pub way_sum : (StepFacts → ℕ) → List Step → Set → ℕ
way_sum has ss w = sum_below (λ i. only (w i) (has (facts i (step ss i)))) (length ss)

-- The minutes and the chain of a way.

abbrev pub all_minutes : Measure ℕ
all_minutes = adding (λ f. f.minutes)

abbrev pub minutes_of : List Step → Set → ℕ
minutes_of ss w = figure all_minutes ss w 0

abbrev pub chain_of : List Step → Set → ℕ
chain_of ss w = figure longest ss w 0
