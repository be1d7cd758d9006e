-- Paths along the targets.
use Rattle.std.specs.Prelude.{ℕ, zero, suc, ◌+◌, List}
use Rattle.steps.specs.declared.step.Step.{Step}
use Rattle.steps.specs.Sheet.{step}

-- the minutes of a step and of the steps that it leads to, one after another up to step 0; at most so many turns
abbrev pub tail_in : List Step → ℕ → ℕ → ℕ
tail_in ss zero turns = (step ss 0).minutes
tail_in ss (suc j) zero = 0
tail_in ss (suc j) (suc turns) = (step ss (suc j)).minutes + tail_in ss (step ss (suc j)).target turns

-- targets fall, so as many turns as the step's number suffice
abbrev pub tail : List Step → ℕ → ℕ
tail ss j = tail_in ss j j
