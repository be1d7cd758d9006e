-- How many feeders of a step are in a set.
use Rattle.std.proofs.Common.{ℕ, suc, Bool, true, false, ◌&&◌, eqb, List, [], ◌∷◌}
use Rattle.steps.specs.declared.step.Step.{Step}
use Rattle.ways.specs.Ways.{Set}

abbrev pub bump : Bool → ℕ → ℕ
bump true n = suc n
bump false n = n

-- the feeders of i among these steps, the first of which has the number j
abbrev pub count : Set → ℕ → ℕ → List Step → ℕ
count w i j [] = 0
count w i j (s ∷ ss) = bump (eqb s.target i && w j) (count w i (suc j) ss)
