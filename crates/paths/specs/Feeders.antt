-- Which steps of a sheet another leads into, as a table of marks.
use Rattle.std.specs.Prelude.{◌≡◌, ℕ, suc, ◌<◌, Bool, false, List, length, drop, slice_index_or}
use Rattle.steps.specs.declared.step.Step.{Step}
use Rattle.plans.specs.Leaves.{fed}

-- the table begins with whether each step has feeders
abbrev pub Marked : List Step → List Bool → Type 0
Marked ss bs = (k : ℕ) → k < length ss → slice_index_or bs k false ≡ fed k (drop (suc k) ss)
