-- A table of the tails of a sheet's steps.
use Rattle.std.specs.Prelude.{◌≡◌, ℕ, ◌<◌, List, length, slice_index}
use Rattle.steps.specs.declared.step.Step.{Step}
use Rattle.ways.specs.Paths.{tail}

-- the table begins with the tails
abbrev pub IsTails : List Step → List ℕ → Type 0
IsTails ss ts = (i : ℕ) → i < length ss → slice_index ts i ≡ tail ss i
