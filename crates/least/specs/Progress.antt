-- How far a table of least figures is filled.
use Rattle.std.specs.Prelude.{◌≡◌, ℕ, ◌<◌, List, map, length, None, slice_index_or}
use Rattle.steps.specs.declared.step.Step.{Step}
use Rattle.ways.specs.Measures.{Meaning, numbers}
use Rattle.ways.specs.Progress.{progress}
use Rattle.least.specs.declared.Entry.{Entry}
use Rattle.least.specs.Entries.{shown, entry_for}

-- the steps from i on are settled, and folded into those below i
abbrev pub Settled : {F : Type 0} → Meaning → (F → ℕ) → List Step → ℕ → List (Entry F) → Type 0
Settled m number ss i table = (k : ℕ) → k < length ss → slice_index_or (map (shown number) table) k (entry_for m None) ≡ entry_for m (progress (numbers m) ss i k)
