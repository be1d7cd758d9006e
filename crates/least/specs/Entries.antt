-- What stands in a table of least figures, by its numbers.
use Rattle.std.specs.Prelude.{◌≡◌, ℕ, ◌<◌, cond, List, map, length, drop, Some, None, Option, slice_index_or}
use Rattle.std.specs.Option.{option_map, unwrap_or}
use Rattle.steps.specs.declared.step.Step.{Step}
use Rattle.ways.specs.Least.{least_of}
use Rattle.ways.specs.Measures.{Meaning, numbers}
use Rattle.least.specs.declared.Entry.{Entry}

-- its figure, if it is found
abbrev pub least_figure : {F : Type 0} → Entry F → Option F
least_figure e = cond e.found (Some e.figure) None

-- an entry: its number if it is found, and the number of its figure in any case
pub record Shown : Type 0 where
  pub least : Option ℕ
  pub figure : ℕ

abbrev pub shown : {F : Type 0} → (F → ℕ) → Entry F → Shown
shown number e = record { least = option_map number (least_figure e); figure = number e.figure }

-- with this least number, or none and the empty one
abbrev pub entry_for : Meaning → Option ℕ → Shown
entry_for m o = record { least = o; figure = unwrap_or o m.empty }

-- the entries of all steps are their least figures, and those behind them are kept
pub record Filled {F : Type 0} (m : Meaning) (number : F → ℕ) (ss : List Step) (before after : List (Entry F)) : Type 0 where
  pub entries : (i : ℕ) → i < length ss → slice_index_or (map (shown number) after) i (entry_for m None) ≡ entry_for m (least_of (numbers m) ss i)
  pub kept : drop (length ss) after ≡ drop (length ss) before
