-- The ends of the steps that have begun, kept by step.
use Rattle.std.specs.Prelude.{◌≡◌, ℕ, Bool, false, List, Some, None, Option, is_some, nat_le, slice_index, slice_index_or}
use Rattle.std.specs.Option.{unwrap_or}
use Rattle.steps.specs.declared.ready.Ready.{Ready}
use Rattle.steps.specs.declared.row.Row.{Row}
use Rattle.steps.specs.declared.step.Step.{Step}
use Rattle.ways.specs.Ways.{Set}
use Rattle.schedules.specs.Dispatch.{begun, ended, ready_among, readies}
use Rattle.schedules.specs.Timetables.{end_of}
use Rattle.dispatch.specs.Members.{members}

-- what is kept of step k
abbrev pub end_in : List (Option ℕ) → ℕ → Option ℕ
end_in ends k = slice_index_or ends k None

abbrev pub passed : ℕ → Option ℕ → Bool
passed now None = false
passed now (Some end) = nat_le end now

abbrev pub started_by : List (Option ℕ) → Set
started_by ends k = is_some (end_in ends k)

abbrev pub done_by : ℕ → List (Option ℕ) → Set
done_by now ends k = passed now (end_in ends k)

-- the list of ready steps
abbrev pub ready_by : List Step → List ℕ → List Bool → ℕ → List (Option ℕ) → List Ready
ready_by ss tails way now ends = readies (ready_among ss (members way) (started_by ends) (done_by now ends)) (λ k. slice_index tails k) 0 ss

-- the ends are those of the rows
pub record Tracks (rows : List Row) (ends : List (Option ℕ)) : Type 0 where
  pub end_as : (i : ℕ) → end_of i rows ≡ unwrap_or (end_in ends i) 0
  pub begun_as : (i : ℕ) → begun i rows ≡ started_by ends i
  pub ended_as : (t i : ℕ) → ended t i rows ≡ done_by t ends i
