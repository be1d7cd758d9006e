-- The sheet of a file's contents.
use Rattle.std.specs.Prelude.{◌≡◌, ℕ, ◌<◌, ◌≤◌, [], length, take, Ok, Err, Result}
use Rattle.steps.specs.Limits.{max_steps}
use Rattle.steps.specs.Sheet.{Sheet, sheet_of}
use Rattle.job_format.specs.Layout.{kind, head_kind, step_kind}
use Rattle.jobfile.specs.declared.contents.Contents.{Contents}
use Rattle.jobfile.specs.declared.record.Fault.{Fault}
use Rattle.jobfile.specs.declared.record.Record.{Record}
use Rattle.jobfile.specs.Reading.{bytes_of, kind_of, fault_of}

abbrev pub sheet_in : Contents → Sheet
sheet_in c = sheet_of (take c.count c.steps) c.benches

-- of a file of which nothing is read yet
abbrev pub empty_sheet : Sheet
empty_sheet = sheet_of [] 0

-- what a caller is told
abbrev pub told_load : Result Contents Fault → Result Sheet (ℕ × ℕ)
told_load (Ok c) = Ok (sheet_in c)
told_load (Err f) = Err (fault_of f)

-- what is known of a record that passed, after so many steps
pub record Passed (steps : ℕ) (r : Record) : Type 0 where
  pub kinds : kind_of r ≡ kind (bytes_of r)
  pub head : kind_of r ≡ head_kind → 6 ≤ length (bytes_of r)
  pub step : kind_of r ≡ step_kind → 14 ≤ length (bytes_of r)
  pub room : kind_of r ≡ step_kind → steps < max_steps
