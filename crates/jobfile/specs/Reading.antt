-- What a reader answers, and where it then stands.
use Rattle.std.specs.Prelude.{◌≡◌, ℕ, ◌+◌, true, cond, List, length, drop, is_some, Some, None, Ok, Err, Option, Result, nat_le, nat_lt, slice_index}
use Rattle.steps.specs.declared.refusal.Refusal.{Refusal}
use Rattle.steps.specs.declared.refusal.Refusal.TheVariants.{FileTooLong, NoEndRecord}
use Rattle.steps.specs.declared.step.Step.{Step as StepT}
use Rattle.steps.specs.Numbers.{number}
use Rattle.jobfile.specs.declared.record.Fault.{Fault}
use Rattle.jobfile.specs.declared.record.HeadFields.{HeadFields}
use Rattle.jobfile.specs.declared.record.Placed.{Placed}
use Rattle.jobfile.specs.declared.record.Reader.{Reader}
use Rattle.jobfile.specs.declared.record.Record.{Record}
use Rattle.jobfile.specs.declared.record.Record.TheVariants.{Head, Step, Note, End}
use Rattle.job_format.specs.declared.Stage.{Stage}
use Rattle.job_format.specs.declared.Stage.TheVariants.{Start, Body, Finished}
use Rattle.job_format.specs.Layout.{head_kind, step_kind, end_kind, note_kind, kind, fault, stage_after, steps_after, step_in, max_file}
use Rattle.job_format.specs.Decoding.{first}

-- a record that is handed out: its place in the file, its kind, and its bytes
pub record Handed : Type 0 where
  pub place : ℕ
  pub kind : ℕ
  pub bytes : List ℕ

-- the number of a record's kind, and its bytes
abbrev pub kind_of : Record → ℕ
kind_of (Head b) = head_kind
kind_of (Step b) = step_kind
kind_of (End b) = end_kind
kind_of (Note b) = note_kind

abbrev pub bytes_of : Record → List ℕ
bytes_of (Head b) = b.now
bytes_of (Step b) = b.now
bytes_of (Note b) = b.now
bytes_of (End b) = b.now

-- the number and the place of a fault
abbrev pub fault_of : Fault → ℕ × ℕ
fault_of f = (number f.refusal, f.place)

abbrev pub handed_of : Placed → Handed
handed_of p = record { place = p.place; kind = kind_of p.record; bytes = bytes_of p.record }

-- what a caller is told by an answer
abbrev pub told_next : Result (Option Placed) Fault → Result (Option Handed) (ℕ × ℕ)
told_next (Ok None) = Ok None
told_next (Ok (Some p)) = Ok (Some (handed_of p))
told_next (Err f) = Err (fault_of f)

-- where a reader stands: the bytes behind its place are still to be read
pub record Standing : Type 0 where
  pub place : ℕ
  pub stage : Stage
  pub steps : ℕ

abbrev pub standing : Reader → Standing
standing r = record { place = r.place; stage = r.stage; steps = r.steps }

abbrev pub at_start : Standing
at_start = record { place = 0; stage = Start; steps = 0 }

-- where no bytes are left: no more records after the end record, and before it a fault
abbrev pub stopped : Stage → ℕ → Result (Option Handed) (ℕ × ℕ)
stopped Finished place = Ok None
stopped Start place = Err (number NoEndRecord, place)
stopped Body place = Err (number NoEndRecord, place)

abbrev pub judged : Option Refusal → ℕ → List ℕ → Result (Option Handed) (ℕ × ℕ)
judged None place r = Ok (Some (record { place = place; kind = kind r; bytes = r }))
judged (Some e) place r = Err (number e, place)

-- the record at the place where a reader stands
abbrev pub record_at : List ℕ → ℕ → List ℕ
record_at file place = first (drop place file)

abbrev pub next_answer : ℕ → List ℕ → Standing → Result (Option Handed) (ℕ × ℕ)
next_answer limit file s =
    cond (nat_lt max_file (length file)) (Err (number FileTooLong, 0))
    (cond (nat_le (length file) s.place) (stopped s.stage s.place)
    (judged (fault limit s.stage s.steps (record_at file s.place)) s.place (record_at file s.place)))

-- a reader goes on behind a record that it hands out, and else stays where it is
abbrev pub passed : Standing → List ℕ → Standing
passed s r = record { place = s.place + length r; stage = stage_after s.stage (kind r); steps = steps_after s.steps (kind r) }

abbrev pub standing_after : Result (Option Handed) (ℕ × ℕ) → Standing → Standing
standing_after (Ok (Some h)) s = passed s h.bytes
standing_after (Ok None) s = s
standing_after (Err e) s = s

-- The fields of a record.

abbrev pub head_of : Record → Option HeadFields
head_of (Head b) = cond (nat_lt (length b.now) 6) None (Some (record { edition = slice_index b.now 4; benches = slice_index b.now 5 }))
head_of (Step b) = None
head_of (Note b) = None
head_of (End b) = None

abbrev pub step_of : Record → Option StepT
step_of (Head b) = None
step_of (Step b) = cond (nat_lt (length b.now) 14) None (Some (step_in b.now))
step_of (Note b) = None
step_of (End b) = None

abbrev pub note_of : Record → Option (List ℕ)
note_of (Head b) = None
note_of (Step b) = None
note_of (Note b) = cond (nat_lt (length b.now) 4) None (Some (drop 4 b.now))
note_of (End b) = None

-- a head, a step or a note that is handed out has its fields
abbrev pub Fielded : Record → Type 0
Fielded (Head b) = is_some (head_of (Head b)) ≡ true
Fielded (Step b) = is_some (step_of (Step b)) ≡ true
Fielded (Note b) = is_some (note_of (Note b)) ≡ true
Fielded (End b) = Unit {0}

abbrev pub FieldsGiven : Result (Option Placed) Fault → Type 0
FieldsGiven (Ok None) = Unit {0}
FieldsGiven (Ok (Some p)) = Fielded p.record
FieldsGiven (Err f) = Unit {0}
