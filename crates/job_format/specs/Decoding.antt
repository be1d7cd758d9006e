-- The sheet that a job file holds, or the number of its refusal with the place of it.
use Rattle.std.specs.Prelude.{ℕ, zero, suc, ◌+◌, cond, List, [], ◌∷◌, ◌++◌, length, take, drop, Some, None, Ok, Err, Option, Result, ◌==◌, nat_lt, slice_index}
use Rattle.std.specs.List.{flat_map}
use Rattle.steps.specs.declared.refusal.Refusal.{Refusal}
use Rattle.steps.specs.declared.refusal.Refusal.TheVariants.{FileTooLong, NoEndRecord}
use Rattle.steps.specs.declared.step.Step.{Step}
use Rattle.steps.specs.Numbers.{number}
use Rattle.steps.specs.Sheet.{Sheet, sheet_of}
use Rattle.job_format.specs.declared.Stage.{Stage}
use Rattle.job_format.specs.declared.Stage.TheVariants.{Start, Body, Finished}
use Rattle.job_format.specs.Layout.{body_length, kind, fault, stage_after, step_in, head_kind, step_kind, note_kind, max_file}

-- the record at the front of these bytes: as many as it announces, or all that are left
abbrev pub first : List ℕ → List ℕ
first bytes = take (4 + body_length bytes) bytes

-- these bytes cut into records, of which the last may be cut short; each has a byte at least, so as many turns as bytes suffice
abbrev pub cut : ℕ → List ℕ → List (List ℕ)
cut zero bytes = []
cut (suc turns) [] = []
cut (suc turns) (b ∷ bs) = first (b ∷ bs) ∷ cut turns (drop (4 + body_length (b ∷ bs)) (b ∷ bs))

abbrev pub records : List ℕ → List (List ℕ)
records bytes = cut (length bytes) bytes

-- what is read so far: the benches of the head, and the steps
abbrev pub benches_after : ℕ → List ℕ → ℕ
benches_after benches r = cond (kind r == head_kind) (slice_index r 5) benches

abbrev pub step_list_after : List Step → List ℕ → List Step
step_list_after steps r = cond (kind r == step_kind) (steps ++ step_in r ∷ []) steps

-- what a file comes to where its bytes stop
abbrev pub at_stop : Stage → ℕ → Sheet → Result Sheet (ℕ × ℕ)
at_stop Finished place s = Ok s
at_stop Start place s = Err (number NoEndRecord, place)
at_stop Body place s = Err (number NoEndRecord, place)

-- go on, unless there is a fault at the place
abbrev pub unless : {T : Type 0} → Option Refusal → ℕ → Result T (ℕ × ℕ) → Result T (ℕ × ℕ)
unless None place next = next
unless (Some e) place next = Err (number e, place)

-- the records from a place on, after these benches and steps
abbrev pub decode_from : ℕ → Stage → ℕ → List Step → ℕ → List (List ℕ) → Result Sheet (ℕ × ℕ)
decode_from limit stage benches steps place [] = at_stop stage place (sheet_of steps benches)
decode_from limit stage benches steps place (r ∷ rs) =
    unless (fault limit stage (length steps) r) place
    (decode_from limit (stage_after stage (kind r)) (benches_after benches r) (step_list_after steps r) (place + length r) rs)

-- a file that may have up to limit steps
abbrev pub decode : ℕ → List ℕ → Result Sheet (ℕ × ℕ)
decode limit file = cond (nat_lt max_file (length file)) (Err (number FileTooLong, 0)) (decode_from limit Start 0 [] 0 (records file))

-- the file without its note records
abbrev pub unless_note : List ℕ → List ℕ
unless_note r = cond (kind r == note_kind) [] r

abbrev pub without_notes : List ℕ → List ℕ
without_notes file = flat_map unless_note (records file)
