-- The layout of a record: the length of its body (2 bytes), its kind (2 bytes) and its body, numbers with the low byte first.
use Rattle.std.specs.Prelude.{ℕ, ◌+◌, ◌*◌, Bool, true, false, cond, not, ◌&&◌, ◌||◌, List, length, Some, None, Option, ◌==◌, nat_le, nat_lt, slice_index}
use Rattle.std.specs.Option.{unwrap_or}
use Rattle.steps.specs.declared.refusal.Refusal.{Refusal}
use Rattle.steps.specs.declared.refusal.Refusal.TheVariants.{RecordCutShort, UnknownKind, RecordOutOfPlace, WrongBodyLength, TooManySteps, BadField}
use Rattle.steps.specs.declared.step.Join.{Join}
use Rattle.steps.specs.declared.step.Join.TheVariants.{And, Or}
use Rattle.steps.specs.declared.step.Step.{Step}
use Rattle.steps.specs.Limits.{max_benches, max_minutes, max_fee, no_target, outside}
use Rattle.steps.specs.Numbers.{join_of}
use Rattle.job_format.specs.declared.Stage.{Stage}
use Rattle.job_format.specs.declared.Stage.TheVariants.{Start, Body, Finished}

-- the numbers of the kinds
abbrev pub head_kind : ℕ
head_kind = 1

abbrev pub step_kind : ℕ
step_kind = 2

abbrev pub end_kind : ℕ
end_kind = 3

abbrev pub note_kind : ℕ
note_kind = 4

-- the lengths of bodies; a note's is at least 1, and an end has none
abbrev pub head_body : ℕ
head_body = 2

abbrev pub step_body : ℕ
step_body = 10

abbrev pub max_note : ℕ
max_note = 200

-- the longest file, and the one edition there is
abbrev pub max_file : ℕ
max_file = 65536

abbrev pub edition : ℕ
edition = 1

-- the number in the two, or four, bytes at i
abbrev pub word : List ℕ → ℕ → ℕ
word bytes i = slice_index bytes i + slice_index bytes (i + 1) * 256

abbrev pub long : List ℕ → ℕ → ℕ
long bytes i = slice_index bytes i + slice_index bytes (i + 1) * 256 + slice_index bytes (i + 2) * 65536 + slice_index bytes (i + 3) * 16777216

-- Of a record r, from its first byte on:

abbrev pub body_length : List ℕ → ℕ
body_length r = word r 0

abbrev pub kind : List ℕ → ℕ
kind r = word r 2

-- the step of a step record; AND stands where the join's number is none
abbrev pub join_in : List ℕ → Join
join_in r = unwrap_or (join_of (slice_index r 6)) And

abbrev pub step_in : List ℕ → Step
step_in r = record { target = word r 4; join = join_in r; minutes = word r 8; fee = long r 10; closed = (slice_index r 7 == 1) }

-- What may be wrong with a record, in the order in which it is looked for:

abbrev pub cut_short : List ℕ → Bool
cut_short r = nat_lt (length r) 4 || nat_lt (length r) (4 + body_length r)

abbrev pub unknown : ℕ → Bool
unknown k = outside head_kind note_kind k

-- the head comes first and only then, the end after some step and last
abbrev pub misplaced : Stage → ℕ → ℕ → Bool
misplaced Start steps k = not (k == head_kind)
misplaced Body steps k = k == head_kind || (k == end_kind && steps == 0)
misplaced Finished steps k = true

abbrev pub wrong_length : ℕ → ℕ → Bool
wrong_length k n = cond (k == head_kind) (not (n == head_body)) (cond (k == step_kind) (not (n == step_body)) (cond (k == end_kind) (not (n == 0)) (outside 1 max_note n)))

-- one step more than the limit
abbrev pub excess : ℕ → ℕ → ℕ → Bool
excess limit steps k = k == step_kind && nat_le limit steps

abbrev pub bad_head : List ℕ → Bool
bad_head r = not (slice_index r 4 == edition) || outside 1 max_benches (slice_index r 5)

-- step 0 leads nowhere and joins by AND; every other leads into one of lower number
abbrev pub bad_target : ℕ → ℕ → Bool
bad_target number target = cond (number == 0) (not (target == no_target)) (nat_le number target)

abbrev pub wrong_join : ℕ → Option Join → Bool
wrong_join number None = true
wrong_join number (Some And) = false
wrong_join number (Some Or) = number == 0

abbrev pub bad_join : ℕ → ℕ → Bool
bad_join number join = wrong_join number (join_of join)

abbrev pub bad_step : ℕ → List ℕ → Bool
bad_step number r = bad_target number (word r 4) || (bad_join number (slice_index r 6) || (nat_lt 1 (slice_index r 7) || (outside 1 max_minutes (word r 8) || nat_lt max_fee (long r 10))))

abbrev pub bad_field : ℕ → List ℕ → Bool
bad_field steps r = cond (kind r == head_kind) (bad_head r) (kind r == step_kind && bad_step steps r)

-- the first reason that fits a record, at a stage, after so many steps, where the file may have up to limit of them
abbrev pub fault : ℕ → Stage → ℕ → List ℕ → Option Refusal
fault limit stage steps r =
    cond (cut_short r) (Some RecordCutShort)
    (cond (unknown (kind r)) (Some UnknownKind)
    (cond (misplaced stage steps (kind r)) (Some RecordOutOfPlace)
    (cond (wrong_length (kind r) (body_length r)) (Some WrongBodyLength)
    (cond (excess limit steps (kind r)) (Some TooManySteps)
    (cond (bad_field steps r) (Some BadField) None)))))

-- the stage and the number of steps after a record that passes
abbrev pub stage_after : Stage → ℕ → Stage
stage_after stage k = cond (k == head_kind) Body (cond (k == end_kind) Finished stage)

abbrev pub steps_after : ℕ → ℕ → ℕ
steps_after steps k = cond (k == step_kind) (steps + 1) steps
