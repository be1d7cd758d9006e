-- What each call answers, by the numbers of refusals, and the sheet after it. A refused call leaves the sheet as it was.
use Rattle.std.specs.Prelude.{◌≡◌, ℕ, false, cond, not, List, [], ◌∷◌, ◌++◌, length, take, is_some, IfOk, Ok, Err, Result, OnOk, nat_le, nat_lt}
use Rattle.std.specs.Option.{unwrap_or}
use Rattle.steps.specs.declared.refusal.Refusal.{Refusal}
use Rattle.steps.specs.declared.refusal.Refusal.TheVariants.{SheetFull, NoSuchTarget, UnknownJoin, MinutesOutOfRange, FeeTooHigh, BenchesOutOfRange}
use Rattle.steps.specs.declared.step.Join.{Join}
use Rattle.steps.specs.declared.step.Join.TheVariants.{And}
use Rattle.steps.specs.declared.step.Step.{Step}
use Rattle.steps.specs.Limits.{max_steps, max_benches, max_minutes, max_fee, no_target, outside}
use Rattle.steps.specs.Numbers.{number, join_of}
use Rattle.steps.specs.Sheet.{Sheet}
use Rattle.job_format.specs.Decoding.{decode, without_notes}
use Rattle.job_format.specs.Encoding.{encode}
use Rattle.jobfile.specs.declared.record.Fault.{Fault}
use Rattle.jobfile.specs.Reading.{fault_of}

abbrev pub open_step : ℕ → Join → ℕ → ℕ → Step
open_step target join minutes fee = record { target = target; join = join; minutes = minutes; fee = fee; closed = false }

-- new: the hand-over alone, and one bench
abbrev pub new_sheet : Sheet
new_sheet = record { steps = open_step no_target And 1 0 ∷ []; benches = 1 }

-- the sheet after a call that was accepted, or else the one before it
abbrev pub after : {T E : Type 0} → Result T E → Sheet → Sheet → Sheet
after (Ok x) changed s = changed
after (Err e) changed s = s

-- add, where the join comes as its number
abbrev pub add_answer : Sheet → ℕ → ℕ → ℕ → ℕ → Result ℕ ℕ
add_answer s target join minutes fee =
    cond (nat_le max_steps (length s.steps)) (Err (number SheetFull))
    (cond (nat_le (length s.steps) target) (Err (number NoSuchTarget))
    (cond (not (is_some (join_of join))) (Err (number UnknownJoin))
    (cond (outside 1 max_minutes minutes) (Err (number MinutesOutOfRange))
    (cond (nat_lt max_fee fee) (Err (number FeeTooHigh))
    (Ok (length s.steps))))))

abbrev pub added : Sheet → Step → Sheet
added s x = record { steps = s.steps ++ x ∷ []; benches = s.benches }

abbrev pub add_after : Sheet → ℕ → ℕ → ℕ → ℕ → Sheet
add_after s target join minutes fee = after (add_answer s target join minutes fee) (added s (open_step target (unwrap_or (join_of join) And) minutes fee)) s

-- crew
abbrev pub crew_answer : ℕ → Result Unit ℕ
crew_answer benches = cond (outside 1 max_benches benches) (Err (number BenchesOutOfRange)) (Ok tt)

abbrev pub crew_after : Sheet → ℕ → Sheet
crew_after s benches = after (crew_answer benches) (record { steps = s.steps; benches = benches }) s

-- read, of a file that decodes to r
abbrev pub told_read : Result Unit Fault → Result Unit (ℕ × ℕ)
told_read (Ok x) = Ok x
told_read (Err f) = Err (fault_of f)

abbrev pub read_answer : Result Sheet (ℕ × ℕ) → Result Unit (ℕ × ℕ)
read_answer (Ok x) = Ok tt
read_answer (Err e) = Err e

abbrev pub read_after : Result Sheet (ℕ × ℕ) → Sheet → Sheet
read_after (Ok x) s = x
read_after (Err e) s = s

-- the sheet that was read is written as the file was, without its notes
abbrev pub Faithful : Result Unit Fault → Sheet → List ℕ → Type 0
Faithful r s file = OnOk r (encode s ≡ without_notes file)

-- the bytes that were written are read as the sheet again
abbrev pub Readable : Result ℕ Refusal → Sheet → List ℕ → Type 0
Readable r s buffer = IfOk r (λ n. decode max_steps (take n buffer) ≡ Ok s)
