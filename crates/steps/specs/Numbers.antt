-- The numbers of joins and of refusals.
use Rattle.std.specs.Prelude.{◌≡◌, ℕ, cond, Some, None, Ok, Err, Option, Result, ◌==◌}
use Rattle.std.specs.Option.{ok_or}
use Rattle.steps.specs.declared.refusal.Refusal.{Refusal}
use Rattle.steps.specs.declared.refusal.Refusal.TheVariants.{NoSuchTarget, UnknownJoin, MinutesOutOfRange, FeeTooHigh, SheetFull, NoSuchStep, BenchesOutOfRange, NoValueKept, NoOpenWay, TableTooShort, FileTooLong, RecordCutShort, UnknownKind, RecordOutOfPlace, WrongBodyLength, TooManySteps, BadField, NoEndRecord, BufferTooShort}
use Rattle.steps.specs.declared.step.Join.{Join}
use Rattle.steps.specs.declared.step.Join.TheVariants.{And, Or}

abbrev pub join_number : Join → ℕ
join_number And = 1
join_number Or = 2

-- the join of a number, if it is one's
abbrev pub join_of : ℕ → Option Join
join_of n = cond (n == 1) (Some And) (cond (n == 2) (Some Or) None)

-- the join of the number, or that it is none's
abbrev pub JoinDecodes : ℕ → Result Join Refusal → Type 0
JoinDecodes n r = r ≡ ok_or (join_of n) UnknownJoin

abbrev pub number : Refusal → ℕ
number NoSuchTarget = 11
number UnknownJoin = 12
number MinutesOutOfRange = 13
number FeeTooHigh = 14
number SheetFull = 15
number NoSuchStep = 21
number BenchesOutOfRange = 22
number NoValueKept = 23
number NoOpenWay = 31
number TableTooShort = 41
number FileTooLong = 51
number RecordCutShort = 52
number UnknownKind = 53
number RecordOutOfPlace = 54
number WrongBodyLength = 55
number TooManySteps = 56
number BadField = 57
number NoEndRecord = 58
number BufferTooShort = 59

-- what a caller is told: the value, or the number of the refusal
abbrev pub told : {T : Type 0} → Result T Refusal → Result T ℕ
told (Ok x) = Ok x
told (Err e) = Err (number e)
