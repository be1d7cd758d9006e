-- What is written of a sheet, and what is answered.
use Rattle.std.specs.Prelude.{ℕ, cond, List, ◌++◌, length, drop, Ok, Err, Result, nat_lt}
use Rattle.steps.specs.declared.refusal.Refusal.TheVariants.{BufferTooShort}
use Rattle.steps.specs.Numbers.{number}
use Rattle.steps.specs.Sheet.{Sheet}
use Rattle.job_format.specs.Encoding.{encode}

-- the number of bytes, or the refusal of a buffer that is too short for them
abbrev pub store_answer : Sheet → List ℕ → Result ℕ ℕ
store_answer s buffer = cond (nat_lt (length buffer) (length (encode s))) (Err (number BufferTooShort)) (Ok (length (encode s)))

-- the encoding at the front of the buffer, or the buffer as it was
abbrev pub store_after : Sheet → List ℕ → List ℕ
store_after s buffer = cond (nat_lt (length buffer) (length (encode s))) buffer (encode s ++ drop (length (encode s)) buffer)
