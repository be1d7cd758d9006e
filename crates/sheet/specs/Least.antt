-- What least answers, and what its answer and its table are in terms of ways.
use Rattle.std.specs.Prelude.{◌≡◌, ℕ, ◌<◌, ◌≤◌, cond, List, length, Some, None, Ok, Err, Option, Result, nat_lt}
use Rattle.steps.specs.declared.refusal.Refusal.{Refusal}
use Rattle.steps.specs.declared.refusal.Refusal.TheVariants.{TableTooShort, NoOpenWay}
use Rattle.steps.specs.declared.step.Step.{Step}
use Rattle.steps.specs.Numbers.{number}
use Rattle.ways.specs.Least.{least_of, IsLeast, Reported}
use Rattle.ways.specs.Measures.{Meaning, numbers}
use Rattle.ways.specs.Ways.{Set, Way, Open}
use Rattle.least.specs.declared.Entry.{Entry}
use Rattle.least.specs.Entries.{Filled}

-- what a caller is told: the number of the figure, or that of the refusal
abbrev pub told_figure : {F : Type 0} → (F → ℕ) → Result F Refusal → Result ℕ ℕ
told_figure figure_number (Ok f) = Ok (figure_number f)
told_figure figure_number (Err e) = Err (number e)

abbrev pub reported : Option ℕ → Result ℕ ℕ
reported None = Err (number NoOpenWay)
reported (Some n) = Ok n

abbrev pub least_answer : Meaning → List Step → ℕ → Result ℕ ℕ
least_answer m ss room = cond (nat_lt room (length ss)) (Err (number TableTooShort)) (reported (least_of (numbers m) ss 0))

-- no way of the sheet is open
abbrev pub Shut : List Step → Type 0
Shut ss = (w : Set) → Way ss w → Open ss w → ⊥

-- all that is promised of least, for a measure of this meaning, on these steps, with the table before and after
pub record LeastPromise {F : Type 0} (m : Meaning) (figure_number : F → ℕ) (ss : List Step) (before after : List (Entry F)) (r : Result F Refusal) : Type 0 where
  -- the answer, and when it is which refusal
  pub answer : told_figure figure_number r ≡ least_answer m ss (length before)
  -- a table that is too short is kept whole
  pub short : length before < length ss → after ≡ before
  -- else each entry is the least figure of its step's open ways, or not found with the empty figure, and those behind are kept
  pub filled : length ss ≤ length before → Filled m figure_number ss before after
  pub entries : (i : ℕ) → i < length ss → IsLeast (numbers m) ss i (least_of (numbers m) ss i)
  -- an open way has the reported number exactly when no open way is below it
  pub least : (n : ℕ) → told_figure figure_number r ≡ Ok n → Reported m ss n
  -- with room enough, "no open way" is said exactly when there is none
  pub none : length ss ≤ length before → (told_figure figure_number r ≡ Err (number NoOpenWay) → Shut ss) × (Shut ss → told_figure figure_number r ≡ Err (number NoOpenWay))
