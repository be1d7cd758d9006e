-- Timetables: lists of rows, and which of them are valid.
use Rattle.std.specs.Prelude.{◌≡◌, ℕ, ◌+◌, ◌<◌, ◌≤◌, max, true, cond, ◌⊎◌, List, [], ◌∷◌, ◌==◌, slice_index_or}
use Rattle.steps.specs.declared.row.Row.{Row}
use Rattle.steps.specs.declared.step.Step.{Step}
use Rattle.steps.specs.Sheet.{step}
use Rattle.ways.specs.Ways.{Set, Feeds}

-- P of each row
abbrev pub All : (Row → Type 0) → List Row → Type 0
All P [] = Unit {0}
All P (r ∷ rs) = P r × All P rs

-- P of some row
abbrev pub Has : (Row → Type 0) → List Row → Type 0
Has P [] = ⊥
Has P (r ∷ rs) = P r ⊎ Has P rs

-- R of each two rows, the one that stands first in the list first
abbrev pub Two : (Row → Row → Type 0) → List Row → Type 0
Two R [] = Unit {0}
Two R (r ∷ rs) = All (R r) rs × Two R rs

-- what stands for a row past the end
abbrev pub no_row : Row
no_row = record { step = 0; bench = 0; start = 0; end = 0 }

-- the row at place k, counted from 0
abbrev pub row : List Row → ℕ → Row
row rows k = slice_index_or rows k no_row

-- the greatest end: when the work of a timetable is over
abbrev pub latest : List Row → ℕ
latest [] = 0
latest (r ∷ rs) = max r.end (latest rs)

-- the end of the first row of step i, 0 if it has none
abbrev pub end_of : ℕ → List Row → ℕ
end_of i [] = 0
end_of i (r ∷ rs) = cond (r.step == i) r.end (end_of i rs)

-- starts do not fall from row to row
abbrev pub InOrder : List Row → Type 0
InOrder rows = Two (λ r q. r.start ≤ q.start) rows

-- a row lasts for its step's minutes
abbrev pub Takes : List Step → Row → Type 0
Takes ss r = r.end ≡ r.start + (step ss r.step).minutes

-- two rows are not of the same step
abbrev pub Differ : Row → Row → Type 0
Differ r q = r.step ≡ q.step → ⊥

-- if they are on the same bench, they share no minute
abbrev pub Apart : Row → Row → Type 0
Apart r q = r.bench ≡ q.bench → (r.end ≤ q.start) ⊎ (q.end ≤ r.start)

-- if the step of q feeds that of r, then r starts no earlier than q ends
abbrev pub Waits : List Step → Row → Row → Type 0
Waits ss r q = Feeds ss q.step r.step → q.end ≤ r.start

-- a row for each step of the way, once, and for no other, each on one of the benches
pub record ValidTimetable (benches : ℕ) (ss : List Step) (w : Set) (rows : List Row) : Type 0 where
  pub member : All (λ r. w r.step ≡ true) rows
  pub whole : (i : ℕ) → w i ≡ true → Has (λ r. r.step ≡ i) rows
  pub once : Two Differ rows
  pub on_bench : All (λ r. r.bench < benches) rows
  pub takes : All (Takes ss) rows
  pub apart : Two Apart rows
  pub fed : All (λ r. All (Waits ss r) rows) rows
