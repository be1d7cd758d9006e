-- The dispatch rule, as facts on a list of rows in the order in which they begin. It runs nothing.
use Rattle.std.specs.Prelude.{◌≡◌, ℕ, ◌<◌, Bool, true, false, ◌⊎◌, List, [], ◌∷◌, length, take, Some, nat_le}
use Rattle.steps.specs.declared.row.Row.{Row}
use Rattle.steps.specs.declared.step.Step.{Step}
use Rattle.steps.specs.Placing.{Placing}
use Rattle.ways.specs.Ways.{Set}
use Rattle.schedules.specs.Timetables.{All, Has, InOrder, Takes, row}
use Rattle.schedules.specs.Dispatch.{State, moment, ready_list, named, free}
use Rattle.schedules.specs.Greedy.{WorkConserving}

-- the moment at which the row at place k begins: its start, and the rows that stand before it
abbrev pub beginning : List Row → ℕ → State
beginning rows k = moment (row rows k).start (take k rows)

abbrev pub keep_row : Bool → Row → List Row → List Row
keep_row true r rs = r ∷ rs
keep_row false r rs = rs

-- the rows that have begun by minute t
abbrev pub started : ℕ → List Row → List Row
started t [] = []
started t (r ∷ rs) = keep_row (nat_le r.start t) r (started t rs)

pub record Dispatched (benches : ℕ) (ss : List Step) (w : Set) (p : Placing) (rows : List Row) : Type 0 where
  pub in_order : InOrder rows
  -- each row's step is the one that the policy names among those that are ready when the row begins
  pub by_policy : (k : ℕ) → k < length rows → named p (ready_list ss w (beginning rows k)) ≡ Some (row rows k).step
  -- its bench is the lowest that is free then
  pub lowest_free : (k : ℕ) → k < length rows → free benches (beginning rows k) ≡ Some (row rows k).bench
  -- it lasts for the step's minutes
  pub takes : All (Takes ss) rows
  -- it begins at once, or when an earlier row ends
  pub at_an_end : (k : ℕ) → k < length rows → ((row rows k).start ≡ 0) ⊎ Has (λ r. r.end ≡ (row rows k).start) (take k rows)
  -- at no minute is a bench free while a step is ready
  pub none_idle : (t : ℕ) → WorkConserving benches ss w (moment t (started t rows))
  -- the rows are those of the way's steps
  pub whole : (i : ℕ) → w i ≡ true → Has (λ r. r.step ≡ i) rows
  pub member : All (λ r. w r.step ≡ true) rows
