-- What is proved of timetables.
use Rattle.std.specs.Prelude.{◌≡◌, ℕ, ◌+◌, ◌-◌, ◌*◌, ◌<◌, ◌≤◌, List}
use Rattle.steps.specs.declared.row.Row.{Row}
use Rattle.steps.specs.declared.step.Step.{Step}
use Rattle.steps.specs.Placing.{Placing}
use Rattle.steps.specs.Sheet.{Descending}
use Rattle.ways.specs.Sums.{minutes_of, chain_of}
use Rattle.ways.specs.Ways.{Set, Way}
use Rattle.schedules.specs.Timetables.{InOrder, latest, end_of, ValidTimetable}
use Rattle.schedules.specs.Dispatch.{State, final, timetable, finish}
use Rattle.schedules.specs.Greedy.{Greedy}
use Rattle.schedules.specs.Rule.{Dispatched}

-- what dispatching gives
pub record CarriedOut (benches : ℕ) (ss : List Step) (w : Set) (p : Placing) : Type 0 where
  pub valid : ValidTimetable benches ss w (timetable benches ss p w)
  pub in_order : InOrder (timetable benches ss p w)
  -- step 0 ends last, and then the run is over
  pub finishes : finish benches ss p w ≡ latest (timetable benches ss p w)
  pub over : (final benches ss p w).now ≡ latest (timetable benches ss p w)

-- whatever the policy, dispatching gives a valid timetable
abbrev pub DispatchValid : Type 0
DispatchValid = (benches : ℕ) (ss : List Step) (w : Set) (p : Placing) → 0 < benches → Descending ss → Way ss w → CarriedOut benches ss w p

-- whichever ready step begins on whichever free bench, benches times the latest end is at most the way's minutes and
-- (benches - 1) times its chain
abbrev pub GreedyBound : Type 0
GreedyBound =
    (benches : ℕ) (ss : List Step) (w : Set) → Descending ss → Way ss w → (st : State) → Greedy benches ss w st →
    benches * latest st.rows ≤ minutes_of ss w + (benches - 1) * chain_of ss w

abbrev pub DispatchBound : Type 0
DispatchBound =
    (benches : ℕ) (ss : List Step) (w : Set) (p : Placing) → Descending ss → Way ss w →
    benches * finish benches ss p w ≤ minutes_of ss w + (benches - 1) * chain_of ss w

-- no valid timetable ends before the critical path does, nor before its benches have worked all minutes
abbrev pub LowerBounds : Type 0
LowerBounds =
    (benches : ℕ) (ss : List Step) (w : Set) (rows : List Row) → Descending ss → Way ss w → ValidTimetable benches ss w rows →
    (chain_of ss w ≤ latest rows) × (minutes_of ss w ≤ benches * latest rows)

-- in every valid timetable step 0 ends last
abbrev pub FirstEndsLast : Type 0
FirstEndsLast =
    (benches : ℕ) (ss : List Step) (w : Set) (rows : List Row) → Descending ss → Way ss w → ValidTimetable benches ss w rows →
    end_of 0 rows ≡ latest rows

-- dispatching meets its rule
abbrev pub DispatchMeetsRule : Type 0
DispatchMeetsRule =
    (benches : ℕ) (ss : List Step) (w : Set) (p : Placing) → 0 < benches → Descending ss → Way ss w →
    Dispatched benches ss w p (timetable benches ss p w)

-- and nothing else does
abbrev pub RuleUnique : Type 0
RuleUnique =
    (benches : ℕ) (ss : List Step) (w : Set) (p : Placing) (xs ys : List Row) →
    Dispatched benches ss w p xs → Dispatched benches ss w p ys → xs ≡ ys
