-- What plan answers, and what its answer and its rows are in terms of ways and timetables.
use Rattle.std.specs.Prelude.{◌≡◌, ℕ, ◌-◌, ◌*◌, ◌≤◌, cond, List, length, take, Some, None, Ok, Err, Option, Result, nat_lt}
use Rattle.steps.specs.declared.refusal.Refusal.{Refusal}
use Rattle.steps.specs.declared.refusal.Refusal.TheVariants.{TableTooShort, NoOpenWay}
use Rattle.steps.specs.declared.row.Row.{Row}
use Rattle.steps.specs.declared.step.Step.{Step}
use Rattle.steps.specs.Numbers.{number, told}
use Rattle.steps.specs.Placing.{Placing}
use Rattle.steps.specs.Sheet.{Sheet}
use Rattle.ways.specs.Ways.{Set, Way, Open}
use Rattle.plans.specs.Rule.{IsPlanned}
use Rattle.plans.specs.Scores.{score_of}
use Rattle.schedules.specs.Rule.{Dispatched}
use Rattle.schedules.specs.Timetables.{ValidTimetable, latest, end_of}
use Rattle.planning.specs.declared.Plan.{Plan}
use Rattle.planning.specs.Planning.{plan_of, rows_of, written}
use Rattle.sheet.specs.Least.{Shut}

abbrev pub plan_or_none : Option Plan → Result Plan ℕ
plan_or_none None = Err (number NoOpenWay)
plan_or_none (Some plan) = Ok plan

-- the answer, by the number of rows that are lent
abbrev pub plan_answer : Placing → Sheet → ℕ → Result Plan ℕ
plan_answer p s room = cond (nat_lt room (length s.steps)) (Err (number TableTooShort)) (plan_or_none (plan_of p s.benches s.steps))

-- the rows that were lent, afterwards
abbrev pub plan_rows : Placing → Sheet → List Row → List Row
plan_rows p s rows = cond (nat_lt (length rows) (length s.steps)) rows (written (rows_of p s.benches s.steps) rows)

-- an open way has this score exactly when no open way has a lower one
abbrev pub LeastScore : ℕ → List Step → ℕ → Type 0
LeastScore benches ss score = (w : Set) → Way ss w → Open ss w →
    (score_of benches ss w ≡ score → (v : Set) → Way ss v → Open ss v → score_of benches ss w ≤ score_of benches ss v)
    × (((v : Set) → Way ss v → Open ss v → score_of benches ss w ≤ score_of benches ss v) → score_of benches ss w ≡ score)

-- THE LIMIT: m times this finish is at most 2 m - 1 times that of any valid timetable of any open way
abbrev pub WithinLimit : ℕ → List Step → ℕ → Type 0
WithinLimit m ss finish = (w : Set) → Way ss w → Open ss w → (rows : List Row) → ValidTimetable m ss w rows → m * finish ≤ (2 * m - 1) * latest rows

-- of a plan that is reported, and of the rows that are then in the front of the table
pub record Planned (p : Placing) (s : Sheet) (rows : List Row) (plan : Plan) : Type 0 where
  -- the planned way: it is open, keeps the rule of the planned way, and is the only one that does
  pub way : Set
  pub is_way : Way s.steps way
  pub is_open : Open s.steps way
  pub chosen : IsPlanned s.benches s.steps way
  pub only_way : (v : Set) → IsPlanned s.benches s.steps v → (k : ℕ) → v k ≡ way k
  -- the score is that of this way, and the least
  pub score : plan.score ≡ score_of s.benches s.steps way
  pub least : LeastScore s.benches s.steps plan.score
  -- the rows are the one list that the dispatch rule admits for this way and policy, and a valid timetable of it
  pub count : plan.rows ≡ length rows
  pub dispatched : Dispatched s.benches s.steps way p rows
  pub only_rows : (qs : List Row) → Dispatched s.benches s.steps way p qs → qs ≡ rows
  pub valid : ValidTimetable s.benches s.steps way rows
  -- the finish is the end of step 0, the latest of all ends, and within the limit
  pub finish : plan.finish ≡ end_of 0 rows
  pub last : plan.finish ≡ latest rows
  pub limit : WithinLimit s.benches s.steps plan.finish

-- all that is promised of plan, for a policy of this meaning, on this sheet, with the rows before and after
pub record PlanPromise (p : Placing) (s : Sheet) (before after : List Row) (r : Result Plan Refusal) : Type 0 where
  -- the answer, and when it is which refusal; and every row: those behind the timetable are kept, and all on a refusal
  pub answer : told r ≡ plan_answer p s (length before)
  pub rows : after ≡ plan_rows p s before
  pub refused : (e : ℕ) → told r ≡ Err e → after ≡ before
  -- what is reported
  pub planned : (plan : Plan) → told r ≡ Ok plan → Planned p s (take plan.rows after) plan
  -- with rows enough, "no open way" is said exactly when there is none
  pub none : length s.steps ≤ length before → (told r ≡ Err (number NoOpenWay) → Shut s.steps) × (Shut s.steps → told r ≡ Err (number NoOpenWay))
