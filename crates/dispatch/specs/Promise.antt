-- What is promised of a dispatched way.
use Rattle.std.specs.Prelude.{◌≡◌, ℕ, ◌+◌, ◌-◌, ◌*◌, ◌≤◌, List, length, take, drop}
use Rattle.steps.specs.declared.row.Row.{Row}
use Rattle.steps.specs.declared.step.Step.{Step}
use Rattle.steps.specs.Placing.{Placing}
use Rattle.ways.specs.Ways.{Set}
use Rattle.schedules.specs.Dispatch.{timetable, finish}
use Rattle.schedules.specs.Rule.{Dispatched}
use Rattle.ways.specs.Sums.{minutes_of, chain_of}
use Rattle.schedules.specs.Timetables.{ValidTimetable}
use Rattle.dispatch.specs.declared.job.turning.Timetable.{Timetable}

-- of the answer t, with the rows that the caller lent before and after
pub record Dispatches (benches : ℕ) (ss : List Step) (w : Set) (p : Placing) (before after : List Row) (t : Timetable) : Type 0 where
  -- the front rows are the timetable that the dispatch rule gives, and those behind them are kept
  pub rows : take t.rows after ≡ timetable benches ss p w
  pub count : t.rows ≡ length (timetable benches ss p w)
  pub kept : drop t.rows after ≡ drop t.rows before
  pub finish : t.finish ≡ finish benches ss p w
  -- they are the one list of rows that meets the rule, and a valid timetable of the way
  pub rule : Dispatched benches ss w p (take t.rows after)
  pub valid : ValidTimetable benches ss w (take t.rows after)
  -- how late the way can end, whatever the policy
  pub bound : benches * t.finish ≤ minutes_of ss w + (benches - 1) * chain_of ss w
