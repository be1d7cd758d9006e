-- What a run stands for, and what it does next.
use Rattle.std.specs.Prelude.{ℕ, ◌+◌, List, [], ◌∷◌, reverse, take, Some, None, Option, slice_index_or}
use Rattle.steps.specs.declared.ready.Ready.{Ready}
use Rattle.steps.specs.declared.row.Row.{Row}
use Rattle.steps.specs.Placing.{Placing, no_ready}
use Rattle.schedules.specs.Dispatch.{State, moment}
use Rattle.dispatch.specs.declared.run.Run.{Run}
use Rattle.dispatch.specs.Tracking.{Tracks}

-- the time, and the rows in the caller's table, of which the newest is the last
abbrev pub state : Run → List Row → State
state run rows = moment run.time (reverse (take run.count rows))

abbrev pub Tracked : Run → List Row → Type 0
Tracked run rows = Tracks (take run.count rows) run.ends

-- the entry at the place that the policy names, none where nothing is ready
abbrev pub chosen : Placing → List Ready → Option Ready
chosen p [] = None
chosen p (r ∷ rs) = Some (slice_index_or (r ∷ rs) (p.place (r ∷ rs)) no_ready)

-- the row of the step that begins now, where one is chosen and a bench is free
abbrev pub next_row : ℕ → Option Ready → Option ℕ → Option Row
next_row time None b = None
next_row time (Some r) None = None
next_row time (Some r) (Some b) = Some (record { step = r.step; bench = b; start = time; end = time + r.minutes })
