-- The plan of a sheet's steps: the planned way, carried out by the dispatch rule.
use Rattle.std.specs.Prelude.{ℕ, List, [], ◌++◌, length, drop, Some, None, Option}
use Rattle.std.specs.Option.{option_map}
use Rattle.steps.specs.declared.row.Row.{Row}
use Rattle.steps.specs.declared.step.Step.{Step}
use Rattle.steps.specs.Placing.{Placing}
use Rattle.plans.specs.declared.Plan.{Plan as Choice}
use Rattle.plans.specs.Plan.{planned, planned_way}
use Rattle.schedules.specs.Dispatch.{timetable, finish}
use Rattle.planning.specs.declared.Plan.{Plan}

-- the rows of the way that is chosen
abbrev pub chosen_rows : Placing → ℕ → List Step → Choice → List Row
chosen_rows p benches ss c = timetable benches ss p (planned_way ss c)

abbrev pub chosen_plan : Placing → ℕ → List Step → Choice → Plan
chosen_plan p benches ss c = record { score = c.score; finish = finish benches ss p (planned_way ss c); rows = length (chosen_rows p benches ss c) }

-- none where no way is open
abbrev pub plan_of : Placing → ℕ → List Step → Option Plan
plan_of p benches ss = option_map (chosen_plan p benches ss) (planned benches ss)

abbrev pub or_no_rows : Option (List Row) → List Row
or_no_rows None = []
or_no_rows (Some rows) = rows

abbrev pub rows_of : Placing → ℕ → List Step → List Row
rows_of p benches ss = or_no_rows (option_map (chosen_rows p benches ss) (planned benches ss))

-- a table with these rows in its front
abbrev pub written : List Row → List Row → List Row
written rows table = rows ++ drop (length rows) table
