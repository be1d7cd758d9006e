-- So many turns are made.
use Rattle.std.proofs.Common.{◌≡◌, ◌≤◌, length, drop}
use Rattle.schedules.specs.Dispatch.{turn, turns, empty_state}
use Rattle.dispatch.specs.Members.{members}
use Rattle.dispatch.specs.Running.{state, Tracked}
use Rattle.dispatch.proofs.job.Job.make_turns.Given as goal

abbrev pub invariant-loop-turns : goal.invariant-loop-turns
invariant-loop-turns g l =
    (state l.run l.rows ≡ turns l._turns (turn l.self.benches l.self.paths.now.steps.now (g.P.Policy.placing l.policy) (members l.self.way.now)) empty_state)
    × Tracked l.run l.rows
    × (l.run.count ≤ length l.rows)
    × (drop l.run.count l.rows ≡ drop l.run.count l.initial.rows)
