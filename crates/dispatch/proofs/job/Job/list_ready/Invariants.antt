-- What is listed so far, with what is left, is the list.
use Rattle.std.proofs.Common.{◌≡◌, ◌≤◌, ◌++◌, length, get_or, drop}
use Rattle.schedules.specs.Dispatch.{ready_among, readies}
use Rattle.dispatch.specs.Members.{members}
use Rattle.dispatch.specs.Tracking.{started_by, done_by, ready_by}
use Rattle.dispatch.proofs.job.Job.list_ready.Given as goal

abbrev pub invariant-loop-i : goal.invariant-loop-i
invariant-loop-i l =
    (length l.ready.items ≤ l.i)
    × (l.ready.items ++ readies (ready_among l.self.paths.now.steps.now (members l.self.way.now) (started_by l.run.ends) (done_by l.run.time l.run.ends)) (λ k. get_or l.self.paths.now.tails k 0) l.i (drop l.i l.self.paths.now.steps.now)
    ≡ ready_by l.self.paths.now.steps.now l.self.paths.now.tails l.self.way.now l.run.time l.run.ends)
