-- The steps from k on are looked at.
use Rattle.std.proofs.Common.{◌≡◌, ℕ, ◌<◌, ◌≤◌, false, not, length, get_or, drop}
use Rattle.steps.specs.Limits.{max_steps}
use Rattle.schedules.specs.Dispatch.{fed}
use Rattle.dispatch.specs.Members.{members}
use Rattle.dispatch.specs.Tracking.{done_by}
use Rattle.dispatch.proofs.job.Job.waiting.Given as goal

abbrev pub invariant-loop-k : goal.invariant-loop-k
invariant-loop-k l =
    (1 ≤ l.k)
    × (length l.waiting ≡ max_steps)
    × ((i : ℕ) → i < length l.self.paths.now.steps.now → get_or l.waiting i false ≡ not (fed (members l.self.way.now) (done_by l.run.time l.run.ends) i l.k (drop l.k l.self.paths.now.steps.now)))
