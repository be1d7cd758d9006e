-- How far the sheet is written.
use Rattle.std.proofs.Common.{◌≡◌, ◌+◌, ◌*◌, take}
use Rattle.std.specs.List.{flat_map}
use Rattle.buffer.specs.Put.{put}
use Rattle.job_format.specs.Encoding.{step_bytes}
use Rattle.jobfile.proofs.storing.store.Given as goal

-- the steps so far stand behind the head
abbrev pub invariant-loop-step : goal.invariant-loop-step
invariant-loop-step l = (l.at ≡ 6 + 14 * l.step-index) × (l.buffer ≡ put l.initial.buffer 6 (flat_map step_bytes (take l.step-index l.steps)))
