-- The chosen step on the lowest free bench, if there are both.
use Rattle.std.proofs.Common.{◌≡◌, ◌+◌, Some, None, sym, ap, ◌∙◌, ap₂}
use Rattle.schedules.specs.Dispatch.{moment, free}
use Rattle.dispatch.specs.Running.{chosen, next_row}
use Rattle.dispatch.specs.Tracking.{ready_by}
use Rattle.dispatch.proofs.Listing.{first_free}
use Rattle.dispatch.proofs.Turned.{no_bench}
use Rattle.dispatch.proofs.job.Job.next_row.Goals as goal

pub returns-in_err-bench : goal.returns-in_err-bench
returns-in_err-bench g c =
    let job = c.args.self.now in
    let run = c.args.run.now in
    let found = chosen (g.P.Policy.placing c.args.policy.now) (ready_by job.paths.now.steps.now job.paths.now.tails job.way.now run.time run.ends) in
    let none : free job.benches (moment run.time c.args.rows.now) ≡ None = sym (first_free (moment run.time c.args.rows.now) 0 job.benches) ∙ sym c.lowest_free.ensures ∙ c.in_err-bench.was in
    c.from_residual.ensures ∙ sym (ap (next_row run.time found) none ∙ no_bench run.time found)

pub returns : goal.returns
returns g c =
    let job = c.args.self.now in
    let run = c.args.run.now in
    let ready = c.in_ok-ready.ready in
    let found : chosen (g.P.Policy.placing c.args.policy.now) (ready_by job.paths.now.steps.now job.paths.now.tails job.way.now run.time run.ends) ≡ Some ready = sym c.choose.ensures ∙ c.in_ok-ready.was in
    let bench : free job.benches (moment run.time c.args.rows.now) ≡ Some c.in_ok-bench.bench = sym (first_free (moment run.time c.args.rows.now) 0 job.benches) ∙ sym c.lowest_free.ensures ∙ c.in_ok-bench.was in
    ap (λ n. Some (record { step = ready.step; bench = c.in_ok-bench.bench; start = run.time; end = run.time + n })) c.from.ensures ∙ sym (ap₂ (next_row run.time) found bench)
