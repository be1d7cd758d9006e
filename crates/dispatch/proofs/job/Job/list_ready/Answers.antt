-- A step that is ready is listed, and no other.
use Rattle.std.proofs.Common.{◌≡◌, ℕ, ◌+◌, ◌<◌, ◌++◌, length, drop, get_or, sym, ap, ◌∙◌, append-nil, arith}
use Rattle.std.proofs.lemmas.List.{at_drop_all}
use Rattle.schedules.specs.Dispatch.{ready_among, readies}
use Rattle.dispatch.specs.Members.{members}
use Rattle.dispatch.specs.Tracking.{started_by, done_by}
use Rattle.dispatch.proofs.Listing.{listed_more, listed_same, not_waiting}
use Rattle.dispatch.proofs.job.Job.list_ready.Goals as goal
use Rattle.dispatch.proofs.job.Job.list_ready.Goals.{then-may_begin, else-may_begin}

pub loop-i-init : goal.loop-i-init
loop-i-init c =
    let ss = c.args.self.now.paths.now.steps.now in
    let test = ready_among ss (members c.args.self.now.way.now) (started_by c.args.run.now.ends) (done_by c.args.run.now.time c.args.run.now.ends) in
    (omega (arith, ap length c.clear.ensures), ap (λ xs. xs ++ readies test (λ k. get_or c.args.self.now.paths.now.tails k 0) 0 ss) c.clear.ensures)

pub push-requires : goal.push-requires
push-requires c =
    let room : length c.loop-i.ready.items < 256 = omega (arith, c.loop-i.invariant.0, c.loop-i-test.true, c.args.self.now.paths.now.size.1) in
    (omega arith, room)

pub loop-i-preserved : goal.loop-i-preserved
loop-i-preserved c =
    let ss = c.args.self.now.paths.now.steps.now in
    let w = members c.args.self.now.way.now in
    let started = started_by c.args.run.now.ends in
    let done = done_by c.args.run.now.time c.args.run.now.ends in
    let test = ready_among ss w started done in
    let tails : ℕ → ℕ = λ k. get_or c.args.self.now.paths.now.tails k 0 in
    let i = c.loop-i.i in
    let here : i < length ss = c.loop-i-test.true in
    let is : c.may_begin.result ≡ test i = c.may_begin.ensures ∙ not_waiting ss w started done i _ (c.waiting-waiting.ensures i here) in
    let low = c.loop-i.invariant.0 in
    elim c.if-may_begin.branch [
      | then-may_begin w ↦
          let one = w.push.ensures.len in
          simp (w.ready-is)
          (omega (arith, one, low), ap (λ xs. xs ++ readies test tails (i + 1) (drop (i + 1) ss)) w.push.ensures.items ∙ listed_more test tails ss i here c.loop-i.ready.items _ c.loop-i.invariant.1 (sym is ∙ w.if-may_begin.true))
      | else-may_begin w ↦
          simp (w.ready-is)
          (omega (arith, low), listed_same test tails ss i here c.loop-i.ready.items _ c.loop-i.invariant.1 (sym is ∙ w.if-may_begin.false))
    ]

pub returns : goal.returns
returns c =
    let ss = c.args.self.now.paths.now.steps.now in
    let listed = c.loop-i.ready.items in
    let test = ready_among ss (members c.args.self.now.way.now) (started_by c.args.run.now.ends) (done_by c.args.run.now.time c.args.run.now.ends) in
    sym (append-nil listed) ∙ ap (λ rs. listed ++ rs) (sym (at_drop_all (readies test (λ k. get_or c.args.self.now.paths.now.tails k 0) c.loop-i.i) ss c.loop-i.i c.loop-i-test.false)) ∙ c.loop-i.invariant.1
