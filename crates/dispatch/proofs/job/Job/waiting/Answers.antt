-- One step more is looked at, from the highest down; the feeders of a step are all above it.
use Rattle.std.proofs.Common.{◌≡◌, ℕ, suc, ◌-◌, ◌<◌, false, not, length, get_or, drop, true, sym, refl, ap, ◌∙◌, subst, arith}
use Rattle.std.proofs.lemmas.List.{at_drop_all, length-set}
use Rattle.steps.specs.Limits.{max_steps}
use Rattle.steps.specs.Sheet.{step}
use Rattle.steps.proofs.Repeats.{repeated}
use Rattle.schedules.specs.Dispatch.{fed}
use Rattle.dispatch.specs.Members.{members}
use Rattle.dispatch.specs.Tracking.{done_by}
use Rattle.dispatch.proofs.Waiting.{waits_same, waits_more, fed_above}
use Rattle.dispatch.proofs.job.Job.waiting.Goals as goal

pub loop-k-init : goal.loop-k-init
loop-k-init c =
    let ss = c.args.self.now.paths.now.steps.now in
    let done = done_by c.args.run.now.time c.args.run.now.ends in
    (c.args.self.now.paths.now.size.0, refl, λ i h. repeated max_steps i false ∙ sym (at_drop_all (λ us. not (fed (members c.args.self.now.way.now) done i (length ss) us)) ss (length ss) (omega arith)))

pub loop-k-preserved-then-is_pending : goal.loop-k-preserved-then-is_pending
loop-k-preserved-then-is_pending c =
    let ss = c.args.self.now.paths.now.steps.now in
    let w = members c.args.self.now.way.now in
    let done = done_by c.args.run.now.time c.args.run.now.ends in
    let k = c.loop-k.k - 1 in
    let here : k < length ss = omega arith in
    let above : c.loop-k.k ≡ suc k = omega arith in
    let low = c.args.self.now.paths.now.descending k (omega arith) here in (
      omega arith,
      length-set c.loop-k.waiting (step ss k).target true ∙ c.loop-k.invariant.1,
      waits_more w done ss c.loop-k.waiting k here (sym c.if-is_pending.ensures) (omega (arith, low, here, c.args.self.now.paths.now.size.1, c.loop-k.invariant.1))
          (subst (λ j. (i : ℕ) → i < length ss → get_or c.loop-k.waiting i false ≡ not (fed w done i j (drop j ss))) above c.loop-k.invariant.2),
    )

pub loop-k-preserved : goal.loop-k-preserved
loop-k-preserved c =
    let ss = c.args.self.now.paths.now.steps.now in
    let w = members c.args.self.now.way.now in
    let done = done_by c.args.run.now.time c.args.run.now.ends in
    let k = c.loop-k.k - 1 in
    let above : c.loop-k.k ≡ suc k = omega arith in (
      omega arith,
      c.loop-k.invariant.1,
      λ i h. c.loop-k.invariant.2 i h ∙ ap (λ j. not (fed w done i j (drop j ss))) above ∙ waits_same w done ss i k (omega arith) (sym c.if-is_pending.ensures),
    )

pub returns : goal.returns
returns c i h =
    let k = c.loop-k.k in
    let first : k ≡ 1 = omega (arith, c.loop-k.invariant.0, c.loop-k-test.false) in
    c.loop-k.invariant.2 i h ∙ ap not (fed_above (members c.args.self.now.way.now) (done_by c.args.run.now.time c.args.run.now.ends) c.args.self.now.paths.now.steps.now c.args.self.now.paths.now.descending i i k (omega (arith, first)) (omega (arith, first)) h)
