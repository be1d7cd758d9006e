-- The next step marks its target, and at the end all steps after step 0 have.
use Rattle.std.proofs.Common.{◌≡◌, ◌+◌, ◌-◌, ◌<◌, List, true, length, get_or, take, drop, sym, refl, ap, ◌∙◌, arith}
use Rattle.std.proofs.lemmas.List.{take_more, take_all, take_rest, length-set, length-drop, get_or-drop}
use Rattle.steps.specs.declared.step.Step.{Step}
use Rattle.steps.specs.Limits.{max_steps}
use Rattle.steps.specs.Sheet.{blank, step, Sized, Descending}
use Rattle.steps.proofs.Repeats.{repeated}
use Rattle.plans.specs.Leaves.{fed}
use Rattle.paths.proofs.Feeding.{marked_more, fed_above}
use Rattle.paths.proofs.feeders.fed_steps.Goals as goal

-- the steps after step 0
after_first : (ss : List Step) → take (length ss - 1) (drop 1 ss) ≡ drop 1 ss
after_first ss = take_rest ss 1

inside : (ss : List Step) → Sized max_steps ss → Descending ss → (i : _) → i < length (take (length ss - 1) (drop 1 ss)) → (get_or (take (length ss - 1) (drop 1 ss)) i blank).target < max_steps
inside ss size low i h =
    let items = take (length ss - 1) (drop 1 ss) in
    let rest = after_first ss in
    let is : get_or items i blank ≡ step ss (1 + i) = ap (λ xs. get_or xs i blank) rest ∙ get_or-drop 1 ss i blank in
    let more : 1 + i < length ss = omega (arith, h, ap length rest, length-drop 1 ss) in
    omega (arith, low (1 + i) (omega arith) more, ap (λ (s : Step). s.target) is)

pub loop-step-init : goal.loop-step-init
loop-step-init c = (refl, λ k. repeated max_steps k _)

pub bounds-fed-step : goal.bounds-fed-step
bounds-fed-step c = inside c.args.steps.now c.requires.size c.requires.descending c.loop-step.step-index c.loop-step-test.true

pub loop-step-preserved : goal.loop-step-preserved
loop-step-preserved c =
    let ss = c.args.steps.now in
    let items = take (length ss - 1) (drop 1 ss) in
    let i = c.loop-step.step-index in
    let s = get_or items i blank in
    let bs = c.loop-step.fed in (
      length-set bs s.target true ∙ c.loop-step.invariant.0,
      λ k.
          marked_more bs (take i items) s (omega (arith, c.loop-step.invariant.0, inside ss c.requires.size c.requires.descending i c.loop-step-test.true)) c.loop-step.invariant.1 k
          ∙ ap (fed k) (sym (take_more items i blank c.loop-step-test.true)),
    )

pub returns : goal.returns
returns c k h =
    let ss = c.args.steps.now in
    c.loop-step.invariant.1 k
    ∙ ap (fed k) (take_all c.loop-step.step-index _ c.loop-step-test.false ∙ after_first ss)
    ∙ fed_above ss c.requires.descending k
