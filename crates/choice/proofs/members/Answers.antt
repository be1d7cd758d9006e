-- One member more.
use Rattle.std.proofs.Common.{◌≡◌, ◌<◌, true, false, ◌≢◌, length, get_or, set, replicate, sym, ◌∙◌, subst, inl, inr, arith, below_more}
use Rattle.std.proofs.lemmas.Bool.{cases_lt}
use Rattle.std.proofs.lemmas.List.{get_or-set_same, get_or-set_other, length-set}
use Rattle.steps.specs.Limits.{max_steps}
use Rattle.steps.specs.Sheet.{step}
use Rattle.steps.proofs.Repeats.{repeated}
use Rattle.plans.specs.Limited.{taken_at}
use Rattle.choice.proofs.Reaching.{taken_first, taken_more, taken_past}
use Rattle.choice.proofs.members.Goals as goal

pub loop-k-init : goal.loop-k-init
loop-k-init c =
    let ss = c.args.paths.now.steps.now in
    let none = replicate max_steps false in
    let limit = c.args.limit in (
      length-set none 0 true,
      λ j h.
          let z : 0 ≡ j = omega (arith, h) in
          subst (λ v. get_or (set none 0 true) v false ≡ taken_at limit ss v) z (sym (taken_first limit ss c.args.paths.now.descending)),
      λ j h. get_or-set_other none 0 j true false (λ e. omega arith) ∙ repeated max_steps j false,
    )

pub loop-k-preserved : goal.loop-k-preserved
loop-k-preserved c =
    let ss = c.args.paths.now.steps.now in
    let way = c.loop-k.way in
    let k = c.loop-k.k in
    let on = c.comes_along.result in
    let inside : k < length ss = c.loop-k-test.true in
    let above : 0 < k = omega arith in
    let here : k < length way = omega (arith, c.loop-k.invariant.0, c.args.paths.now.size.1) in
    let led = c.loop-k.invariant.1 (step ss k).target (c.args.paths.now.descending k above inside) in (
      length-set way k on ∙ c.loop-k.invariant.0,
      below_more _ _
          (λ j h. let ne : j ≢ k = omega arith in get_or-set_other way k j on false ne ∙ c.loop-k.invariant.1 j h)
          (get_or-set_same way k on false here ∙ taken_more c.args.limit ss c.args.paths.now.descending c.settle_all-table.result c.settle_all-table.ensures way k above inside led on c.comes_along.ensures),
      λ j h. let ne : j ≢ k = omega arith in get_or-set_other way k j on false ne ∙ c.loop-k.invariant.2 j (omega arith),
    )

pub returns : goal.returns
returns c k =
    let ss = c.args.paths.now.steps.now in
    elim (cases_lt k c.loop-k.k) [
      | inl h ↦ c.loop-k.invariant.1 k h
      | inr h ↦ c.loop-k.invariant.2 k h ∙ sym (taken_past c.args.limit ss c.args.paths.now.descending k (omega arith) (omega (arith, h, c.loop-k-test.false)))
    ]
