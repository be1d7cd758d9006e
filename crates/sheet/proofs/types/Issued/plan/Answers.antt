-- The rows are written where they are enough and a way is open.
use Rattle.std.proofs.Common.{length, sym, ap, ◌∙◌, arith}
use Rattle.std.proofs.lemmas.Bool.{cond-true, cond-false, lt-ltb, le-ltb}
use Rattle.planning.specs.Planning.{plan_of, rows_of, written}
use Rattle.sheet.specs.Model.{issued_sheet}
use Rattle.sheet.specs.Planning.{plan_or_none}
use Rattle.sheet.proofs.Plans.{promised, told_or}
use Rattle.sheet.proofs.types.Issued.plan.Goals as goal

pub returns-then-rows-len : goal.returns-then-rows-len
returns-then-rows-len g c =
    let d = c.args.self.now in
    let short = lt-ltb (length c.args.rows.now) (length d.steps.items) (omega (arith, c.len.ensures.value, c.if-rows-len.true)) in
    promised (g.P.Policy.placing c.args.policy.now) (issued_sheet d) d.sound.descending (omega (arith, d.sound.crewed.0)) c.args.rows.now c.args.rows.now _
    (sym (cond-true _ _ _ short)) (sym (cond-true _ _ _ short))

pub returns : goal.returns
returns g c =
    let d = c.args.self.now in
    let p = g.P.Policy.placing c.args.policy.now in
    let before = c.args.rows.now in
    let room = le-ltb (length before) (length d.steps.items) (omega (arith, c.len.ensures.value, c.if-rows-len.false)) in
    let made = c.make_plan-plan.ensures in
    promised p (issued_sheet d) d.sound.descending (omega (arith, d.sound.crewed.0)) before c.make_plan-plan.new.rows _
    (told_or _ _ c.ok_or.ensures.value ∙ ap plan_or_none (made.answer ∙ ap (plan_of p d.benches) c.steps.ensures.value) ∙ sym (cond-false _ _ _ room))
    (made.rows ∙ ap (λ us. written (rows_of p d.benches us) before) c.steps.ensures.value ∙ sym (cond-false _ _ _ room))
