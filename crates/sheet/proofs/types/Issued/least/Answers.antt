-- The table is filled where it is long enough, and its first entry is the answer.
use Rattle.std.proofs.Common.{◌<◌, ◌≤◌, ltb, length, sym, refl, ap, ◌∙◌, subst, arith}
use Rattle.std.proofs.lemmas.Bool.{cond-true, cond-false, lt-ltb, le-ltb}
use Rattle.least.specs.Entries.{Filled}
use Rattle.sheet.specs.Least.{reported}
use Rattle.sheet.proofs.Promises.{promised, first_least, told_least}
use Rattle.sheet.proofs.types.Issued.least.Goals as goal

pub returns-then-table-len : goal.returns-then-table-len
returns-then-table-len g c =
    let d = c.args.self.now in
    let m = g.M.Measure.meaning c.args.measure.now in
    let number = g.M.Measure.number c.args.measure.now in
    let ss = d.steps.items in
    let short : length c.args.table.now < length ss = omega (arith, c.len.ensures.value, c.if-table-len.true) in
    promised _ m number ss c.args.table.now c.args.table.now d.sound.descending (d.sound.size.0) _
    (sym (cond-true (ltb (length c.args.table.now) (length ss)) _ _ (lt-ltb _ _ short)))
    (λ _. refl)
    (λ room. absurd (omega (arith, short, room)))

pub returns : goal.returns
returns g c =
    let d = c.args.self.now in
    let m = g.M.Measure.meaning c.args.measure.now in
    let number = g.M.Measure.number c.args.measure.now in
    let ss = d.steps.items in
    let before = c.args.table.now in
    let after = c.fill.new.table in
    let some : 0 < length ss = d.sound.size.0 in
    let room : length ss ≤ length before = omega (arith, c.len.ensures.value, c.if-table-len.false) in
    let filled = subst (λ x. Filled m number x before after) c.steps.ensures.value c.fill.ensures in
    let first = first_least _ m number ss before after _ c.least.result some (omega (arith, room, c.fill.auto.table)) c.index-table-0.is c.least.ensures filled in
    promised _ m number ss before after d.sound.descending some _
    (told_least _ m number ss before after _ _ c.ok_or.ensures.value ∙ ap reported first ∙ sym (cond-false (ltb (length before) (length ss)) _ _ (le-ltb _ _ room)))
    (λ short. absurd (omega (arith, short, room)))
    (λ _. filled)
