-- The new step is within the limits, and the sheet stays well-formed.
use Rattle.std.proofs.Common.{◌<◌, length, Ok, sym, ap, ◌∙◌, subst, arith}
use Rattle.steps.specs.Limits.{max_steps}
use Rattle.steps.specs.Sheet.{WellFormed, sheet_of}
use Rattle.sheet.specs.Model.{draft_sheet}
use Rattle.sheet.proofs.Growing.{accepted, grown, decoded, not_full}
use Rattle.sheet.proofs.types.Draft.add.Goals as goal

pub invariant_of-self : goal.invariant_of-self
invariant_of-self c =
    let d = c.args.self.now in
    let room : length d.steps.items < max_steps = not_full _ _ max_steps c.is_full.ensures.value c.if-is_full.false c.is_full.ensures.fits in
    let more = grown max_steps d.steps.items d.benches _ d.sound room (omega (arith, c.len-number.ensures.value, c.if-target-number.false)) (c.if-minutes-lt1.false, c.if-minutes-gt-MAX_MINUTES.false) c.if-fee-gt-MAX_FEE.false in
    record { sound = subst (λ ss. WellFormed max_steps (sheet_of ss d.benches)) (sym c.push.ensures.items) more }

pub returns : goal.returns
returns c =
    let d = c.args.self.now in
    let n = c.len-number.ensures.value in
    let a = accepted (draft_sheet d) c.args.target c.args.join c.args.minutes c.args.fee c.in_ok-join.join (not_full _ _ max_steps c.is_full.ensures.value c.if-is_full.false c.is_full.ensures.fits) (omega (arith, n, c.if-target-number.false)) (decoded c.args.join c.in_ok-join.join c.in_ok-join.ensures) c.if-minutes-lt1.false c.if-minutes-gt-MAX_MINUTES.false c.if-fee-gt-MAX_FEE.false in
    record {
      answer = ap Ok n ∙ sym a.0;
      after = ap (λ ss. sheet_of ss d.benches) c.push.ensures.items ∙ sym a.1;
    }
