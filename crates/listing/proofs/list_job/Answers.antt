-- What is read is what the file decodes to, and the text says that.
use Rattle.std.proofs.Common.{◌≡◌, ℕ, ◌+◌, List, length, Ok, sym, ap, ◌∙◌, subst, arith, length-append}
use Rattle.steps.specs.declared.step.Step.{Step}
use Rattle.steps.specs.Limits.{max_steps}
use Rattle.steps.specs.Numbers.{number}
use Rattle.steps.specs.Sheet.{WellFormed, sheet_of}
use Rattle.buffer.specs.Put.{put}
use Rattle.buffer.proofs.Puts.{put_front, written_first, written_more}
use Rattle.job_format.specs.Decoding.{decode}
use Rattle.sheet.specs.Model.{issued_sheet}
use Rattle.listing.specs.Text.{sheet_lines, least_figures, least_text, listing, turned_down, text_of}
use Rattle.listing.proofs.Lines.{listing_fits}
use Rattle.listing.proofs.Texts.{accepted, refused, shown}
use Rattle.listing.proofs.list_job.Goals as goal

same_sheet : {ss ss' : List Step} {b b' : ℕ} → ss ≡ ss' → b ≡ b' → sheet_of ss b ≡ sheet_of ss' b'
same_sheet e f = cc

pub put_sheet-at-requires : goal.put_sheet-at-requires
put_sheet-at-requires c =
    let s = sheet_of c.steps.result.now c.benches.result in
    let e : s ≡ issued_sheet c.read.new.self = same_sheet c.steps.ensures.value c.benches.ensures in
    let fits = listing_fits s (subst (WellFormed max_steps) (sym e) c.steps.ensures.sound) in
    omega (arith, fits, length-append (sheet_lines s) (least_text (least_figures s.steps)), c.if-buffer-lt-LISTING_BYTES.false)

pub put_least-requires : goal.put_least-requires
put_least-requires c =
    let s = sheet_of c.steps.result.now c.benches.result in
    let e : s ≡ issued_sheet c.read.new.self = same_sheet c.steps.ensures.value c.benches.ensures in
    let fits = listing_fits s (subst (WellFormed max_steps) (sym e) c.steps.ensures.sound) in
    let line = ap (λ f. length (least_text f)) (c.least_figures.ensures ∙ ap least_figures (sym c.steps.ensures.value)) in
    omega (arith, fits, line, length-append (sheet_lines s) (least_text (least_figures s.steps)), c.put_sheet-at.ensures.end, c.put_sheet-at.auto.buffer, c.if-buffer-lt-LISTING_BYTES.false)

pub returns-in-Ok : goal.returns-in-Ok
returns-in-Ok c =
    let d = decode max_steps c.args.file.now in
    let b = c.args.buffer.now in
    let s = sheet_of c.steps.result.now c.benches.result in
    let e : s ≡ issued_sheet c.read.new.self = same_sheet c.steps.ensures.value c.benches.ensures in
    let fits = listing_fits s (subst (WellFormed max_steps) (sym e) c.steps.ensures.sound) in
    let line = c.least_figures.ensures ∙ ap least_figures (sym c.steps.ensures.value) in
    let text = ap text_of (accepted d _ (sym c.in-Ok.ensures.answer)) ∙ ap listing (sym c.in-Ok.ensures.after) ∙ ap listing (sym e) in
    let t = shown c.args.file.now b (listing s) c.if-buffer-lt-LISTING_BYTES.false text in
    let w₁ = written_first b 0 (sheet_lines s) _ _ c.put_sheet-at.ensures.text (omega (arith, c.put_sheet-at.ensures.end)) in
    let w₂ = written_more b 0 (sheet_lines s) _ _ (least_text (least_figures s.steps)) _ _ w₁ (omega (arith, fits, length-append (sheet_lines s) (least_text (least_figures s.steps)), c.if-buffer-lt-LISTING_BYTES.false)) (c.put_least.ensures.text ∙ ap (λ f. put c.put_sheet-at.new.buffer c.put_sheet-at.result (least_text f)) line) (c.put_least.ensures.end ∙ ap (λ f. c.put_sheet-at.result + length (least_text f)) line) in
    record {
      answer = ap Ok (omega (arith, w₂.end)) ∙ t.0;
      after = w₂.text ∙ put_front b (listing s) ∙ t.1;
    }

pub returns-in-Err : goal.returns-in-Err
returns-in-Err c =
    let d = decode max_steps c.args.file.now in
    let e = turned_down (number c.in-Err.field-0.refusal, c.in-Err.field-0.place) in
    let text = ap text_of (refused d _ (sym c.in-Err.ensures.answer)) in
    let t = shown c.args.file.now c.args.buffer.now e c.if-buffer-lt-LISTING_BYTES.false text in
    record {
      answer = ap Ok c.put_turned_down.ensures.end ∙ t.0;
      after = c.put_turned_down.ensures.text ∙ put_front c.args.buffer.now e ∙ t.1;
    }
