-- The reader's answer is what is found at the record where it stands, and it goes on behind one that passes.
use Rattle.std.proofs.Common.{length, None, sym, refl, ap, ◌∙◌, arith}
use Rattle.std.specs.Result.{result_err}
use Rattle.steps.specs.Limits.{max_steps}
use Rattle.job_format.specs.Layout.{fault, kind}
use Rattle.jobfile.specs.Reading.{standing}
use Rattle.job_format.proofs.KindsPassed.{head_length, step_length}
use Rattle.job_format.proofs.Passing.{passes, room_left}
use Rattle.jobfile.proofs.Next.{next_judged, record_fits, part, handed_same, fielded, standing_behind}
use Rattle.jobfile.proofs.record.Reader.next.Goals as goal

pub returns-in-Err : goal.returns-in-Err
returns-in-Err c =
    let file = c.args.self.now.file.now in
    let s = standing c.args.self.now in
    let bytes = c.first-bytes.ensures ∙ part file s.place in
    let found = ap (λ b. fault max_steps s.stage s.steps b) (sym bytes) ∙ sym c.judge.ensures.refused ∙ ap result_err c.in-Err.is in
    record {
      file = refl;
      answer = sym (next_judged max_steps file s c.if-file-gt-MAX_FILE.false c.if-place-file.false _ found);
      fields = tt;
      after = refl;
    }

pub invariant_of-self : goal.invariant_of-self
invariant_of-self c =
    let bytes = c.first-bytes.ensures ∙ part c.args.self.now.file.now c.args.self.now.place in
    let fits = record_fits c.args.self.now.file.now c.args.self.now.place c.args.self.now.within in
    record { within = omega (arith, ap length bytes, fits) }

pub steps_after-self-requires : goal.steps_after-self-requires
steps_after-self-requires c e =
    let s = standing c.args.self.now in
    let bytes = c.first-bytes.result.now in
    let ok = passes max_steps s.stage s.steps bytes (sym c.in-Ok.ensures.refused) in
    room_left max_steps s.stage s.steps bytes ok (sym c.in-Ok.ensures.passed ∙ e)

pub returns : goal.returns
returns c =
    let file = c.args.self.now.file.now in
    let s = standing c.args.self.now in
    let r = c.record_of-record.result in
    let none = sym c.in-Ok.ensures.refused in
    let here = c.first-bytes.ensures ∙ part file s.place in
    let found = ap (λ b. fault max_steps s.stage s.steps b) (sym here) ∙ none in
    let bytes = c.first-bytes.result.now in
    let ok = passes max_steps s.stage s.steps bytes none in
    let size = ap length c.record_of-record.ensures.bytes in
    let k = c.in-Ok.ensures.passed in
    let kinds = c.record_of-record.ensures.kind ∙ k in
    let answered = next_judged max_steps file s c.if-file-gt-MAX_FILE.false c.if-place-file.false None found in
    record {
      file = refl;
      answer = handed_same _ _ _ _ _ (kinds ∙ ap kind here) (c.record_of-record.ensures.bytes ∙ here) ∙ sym answered;
      fields = fielded r (λ e. omega (arith, size, ok.whole, head_length max_steps s.stage s.steps bytes ok (sym kinds ∙ e))) (λ e. omega (arith, size, ok.whole, step_length max_steps s.stage s.steps bytes ok (sym kinds ∙ e))) (omega (arith, size, ok.header));
      after = standing_behind _ _ _ _ _ _ c.record_of-record.ensures.bytes k c.stage_after-self.ensures c.steps_after-self.ensures;
    }
