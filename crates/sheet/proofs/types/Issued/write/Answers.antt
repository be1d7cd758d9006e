-- A sheet's bytes are its encoding, whose decoding is the sheet.
use Rattle.std.proofs.Common.{ap, ◌∙◌, arith}
use Rattle.steps.specs.Limits.{max_steps}
use Rattle.steps.specs.Sheet.{sheet_of}
use Rattle.job_format.proofs.Encoded.{encoded_back}
use Rattle.jobfile.specs.Storing.{store_answer, store_after}
use Rattle.sheet.specs.Model.{issued_sheet}
use Rattle.sheet.proofs.Files.{readable}
use Rattle.sheet.proofs.types.Issued.write.Goals as goal

pub returns : goal.returns
returns c =
    let d = c.args.self.now in
    let s = issued_sheet d in
    let same = c.steps.ensures.value in
    let answer = c.store.ensures.answer ∙ ap (λ ss. store_answer (sheet_of ss d.benches) c.args.buffer.now) same in
    let after = c.store.ensures.after ∙ ap (λ ss. store_after (sheet_of ss d.benches) c.args.buffer.now) same in
    record {
      answer = answer;
      after = after;
      readable = readable c.store.result s c.args.buffer.now _ answer after (encoded_back max_steps s (omega arith) c.steps.ensures.sound);
    }
