-- Each piece is put behind those before it; together they are the encoding.
use Rattle.std.proofs.Common.{◌≡◌, ◌+◌, ◌*◌, length, get_or, take, Ok, sym, ap, ◌∙◌, arith}
use Rattle.std.proofs.lemmas.List.{take_all}
use Rattle.std.specs.List.{flat_map}
use Rattle.steps.specs.Sheet.{sheet_of, blank}
use Rattle.buffer.specs.Put.{put}
use Rattle.job_format.specs.Encoding.{step_bytes, end_bytes}
use Rattle.job_format.proofs.Encoded.{length_encoded}
use Rattle.jobfile.proofs.Stored.{stored_more, stored_all, too_short, long_enough}
use Rattle.jobfile.proofs.storing.store.Goals as goal

pub returns-then-buffer-steps : goal.returns-then-buffer-steps
returns-then-buffer-steps c =
    let l = length_encoded (sheet_of c.args.steps.now c.args.benches) in
    let t = too_short (sheet_of c.args.steps.now c.args.benches) c.args.buffer.now (omega (arith, l, c.if-buffer-steps.true)) in
    record { answer = sym t.0; after = sym t.1 }

pub loop-step-preserved : goal.loop-step-preserved
loop-step-preserved c =
    let i = c.loop-step.step-index in
    let inv = c.loop-step.invariant in
    let piece = c.step_record.ensures in
    let next = step_bytes (get_or c.args.steps.now i blank) in
    let m = stored_more c.put_bytes-at.new.buffer c.args.steps.now i blank c.loop-step-test.true (omega (arith, c.loop-step.auto.buffer, c.if-buffer-steps.false, c.loop-step-test.true, c.put_bytes-at.auto.buffer)) in (
      omega (arith, c.put_bytes-at-in-loop-step.ensures.end, ap length piece, inv.0),
      c.put_bytes-at-in-loop-step.ensures.text
          ∙ ap (put c.loop-step.buffer c.loop-step.at) piece
          ∙ ap (λ b. put b c.loop-step.at next) inv.1
          ∙ ap (λ n. put (put c.put_bytes-at.new.buffer 6 (flat_map step_bytes (take i c.args.steps.now))) n next) inv.0
          ∙ m,
    )

pub returns : goal.returns
returns c =
    let steps = c.args.steps.now in
    let b = c.args.buffer.now in
    let i = c.loop-step.step-index in
    let inv = c.loop-step.invariant in
    let whole = take_all i steps c.loop-step-test.false in
    let last : i ≡ length steps = omega (arith, c.loop-step.auto.step-index-end, c.loop-step-test.false) in
    let all = stored_all b steps c.args.benches c.if-buffer-steps.false in
    let l = length_encoded (sheet_of steps c.args.benches) in
    let t = long_enough (sheet_of steps c.args.benches) b (omega (arith, l, c.if-buffer-steps.false)) in
    record {
      answer = ap Ok (omega (arith, c.put_bytes.ensures.end, inv.0, last, l)) ∙ sym t.0;
      after = c.put_bytes.ensures.text
          ∙ ap (λ x. put x c.loop-step.at end_bytes) inv.1
          ∙ ap (λ n. put (put c.put_bytes-at.new.buffer 6 (flat_map step_bytes (take i steps))) n end_bytes) (inv.0 ∙ ap (λ n. 6 + 14 * n) last)
          ∙ ap (λ ss. put (put c.put_bytes-at.new.buffer 6 (flat_map step_bytes ss)) (6 + 14 * length steps) end_bytes) whole
          ∙ ap (λ x. put (put x 6 (flat_map step_bytes steps)) (6 + 14 * length steps) end_bytes) c.put_bytes-at.ensures.text
          ∙ all
          ∙ sym t.1;
    }
