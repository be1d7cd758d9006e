-- The line of a step, piece by piece.
use Rattle.std.proofs.Common.{◌+◌, ◌++◌, length, codes, decimal, ap, ◌∙◌, arith, length-append}
use Rattle.buffer.proofs.Puts.{written_first, written_more}
use Rattle.buffer.specs.Put.{put}
use Rattle.listing.specs.Text.{newline, target_text, join_text, state_text}
use Rattle.listing.proofs.Lines.{length_step_line}
use Rattle.listing.proofs.put_step.Goals as goal

pub put_field-at-requires : goal.put_field-at-requires
put_field-at-requires c = omega (arith, length_step_line c.args.index c.args.step.now)

pub put_target-at-requires : goal.put_target-at-requires
put_target-at-requires c = omega (arith, length_step_line c.args.index c.args.step.now)

pub put_bytes-at-requires : goal.put_bytes-at-requires
put_bytes-at-requires c = omega (arith, length_step_line c.args.index c.args.step.now, ap length c.join_text.ensures)

pub put_field-at-requires-2 : goal.put_field-at-requires-2
put_field-at-requires-2 c = omega (arith, length_step_line c.args.index c.args.step.now, ap length c.join_text.ensures)

pub put_field-at-requires-3 : goal.put_field-at-requires-3
put_field-at-requires-3 c = omega (arith, length_step_line c.args.index c.args.step.now, ap length c.join_text.ensures)

pub put_bytes-at-requires-2 : goal.put_bytes-at-requires-2
put_bytes-at-requires-2 c = omega (arith, length_step_line c.args.index c.args.step.now, ap length c.join_text.ensures, ap length c.state_text.ensures)

pub put_bytes-requires : goal.put_bytes-requires
put_bytes-requires c = omega (arith, length_step_line c.args.index c.args.step.now, ap length c.join_text.ensures, ap length c.state_text.ensures)

pub returns : goal.returns
returns c =
    let l = length_step_line c.args.index c.args.step.now in
    let s = c.args.step.now in
    let b = c.args.buffer.now in
    let at = c.args.at in
    let j = c.join_text.ensures in
    let k = c.state_text.ensures in
    let p₁ = codes "step " ++ decimal c.args.index in
    let p₂ = target_text s.target in
    let p₃ = join_text s.join in
    let p₄ = codes " minutes " ++ decimal s.minutes in
    let p₅ = codes " fee " ++ decimal s.fee in
    let p₆ = state_text s.closed in
    let l₂ = length-append p₁ p₂ in
    let l₃ = length-append (p₁ ++ p₂) p₃ in
    let l₄ = length-append (p₁ ++ p₂ ++ p₃) p₄ in
    let l₅ = length-append (p₁ ++ p₂ ++ p₃ ++ p₄) p₅ in
    let l₆ = length-append (p₁ ++ p₂ ++ p₃ ++ p₄ ++ p₅) p₆ in
    let w₁ = written_first b at p₁ _ _ c.put_field-at.ensures.text c.put_field-at.ensures.end in
    let w₂ = written_more b at p₁ _ _ p₂ _ _ w₁ (omega (arith, l)) c.put_target-at.ensures.text c.put_target-at.ensures.end in
    let w₃ = written_more b at (p₁ ++ p₂) _ _ p₃ _ _ w₂ (omega (arith, l, l₂)) (c.put_bytes-at.ensures.text ∙ ap (put c.put_target-at.new.buffer c.put_target-at.result) j) (c.put_bytes-at.ensures.end ∙ ap (λ x. c.put_target-at.result + length x) j) in
    let w₄ = written_more b at (p₁ ++ p₂ ++ p₃) _ _ p₄ _ _ w₃ (omega (arith, l, l₂, l₃)) c.put_field-at-2.ensures.text c.put_field-at-2.ensures.end in
    let w₅ = written_more b at (p₁ ++ p₂ ++ p₃ ++ p₄) _ _ p₅ _ _ w₄ (omega (arith, l, l₂, l₃, l₄)) c.put_field-at-3.ensures.text c.put_field-at-3.ensures.end in
    let w₆ = written_more b at (p₁ ++ p₂ ++ p₃ ++ p₄ ++ p₅) _ _ p₆ _ _ w₅ (omega (arith, l, l₂, l₃, l₄, l₅)) (c.put_bytes-at-2.ensures.text ∙ ap (put c.put_field-at-3.new.buffer c.put_field-at-3.result) k) (c.put_bytes-at-2.ensures.end ∙ ap (λ x. c.put_field-at-3.result + length x) k) in
    let w₇ = written_more b at (p₁ ++ p₂ ++ p₃ ++ p₄ ++ p₅ ++ p₆) _ _ newline _ _ w₆ (omega (arith, l, l₂, l₃, l₄, l₅, l₆)) c.put_bytes.ensures.text c.put_bytes.ensures.end in
    record { text = w₇.text; end = w₇.end }
