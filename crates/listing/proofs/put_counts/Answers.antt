-- The line of counts, piece by piece.
use Rattle.std.proofs.Common.{◌-◌, ◌++◌, codes, decimal, arith, length-append}
use Rattle.buffer.proofs.Puts.{written_first, written_more}
use Rattle.listing.specs.Text.{newline}
use Rattle.listing.proofs.Lines.{length_count_line}
use Rattle.listing.proofs.put_counts.Goals as goal

pub put_field-at-requires : goal.put_field-at-requires
put_field-at-requires c = omega (arith, length_count_line c.args.all c.args.closed)

pub put_field-at-requires-2 : goal.put_field-at-requires-2
put_field-at-requires-2 c = omega (arith, length_count_line c.args.all c.args.closed)

pub put_field-at-requires-3 : goal.put_field-at-requires-3
put_field-at-requires-3 c = omega (arith, length_count_line c.args.all c.args.closed)

pub put_bytes-requires : goal.put_bytes-requires
put_bytes-requires c = omega (arith, length_count_line c.args.all c.args.closed)

pub returns : goal.returns
returns c =
    let l = length_count_line c.args.all c.args.closed in
    let b = c.args.buffer.now in
    let at = c.args.at in
    let p₁ = codes "steps " ++ decimal c.args.all in
    let p₂ = codes " open " ++ decimal (c.args.all - c.args.closed) in
    let p₃ = codes " closed " ++ decimal c.args.closed in
    let w₁ = written_first b at p₁ _ _ c.put_field-at.ensures.text c.put_field-at.ensures.end in
    let w₂ = written_more b at p₁ _ _ p₂ _ _ w₁ (omega (arith, l)) c.put_field-at-2.ensures.text c.put_field-at-2.ensures.end in
    let w₃ = written_more b at (p₁ ++ p₂) _ _ p₃ _ _ w₂ (omega (arith, l, length-append p₁ p₂)) c.put_field-at-3.ensures.text c.put_field-at-3.ensures.end in
    let w₄ = written_more b at (p₁ ++ p₂ ++ p₃) _ _ newline _ _ w₃ (omega (arith, l, length-append p₁ p₂, length-append (p₁ ++ p₂) p₃)) c.put_bytes.ensures.text c.put_bytes.ensures.end in
    record { text = w₄.text; end = w₄.end }
