-- The crew line, piece by piece.
use Rattle.std.proofs.Common.{◌++◌, codes, decimal, arith}
use Rattle.buffer.proofs.Puts.{written_first, written_more}
use Rattle.listing.specs.Text.{newline}
use Rattle.listing.proofs.Lines.{length_crew_line}
use Rattle.listing.proofs.put_crew.Goals as goal

pub put_field-at-requires : goal.put_field-at-requires
put_field-at-requires c = omega (arith, length_crew_line c.args.benches)

pub put_bytes-requires : goal.put_bytes-requires
put_bytes-requires c = omega (arith, length_crew_line c.args.benches)

pub returns : goal.returns
returns c =
    let l = length_crew_line c.args.benches in
    let b = c.args.buffer.now in
    let front = codes "crew " ++ decimal c.args.benches in
    let w₁ = written_first b 0 front _ _ c.put_field-at.ensures.text c.put_field-at.ensures.end in
    let w₂ = written_more b 0 front _ _ newline _ _ w₁ (omega (arith, l)) c.put_bytes.ensures.text c.put_bytes.ensures.end in
    record { text = w₂.text; end = omega (arith, w₂.end) }
