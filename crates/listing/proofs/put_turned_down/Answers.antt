-- The line on a refused file, piece by piece.
use Rattle.std.proofs.Common.{◌+◌, ◌++◌, length, codes, decimal, ap, ◌∙◌, arith, length-append}
use Rattle.buffer.proofs.Puts.{written_first, written_more}
use Rattle.steps.specs.Numbers.{number}
use Rattle.buffer.specs.Put.{put}
use Rattle.listing.specs.Text.{newline}
use Rattle.listing.proofs.Lines.{length_turned_down, short_turned_down}
use Rattle.listing.proofs.put_turned_down.Goals as goal

pub put_field-at-requires : goal.put_field-at-requires
put_field-at-requires c = let f = short_turned_down (number c.args.refusal) c.args.place (omega (arith, c.from.ensures, c.from.type_inv)) c.ranges.place.fits in omega (arith, f, length_turned_down (number c.args.refusal) c.args.place, ap (λ n. length (codes "turned down " ++ decimal n)) c.from.ensures)

pub put_field-at-requires-2 : goal.put_field-at-requires-2
put_field-at-requires-2 c = let f = short_turned_down (number c.args.refusal) c.args.place (omega (arith, c.from.ensures, c.from.type_inv)) c.ranges.place.fits in omega (arith, f, length_turned_down (number c.args.refusal) c.args.place, ap (λ n. length (codes "turned down " ++ decimal n)) c.from.ensures)

pub put_bytes-requires : goal.put_bytes-requires
put_bytes-requires c = let f = short_turned_down (number c.args.refusal) c.args.place (omega (arith, c.from.ensures, c.from.type_inv)) c.ranges.place.fits in omega (arith, f, length_turned_down (number c.args.refusal) c.args.place, ap (λ n. length (codes "turned down " ++ decimal n)) c.from.ensures)

pub returns : goal.returns
returns c =
    let l = length_turned_down (number c.args.refusal) c.args.place in
    let e = c.from.ensures in
    let f = short_turned_down (number c.args.refusal) c.args.place (omega (arith, e, c.from.type_inv)) c.ranges.place.fits in
    let b = c.args.buffer.now in
    let p₁ = codes "turned down " ++ decimal (number c.args.refusal) in
    let p₂ = codes " at " ++ decimal c.args.place in
    let w₁ = written_first b 0 p₁ _ _ (c.put_field-at.ensures.text ∙ ap (λ n. put b 0 (codes "turned down " ++ decimal n)) e) (c.put_field-at.ensures.end ∙ ap (λ n. 0 + length (codes "turned down " ++ decimal n)) e) in
    let w₂ = written_more b 0 p₁ _ _ p₂ _ _ w₁ (omega (arith, f, l)) c.put_field-at-2.ensures.text c.put_field-at-2.ensures.end in
    let w₃ = written_more b 0 (p₁ ++ p₂) _ _ newline _ _ w₂ (omega (arith, f, l, length-append p₁ p₂)) c.put_bytes.ensures.text c.put_bytes.ensures.end in
    record { text = w₃.text; end = omega (arith, w₃.end) }
