-- The crew line, the lines of the steps and the line of counts, one behind the other.
use Rattle.std.proofs.Common.{◌+◌, ◌++◌, length, get_or, take, ap, ◌∙◌, arith, length-append}
use Rattle.std.proofs.lemmas.List.{take_all}
use Rattle.steps.specs.Sheet.{sheet_of, blank}
use Rattle.buffer.specs.Put.{put}
use Rattle.buffer.proofs.Puts.{written_none, written_first, written_more}
use Rattle.listing.specs.Text.{crew_line, step_line, step_lines, closed_count, count_line}
use Rattle.listing.proofs.Lines.{length_sheet_lines, lines_more, lines_part, lines_room}
use Rattle.listing.proofs.put_sheet.Goals as goal

pub put_crew-at-requires : goal.put_crew-at-requires
put_crew-at-requires c = omega (arith, length_sheet_lines (sheet_of c.args.steps.now c.args.benches))

pub loop-i-init : goal.loop-i-init
loop-i-init c = written_none _ _

pub put_step-at-requires : goal.put_step-at-requires
put_step-at-requires c =
    let l = length_sheet_lines (sheet_of c.args.steps.now c.args.benches) in
    let room = lines_room c.args.steps.now c.loop-i.i blank c.loop-i-test.true in
    omega (arith, l, room, c.loop-i.invariant.end, c.put_crew-at.ensures.end, c.loop-i.auto.buffer)

pub loop-i-preserved : goal.loop-i-preserved
loop-i-preserved c =
    let ss = c.args.steps.now in
    let i = c.loop-i.i in
    let l = length_sheet_lines (sheet_of ss c.args.benches) in
    let room = lines_part ss i in
    let next = step_line i (get_or ss i blank) in
    let w = written_more c.put_crew-at.new.buffer c.put_crew-at.result (step_lines 0 (take i ss)) c.loop-i.buffer c.loop-i.at next c.put_step-at.new.buffer c.put_step-at.result c.loop-i.invariant (omega (arith, l, room, c.put_crew-at.ensures.end)) c.put_step-at.ensures.text c.put_step-at.ensures.end in
    rw (lines_more ss i blank c.loop-i-test.true) w

pub put_counts-requires : goal.put_counts-requires
put_counts-requires c =
    let ss = c.args.steps.now in
    let l = length_sheet_lines (sheet_of ss c.args.benches) in
    let whole = ap (λ x. length (step_lines 0 x)) (take_all c.loop-i.i ss c.loop-i-test.false) in
    let counts = ap (λ k. length (count_line (length ss) k)) c.closed_count.ensures.value in
    (omega (arith, l, whole, counts, c.loop-i.invariant.end, c.put_crew-at.ensures.end, c.loop-i.auto.buffer), c.closed_count.ensures.most)

pub returns : goal.returns
returns c =
    let ss = c.args.steps.now in
    let b = c.args.buffer.now in
    let l = length_sheet_lines (sheet_of ss c.args.benches) in
    let whole = take_all c.loop-i.i ss c.loop-i-test.false in
    let inv = c.loop-i.invariant in
    let b₁ = c.put_crew-at.new.buffer in
    let at₁ = c.put_crew-at.result in
    let crew = crew_line c.args.benches in
    let counts = count_line (length ss) (closed_count ss) in
    let e = c.closed_count.ensures.value in
    let w₁ = written_first b 0 crew b₁ at₁ c.put_crew-at.ensures.text (omega (arith, c.put_crew-at.ensures.end)) in
    let w₂ = written_more b 0 crew b₁ at₁ (step_lines 0 ss) c.loop-i.buffer c.loop-i.at w₁ (omega (arith, l)) (inv.text ∙ ap (λ x. put b₁ at₁ (step_lines 0 x)) whole) (inv.end ∙ ap (λ x. at₁ + length (step_lines 0 x)) whole) in
    let w₃ = written_more b 0 (crew ++ step_lines 0 ss) c.loop-i.buffer c.loop-i.at counts c.put_counts.new.buffer c.put_counts.result w₂ (omega (arith, l, length-append crew (step_lines 0 ss))) (c.put_counts.ensures.text ∙ ap (λ k. put c.loop-i.buffer c.loop-i.at (count_line (length ss) k)) e) (c.put_counts.ensures.end ∙ ap (λ k. c.loop-i.at + length (count_line (length ss) k)) e) in
    record { text = w₃.text; end = omega (arith, w₃.end) }
