-- With room for every sheet, what is reported is the least figure of step 0.
use Rattle.std.proofs.Common.{◌≤◌, length, ap, ◌∙◌, arith}
use Rattle.std.specs.Option.{option_map}
use Rattle.ways.specs.Least.{least_of}
use Rattle.ways.specs.Measures.{numbers}
use Rattle.listing.proofs.Texts.{figure_part}
use Rattle.listing.proofs.least_figure.Goals as goal

pub returns : goal.returns
returns g c =
    let d = c.args.sheet.now in
    let ss = d.steps.items in
    let room : length ss ≤ length c.args.table.now = omega (arith, d.sound.size, c.requires) in
    ap (option_map (g.M.Measure.number c.args.measure.now)) c.ok.ensures.value
    ∙ figure_part _ (g.M.Measure.number c.args.measure.now) (length c.args.table.now) (length ss) c.least.result (least_of (numbers (g.M.Measure.meaning c.args.measure.now)) ss 0) room c.least.ensures.answer
