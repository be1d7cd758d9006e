-- A file that decodes gives a sheet with all the properties, and its encoding is the file without its notes.
use Rattle.std.proofs.Common.{◌≡◌, take, sym, ap, ◌∙◌, subst, rules}
use Rattle.steps.specs.Limits.{max_steps}
use Rattle.steps.specs.Sheet.{WellFormed, sheet_of}
use Rattle.job_format.proofs.Decoded.{decoded_well_formed, decoded_back}
use Rattle.job_format.specs.Encoding.{encode}
use Rattle.jobfile.specs.Loading.{sheet_in}
use Rattle.sheet.proofs.types.Issued.read.Goals as goal

pub invariant_of-self : goal.invariant_of-self
invariant_of-self c =
    let x = c.in_ok-benches.field-0 in
    let w = decoded_well_formed max_steps c.args.file.now (sheet_in x) (λ i. (c.type_inv.file i).fits) (sym c.in_ok-benches.ensures) in
    let steps : c.try_extend_from_slice.new.self.items ≡ take x.count x.steps = search rules in
    record { sound = subst (λ ss. WellFormed max_steps (sheet_of ss x.benches)) (sym steps) w }

pub returns-clause-faithful : goal.returns-clause-faithful
returns-clause-faithful c =
    let x = c.in_ok-benches.field-0 in
    let steps : c.try_extend_from_slice.new.self.items ≡ take x.count x.steps = search rules in
    ap (λ ss. encode (sheet_of ss x.benches)) steps
    ∙ decoded_back max_steps c.args.file.now (sheet_in x) (λ i. (c.type_inv.file i).fits) (sym c.in_ok-benches.ensures)
