-- Each answer of the reader says how the decoding of the whole file goes on.
use Rattle.std.proofs.Common.{◌≡◌, ℕ, ◌-◌, ◌<◌, [], length, drop, Some, Ok, Err, Option, Result, sym, ap, ◌∙◌, subst, arith}
use Rattle.std.proofs.lemmas.List.{length-take-le}
use Rattle.std.proofs.lemmas.Result.{err_from_is_err_and}
use Rattle.steps.specs.Limits.{max_steps}
use Rattle.job_format.specs.declared.Stage.TheVariants.{Start}
use Rattle.job_format.specs.Decoding.{records, decode_from, decode}
use Rattle.jobfile.specs.declared.record.Placed.{Placed}
use Rattle.jobfile.specs.Loading.{sheet_in, told_load, Passed}
use Rattle.jobfile.specs.Reading.{Handed, Standing, bytes_of, told_next, handed_of, standing, passed, standing_after}
use Rattle.jobfile.proofs.Loading.{refused, ended, turn, passed_record}
use Rattle.jobfile.proofs.contents.loading.load.Goals as goal

pub returns-in_err-placed : goal.returns-in_err-placed
returns-in_err-placed c =
    let p = err_from_is_err_and c.from_residual.result c.from_residual.ensures.1 in
    let whole = c.loop-placed.invariant.0 ∙ c.new-reader.ensures.file in
    let a = c.in_err-placed.ensures.answer in
    ap told_load (p.1 ∙ ap Err p.2)
    ∙ sym (refused max_steps _ (standing c.loop-placed.reader) _ (sheet_in c.loop-placed.contents).steps _ c.loop-placed.invariant.1 c.loop-placed.invariant.2 _ (sym a))
    ∙ ap (decode max_steps) whole

-- what is told_next of a record that is handed out, and where the reader stands behind it
record_told : (o : Option Placed) (p : Placed) (x : Result (Option Handed) (ℕ × ℕ)) → o ≡ Some p → told_next (Ok o) ≡ x → x ≡ Ok (Some (handed_of p))
record_told o p x e h = sym h ∙ ap (λ a. told_next (Ok a)) e

standing_past : (o : Option Placed) (p : Placed) (s s' : Standing) → o ≡ Some p → s' ≡ standing_after (told_next (Ok o)) s → s' ≡ passed s (bytes_of p.record)
standing_past o p s s' e h = h ∙ ap (λ a. standing_after (told_next (Ok a)) s) e

pub take_in-requires : goal.take_in-requires
take_in-requires c =
    let inv = c.loop-placed.invariant in
    let a = record_told _ _ _ c.in-Some.is c.in_ok-placed.ensures.answer in
    let l = length-take-le c.loop-placed.contents.count c.loop-placed.contents.steps (omega (arith, c.loop-placed.contents.size, c.loop-placed.contents.counted)) in
    let f = passed_record max_steps _ (standing c.loop-placed.reader) _ (sheet_in c.loop-placed.contents).steps _ inv.1 inv.2 _ a (omega arith) in
    subst (λ n. Passed n c.in-Some.placed.record) (sym inv.1 ∙ l) f

pub loop-placed-smaller : goal.loop-placed-smaller
loop-placed-smaller c =
    let inv = c.loop-placed.invariant in
    let a = record_told _ _ _ c.in-Some.is c.in_ok-placed.ensures.answer in
    let m = standing_past _ _ _ _ c.in-Some.is c.in_ok-placed.ensures.after in
    let t = turn max_steps _ (standing c.loop-placed.reader) _ (sheet_in c.loop-placed.contents).steps _ inv.1 inv.2 _ a _ _ _ m c.take_in.ensures.benches c.take_in.ensures.steps in
    subst (λ f. length f - c.next.new.self.place < length c.loop-placed.reader.file.now - c.loop-placed.reader.place) (sym c.in_ok-placed.ensures.file) t.2

pub loop-placed-preserved : goal.loop-placed-preserved
loop-placed-preserved c =
    let inv = c.loop-placed.invariant in
    let a = record_told _ _ _ c.in-Some.is c.in_ok-placed.ensures.answer in
    let m = standing_past _ _ _ _ c.in-Some.is c.in_ok-placed.ensures.after in
    let t = turn max_steps _ (standing c.loop-placed.reader) _ (sheet_in c.loop-placed.contents).steps _ inv.1 inv.2 _ a _ _ _ m c.take_in.ensures.benches c.take_in.ensures.steps in
    let same = c.in_ok-placed.ensures.file in (
      same ∙ inv.0,
      t.0,
      subst (λ f. decode_from max_steps c.next.new.self.stage c.take_in.new.self.benches (sheet_in c.take_in.new.self).steps c.next.new.self.place (records (drop c.next.new.self.place f)) ≡ decode_from max_steps Start 0 [] 0 (records f)) (sym same) t.1,
    )

pub returns : goal.returns
returns c =
    let inv = c.loop-placed.invariant in
    let a = sym c.in_ok-placed.ensures.answer ∙ ap (λ o. told_next (Ok o)) c.in_default.is in
    sym (ended max_steps _ (standing c.loop-placed.reader) _ (sheet_in c.loop-placed.contents).steps _ inv.1 inv.2 a)
    ∙ ap (decode max_steps) (inv.0 ∙ c.new-reader.ensures.file)
