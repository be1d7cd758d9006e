-- What is written of a sheet can be read again.
use Rattle.std.proofs.Common.{◌≡◌, ℕ, Bool, true, false, cond, ltb, List, ◌++◌, length, take, drop, Ok, Err, Result, ap, ◌∙◌}
use Rattle.std.proofs.lemmas.List.{take_at}
use Rattle.steps.proofs.Clashes.{clash}
use Rattle.steps.specs.declared.refusal.Refusal.{Refusal}
use Rattle.steps.specs.declared.refusal.Refusal.TheVariants.{BufferTooShort}
use Rattle.steps.specs.Limits.{max_steps}
use Rattle.steps.specs.Numbers.{number, told}
use Rattle.steps.specs.Sheet.{Sheet}
use Rattle.job_format.specs.Decoding.{decode}
use Rattle.job_format.specs.Encoding.{encode}
use Rattle.jobfile.specs.Storing.{store_answer, store_after}
use Rattle.sheet.specs.Calls.{Readable}

pub readable : (r : Result ℕ Refusal) (s : Sheet) (b b' : List ℕ) → told r ≡ store_answer s b → b' ≡ store_after s b → decode max_steps (encode s) ≡ Ok s → Readable r s b'
readable (Err e) s b b' answer after back = tt
readable (Ok n) s b b' answer after back = by_room (ltb (length b) (length (encode s))) (number BufferTooShort) answer after
  where
    by_room : (short : Bool) (e : ℕ) → Ok n ≡ cond short (Err e) (Ok (length (encode s))) → b' ≡ cond short b (encode s ++ drop (length (encode s)) b) → decode max_steps (take n b') ≡ Ok s
    by_room true e a w = clash (cc)
    by_room false e a w =
        let size : length (encode s) ≡ n = cc in
        ap (λ x. decode max_steps (take n x)) w ∙ ap (decode max_steps) (take_at (encode s) (drop (length (encode s)) b) n size) ∙ back
