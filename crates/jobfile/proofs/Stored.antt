-- The encoding of a sheet, written piece by piece.
use Rattle.std.proofs.Common.{◌≡◌, ℕ, ◌+◌, ◌*◌, ◌<◌, ◌≤◌, List, [], ◌++◌, length, get_or, take, drop, Ok, Err, sym, refl, ap, ◌∙◌, arith}
use Rattle.std.proofs.lemmas.List.{length-take-le, take_more, flat_map_more}
use Rattle.std.proofs.lemmas.Bool.{lt-ltb, le-ltb}
use Rattle.std.specs.List.{flat_map}
use Rattle.steps.specs.declared.refusal.Refusal.TheVariants.{BufferTooShort}
use Rattle.steps.specs.declared.step.Step.{Step}
use Rattle.steps.specs.Numbers.{number}
use Rattle.steps.specs.Sheet.{Sheet, sheet_of}
use Rattle.buffer.specs.Put.{put}
use Rattle.buffer.proofs.Puts.{put_put, put_front}
use Rattle.job_format.specs.Encoding.{head_bytes, step_bytes, end_bytes, encode}
use Rattle.job_format.proofs.Encoded.{length_steps}
use Rattle.jobfile.specs.Storing.{store_answer, store_after}

-- one step more
pub stored_more : (xs : List ℕ) (ss : List Step) (i : ℕ) (d : Step) → i < length ss → 6 + 14 * (i + 1) ≤ length xs → put (put xs 6 (flat_map step_bytes (take i ss))) (6 + 14 * i) (step_bytes (get_or ss i d)) ≡ put xs 6 (flat_map step_bytes (take (i + 1) ss))
stored_more xs ss i d h fits =
    let l = length_steps (take i ss) in
    let t = length-take-le i ss (omega arith) in
    put_put xs 6 (flat_map step_bytes (take i ss)) (step_bytes (get_or ss i d)) (6 + 14 * i) (omega arith) (omega arith)
    ∙ ap (put xs 6) (flat_map_more step_bytes [] (take i ss) (get_or ss i d) ∙ ap (flat_map step_bytes) (sym (take_more ss i d h)))

-- head, steps and end at the front of a buffer
pub stored_all : (b : List ℕ) (ss : List Step) (benches : ℕ) → 10 + 14 * length ss ≤ length b → put (put (put b 0 (head_bytes benches)) 6 (flat_map step_bytes ss)) (6 + 14 * length ss) end_bytes ≡ encode (sheet_of ss benches) ++ drop (length (encode (sheet_of ss benches))) b
stored_all b ss benches fits =
    let l = length_steps ss in
    ap (λ x. put x (6 + 14 * length ss) end_bytes) (put_put b 0 (head_bytes benches) (flat_map step_bytes ss) 6 refl (omega arith))
    ∙ put_put b 0 (head_bytes benches ++ flat_map step_bytes ss) end_bytes (6 + 14 * length ss) (omega arith) (omega arith)
    ∙ put_front b (encode (sheet_of ss benches))

-- which of the two answers
module _ (s : Sheet) (b : List ℕ) where
  pub too_short : length b < length (encode s) → (store_answer s b ≡ Err (number BufferTooShort)) × (store_after s b ≡ b)
  too_short h = let e = lt-ltb _ _ h in (rw e refl, rw e refl)

  pub long_enough : length (encode s) ≤ length b → (store_answer s b ≡ Ok (length (encode s))) × (store_after s b ≡ encode s ++ drop (length (encode s)) b)
  long_enough h = let e = le-ltb _ _ h in (rw e refl, rw e refl)
