-- How bytes are cut into records.
use Rattle.std.proofs.Common.{◌≡◌, ℕ, zero, suc, ◌+◌, ◌-◌, ◌<◌, ◌≤◌, List, [], ◌∷◌, ◌++◌, length, take, drop, sym, refl, ap, ◌∙◌, inl, inr, arith}
use Rattle.std.proofs.lemmas.List.{length-take-le, length-drop, length-append, drop_all, take_all, take_at, drop_at, get_or_append_left}
use Rattle.std.proofs.lemmas.Bool.{cases_lt}
use Rattle.job_format.specs.Layout.{body_length}
use Rattle.job_format.specs.Decoding.{first, cut, records}

-- any number of turns from the length on gives the same
pub cut_enough : (n m : ℕ) (bytes : List ℕ) → length bytes ≤ n → length bytes ≤ m → cut n bytes ≡ cut m bytes
cut_enough zero zero bytes h k = refl
cut_enough zero (suc m) [] h k = refl
cut_enough zero (suc m) (b ∷ bs) h k = absurd (omega arith)
cut_enough (suc n) zero [] h k = refl
cut_enough (suc n) zero (b ∷ bs) h k = absurd (omega arith)
cut_enough (suc n) (suc m) [] h k = refl
cut_enough (suc n) (suc m) (b ∷ bs) h k =
    let rest = drop (4 + body_length (b ∷ bs)) (b ∷ bs) in
    let l : length rest ≡ length (b ∷ bs) - (4 + body_length (b ∷ bs)) = length-drop (4 + body_length (b ∷ bs)) (b ∷ bs) in
    ap (λ t. first (b ∷ bs) ∷ t) (cut_enough n m rest (omega arith) (omega arith))

-- what is dropped with the first n is dropped with as many of them as there are
pub drop_taken : (n : ℕ) (xs : List ℕ) → drop n xs ≡ drop (length (take n xs)) xs
drop_taken n xs =
    elim (cases_lt n (length xs)) [
      | inl l ↦ ap (λ k. drop k xs) (sym (length-take-le n xs (omega arith)))
      | inr l ↦ drop_all n xs l ∙ sym (drop_all (length (take n xs)) xs (simp take_all (omega arith)))
    ]

-- the first record, and the records of what is left
pub records_more : (bytes : List ℕ) → 0 < length bytes → records bytes ≡ first bytes ∷ records (drop (length (first bytes)) bytes)
records_more [] h = absurd (omega arith)
records_more (b ∷ bs) h =
    let size = 4 + body_length (b ∷ bs) in
    let l = length-drop size (b ∷ bs) in
    ap (λ t. first (b ∷ bs) ∷ t) (cut_enough (length bs) (length (drop size (b ∷ bs))) (drop size (b ∷ bs)) (omega arith) (omega arith))
    ∙ ap (λ t. first (b ∷ bs) ∷ records t) (drop_taken size (b ∷ bs))

-- a record that is as long as it says, in front of other bytes
pub records_append : (r rest : List ℕ) → 4 ≤ length r → length r ≡ 4 + body_length r → records (r ++ rest) ≡ r ∷ records rest
records_append r rest h e =
    let low = get_or_append_left r rest 0 0 (omega arith) in
    let high = get_or_append_left r rest 0 1 (omega arith) in
    let front : first (r ++ rest) ≡ r = take_at r rest (4 + body_length (r ++ rest)) (omega (arith, low, high)) in
    records_more (r ++ rest) (omega (arith, length-append r rest))
    ∙ ap (λ t. t ∷ records (drop (length t) (r ++ rest))) front
    ∙ ap (λ t. r ∷ records t) (drop_at r rest (length r) refl)
