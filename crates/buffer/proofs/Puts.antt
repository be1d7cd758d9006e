-- Laws of bytes written into a buffer.
use Rattle.std.proofs.Common.{◌≡◌, ℕ, ◌+◌, ◌<◌, ◌≤◌, List, [], ◌∷◌, ◌++◌, length, take, drop, set, sym, ap, ◌∙◌, append_assoc, add-zero, add_assoc, zero-add, add-one, arith, length-append, length-drop}
use Rattle.std.proofs.lemmas.List.{take-append-drop, length-take-le, take_at, drop_at, drop-drop, set_split}
use Rattle.buffer.specs.Put.{put}

-- what stands before the end of the bytes
pub take_put : (xs : List ℕ) (at : ℕ) (ys : List ℕ) (n : ℕ) → n ≡ at + length ys → at ≤ length xs
    → take n (put xs at ys) ≡ take at xs ++ ys
take_put xs at ys n e h =
    let front : length (take at xs ++ ys) ≡ n = length-append (take at xs) ys ∙ ap (λ k. k + length ys) (length-take-le at xs h) ∙ sym e in
    rw (← append_assoc) (take_at (take at xs ++ ys) (drop (at + length ys) xs) n front)

-- what stands from the end of the bytes on
pub drop_put : (xs : List ℕ) (at : ℕ) (ys : List ℕ) (n : ℕ) → n ≡ at + length ys → at ≤ length xs
    → drop n (put xs at ys) ≡ drop n xs
drop_put xs at ys n e h =
    let front : length (take at xs ++ ys) ≡ n = length-append (take at xs) ys ∙ ap (λ k. k + length ys) (length-take-le at xs h) ∙ sym e in
    rw (← append_assoc) (drop_at (take at xs ++ ys) (drop (at + length ys) xs) n front ∙ ap (λ k. drop k xs) (sym e))

-- the buffer keeps its length
pub length_put : (buffer : List ℕ) (at : ℕ) (bytes : List ℕ) → at + length bytes ≤ length buffer
    → length (put buffer at bytes) ≡ length buffer
length_put buffer at bytes h =
    let front = length-take-le at buffer (omega arith) in
    simp (length-append, length-drop) (omega arith)

-- at the start of the buffer
pub put_front : (xs t : List ℕ) → put xs 0 t ≡ t ++ drop (length t) xs
put_front xs t = ap (λ k. t ++ drop k xs) (zero-add (length t))

-- writing on behind what was written
pub put_put : (xs : List ℕ) (at : ℕ) (ys zs : List ℕ) (n : ℕ) → n ≡ at + length ys → at + length ys ≤ length xs
    → put (put xs at ys) n zs ≡ put xs at (ys ++ zs)
put_put xs at ys zs n e h =
    let within : at ≤ length xs = omega arith in
    let front = take_put xs at ys n e within in
    let past : drop (n + length zs) (put xs at ys) ≡ drop (at + length (ys ++ zs)) xs =
    sym (drop-drop (length zs) n (put xs at ys))
    ∙ ap (λ l. drop (length zs) l) (drop_put xs at ys n e within)
    ∙ drop-drop (length zs) n xs
    ∙ ap (λ k. drop k xs) (ap (λ k. k + length zs) e ∙ add_assoc at (length ys) (length zs) ∙ ap (λ k. at + k) (sym (length-append ys zs))) in
    ap (λ l. l ++ (zs ++ drop (n + length zs) (put xs at ys))) front
    ∙ ap (λ l. (take at xs ++ ys) ++ (zs ++ l)) past
    ∙ append_assoc (take at xs) ys (zs ++ drop (at + length (ys ++ zs)) xs)
    ∙ ap (λ l. take at xs ++ l) (sym (append_assoc ys zs (drop (at + length (ys ++ zs)) xs)))

-- one byte
pub set_put : (xs : List ℕ) (at y : ℕ) → at < length xs → set xs at y ≡ put xs at (y ∷ [])
set_put xs at y h = set_split xs at y h ∙ ap (λ k. take at xs ++ y ∷ drop k xs) (sym (add-one at))

-- What is written so far from the place at on, where the next piece goes behind it.
pub record Written (buffer : List ℕ) (at : ℕ) (so_far : List ℕ) (after : List ℕ) (behind : ℕ) : Type 0 where
  pub text : after ≡ put buffer at so_far
  pub end : behind ≡ at + length so_far

pub written_none : (buffer : List ℕ) (at : ℕ) → Written buffer at [] buffer at
written_none buffer at = record { text = sym (ap (λ n. take at buffer ++ drop n buffer) (add-zero at) ∙ take-append-drop at buffer); end = sym (add-zero at) }

pub written_first : (buffer : List ℕ) (at : ℕ) (piece : List ℕ) (after : List ℕ) (behind : ℕ) → after ≡ put buffer at piece → behind ≡ at + length piece → Written buffer at piece after behind
written_first buffer at piece after behind e f = record { text = e; end = f }

pub written_more : (buffer : List ℕ) (at : ℕ) (so_far : List ℕ) (after : List ℕ) (behind : ℕ) (piece : List ℕ) (after' : List ℕ) (behind' : ℕ) → Written buffer at so_far after behind → at + length so_far ≤ length buffer → after' ≡ put after behind piece → behind' ≡ behind + length piece → Written buffer at (so_far ++ piece) after' behind'
written_more buffer at so_far after behind piece after' behind' w fits e f = record {
  text = e ∙ ap (λ x. put x behind piece) w.text ∙ put_put buffer at so_far piece behind w.end fits;
  end = omega (arith, length-append so_far piece, w.end);
}
