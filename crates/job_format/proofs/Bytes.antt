-- Numbers in bytes, there and back, and records by their bytes.
use Rattle.std.proofs.Common.{◌≡◌, ℕ, ◌+◌, ◌*◌, ◌/◌, ◌%◌, ◌<◌, ◌≤◌, Bool, true, false, cond, not, eqb, ltb, leb, ◌⊎◌, List, [], ◌∷◌, ◌++◌, map, length, get_or, Some, None, unwrap_or, sym, refl, ap, ◌∙◌, subst, inl, inr, arith}
use native.Mathlib.Nat.{div-div-eq-div-mul}
use Rattle.std.proofs.lemmas.List.FromFn.{fill_by_all}
use Rattle.std.proofs.lemmas.Bool.{cases_eq, eq-eqb, ne_eqb, or_parts, ltb-false, leb-false, eqb-true, not-false, true≢false}
use Rattle.steps.specs.declared.step.Join.{Join}
use Rattle.steps.specs.declared.step.Join.TheVariants.{And, Or}
use Rattle.steps.specs.declared.step.Step.{Step}
use Rattle.std.specs.List.{range_with_len}
use Rattle.steps.specs.Limits.{max_minutes, max_fee, no_target, outside}
use Rattle.steps.specs.Numbers.{join_number, join_of}
use Rattle.job_format.specs.Layout.{word, long, kind, body_length, step_in, bad_head, bad_step, bad_target, wrong_join, bad_join}
use Rattle.job_format.specs.Encoding.{two_bytes, four_bytes, flag, head_bytes, step_bytes, end_bytes}

-- each element is a byte
abbrev pub Bytes : List ℕ → Type 0
Bytes xs = (i : ℕ) → get_or xs i 0 < 256

pub two_there : (n : ℕ) → n < 65536 → n % 256 + n / 256 % 256 * 256 ≡ n
two_there n h = omega arith

pub four_there : (n : ℕ) → n < 4294967296 → n % 256 + n / 256 % 256 * 256 + n / 65536 % 256 * 65536 + n / 16777216 % 256 * 16777216 ≡ n
four_there n h =
    let e : n / 65536 ≡ n / 256 / 256 = sym (div-div-eq-div-mul n 256 256) in
    let f : n / 16777216 ≡ n / 65536 / 256 = sym (div-div-eq-div-mul n 65536 256) in
    fold n (n / 256) (n / 65536) (n / 16777216) (omega arith) (omega (arith, e)) (omega (arith, f)) h
  where
    fold : (n q r s : ℕ) → n ≡ n % 256 + q * 256 → q ≡ q % 256 + r * 256 → r ≡ r % 256 + s * 256 → n < 4294967296 → n % 256 + q % 256 * 256 + r % 256 * 65536 + s % 256 * 16777216 ≡ n
    fold n q r s a b c h = let l : s < 256 = omega arith in let m : s % 256 ≡ s = omega arith in omega arith

-- a byte in front of a number
low_byte : (a q : ℕ) → a < 256 → (a + q * 256) % 256 ≡ a
low_byte a q h = omega arith

high_bytes : (a q : ℕ) → a < 256 → (a + q * 256) / 256 ≡ q
high_bytes a q h = omega arith

byte : (a : ℕ) → a < 256 → a % 256 ≡ a
byte a h = omega arith

two_back : (a b : ℕ) → a < 256 → b < 256 → two_bytes (a + b * 256) ≡ a ∷ b ∷ []
two_back a b h k =
    let x = low_byte a b h in
    let y : (a + b * 256) / 256 % 256 ≡ b = ap (λ x. x % 256) (high_bytes a b h) ∙ byte b k in
    cc

four_back : (a b c d : ℕ) → a < 256 → b < 256 → c < 256 → d < 256 → four_bytes (a + b * 256 + c * 65536 + d * 16777216) ≡ a ∷ b ∷ c ∷ d ∷ []
four_back a b c d ha hb hc hd =
    let n = a + b * 256 + c * 65536 + d * 16777216 in
    let e : n ≡ a + (b + (c + d * 256) * 256) * 256 = omega arith in
    let q₁ : n / 256 ≡ b + (c + d * 256) * 256 = ap (λ x. x / 256) e ∙ high_bytes a _ ha in
    let q₂ : n / 65536 ≡ c + d * 256 = sym (div-div-eq-div-mul n 256 256) ∙ ap (λ x. x / 256) q₁ ∙ high_bytes b _ hb in
    let q₃ : n / 16777216 ≡ d = sym (div-div-eq-div-mul n 65536 256) ∙ ap (λ x. x / 256) q₂ ∙ high_bytes c d hc in
    let x₀ : n % 256 ≡ a = ap (λ x. x % 256) e ∙ low_byte a _ ha in
    let x₁ : n / 256 % 256 ≡ b = ap (λ x. x % 256) q₁ ∙ low_byte b _ hb in
    let x₂ : n / 65536 % 256 ≡ c = ap (λ x. x % 256) q₂ ∙ low_byte c d hc in
    let x₃ : n / 16777216 % 256 ≡ d = ap (λ x. x % 256) q₃ ∙ byte d hd in
    cc

join_there : (j : Join) → unwrap_or (join_of (join_number j)) And ≡ j
join_there And = refl
join_there Or = refl

flag_there : (b : Bool) → eqb (flag b) 1 ≡ b
flag_there true = refl
flag_there false = refl

-- the step of a step's bytes is the step
pub step_back : (s : Step) → s.target < 65536 → s.minutes < 65536 → s.fee < 4294967296 → step_in (step_bytes s) ≡ s
step_back s a b c =
    let t : word (step_bytes s) 4 ≡ s.target = two_there s.target a in
    let m : word (step_bytes s) 8 ≡ s.minutes = two_there s.minutes b in
    let f : long (step_bytes s) 10 ≡ s.fee = four_there s.fee c in
    same t (join_there s.join) m f (flag_there s.closed)
  where
    same : {t t' m m' f f' : ℕ} {j j' : Join} {b b' : Bool} → t ≡ t' → j ≡ j' → m ≡ m' → f ≡ f' → b ≡ b' → ◌≡◌ {A = Step} (record { target = t; join = j; minutes = m; fee = f; closed = b }) (record { target = t'; join = j'; minutes = m'; fee = f'; closed = b' })
    same e g h i k = cc

-- A record of n bytes is the list of them.

listed : (n : ℕ) (r : List ℕ) → length r ≡ n → r ≡ map (λ k. get_or r k 0) (range_with_len 0 n)
listed n r e = fill_by_all (λ k. get_or r k 0) r n 0 e (λ k h. refl)

-- the frame of a record whose length and kind are below 256
frame : (a b n : ℕ) → n < 256 → a + b * 256 ≡ n → (a ≡ n) × (b ≡ 0)
frame a b n h e = (omega arith, omega arith)

pub head_encoded : (r : List ℕ) → length r ≡ 6 → body_length r ≡ 2 → kind r ≡ 1 → bad_head r ≡ false → r ≡ head_bytes (get_or r 5 0)
head_encoded r l n k f =
    let e = listed 6 r l in
    let a = frame (get_or r 0 0) (get_or r 1 0) 2 (omega arith) n in
    let b = frame (get_or r 2 0) (get_or r 3 0) 1 (omega arith) k in
    let c = eqb-true (get_or r 4 0) 1 (not-false _ (or_parts _ _ f).0) in
    e ∙ six a.0 a.1 b.0 b.1 c
  where
    six : {a a' b b' c c' d d' e e' f : ℕ} → a ≡ a' → b ≡ b' → c ≡ c' → d ≡ d' → e ≡ e' → ◌≡◌ {A = List ℕ} (a ∷ b ∷ c ∷ d ∷ e ∷ f ∷ []) (a' ∷ b' ∷ c' ∷ d' ∷ e' ∷ f ∷ [])
    six p q r s t = cc

pub end_encoded : (r : List ℕ) → length r ≡ 4 → body_length r ≡ 0 → kind r ≡ 3 → r ≡ end_bytes
end_encoded r l n k =
    let e = listed 4 r l in
    let a = frame (get_or r 0 0) (get_or r 1 0) 0 (omega arith) n in
    let b = frame (get_or r 2 0) (get_or r 3 0) 3 (omega arith) k in
    let p = a.0 in
    let q = a.1 in
    let s = b.0 in
    let t = b.1 in
    cc

-- what the tests on a step record's fields say
pub record Fields (number : ℕ) (r : List ℕ) : Type 0 where
  pub first : number ≡ 0 → (word r 4 ≡ no_target) × (get_or r 6 0 ≡ 1)
  pub lower : 0 < number → word r 4 < number
  pub join : (get_or r 6 0 ≡ 1) ⊎ (get_or r 6 0 ≡ 2)
  pub mark : get_or r 7 0 ≤ 1
  pub minutes : (1 ≤ word r 8) × (word r 8 ≤ max_minutes)
  pub fee : long r 10 ≤ max_fee

target_told : (number target : ℕ) → bad_target number target ≡ false → (number ≡ 0 → target ≡ no_target) × (0 < number → target < number)
target_told number target h =
    elim (cases_eq number 0) [
      | inl e ↦ (λ z. eqb-true target no_target (not-false _ (ap (λ b. cond b (not (eqb target no_target)) (leb number target)) (sym (eq-eqb number 0 e)) ∙ h)), λ p. absurd (omega arith))
      | inr n ↦ (λ z. absurd (n z), λ p. leb-false number target (ap (λ b. cond b (not (eqb target no_target)) (leb number target)) (sym (ne_eqb number 0 n)) ∙ h))
    ]

join_told : (number j : ℕ) → bad_join number j ≡ false → ((j ≡ 1) ⊎ (j ≡ 2)) × (number ≡ 0 → j ≡ 1)
join_told number j h =
    elim (cases_eq j 1) [
      | inl e ↦ (inl e, λ z. e)
      | inr n ↦ elim (cases_eq j 2) [
        | inl e ↦ (inr e, λ z. absurd (true≢false (sym (eq-eqb number 0 z) ∙ subst (λ k. bad_join number k ≡ false) e h)))
        | inr m ↦
            let none : join_of j ≡ None = ap (λ b. cond b (Some And) (cond (eqb j 2) (Some Or) None)) (ne_eqb j 1 n) ∙ ap (λ b. cond b (Some Or) None) (ne_eqb j 2 m) in
            absurd (true≢false (sym (ap (wrong_join number) none) ∙ h))
      ]
    ]

pub fields_told : (number : ℕ) (r : List ℕ) → bad_step number r ≡ false → Fields number r
fields_told number r h =
    let a = or_parts (bad_target number (word r 4)) _ h in
    let b = or_parts (bad_join number (get_or r 6 0)) _ a.1 in
    let c = or_parts (ltb 1 (get_or r 7 0)) _ b.1 in
    let d = or_parts (outside 1 max_minutes (word r 8)) (ltb max_fee (long r 10)) c.1 in
    let e = or_parts (ltb (word r 8) 1) (ltb max_minutes (word r 8)) d.0 in
    let t = target_told number (word r 4) a.0 in
    let j = join_told number (get_or r 6 0) b.0 in
    record {
      first = λ z. (t.0 z, j.1 z);
      lower = t.1;
      join = j.0;
      mark = ltb-false 1 (get_or r 7 0) c.0;
      minutes = (ltb-false (word r 8) 1 e.0, ltb-false max_minutes (word r 8) e.1);
      fee = ltb-false max_fee (long r 10) d.1;
    }

-- joins and marks, there and back
join_back : (j : ℕ) → (j ≡ 1) ⊎ (j ≡ 2) → join_number (unwrap_or (join_of j) And) ≡ j
join_back j (inl e) = rw e refl
join_back j (inr e) = rw e refl

mark_back : (m : ℕ) → m ≤ 1 → flag (eqb m 1) ≡ m
mark_back m h =
    elim (cases_eq m 1) [
      | inl e ↦ rw e refl
      | inr n ↦ let z : m ≡ 0 = omega arith in rw z refl
    ]

pub step_encoded : (number : ℕ) (r : List ℕ) → length r ≡ 14 → body_length r ≡ 10 → kind r ≡ 2 → Fields number r → Bytes r → r ≡ step_bytes (step_in r)
step_encoded number r l n k f b =
    let x = frame (get_or r 0 0) (get_or r 1 0) 10 (omega arith) n in
    let y = frame (get_or r 2 0) (get_or r 3 0) 2 (omega arith) k in
    listed 14 r l
    ∙ whole x.0 x.1 y.0 y.1
    (sym (two_back (get_or r 4 0) (get_or r 5 0) (b 4) (b 5)))
    (sym (join_back (get_or r 6 0) f.join))
    (sym (mark_back (get_or r 7 0) f.mark))
    (sym (two_back (get_or r 8 0) (get_or r 9 0) (b 8) (b 9)))
    (sym (four_back (get_or r 10 0) (get_or r 11 0) (get_or r 12 0) (get_or r 13 0) (b 10) (b 11) (b 12) (b 13)))
  where
    whole : {a a' b b' c c' d d' t₀ t₁ j j' m m' u₀ u₁ f₀ f₁ f₂ f₃ : ℕ} {t u f : List ℕ} → a ≡ a' → b ≡ b' → c ≡ c' → d ≡ d' → t₀ ∷ t₁ ∷ [] ≡ t → j ≡ j' → m ≡ m' → u₀ ∷ u₁ ∷ [] ≡ u → f₀ ∷ f₁ ∷ f₂ ∷ f₃ ∷ [] ≡ f → ◌≡◌ {A = List ℕ} (a ∷ b ∷ c ∷ d ∷ t₀ ∷ t₁ ∷ j ∷ m ∷ u₀ ∷ u₁ ∷ f₀ ∷ f₁ ∷ f₂ ∷ f₃ ∷ []) (a' ∷ b' ∷ c' ∷ d' ∷ (t ++ (j' ∷ m' ∷ (u ++ f))))
    whole p q r s t j m u f = rw (← p, ← q, ← r, ← s, ← t, ← j, ← m, ← u, ← f) refl
