-- The decoding of a sheet's encoding is the sheet.
use Rattle.std.proofs.Common.{◌≡◌, ℕ, suc, ◌+◌, ◌*◌, ◌<◌, ◌≤◌, Bool, true, false, cond, ltb, List, [], ◌∷◌, ◌++◌, map, length, Some, None, Ok, sym, refl, ap, ◌∙◌, subst, inl, inr, arith}
use Rattle.std.proofs.lemmas.List.{append_assoc, append-nil, length-append, length_push}
use Rattle.std.proofs.lemmas.Bool.{cases_eq, eq-eqb, ne_eqb, le-ltb, lt-leb, or_from, cond-false}
use Rattle.std.specs.List.{flat_map}
use Rattle.steps.proofs.Ranges.{inside}
use Rattle.steps.specs.declared.refusal.Refusal.TheVariants.{BadField}
use Rattle.steps.specs.declared.step.Join.{Join}
use Rattle.steps.specs.declared.step.Join.TheVariants.{And, Or}
use Rattle.steps.specs.declared.step.Step.{Step}
use Rattle.steps.specs.Limits.{max_benches, max_minutes, max_fee, no_target, outside}
use Rattle.steps.specs.Numbers.{join_number}
use Rattle.steps.specs.Sheet.{Sheet, WellFormed, Crewed, step}
use Rattle.job_format.specs.declared.Stage.TheVariants.{Start, Body}
use Rattle.job_format.specs.Layout.{word, long, fault, bad_step, bad_target, bad_join, max_file}
use Rattle.job_format.specs.Encoding.{flag, head_bytes, step_bytes, end_bytes, encode}
use Rattle.job_format.specs.Decoding.{records, decode_from, decode, unless}
use Rattle.job_format.proofs.Bytes.{step_back, two_there, four_there}
use Rattle.job_format.proofs.Cutting.{records_append}

-- the records of an encoding
records_steps : (ss : List Step) → records (flat_map step_bytes ss ++ end_bytes) ≡ map step_bytes ss ++ (end_bytes ∷ [])
records_steps [] = refl
records_steps (s ∷ ss) =
    ap records (append_assoc (step_bytes s) (flat_map step_bytes ss) end_bytes)
    ∙ records_append (step_bytes s) (flat_map step_bytes ss ++ end_bytes) (omega arith) refl
    ∙ ap (λ rs. step_bytes s ∷ rs) (records_steps ss)

records_encoded : (s : Sheet) → records (encode s) ≡ head_bytes s.benches ∷ (map step_bytes s.steps ++ (end_bytes ∷ []))
records_encoded s =
    records_append (head_bytes s.benches) (flat_map step_bytes s.steps ++ end_bytes) (omega arith) refl
    ∙ ap (λ rs. head_bytes s.benches ∷ rs) (records_steps s.steps)

pub length_steps : (ss : List Step) → length (flat_map step_bytes ss) ≡ 14 * length ss
length_steps [] = refl
length_steps (s ∷ ss) = let h = length_steps ss in let e = length-append (step_bytes s) (flat_map step_bytes ss) in omega arith

-- how long an encoding is
pub length_encoded : (s : Sheet) → length (encode s) ≡ 10 + 14 * length s.steps
length_encoded s =
    let a = length-append (head_bytes s.benches) (flat_map step_bytes s.steps ++ end_bytes) in
    let b = length-append (flat_map step_bytes s.steps) end_bytes in
    let c = length_steps s.steps in
    omega arith

-- a step that may stand at a place of a sheet
pub record Stands (number : ℕ) (s : Step) : Type 0 where
  pub first : number ≡ 0 → (s.target ≡ no_target) × (join_number s.join ≡ 1)
  pub lower : 0 < number → s.target < number
  pub minutes : (1 ≤ s.minutes) × (s.minutes ≤ max_minutes)
  pub fee : s.fee ≤ max_fee

good_target : (number target : ℕ) → (number ≡ 0 → target ≡ no_target) → (0 < number → target < number) → bad_target number target ≡ false
good_target number target zero_case more =
    elim (cases_eq number 0) [
      | inl e ↦ rw (eq-eqb number 0 e, eq-eqb target no_target (zero_case e)) refl
      | inr n ↦ rw (ne_eqb number 0 n, lt-leb number target (more (omega arith))) refl
    ]

good_join : (number : ℕ) (j : Join) → (number ≡ 0 → join_number j ≡ 1) → bad_join number (join_number j) ≡ false
good_join number And h = refl
good_join number Or h = let n : number ≡ 0 → ⊥ = λ e. (let z : ◌≡◌ {A = ℕ} 2 1 = h e in omega arith) in ne_eqb number 0 n

good_mark : (b : Bool) → ltb 1 (flag b) ≡ false
good_mark true = refl
good_mark false = refl

good_step : (number : ℕ) (s : Step) → s.target < 65536 → Stands number s → bad_step number (step_bytes s) ≡ false
good_step number s h p =
    let t : word (step_bytes s) 4 ≡ s.target = two_there s.target h in
    let m : word (step_bytes s) 8 ≡ s.minutes = two_there s.minutes (omega (arith, p.minutes)) in
    let f : long (step_bytes s) 10 ≡ s.fee = four_there s.fee (omega (arith, p.fee)) in
    or_from _ _ (ap (bad_target number) t ∙ good_target number s.target (λ z. (p.first z).0) p.lower)
    (or_from _ _ (good_join number s.join (λ z. (p.first z).1))
    (or_from _ _ (good_mark s.closed)
    (or_from _ _ (ap (outside 1 max_minutes) m ∙ inside 1 max_minutes s.minutes p.minutes.0 p.minutes.1)
    (ap (ltb max_fee) f ∙ le-ltb max_fee s.fee p.fee))))

-- a last test that fails leaves no fault
last : (b : Bool) → b ≡ false → cond b (Some BadField) None ≡ None
last b e = rw e refl

head_passes : (limit benches : ℕ) → Crewed benches → fault limit Start 0 (head_bytes benches) ≡ None
head_passes limit benches c = last _ (inside 1 max_benches benches c.0 c.1)

step_passes : (limit : ℕ) (number : ℕ) (s : Step) → number < limit → s.target < 65536 → Stands number s → fault limit Body number (step_bytes s) ≡ None
step_passes limit number s l h p = rw (lt-leb limit number l) (last _ (good_step number s h p))

end_passes : (limit number : ℕ) → 0 < number → fault limit Body number end_bytes ≡ None
end_passes limit number h = let n : number ≡ 0 → ⊥ = λ e. omega arith in rw (ne_eqb number 0 n) refl

-- the steps that are left and the end, behind the steps that are read
steps_back : (limit benches place : ℕ) (read left : List Step) → limit ≤ 65536 → length read + length left ≤ limit → 0 < length read + length left → ((k : ℕ) → k < length left → Stands (length read + k) (step left k)) → decode_from limit Body benches read place (map step_bytes left ++ (end_bytes ∷ [])) ≡ Ok (record { steps = read ++ left; benches = benches })
steps_back limit benches place read [] small most some all =
    rw (end_passes limit (length read) (omega arith), append-nil read) refl
steps_back limit benches place read (s ∷ left) small most some all =
    let here : Stands (length read) s = subst (λ n. Stands n s) (let z : length read + 0 ≡ length read = omega arith in z) (all 0 (omega arith)) in
    let low : s.target < 65536 = elim (cases_eq (length read) 0) [ inl e ↦ omega (arith, (here.first e).0) | inr n ↦ omega (arith, here.lower (omega arith)) ] in
    let whole = step_back s low (omega (arith, here.minutes)) (omega (arith, here.fee)) in
    let l = length_push read s in
    rw (step_passes limit (length read) s (omega arith) low here, whole)
    (steps_back limit benches (place + 14) (read ++ s ∷ []) left small (omega arith) (omega arith) (λ k h. subst (λ n. Stands n (step left k)) (let z : length read + suc k ≡ length (read ++ s ∷ []) + k = omega arith in z) (all (suc k) (omega arith)))
    ∙ ap (λ ss. Ok (record { steps = ss; benches = benches })) (append_assoc read (s ∷ []) left))

-- a step of a well-formed sheet stands at its place
pub standing : (limit : ℕ) (s : Sheet) → WellFormed limit s → (k : ℕ) → k < length s.steps → Stands k (step s.steps k)
standing limit s w k h = record {
  first = λ e. subst (λ n. ((step s.steps n).target ≡ no_target) × (join_number (step s.steps n).join ≡ 1)) (sym e) w.rooted;
  lower = λ p. w.descending k p h;
  minutes = w.timed k h;
  fee = w.priced k h;
}

pub encoded_back : (limit : ℕ) (s : Sheet) → 10 + 14 * limit ≤ max_file → WellFormed limit s → decode limit (encode s) ≡ Ok s
encoded_back limit s small w =
    let l = length_encoded s in
    let size = w.size in
    cond-false (ltb max_file (length (encode s))) _ _ (le-ltb max_file (length (encode s)) (omega arith))
    ∙ ap (decode_from limit Start 0 [] 0) (records_encoded s)
    ∙ ap (λ found. unless found 0 (decode_from limit Body s.benches [] 6 (map step_bytes s.steps ++ (end_bytes ∷ [])))) (head_passes limit s.benches w.crewed)
    ∙ steps_back limit s.benches 6 [] s.steps (omega arith) (omega arith) (omega arith) (λ k h. subst (λ n. Stands n (step s.steps k)) (let z : k ≡ 0 + k = omega arith in z) (standing limit s w k h))
