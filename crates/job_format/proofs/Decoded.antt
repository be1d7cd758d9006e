-- What a decoded sheet is: well-formed, and its encoding is the file without its notes.
use Rattle.std.proofs.Common.{◌≡◌, ℕ, zero, suc, ◌+◌, ◌<◌, ◌≤◌, Bool, true, false, cond, not, eqb, ltb, List, [], ◌∷◌, ◌++◌, length, get_or, take, drop, Some, None, Ok, Err, Option, Result, unwrap_or, sym, refl, ap, ◌∙◌, subst, inl, inr, arith}
use Rattle.std.proofs.lemmas.List.{append_assoc, append-nil, length_push, length-take, get_or-take, get_or-drop, get_or_past, flat_map_more}
use Rattle.std.proofs.lemmas.Bool.{cases_lt, or_parts, ltb-false}
use Rattle.std.specs.List.{flat_map, AllByRecursion as All}
use Rattle.steps.proofs.Clashes.{clash}
use Rattle.steps.proofs.Pushes.{each_push}
use Rattle.steps.specs.declared.refusal.Refusal.{Refusal}
use Rattle.steps.specs.declared.step.Join.TheVariants.{And}
use Rattle.steps.specs.declared.step.Step.{Step}
use Rattle.steps.specs.Limits.{max_benches, outside}
use Rattle.steps.specs.Numbers.{join_number, join_of}
use Rattle.steps.specs.Sheet.{Sheet, WellFormed, Crewed, step}
use Rattle.job_format.specs.declared.Stage.{Stage}
use Rattle.job_format.specs.declared.Stage.TheVariants.{Start, Body, Finished}
use Rattle.job_format.specs.Layout.{kind, body_length, step_in, fault, stage_after, edition}
use Rattle.job_format.specs.Encoding.{head_bytes, step_bytes, end_bytes, encode}
use Rattle.job_format.specs.Decoding.{first, cut, records, benches_after, step_list_after, at_stop, unless, decode_from, decode, unless_note, without_notes}
use Rattle.job_format.proofs.Passing.{Passes, passes}
use Rattle.job_format.proofs.KindsPassed.{Kinds, a_head, a_step, an_end, a_note, kinds}
use Rattle.job_format.proofs.Bytes.{Bytes, Fields, fields_told, head_encoded, step_encoded, end_encoded}
use Rattle.job_format.proofs.Encoded.{Stands}

-- no refusal is said where the answer is a sheet
fault_free : {T : Type 0} (found : Option Refusal) (place : ℕ) (next : Result T (ℕ × ℕ)) (x : T) → unless found place next ≡ Ok x → (found ≡ None) × (next ≡ Ok x)
fault_free None place next x h = (refl, h)
fault_free (Some e) place next x h = clash (cc)

-- where bytes stop and the answer is a sheet, the end record is read, and the sheet is what was read
stopped_well : (stage : Stage) (place : ℕ) (x s : Sheet) → at_stop stage place x ≡ Ok s → (stage ≡ Finished) × (x ≡ s)
stopped_well Start place x s h = clash (cc)
stopped_well Body place x s h = clash (cc)
stopped_well Finished place x s h = (refl, (cc))

-- P speaks of what is read so far and of its bytes, notes left out; each record r with Q r that passes keeps it
module _ (limit : ℕ) (P : Stage → ℕ → List Step → List ℕ → Type 0) (Q : List ℕ → Type 0) (keeps : (stage : Stage) (benches : ℕ) (steps : List Step) (text r : List ℕ) → Q r → Kinds limit (length steps) r stage → Passes limit stage (length steps) r → P stage benches steps text → P (stage_after stage (kind r)) (benches_after benches r) (step_list_after steps r) (text ++ unless_note r)) where
  -- so it is held where a file ends well
  pub ended_well : (rs : List (List ℕ)) (stage : Stage) (benches : ℕ) (steps : List Step) (place : ℕ) (text : List ℕ) (s : Sheet) → All Q rs → P stage benches steps text → decode_from limit stage benches steps place rs ≡ Ok s → P Finished s.benches s.steps (text ++ flat_map unless_note rs)
  ended_well [] stage benches steps place text s q p h =
      let e = stopped_well stage place _ s h in
      let p' : P Finished benches steps text = subst (λ x. P x benches steps text) e.0 p in
      subst (λ (x : Sheet). P Finished x.benches x.steps (text ++ [])) e.1 (subst (P Finished benches steps) (sym (append-nil text)) p')
  ended_well (r ∷ rs) stage benches steps place text s q p h =
      let w = fault_free (fault limit stage (length steps) r) place _ s h in
      let ok = passes limit stage (length steps) r w.0 in
      let p' = keeps stage benches steps text r q.0 (kinds limit stage (length steps) r ok) ok p in
      subst (P Finished s.benches s.steps) (append_assoc text (unless_note r) (flat_map unless_note rs)) (ended_well rs _ _ _ _ (text ++ unless_note r) s q.1 p' w.1)

-- Each record of a file is no longer than it says, and consists of the file's bytes.
pub record Framed (r : List ℕ) : Type 0 where
  pub most : length r ≤ 4 + body_length r
  pub bytes : Bytes r

first_framed : (bytes : List ℕ) → Bytes bytes → Framed (first bytes)
first_framed bytes b =
    let n = 4 + body_length bytes in
    let low = get_or-take n bytes 0 0 (omega arith) in
    let high = get_or-take n bytes 1 0 (omega arith) in
    record {
      most = omega (arith, length-take n bytes, low, high);
      bytes = λ i. elim (cases_lt i n) [
        | inl l ↦ rw (get_or-take n bytes i 0 l) (b i)
        | inr l ↦ rw (get_or_past (take n bytes) i 0 (omega (arith, length-take n bytes))) (omega arith)
      ];
    }

cut_framed : (turns : ℕ) (bytes : List ℕ) → Bytes bytes → All Framed (cut turns bytes)
cut_framed zero bytes b = tt
cut_framed (suc turns) [] b = tt
cut_framed (suc turns) (x ∷ xs) b =
    let n = 4 + body_length (x ∷ xs) in
    (first_framed (x ∷ xs) b, cut_framed turns (drop n (x ∷ xs)) (λ i. rw (get_or-drop n (x ∷ xs) i 0) (b (n + i))))

-- What is read so far at each stage, with its bytes.
abbrev Sound : ℕ → List Step → Type 0
Sound limit steps = (length steps ≤ limit) × ((k : ℕ) → k < length steps → Stands k (step steps k))

abbrev written : ℕ → List Step → List ℕ
written benches steps = head_bytes benches ++ flat_map step_bytes steps

abbrev Read : ℕ → Stage → ℕ → List Step → List ℕ → Type 0
Read limit Start benches steps text = (steps ≡ []) × (text ≡ [])
Read limit Body benches steps text = Crewed benches × Sound limit steps × (text ≡ written benches steps)
Read limit Finished benches steps text = Crewed benches × Sound limit steps × (text ≡ written benches steps ++ end_bytes) × (0 < length steps)

-- One record more.

length_is : (r : List ℕ) (n : ℕ) → Framed r → 4 + body_length r ≤ length r → body_length r ≡ n → length r ≡ 4 + n
length_is r n f h e = omega (arith, f.most)

stands_read : (number : ℕ) (r : List ℕ) → Fields number r → Stands number (step_in r)
stands_read number r f = record {
  first = λ z. ((f.first z).0, ap (λ j. join_number (unwrap_or (join_of j) And)) (f.first z).1);
  lower = f.lower;
  minutes = f.minutes;
  fee = f.fee;
}

sound_more : (limit : ℕ) (steps : List Step) (s : Step) → length steps < limit → Sound limit steps → Stands (length steps) s → Sound limit (steps ++ s ∷ [])
sound_more limit steps s h old new = (omega (arith, length_push steps s), each_push steps s Stands old.1 new)

module _ (limit benches : ℕ) (steps : List Step) (text r : List ℕ) where
  -- what is read after r, by its kind
  abbrev After : Stage → ℕ → Type 0
  After stage k = Read limit (stage_after stage k) (cond (eqb k 1) (get_or r 5 0) benches) (cond (eqb k 2) (steps ++ step_in r ∷ []) steps) (text ++ cond (eqb k 4) [] r)

  kept : (stage : Stage) → Framed r → Kinds limit (length steps) r stage → 4 + body_length r ≤ length r → Read limit stage benches steps text → After stage (kind r)
  kept Start f (a_head k n bad) whole (none, empty) =
      let e = head_encoded r (length_is r 2 f whole n) n k bad in
      let c = or_parts (ltb (get_or r 5 0) 1) (ltb max_benches (get_or r 5 0)) (or_parts (not (eqb (get_or r 4 0) edition)) (outside 1 max_benches (get_or r 5 0)) bad).1 in
      subst (After Start) (sym k) (
        (ltb-false _ _ c.0, ltb-false _ _ c.1),
        (omega (arith, ap length none), λ i p. absurd (omega (arith, ap length none, p))),
        (rw (none, empty) e),
      )
  kept Body f (a_step k n room bad) whole (crewed, sound, told) =
      let fs = fields_told (length steps) r bad in
      let e = step_encoded (length steps) r (length_is r 10 f whole n) n k fs f.bytes in
      subst (After Body) (sym k) (
        crewed,
        sound_more limit steps (step_in r) room sound (stands_read (length steps) r fs),
        (ap (λ t. t ++ r) told ∙ ap (λ b. written benches steps ++ b) e ∙ flat_map_more step_bytes (head_bytes benches) steps (step_in r)),
      )
  kept Body f (an_end k n some) whole (crewed, sound, told) =
      let e = end_encoded r (length_is r 0 f whole n) n k in
      subst (After Body) (sym k) (crewed, sound, (ap (λ t. t ++ r) told ∙ ap (λ b. written benches steps ++ b) e), some)
  kept Body f (a_note k) whole (crewed, sound, told) =
      subst (After Body) (sym k) (crewed, sound, append-nil text ∙ told)
  kept Finished f none whole held = elim none [ ]

not_too_long : {T E : Type 0} (long : Bool) (e : E) (x : Result T E) (s : T) → cond long (Err e) x ≡ Ok s → x ≡ Ok s
not_too_long true e x s h = clash (cc)
not_too_long false e x s h = h

decoded_read : (limit : ℕ) (file : List ℕ) (s : Sheet) → Bytes file → decode limit file ≡ Ok s → Read limit Finished s.benches s.steps (without_notes file)
decoded_read limit file s bytes h =
    ended_well limit (Read limit) Framed (λ stage benches steps text r f k p held. kept limit benches steps text r stage f k p.whole held) (records file) Start 0 [] 0 [] s (cut_framed (length file) file bytes) (refl, refl) (not_too_long _ _ _ s h)

-- a sheet that a file is decoded to keeps the properties
pub decoded_well_formed : (limit : ℕ) (file : List ℕ) (s : Sheet) → Bytes file → decode limit file ≡ Ok s → WellFormed limit s
decoded_well_formed limit file s bytes h =
    let d = decoded_read limit file s bytes h in
    let stands = d.1.1 in
    record {
      size = (omega (arith, d.3), d.1.0);
      rooted = (stands 0 d.3).first refl;
      descending = λ i p l. (stands i l).lower p;
      timed = λ i l. (stands i l).minutes;
      priced = λ i l. (stands i l).fee;
      crewed = d.0;
    }

-- and its encoding is the file without its note records
pub decoded_back : (limit : ℕ) (file : List ℕ) (s : Sheet) → Bytes file → decode limit file ≡ Ok s → encode s ≡ without_notes file
decoded_back limit file s bytes h = sym (decoded_read limit file s bytes h).2
