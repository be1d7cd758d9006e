-- The four ways in which a record passes, one for each kind.
use Rattle.std.proofs.Common.{◌≡◌, ℕ, ◌<◌, ◌≤◌, true, false, cond, ◌&&◌, eqb, ◌⊎◌, List, sym, ap, ◌∙◌, inl, inr, arith}
use Rattle.std.proofs.lemmas.Bool.{cases_eq, eqb-true, eqb-false, eq-eqb, ne_eqb, not-false, or_parts, true≢false}
use Rattle.job_format.specs.declared.Stage.{Stage}
use Rattle.job_format.specs.declared.Stage.TheVariants.{Start, Body, Finished}
use Rattle.job_format.specs.Layout.{body_length, kind, head_kind, step_kind, end_kind, note_kind, wrong_length, bad_field, bad_head, bad_step}
use Rattle.job_format.proofs.Passing.{Passes, known_kind, room_left}

-- a record that passes at a stage, after so many steps
pub data Kinds (limit : ℕ) (steps : ℕ) (r : List ℕ) : Stage → Type 0 where
  a_head : kind r ≡ head_kind → body_length r ≡ 2 → bad_head r ≡ false → Kinds limit steps r Start
  a_step : kind r ≡ step_kind → body_length r ≡ 10 → steps < limit → bad_step steps r ≡ false → Kinds limit steps r Body
  an_end : kind r ≡ end_kind → body_length r ≡ 0 → 0 < steps → Kinds limit steps r Body
  a_note : kind r ≡ note_kind → Kinds limit steps r Body

-- the body length of a record that passes, by its kind
module _ (limit : ℕ) (stage : Stage) (steps : ℕ) (r : List ℕ) (p : Passes limit stage steps r) where
  at_kind : (k : ℕ) → kind r ≡ k → wrong_length k (body_length r) ≡ false
  at_kind k e = ap (λ x. wrong_length x (body_length r)) (sym e) ∙ p.sized

  pub head_length : kind r ≡ head_kind → body_length r ≡ 2
  head_length e = eqb-true (body_length r) 2 (not-false _ (at_kind head_kind e))

  pub step_length : kind r ≡ step_kind → body_length r ≡ 10
  step_length e = eqb-true (body_length r) 10 (not-false _ (at_kind step_kind e))

  pub end_length : kind r ≡ end_kind → body_length r ≡ 0
  end_length e = eqb-true (body_length r) 0 (not-false _ (at_kind end_kind e))

pub kinds : (limit : ℕ) (stage : Stage) (steps : ℕ) (r : List ℕ) → Passes limit stage steps r → Kinds limit steps r stage
kinds limit Start steps r p =
    let k : kind r ≡ head_kind = eqb-true (kind r) head_kind (not-false _ p.placed) in
    let f : bad_head r ≡ false = ap (λ b. cond b (bad_head r) (eqb (kind r) step_kind && bad_step steps r)) (sym (eq-eqb (kind r) head_kind k)) ∙ p.fields in
    a_head k (head_length limit Start steps r p k) f
kinds limit Body steps r p = by_kind (cases_eq (kind r) step_kind) (cases_eq (kind r) end_kind)
  where
    known : (1 ≤ kind r) × (kind r ≤ 4)
    known = known_kind (kind r) p.known

    not_head : kind r ≡ 1 → ⊥
    not_head = eqb-false (kind r) head_kind (or_parts (eqb (kind r) head_kind) (eqb (kind r) end_kind && eqb steps 0) p.placed).0

    step_fields : kind r ≡ 2 → bad_step steps r ≡ false
    step_fields e =
        let a : cond false (bad_head r) (true && bad_step steps r) ≡ bad_field steps r = ap (λ b. cond b (bad_head r) (true && bad_step steps r)) (sym (ne_eqb (kind r) head_kind not_head)) ∙ ap (λ b. cond (eqb (kind r) head_kind) (bad_head r) (b && bad_step steps r)) (sym (eq-eqb (kind r) step_kind e)) in
        a ∙ p.fields

    some_steps : kind r ≡ 3 → 0 < steps
    some_steps e =
        let a : (true && eqb steps 0) ≡ false = ap (λ b. b && eqb steps 0) (sym (eq-eqb (kind r) end_kind e)) ∙ (or_parts (eqb (kind r) head_kind) (eqb (kind r) end_kind && eqb steps 0) p.placed).1 in
        let n = eqb-false steps 0 a in
        omega (arith, n)

    by_kind : ((kind r ≡ step_kind) ⊎ (kind r ≡ step_kind → ⊥)) → ((kind r ≡ end_kind) ⊎ (kind r ≡ end_kind → ⊥)) → Kinds limit steps r Body
    by_kind (inl e) x = a_step e (step_length limit Body steps r p e) (room_left limit Body steps r p e) (step_fields e)
    by_kind (inr n) (inl e) = an_end e (end_length limit Body steps r p e) (some_steps e)
    by_kind (inr n) (inr m) = a_note (omega (arith, known.0, known.1, not_head, n, m))
kinds limit Finished steps r p = absurd (true≢false p.placed)
