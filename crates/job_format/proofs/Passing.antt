-- What is known of a record in which no fault is found.
use Rattle.std.proofs.Common.{◌≡◌, ℕ, ◌+◌, ◌<◌, ◌≤◌, Bool, true, false, cond, ◌&&◌, eqb, List, length, Some, None, Option, refl}
use Rattle.std.proofs.lemmas.Bool.{or_parts, ltb-false, leb-false, eq-eqb}
use Rattle.steps.proofs.Clashes.{clash}
use Rattle.steps.specs.declared.refusal.Refusal.{Refusal}
use Rattle.job_format.specs.declared.Stage.{Stage}
use Rattle.job_format.specs.Layout.{body_length, kind, step_kind, unknown, misplaced, wrong_length, excess, bad_field, cut_short, fault}

-- where a chain of tests comes to no refusal, its first test fails and so does the rest
pub no_refusal : (b : Bool) (e : Refusal) (rest : Option Refusal) → cond b (Some e) rest ≡ None → (b ≡ false) × (rest ≡ None)
no_refusal true e rest h = clash (cc)
no_refusal false e rest h = (refl, h)

pub record Passes (limit : ℕ) (stage : Stage) (steps : ℕ) (r : List ℕ) : Type 0 where
  pub header : 4 ≤ length r
  pub whole : 4 + body_length r ≤ length r
  pub known : unknown (kind r) ≡ false
  pub placed : misplaced stage steps (kind r) ≡ false
  pub sized : wrong_length (kind r) (body_length r) ≡ false
  pub room : excess limit steps (kind r) ≡ false
  pub fields : bad_field steps r ≡ false

pub passes : (limit : ℕ) (stage : Stage) (steps : ℕ) (r : List ℕ) → fault limit stage steps r ≡ None → Passes limit stage steps r
passes limit stage steps r h =
    let a = no_refusal (cut_short r) _ _ h in
    let b = no_refusal (unknown (kind r)) _ _ a.1 in
    let c = no_refusal (misplaced stage steps (kind r)) _ _ b.1 in
    let d = no_refusal (wrong_length (kind r) (body_length r)) _ _ c.1 in
    let e = no_refusal (excess limit steps (kind r)) _ _ d.1 in
    let f = no_refusal (bad_field steps r) _ _ e.1 in
    let short = or_parts _ _ a.0 in
    record {
      header = ltb-false _ _ short.0;
      whole = ltb-false _ _ short.1;
      known = b.0;
      placed = c.0;
      sized = d.0;
      room = e.0;
      fields = f.0;
    }

-- a step record that passes leaves room below the limit
pub room_left : (limit : ℕ) (stage : Stage) (steps : ℕ) (r : List ℕ) → Passes limit stage steps r → kind r ≡ step_kind → steps < limit
room_left limit stage steps r p k = leb-false limit steps (below (eqb (kind r) step_kind) _ (eq-eqb _ _ k) p.room)
  where
    below : (a b : Bool) → a ≡ true → (a && b) ≡ false → b ≡ false
    below true b e h = h
    below false b e h = let z : ◌≡◌ {A = Bool} true false = cc in cc

pub known_kind : (k : ℕ) → unknown k ≡ false → (1 ≤ k) × (k ≤ 4)
known_kind k h = let a = or_parts _ _ h in (ltb-false _ _ a.0, ltb-false _ _ a.1)
