-- What is kept by step stays true when a step begins.
use Rattle.std.proofs.Common.{◌≡◌, ℕ, ◌<◌, Bool, true, false, cond, ◌&&◌, ◌||◌, eqb, leb, List, [], ◌∷◌, ◌++◌, length, set, Some, None, Option, is_some, unwrap_or, sym, refl, ap, ◌∙◌, subst, inl, inr}
use Rattle.std.proofs.lemmas.List.{get_or-set_same, get_or-set_other}
use Rattle.std.proofs.lemmas.Bool.{cases_eq, eq-eqb, ne_eqb, or_parts, or_from}
use Rattle.steps.specs.declared.row.Row.{Row}
use Rattle.std.proofs.Math.Bool.{or-false}
use Rattle.std.proofs.lemmas.List.Folds.{list_any-append}
use Rattle.std.specs.List.{list_any}
use Rattle.schedules.specs.Dispatch.{begun, ended}
use Rattle.schedules.specs.Timetables.{end_of}
use Rattle.dispatch.specs.Tracking.{end_in, passed, started_by, done_by, Tracks}

any_push : (test : Row → Bool) (rows : List Row) (r : Row) → list_any test (rows ++ r ∷ []) ≡ (list_any test rows || test r)
any_push test rows r = list_any-append test rows (r ∷ []) ∙ ap (λ b. list_any test rows || b) (or-false (test r))

end_push : (i : ℕ) (rows : List Row) (r : Row) → end_of i (rows ++ r ∷ []) ≡ cond (begun i rows) (end_of i rows) (cond (eqb r.step i) r.end 0)
end_push i [] r = refl
end_push i (q ∷ rows) r = go (eqb q.step i) (end_push i rows r)
  where
    go : (b : Bool) → end_of i (rows ++ r ∷ []) ≡ cond (begun i rows) (end_of i rows) (cond (eqb r.step i) r.end 0) → cond b q.end (end_of i (rows ++ r ∷ [])) ≡ cond (b || begun i rows) (cond b q.end (end_of i rows)) (cond (eqb r.step i) r.end 0)
    go true e = refl
    go false e = e

-- a step that has not begun has not ended
not_ended : (t i : ℕ) (rows : List Row) → begun i rows ≡ false → ended t i rows ≡ false
not_ended t i [] e = refl
not_ended t i (q ∷ rows) e =
    let p = or_parts (eqb q.step i) (begun i rows) e in
    or_from _ _ (ap (λ b. b && leb q.end t) p.0) (not_ended t i rows p.1)

-- nor does it have an end
no_end : (i : ℕ) (rows : List Row) → begun i rows ≡ false → end_of i rows ≡ 0
no_end i [] e = refl
no_end i (q ∷ rows) e =
    let p = or_parts (eqb q.step i) (begun i rows) e in
    ap (λ b. cond b q.end (end_of i rows)) p.0 ∙ no_end i rows p.1

module _ (rows : List Row) (ends : List (Option ℕ)) (r : Row) (tracks : Tracks rows ends) (fresh : begun r.step rows ≡ false) (room : r.step < length ends) where
  abbrev after : List (Option ℕ)
  after = set ends r.step (Some r.end)

  here_end : end_in after r.step ≡ Some r.end
  here_end = get_or-set_same ends r.step (Some r.end) None room

  other_end : (i : ℕ) → (i ≡ r.step → ⊥) → end_in after i ≡ end_in ends i
  other_end i ne = get_or-set_other ends r.step i (Some r.end) None ne

  -- P of the step that begins, and of every other
  by_step : (P : ℕ → Type 0) → P r.step → ((i : ℕ) → (i ≡ r.step → ⊥) → P i) → (i : ℕ) → P i
  by_step P here other i = elim (cases_eq i r.step) [ inl e ↦ subst P (sym e) here | inr ne ↦ other i ne ]

  pub tracks_more : Tracks (rows ++ r ∷ []) after
  tracks_more = record {
    end_as = by_step (λ i. end_of i (rows ++ r ∷ []) ≡ unwrap_or (end_in after i) 0)
        (end_push r.step rows r ∙ ap (λ b. cond b (end_of r.step rows) (cond (eqb r.step r.step) r.end 0)) fresh ∙ ap (λ b. cond b r.end 0) (eq-eqb r.step r.step refl) ∙ sym (ap (λ o. unwrap_or o 0) here_end))
        (λ i ne. end_push i rows r ∙ ap (λ b. cond (begun i rows) (end_of i rows) (cond b r.end 0)) (ne_eqb r.step i (λ e. ne (sym e))) ∙ or_none i (begun i rows) refl ∙ tracks.end_as i ∙ sym (ap (λ o. unwrap_or o 0) (other_end i ne)));
    begun_as = by_step (λ i. begun i (rows ++ r ∷ []) ≡ started_by after i)
        (any_push _ rows r ∙ ap (λ b. b || eqb r.step r.step) fresh ∙ eq-eqb r.step r.step refl ∙ sym (ap is_some here_end))
        (λ i ne. any_push _ rows r ∙ ap (λ b. begun i rows || b) (ne_eqb r.step i (λ e. ne (sym e))) ∙ or_false (begun i rows) ∙ tracks.begun_as i ∙ sym (ap is_some (other_end i ne)));
    ended_as = λ t. by_step (λ i. ended t i (rows ++ r ∷ []) ≡ done_by t after i)
        (any_push _ rows r ∙ ap (λ b. b || (eqb r.step r.step && leb r.end t)) (not_ended t r.step rows fresh) ∙ ap (λ b. b && leb r.end t) (eq-eqb r.step r.step refl) ∙ sym (ap (passed t) here_end))
        (λ i ne. any_push _ rows r ∙ ap (λ b. ended t i rows || (b && leb r.end t)) (ne_eqb r.step i (λ e. ne (sym e))) ∙ or_false (ended t i rows) ∙ tracks.ended_as t i ∙ sym (ap (passed t) (other_end i ne)));
  }
    where
      or_false : (b : Bool) → (b || false) ≡ b
      or_false true = refl
      or_false false = refl

      or_none : (i : ℕ) (b : Bool) → begun i rows ≡ b → cond b (end_of i rows) 0 ≡ end_of i rows
      or_none i true e = refl
      or_none i false e = sym (no_end i rows e)
