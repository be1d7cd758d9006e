-- In every greedy run, each row is in order over the older ones.
use Rattle.std.proofs.Common.{◌≡◌, ℕ, suc, ◌+◌, ◌<◌, ◌≤◌, true, false, eqb, List, [], ◌∷◌, length, drop, refl, inl, inr}
use Rattle.std.proofs.lemmas.Bool.{false≢true, eqb-true, eq-eqb, and_from, and_parts, and_cases, or_cases, or_parts, not-true, both_ways, ltb-false, leb-true}
use Rattle.steps.specs.declared.row.Row.{Row}
use Rattle.steps.specs.declared.step.Step.{Step}
use Rattle.steps.specs.Sheet.{step}
use Rattle.ways.specs.Ways.{Set}
use Rattle.ways.proofs.Suffixes.{Each, each_at}
use Rattle.schedules.specs.Timetables.{All, Has}
use Rattle.schedules.specs.Dispatch.{State, busy, begun, ended, over, fed, ready, begin}
use Rattle.schedules.specs.Greedy.{Greedy}
use Rattle.schedules.proofs.Turns.{Kept, greedy_kept}

-- the bench was free, the step new and fed, and the row takes the step's minutes
pub record Sound (benches : ℕ) (ss : List Step) (w : Set) (r : Row) (older : List Row) : Type 0 where
  pub on_way : w r.step ≡ true
  pub on_bench : r.bench < benches
  pub was_free : All (λ o. o.bench ≡ r.bench → o.end ≤ r.start) older
  pub was_new : All (λ o. o.step ≡ r.step → ⊥) older
  pub was_fed : (j : ℕ) → r.step < j → j < length ss → (step ss j).target ≡ r.step → w j ≡ true → Has (λ o. (o.step ≡ j) × (o.end ≤ r.start)) older
  pub takes : r.end ≡ r.start + (step ss r.step).minutes

abbrev pub Valid : ℕ → List Step → Set → List Row → Type 0
Valid benches ss w [] = Unit {0}
Valid benches ss w (r ∷ rs) = Sound benches ss w r rs × Valid benches ss w rs

not_busy : (now b : ℕ) (rs : List Row) → busy now b rs ≡ false → All (λ o. o.bench ≡ b → o.end ≤ now) rs
not_busy now b [] e = tt
not_busy now b (r ∷ rs) e =
    let p = or_parts _ _ e in
    ((λ q. elim (and_cases _ _ p.0) [ inl n ↦ absurd (both_ways _ n (eq-eqb r.bench b q)) | inr n ↦ ltb-false now r.end n ]), not_busy now b rs p.1)

not_begun : (i : ℕ) (rs : List Row) → begun i rs ≡ false → All (λ o. o.step ≡ i → ⊥) rs
not_begun i [] e = tt
not_begun i (r ∷ rs) e = let p = or_parts _ _ e in ((λ q. both_ways _ p.0 (eq-eqb r.step i q)), not_begun i rs p.1)

has_ended : (now i : ℕ) (rs : List Row) → ended now i rs ≡ true → Has (λ o. (o.step ≡ i) × (o.end ≤ now)) rs
has_ended now i [] e = false≢true e
has_ended now i (r ∷ rs) e =
    elim (or_cases _ _ e) [
      | inl h ↦ let p = and_parts _ _ h in inl (eqb-true r.step i p.0, leb-true r.end now p.1)
      | inr h ↦ inr (has_ended now i rs h)
    ]

all_fed : (w : Set) (st : State) (i j : ℕ) (ss : List Step) → fed w (over st) i j ss ≡ true → Each (λ k u us. eqb u.target i ≡ true → w k ≡ true → ended st.now k st.rows ≡ true) j ss
all_fed w st i j [] e = tt
all_fed w st i j (s ∷ ss) e =
    let p = and_parts _ _ e in
    ((λ t h. elim (or_cases _ _ p.0) [ inl n ↦ absurd (both_ways _ (not-true _ n) (and_from _ _ t h)) | inr y ↦ y ]), all_fed w st i (suc j) ss p.1)

-- what a ready step is
pub is_ready : (ss : List Step) (w : Set) (st : State) (i : ℕ) → ready ss w st i ≡ true → (w i ≡ true) × (begun i st.rows ≡ false) × (fed w (over st) i (suc i) (drop (suc i) ss) ≡ true)
is_ready ss w st i r =
    let p = and_parts _ _ r in
    let q = and_parts _ _ p.0 in
    (q.0, not-true _ q.1, p.1)

module _ (benches : ℕ) (ss : List Step) (w : Set) where
  sound : (st : State) (i b : ℕ) → ready ss w st i ≡ true → b < benches → busy st.now b st.rows ≡ false → Valid benches ss w st.rows → Valid benches ss w (begin ss st i b).rows
  sound st i b r l f v =
      let p = is_ready ss w st i r in (
        record {
          on_way = p.0;
          on_bench = l;
          was_free = not_busy st.now b st.rows f;
          was_new = not_begun i st.rows p.1;
          was_fed = λ j a l t h. has_ended st.now j st.rows
              (each_at ss (λ k u us. eqb u.target i ≡ true → w k ≡ true → ended st.now k st.rows ≡ true) (suc i) (drop (suc i) ss) refl (all_fed w st i (suc i) _ p.2) j a l (eq-eqb _ _ t) h);
          takes = refl;
        },
        v,
      )

  pub valid_kept : (st : State) → Valid benches ss w st.rows → Kept benches ss w (λ s. Valid benches ss w s.rows) st
  valid_kept st v = record {
    on_begin = λ i b l r c f. sound st i b r c f v;
    on_wait = λ t e h. v;
    on_rest = λ e h. v;
  }

  pub greedy_valid : {st : State} → Greedy benches ss w st → Valid benches ss w st.rows
  greedy_valid = greedy_kept benches ss w (λ s. Valid benches ss w s.rows) tt valid_kept

  pub on_benches : (rs : List Row) → Valid benches ss w rs → All (λ o. o.bench < benches) rs
  on_benches [] v = tt
  on_benches (r ∷ rs) v = (v.0.on_bench, on_benches rs v.1)
