-- What is busy, begun, ended, ready and free at a moment: it does not hang on the order of the rows, and changes only at an end.
use Rattle.std.proofs.Common.{◌≡◌, ℕ, zero, suc, ◌<◌, ◌≤◌, min, Bool, true, false, not, ◌&&◌, ◌||◌, eqb, ltb, leb, List, [], ◌∷◌, reverse, take, drop, Some, None, Option, sym, refl, ap, ◌∙◌, ap₂, inl, inr, arith}
use mathlib.Core.Path.{fun_ext}
use mathlib.Core.List.{reverse_aux}
use Rattle.std.proofs.lemmas.Bool.{lt-ltb, le-ltb, le-leb, lt-leb}
use Rattle.std.proofs.lemmas.List.Sorted.{list_any-IsPermutation, IsPermutation-reverse}
use Rattle.std.specs.List.{list_any}
use Rattle.steps.specs.declared.row.Row.{Row}
use Rattle.steps.specs.declared.step.Step.{Step}
use Rattle.ways.specs.Paths.{tail}
use Rattle.ways.specs.Ways.{Set}
use Rattle.schedules.specs.Timetables.{All}
use Rattle.schedules.specs.Dispatch.{State, moment, busy, begun, ended, over, fed, ready, unless_busy, free_from, free, readies, ready_list, earlier, next_end}
use Rattle.schedules.specs.Greedy.{WorkConserving}
use Rattle.schedules.specs.Rule.{keep_row, started}
use Rattle.schedules.proofs.Rows.{NoEnd, all_map}

pub record Alike (st q : State) : Type 0 where
  pub busy_same : (b : ℕ) → busy st.now b st.rows ≡ busy q.now b q.rows
  pub begun_same : (i : ℕ) → begun i st.rows ≡ begun i q.rows
  pub ended_same : (i : ℕ) → ended st.now i st.rows ≡ ended q.now i q.rows

module _ (st q : State) (same : Alike st q) where
  fed_same : (w : Set) (i j : ℕ) (ss : List Step) → fed w (over st) i j ss ≡ fed w (over q) i j ss
  fed_same w i j [] = refl
  fed_same w i j (s ∷ ss) = ap₂ (λ x y. (not (eqb s.target i && w j) || x) && y) (same.ended_same j) (fed_same w i (suc j) ss)

  pub ready_same : (ss : List Step) (w : Set) (i : ℕ) → ready ss w st i ≡ ready ss w q i
  ready_same ss w i = ap₂ (λ x y. w i && not x && y) (same.begun_same i) (fed_same w i (suc i) (drop (suc i) ss))

  pub ready_list_same : (ss : List Step) (w : Set) → ready_list ss w st ≡ ready_list ss w q
  ready_list_same ss w = ap (λ test. readies test (tail ss) 0 ss) (fun_ext (ready_same ss w))

  free_from_same : (b n : ℕ) → free_from st b n ≡ free_from q b n
  free_from_same b zero = refl
  free_from_same b (suc n) = ap₂ (λ x y. unless_busy x b y) (same.busy_same b) (free_from_same (suc b) n)

  pub free_same : (benches : ℕ) → free benches st ≡ free benches q
  free_same benches = free_from_same 0 benches

  pub conserving_same : (benches : ℕ) (ss : List Step) (w : Set) → WorkConserving benches ss w st → WorkConserving benches ss w q
  conserving_same benches ss w h i b l r c = sym (same.busy_same b) ∙ h i b l (ready_same ss w i ∙ r) c

pub reverse_alike : (t : ℕ) (rs : List Row) → Alike (moment t rs) (moment t (reverse rs))
reverse_alike t rs = record { busy_same = λ b. same _; begun_same = λ i. same _; ended_same = λ i. same _ }
  where
    same : (test : Row → Bool) → list_any test rs ≡ list_any test (reverse rs)
    same test = list_any-IsPermutation test rs (reverse rs) (IsPermutation-reverse rs)

any_same : (f g : Row → Bool) (rs : List Row) → All (λ r. f r ≡ g r) rs → list_any f rs ≡ list_any g rs
any_same f g [] h = refl
any_same f g (r ∷ rs) h = ap₂ ◌||◌ h.0 (any_same f g rs h.1)

-- from now until the next end at e
pub wait_alike : (now t e : ℕ) (rs : List Row) → All (NoEnd now e) rs → now ≤ t → t < e → Alike (moment now rs) (moment t rs)
wait_alike now t e rs h a b = record {
  busy_same = λ c. any_same _ _ rs (all_map (NoEnd now e) (λ r. (eqb r.bench c && ltb now r.end) ≡ (eqb r.bench c && ltb t r.end)) (λ r x. ap (λ y. eqb r.bench c && y) (later r x)) rs h);
  begun_same = λ i. refl;
  ended_same = λ i. any_same _ _ rs (all_map (NoEnd now e) (λ r. (eqb r.step i && leb r.end now) ≡ (eqb r.step i && leb r.end t)) (λ r x. ap (λ y. eqb r.step i && y) (over r x)) rs h);
}
  where
    later : (r : Row) → NoEnd now e r → ltb now r.end ≡ ltb t r.end
    later r (inl x) = le-ltb now r.end x ∙ sym (le-ltb t r.end (omega arith))
    later r (inr x) = lt-ltb now r.end (omega arith) ∙ sym (lt-ltb t r.end (omega arith))

    over : (r : Row) → NoEnd now e r → leb r.end now ≡ leb r.end t
    over r (inl x) = le-leb r.end now x ∙ sym (le-leb r.end t (omega arith))
    over r (inr x) = lt-leb r.end now (omega arith) ∙ sym (lt-leb r.end t (omega arith))

-- The next end.

abbrev either_end : Option ℕ → Option ℕ → Option ℕ
either_end None o = o
either_end (Some a) None = Some a
either_end (Some a) (Some b) = Some (min a b)

earlier_moves : (v : Bool) (e : ℕ) (x y : Option ℕ) → either_end x (earlier v e y) ≡ either_end (earlier v e x) y
earlier_moves false e x y = refl
earlier_moves true e None None = refl
earlier_moves true e None (Some b) = refl
earlier_moves true e (Some a) None = ap Some (let z : min a e ≡ min e a = omega arith in z)
earlier_moves true e (Some a) (Some b) = ap Some (let z : min a (min e b) ≡ min (min e a) b = omega arith in z)

next_end_reverse : (now : ℕ) (rs qs : List Row) → next_end now (reverse_aux rs qs) ≡ either_end (next_end now rs) (next_end now qs)
next_end_reverse now [] qs = refl
next_end_reverse now (r ∷ rs) qs = next_end_reverse now rs (r ∷ qs) ∙ earlier_moves (ltb now r.end) r.end (next_end now rs) (next_end now qs)

pub next_end_back : (now : ℕ) (rs : List Row) → next_end now rs ≡ next_end now (reverse rs)
next_end_back now rs = sym (next_end_reverse now rs [] ∙ go (next_end now rs))
  where
    go : (o : Option ℕ) → either_end o None ≡ o
    go None = refl
    go (Some a) = refl

-- The rows that have begun by t.

pub started_all : (t : ℕ) (rs : List Row) → All (λ r. r.start ≤ t) rs → started t rs ≡ rs
started_all t [] h = refl
started_all t (r ∷ rs) h = ap₂ (λ b qs. keep_row b r qs) (le-leb r.start t h.0) (started_all t rs h.1)

started_none : (t : ℕ) (rs : List Row) → All (λ r. t < r.start) rs → started t rs ≡ []
started_none t [] h = refl
started_none t (r ∷ rs) h = ap₂ (λ b qs. keep_row b r qs) (lt-leb r.start t h.0) (started_none t rs h.1)

pub started_take : (t k : ℕ) (rs : List Row) → All (λ r. r.start ≤ t) (take k rs) → All (λ r. t < r.start) (drop k rs) → started t rs ≡ take k rs
started_take t zero rs a b = started_none t rs b
started_take t (suc k) [] a b = refl
started_take t (suc k) (r ∷ rs) a b = ap₂ (λ b qs. keep_row b r qs) (le-leb r.start t a.0) (started_take t k rs a.1 b)

started_reverse : (t : ℕ) (rs qs : List Row) → started t (reverse_aux rs qs) ≡ reverse_aux (started t rs) (started t qs)
started_reverse t [] qs = refl
started_reverse t (r ∷ rs) qs = started_reverse t rs (r ∷ qs) ∙ go (leb r.start t)
  where
    go : (b : Bool) → reverse_aux (started t rs) (keep_row b r (started t qs)) ≡ reverse_aux (keep_row b r (started t rs)) (started t qs)
    go true = refl
    go false = refl

pub started_back : (t : ℕ) (rs : List Row) → started t (reverse rs) ≡ reverse (started t rs)
started_back t rs = started_reverse t rs []
