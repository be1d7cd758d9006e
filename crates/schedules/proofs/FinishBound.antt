-- Whichever ready step begins on whichever free bench, the time of all benches is at most the work and what the others idle along
-- the critical path.
use Rattle.std.proofs.Common.{◌≡◌, ℕ, zero, suc, ◌+◌, ◌-◌, ◌*◌, ◌<◌, ◌≤◌, Bool, true, false, cond, not, ◌&&◌, eqb, ◌⊎◌, List, [], ◌∷◌, length, drop, Some, sym, refl, ap, ◌∙◌, ap₂, inl, inr, le_trans, le_refl, suc-mul, mul-le-mul_left, mul-zero, zero-mul, mul-add, arith}
use mathlib.Core.Path.{fun_ext}
use Rattle.std.proofs.lemmas.Bool.{eqb-true, eq-eqb, cases_eq, cases_lt, cases_Bool, and_from, and_parts, not-true, not_from_false}
use Rattle.steps.specs.declared.row.Row.{Row}
use Rattle.steps.specs.declared.step.Step.{Step}
use Rattle.steps.specs.Sheet.{step, Descending}
use Rattle.ways.specs.Figures.{total, figures, figure}
use Rattle.ways.specs.Sums.{longest, only, sum_below, way_sum, minutes_of, chain_of}
use Rattle.ways.specs.Ways.{Set, Way}
use Rattle.ways.proofs.Added.{all_added}
use Rattle.ways.proofs.Suffixes.{uncons, none_left}
use Rattle.schedules.specs.Timetables.{Has, latest}
use Rattle.schedules.specs.Dispatch.{State, moment, begun, over, fed, ready, next_end, begin, empty_state}
use Rattle.schedules.specs.Theorems.{GreedyBound}
use Rattle.schedules.proofs.Potential.{next_all, next_has, unbegun, work_left, work_begin, passes, work_falls, all_busy, left_of, left, rests, peak, longest_left, rests_whole, left_begin, passing, plus_left, plus_right, plus_le, peak_falls, each_le, each_falls}
use Rattle.schedules.proofs.Progress.{next_less}
use Rattle.schedules.proofs.Rows.{all_has, has_map, latest_has}
use Rattle.schedules.proofs.Sums.{sum_rows, rows_has, below_same}
use Rattle.schedules.proofs.Turns.{NoneReady, AllBusy, Kept, greedy_kept, ready_or_free}
use Rattle.schedules.proofs.Valid.{Valid, valid_kept, on_benches}

-- No step on the way has a longer path before it than step 0.

total_has : (sheet : List Step) (w : Set) (j : ℕ) (ss : List Step) → drop j sheet ≡ ss → (k : ℕ) → j ≤ k → k < length sheet → w k ≡ true → figure longest sheet w k ≤ total longest w (step sheet k).target j (figures longest w j ss)
total_has sheet w j [] e k a b h = absurd (none_left sheet j k e a b)
total_has sheet w j (s ∷ ss) e k a b h =
    let t = uncons sheet j s ss e in
    elim (cases_eq j k) [
      | inl q ↦
          plus_left (eqb s.target (step sheet k).target && w j) (figure longest sheet w k) _ _
          (and_from _ _ (eq-eqb _ _ (ap (λ (u : Step). u.target) (sym t.1) ∙ ap (λ i. (step sheet i).target) q)) (rw q h))
          (let f : figure longest sheet w j ≤ total longest w j (suc j) (figures longest w (suc j) ss) + s.minutes = rw (t.1, t.2) (le_refl _) in rw (← q) f)
      | inr q ↦ plus_right (eqb s.target (step sheet k).target && w j) (figure longest sheet w k) _ _ (total_has sheet w (suc j) ss t.2 k (omega arith) b h)
    ]

module _ (sheet : List Step) (w : Set) (lower : Descending sheet) (way : Way sheet w) where
  first_most : (n k : ℕ) → k ≤ n → w k ≡ true → figure longest sheet w k ≤ figure longest sheet w 0
  first_most zero k l on = let q : k ≡ 0 = omega arith in rw q (le_refl _)
  first_most (suc n) k l on = elim (cases_eq k 0) [
    | inl q ↦ rw q (le_refl _)
    | inr q ↦
        let i = (step sheet k).target in
        let b = way.within k on in
        let u = lower k (omega arith) b in
        let a = total_has sheet w (suc i) (drop (suc i) sheet) refl k (omega arith) b on in
        let c = first_most n i (omega arith) (way.led k on q).1 in
        omega arith
  ]

  peak_top : (j : ℕ) (ss : List Step) → drop j sheet ≡ ss → peak w j (figures longest w j ss) ≤ figure longest sheet w 0
  peak_top j [] e = omega arith
  peak_top j (s ∷ ss) e =
      let t = uncons sheet j s ss e in
      plus_le (w j) _ _ _ (λ on. rw (t.1, t.2) at (first_most j j (le_refl j) on)) (peak_top (suc j) ss t.2)

peak_has : (sheet : List Step) (r : ℕ → ℕ) (w : Set) (j : ℕ) (ss : List Step) → drop j sheet ≡ ss → (k : ℕ) → j ≤ k → k < length sheet → w k ≡ true → r k ≤ peak w j (rests r w j ss)
peak_has sheet r w j [] e k a b h = absurd (none_left sheet j k e a b)
peak_has sheet r w j (s ∷ ss) e k a b h =
    elim (cases_eq j k) [
      | inl q ↦ plus_left (w j) (r k) _ _ (rw q h) (let z : r j ≡ r k = ap r q in omega arith)
      | inr q ↦ plus_right (w j) (r k) _ _ (peak_has sheet r w (suc j) ss (uncons sheet j s ss e).2 k (omega arith) b h)
    ]

-- a row that runs until t has its step, of which so much is left
running_left : (m : ℕ) (sheet : List Step) (w : Set) (now t : ℕ) (ls : List Row) → Valid m sheet w ls → Has (λ l. t ≤ l.end) ls → (k : ℕ) × (w k ≡ true) × Has (λ o. o.step ≡ k) ls × ((n : ℕ) → t - now ≤ left_of now k n ls)
running_left m sheet w now t [] v h = absurd h
running_left m sheet w now t (l ∷ ls) v (inl h) = (l.step, v.0.on_way, inl refl, λ n. rw (eq-eqb l.step l.step refl) (omega arith))
running_left m sheet w now t (l ∷ ls) v (inr h) =
    let a = running_left m sheet w now t ls v.1 h in
    (a.0, a.1, inr a.2, λ n. go a.0 a.2 (eqb l.step a.0) (eqb-true l.step a.0) (l.end - now) (left_of now a.0 n ls) (a.3 n))
  where
    go : (k : ℕ) → Has (λ o. o.step ≡ k) ls → (b : Bool) → (b ≡ true → l.step ≡ k) → (x y : ℕ) → t - now ≤ y → t - now ≤ cond b x y
    go k h true e x y c = let z = all_has (λ o. o.step ≡ l.step → ⊥) (λ o. o.step ≡ k) ls v.0.was_new h in absurd (z.1 (z.2 ∙ sym (e refl)))
    go k h false e x y c = c

-- the sums: all benches busy, and some bench free
busy_sum : (k now t u u_after f c c_after : ℕ) → now < t → u ≡ u_after + f → suc k * (t - now) ≤ f → c_after ≤ c → suc k * t + u_after + k * c_after ≤ suc k * now + u + k * c
busy_sum k now t u u_after f c c_after h e g i =
    let z : t ≡ now + (t - now) = omega arith in
    let a : suc k * t ≡ suc k * now + suc k * (t - now) = ap (λ x. suc k * x) z ∙ mul-add (suc k) now (t - now) in
    let b = mul-le-mul_left k i in
    omega arith

free_sum : (k now t u u_after f c c_after : ℕ) → now < t → u ≡ u_after + f → t - now ≤ f → c_after + (t - now) ≤ c → suc k * t + u_after + k * c_after ≤ suc k * now + u + k * c
free_sum k now t u u_after f c c_after h e g i =
    let z : t ≡ now + (t - now) = omega arith in
    let a : suc k * t ≡ suc k * now + suc k * (t - now) = ap (λ x. suc k * x) z ∙ mul-add (suc k) now (t - now) in
    let x = suc-mul k (t - now) in
    let y = mul-add k c_after (t - now) in
    let b = mul-le-mul_left k i in
    omega arith

module _ (k : ℕ) (sheet : List Step) (w : Set) (way : Way sheet w) where
  -- the potential of a state on suc k benches: it never rises, whatever ready step begins on whatever free bench
  abbrev Φ : State → ℕ
  Φ st = suc k * st.now + work_left sheet w st + k * longest_left sheet w st

  begins_same : (st : State) (i b : ℕ) → i < length sheet → ready sheet w st i ≡ true → Φ (begin sheet st i b) ≡ Φ st
  begins_same st i b l r =
      let p = (and_parts (w i && not (begun i st.rows)) (fed w (over st) i (suc i) (drop (suc i) sheet)) r).0 in
      let n = not-true (begun i st.rows) (and_parts (w i) (not (begun i st.rows)) p).1 in
      let a = work_begin sheet w st i b l p in
      let c : left sheet (begin sheet st i b) ≡ left sheet st = fun_ext (λ j. left_begin st.now i j b (step sheet i).minutes (step sheet j).minutes st.rows n (λ q. ap (λ i. (step sheet i).minutes) q)) in
      ap₂ (λ x r. suc k * st.now + x + k * peak w 0 (rests r w 0 sheet)) a c

  -- a row that runs until t has at least that long a path before it
  left_some : (now t : ℕ) (ls : List Row) → Valid (suc k) sheet w ls → Has (λ l. t ≤ l.end) ls → t - now ≤ longest_left sheet w (moment now ls)
  left_some now t ls v h =
      let a = running_left (suc k) sheet w now t ls v h in
      let b = peak_has sheet (left sheet (moment now ls)) w 0 sheet refl a.0 (omega arith) (way.within a.0 a.1) a.1 in
      le_trans (a.3 (step sheet a.0).minutes) b

  module _ (now t : ℕ) (ls : List Row) (v : Valid (suc k) sheet w ls) (e : next_end now ls ≡ Some t) where
    abbrev st : State
    st = moment now ls

    abbrev after : State
    after = moment t ls

    later : now < t
    later = (next_less now t ls e).0

    passes_some : t - now ≤ sum_rows (passes now t) ls
    passes_some = rows_has (t - now) (passes now t) ls (has_map (λ l. t ≤ l.end) (λ l. t - now ≤ passes now t l) (λ l h. let x = later in omega arith) ls (next_has now t ls e))

    left_le : (i : ℕ) → left sheet after i ≤ left sheet st i
    left_le i = elim (passing now t i (step sheet i).minutes ls later (next_all now t ls e)) [
      | inl p ↦ omega (arith, p.1)
      | inr (inl p) ↦ omega (arith, p.1, p.2)
      | inr (inr p) ↦ omega (arith, p)
    ]

    advance : NoneReady sheet w st ⊎ AllBusy (suc k) st → Φ after ≤ Φ st
    advance (inr f) =
        let x = later in
        let a = work_falls sheet w now t ls x in
        let b = all_busy (suc k) now t ls x f (on_benches (suc k) sheet w ls v) (next_all now t ls e) in
        let c = peak_falls w (left sheet st) (left sheet after) 0 0 sheet (each_le w (left sheet st) (left sheet after) left_le 0 sheet) in
        busy_sum k now t _ _ (sum_rows (passes now t) ls) (longest_left sheet w st) (longest_left sheet w after) x a b (omega arith)
    advance (inl f) =
        let x = later in
        let a = work_falls sheet w now t ls x in
        let b = passes_some in
        let d = left_some now t ls v (next_has now t ls e) in
        let waits : (i : ℕ) → i < length sheet → w i ≡ true → begun i ls ≡ false → fed w (over st) i (suc i) (drop (suc i) sheet) ≡ false =
        λ i l on n. elim (cases_Bool (fed w (over st) i (suc i) (drop (suc i) sheet))) [
          | inl y ↦ absurd (f i l (and_from (w i && not (begun i ls)) _ (and_from (w i) _ on (not_from_false (begun i ls) n)) y))
          | inr y ↦ y
        ] in
        let c = peak_falls w (left sheet st) (left sheet after) (t - now) 0 sheet (each_falls sheet w now t ls x (next_all now t ls e) waits 0 sheet refl) in
        free_sum k now t _ _ (sum_rows (passes now t) ls) (longest_left sheet w st) (longest_left sheet w after) x a b (omega arith)

  -- a turn keeps a bound on the potential
  abbrev Bounded : ℕ → State → Type 0
  Bounded B st = Valid (suc k) sheet w st.rows × (Φ st ≤ B)

  bounded_kept : (B : ℕ) (st : State) → Bounded B st → Kept (suc k) sheet w (Bounded B) st
  bounded_kept B st h =
      let v = valid_kept (suc k) sheet w st h.0 in
      record {
        on_begin = λ i b l r c f. (v.on_begin i b l r c f, (let a = begins_same st i b l r in let z = h.1 in omega arith));
        on_wait = λ t e i. (h.0, le_trans (advance st.now t st.rows h.0 e (ready_or_free (suc k) sheet w st i)) h.1);
        on_rest = λ e i. h;
      }

  starts : Descending sheet → Φ empty_state ≤ minutes_of sheet w + k * chain_of sheet w
  starts lower =
      let a = all_added (λ f. f.minutes) sheet w lower way in
      let b : sum_below (unbegun sheet w []) (length sheet) ≡ way_sum (λ f. f.minutes) sheet w = below_same (unbegun sheet w []) (λ i. only (w i) (step sheet i).minutes) (length sheet) (λ i l. go (w i) (step sheet i).minutes) in
      let c : longest_left sheet w empty_state ≤ chain_of sheet w = rw (rests_whole sheet w 0 sheet refl) (peak_top sheet w lower way 0 sheet refl) in
      let d = mul-le-mul_left k c in
      let z = mul-zero (suc k) in
      omega arith
    where
      go : (b : Bool) (x : ℕ) → only (b && true) x ≡ only b x
      go true x = refl
      go false x = refl

  -- what runs is bounded by the potential
  latest_bound : (st : State) → Valid (suc k) sheet w st.rows → suc k * latest st.rows ≤ Φ st
  latest_bound st v = elim (cases_lt st.now (latest st.rows)) [
    | inl l ↦
        let t = latest st.rows in
        let h = latest_has st.rows (omega arith) in
        let a : t - st.now ≤ sum_rows (λ l. l.end - st.now) st.rows = rows_has (t - st.now) (λ l. l.end - st.now) st.rows (has_map (λ l. t ≤ l.end) (λ l. t - st.now ≤ l.end - st.now) (λ l x. omega arith) st.rows h) in
        let b = left_some st.now t st.rows v h in
        let c = free_sum k st.now t (work_left sheet w st) 0 (work_left sheet w st) (longest_left sheet w st) 0 l (omega arith) (omega arith) (omega arith) in
        omega (arith, mul-zero k)
    | inr l ↦ let a = mul-le-mul_left (suc k) l in omega arith
  ]

pub greedy_bound : GreedyBound
greedy_bound zero sheet w lower way st g = omega (arith, zero-mul (latest st.rows))
greedy_bound (suc k) sheet w lower way st g =
    let B = minutes_of sheet w + k * chain_of sheet w in
    let h = greedy_kept (suc k) sheet w (Bounded k sheet w way B) (tt, starts k sheet w way lower) (bounded_kept k sheet w way B) g in
    let e : suc k - 1 ≡ k = omega arith in
    rw e (le_trans (latest_bound k sheet w way st h.0) h.1)
