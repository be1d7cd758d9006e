-- A run of turns comes to its end.
use Rattle.std.proofs.Common.{◌≡◌, ℕ, zero, suc, ◌+◌, ◌-◌, ◌*◌, ◌<◌, ◌≤◌, min, Bool, true, false, not, ◌&&◌, ◌||◌, eqb, ltb, leb, ◌⊎◌, List, [], ◌∷◌, length, drop, Some, None, Option, sym, refl, ap, ◌∙◌, ap₂, inl, inr, le_refl, arith}
use Rattle.std.proofs.lemmas.Bool.{false≢true, eqb-true, eq-eqb, ne_eqb, cases_eq, and_from, and_parts, and_cases, or_cases, or_left, or_right, not-false, both_ways, ltb-false, ltb-true, lt-ltb, le-ltb, le-leb}
use Rattle.steps.specs.declared.row.Row.{Row}
use Rattle.steps.specs.declared.step.Step.{Step}
use Rattle.steps.specs.Placing.{Placing}
use Rattle.steps.specs.Sheet.{step}
use Rattle.steps.proofs.Clashes.{clash}
use Rattle.ways.specs.Ways.{Set}
use Rattle.ways.proofs.Counts.{bump}
use Rattle.ways.proofs.Suffixes.{Each, each_from}
use Rattle.schedules.specs.Timetables.{All, Has}
use Rattle.schedules.specs.Dispatch.{State, busy, begun, ended, over, fed, ready, earlier, next_end, new_row, begin, turn, turns, final, empty_state}
use Rattle.schedules.specs.Greedy.{WorkConserving, Greedy}
use Rattle.schedules.proofs.Turns.{Kept, greedy_kept, turn_kept}

-- how many steps of the way, below n, are not begun; how many rows have not ended
abbrev waiting : Set → List Row → ℕ → ℕ
waiting w ls zero = 0
waiting w ls (suc k) = bump (w k && not (begun k ls)) (waiting w ls k)

abbrev running : ℕ → List Row → ℕ
running now [] = 0
running now (l ∷ ls) = bump (ltb now l.end) (running now ls)

bump_le : (b c : Bool) (x y : ℕ) → (b ≡ true → c ≡ true) → x ≤ y → bump b x ≤ bump c y
bump_le true true x y h l = omega arith
bump_le true false x y h l = absurd (false≢true (h refl))
bump_le false true x y h l = omega arith
bump_le false false x y h l = l

le_of : {s t e : ℕ} → t < e → s ≤ t → s < e
le_of a b = omega arith

running_le : (s t : ℕ) (ls : List Row) → s ≤ t → running t ls ≤ running s ls
running_le s t [] h = le_refl 0
running_le s t (l ∷ ls) h = bump_le _ _ _ _ (λ e. let q : t < l.end = ltb-true t l.end e in lt-ltb s l.end (le_of q h)) (running_le s t ls h)

-- the next end is later, and something ends there
pub next_less : (now t : ℕ) (ls : List Row) → next_end now ls ≡ Some t → (now < t) × (running t ls < running now ls)
next_less now t [] e = clash (cc)
next_less now t (l ∷ ls) e = go (ltb now l.end) refl (next_end now ls) refl e (λ u. next_less now u ls)
  where
    out : now < l.end → t ≡ l.end → (now < t) × (bump (ltb t l.end) (running t ls) < bump true (running now ls))
    out h q = let z : ltb t l.end ≡ false = le-ltb t l.end (omega arith) in let r = running_le now t ls (omega arith) in (omega arith, rw z (omega arith))

    go : (b : Bool) → ltb now l.end ≡ b → (o : Option ℕ) → next_end now ls ≡ o → earlier b l.end o ≡ Some t → ((u : ℕ) → o ≡ Some u → (now < u) × (running u ls < running now ls)) → (now < t) × (bump (ltb t l.end) (running t ls) < bump b (running now ls))
    go false b o n e f = let h = f t e in let c = ltb-false now l.end b in let z : ltb t l.end ≡ false = le-ltb t l.end (omega arith) in (h.0, rw z h.1)
    go true b None n e f = let q : l.end ≡ t = cc in out (ltb-true now l.end b) (sym q)
    go true b (Some u) n e f =
        let q : min l.end u ≡ t = cc in
        let h = f u refl in
        let c = ltb-true now l.end b in
        elim (cases_eq t l.end) [
          | inl z ↦ out c z
          | inr z ↦ let y : u ≡ t = omega arith in let x : ltb t l.end ≡ true = lt-ltb t l.end (omega arith) in
              let k : (now < t) × (running t ls < running now ls) = rw y at h in (k.0, rw x (omega (arith, k.1)))
        ]

pub next_none : (now : ℕ) (ls : List Row) → next_end now ls ≡ None → All (λ o. o.end ≤ now) ls
next_none now [] e = tt
next_none now (l ∷ ls) e = go (ltb now l.end) refl (next_end now ls) e (next_none now ls)
  where
    go : (b : Bool) → ltb now l.end ≡ b → (o : Option ℕ) → earlier b l.end o ≡ None → (o ≡ None → All (λ o. o.end ≤ now) ls) → All (λ o. o.end ≤ now) (l ∷ ls)
    go false b o e f = (ltb-false now l.end b, f e)
    go true b None e f = clash (cc)
    go true b (Some u) e f = clash (cc)

running_none : (now : ℕ) (ls : List Row) → All (λ o. o.end ≤ now) ls → running now ls ≡ 0
running_none now [] h = refl
running_none now (l ∷ ls) h = ap₂ bump (le-ltb now l.end h.0) (running_none now ls h.1)

none_running : (now : ℕ) (ls : List Row) → running now ls ≡ 0 → All (λ o. o.end ≤ now) ls
none_running now [] h = tt
none_running now (l ∷ ls) h = go (ltb now l.end) refl h (none_running now ls)
  where
    go : (b : Bool) → ltb now l.end ≡ b → bump b (running now ls) ≡ 0 → (running now ls ≡ 0 → All (λ o. o.end ≤ now) ls) → All (λ o. o.end ≤ now) (l ∷ ls)
    go true b e f = absurd (omega arith)
    go false b e f = (ltb-false now l.end b, f e)

none_busy : (now b : ℕ) (ls : List Row) → All (λ o. o.end ≤ now) ls → busy now b ls ≡ false
none_busy now b [] h = refl
none_busy now b (l ∷ ls) h = ap₂ ◌||◌ (ap₂ ◌&&◌ refl (le-ltb now l.end h.0) ∙ no_and (eqb l.bench b)) (none_busy now b ls h.1)
  where
    no_and : (x : Bool) → (x && false) ≡ false
    no_and true = refl
    no_and false = refl

begun_ended : (now i : ℕ) (ls : List Row) → All (λ o. o.end ≤ now) ls → begun i ls ≡ true → ended now i ls ≡ true
begun_ended now i [] h e = e
begun_ended now i (l ∷ ls) h e =
    elim (or_cases (eqb l.step i) (begun i ls) e) [
      | inl x ↦ or_left (eqb l.step i && leb l.end now) (ended now i ls) (and_from (eqb l.step i) (leb l.end now) x (le-leb l.end now h.0))
      | inr x ↦ or_right (eqb l.step i && leb l.end now) (ended now i ls) (begun_ended now i ls h.1 x)
    ]

pub begun_row : (i : ℕ) (ls : List Row) → begun i ls ≡ true → Has (λ o. o.step ≡ i) ls
begun_row i [] e = false≢true e
begun_row i (l ∷ ls) e = elim (or_cases _ _ e) [ inl x ↦ inl (eqb-true l.step i x) | inr x ↦ inr (begun_row i ls x) ]

pub row_begun : (i : ℕ) (ls : List Row) → Has (λ o. o.step ≡ i) ls → begun i ls ≡ true
row_begun i [] h = absurd h
row_begun i (l ∷ ls) (inl h) = or_left (eqb l.step i) (begun i ls) (eq-eqb l.step i h)
row_begun i (l ∷ ls) (inr h) = or_right (eqb l.step i) (begun i ls) (row_begun i ls h)

module _ (w : Set) where
  waiting_le : (ls : List Row) (n : ℕ) → waiting w ls n ≤ n
  waiting_le ls zero = le_refl 0
  waiting_le ls (suc n) = go (w n && not (begun n ls)) (waiting_le ls n)
    where
      go : (b : Bool) → waiting w ls n ≤ n → bump b (waiting w ls n) ≤ suc n
      go true h = omega arith
      go false h = omega arith

  waiting_none : (ls : List Row) (n : ℕ) → waiting w ls n ≡ 0 → (i : ℕ) → i < n → w i ≡ true → begun i ls ≡ true
  waiting_none ls zero e i l h = absurd (omega arith)
  waiting_none ls (suc n) e i l h =
      let a = go (w n && not (begun n ls)) e in
      elim (cases_eq i n) [
        | inl q ↦ elim (and_cases _ _ a.1) [ inl x ↦ absurd (both_ways _ x (rw q at h)) | inr x ↦ rw q (not-false _ x) ]
        | inr q ↦ waiting_none ls n a.0 i (omega arith) h
      ]
    where
      go : (b : Bool) → bump b (waiting w ls n) ≡ 0 → (waiting w ls n ≡ 0) × (b ≡ false)
      go true e = absurd (omega arith)
      go false e = (e, refl)

  -- the highest step that waits
  abbrev Top : List Row → ℕ → Type 0
  Top ls n = (i : ℕ) × (i < n) × ((w i && not (begun i ls)) ≡ true) × ((k : ℕ) → i < k → k < n → w k ≡ true → begun k ls ≡ true)

  top : (ls : List Row) (n : ℕ) → (waiting w ls n ≡ 0) ⊎ Top ls n
  top ls zero = inl refl
  top ls (suc n) = go (w n && not (begun n ls)) refl (top ls n)
    where
      go : (b : Bool) → (w n && not (begun n ls)) ≡ b → (waiting w ls n ≡ 0) ⊎ Top ls n → (bump b (waiting w ls n) ≡ 0) ⊎ Top ls (suc n)
      go true e t = inr (n, omega arith, e, λ k a b. absurd (omega arith))
      go false e (inl z) = inl z
      go false e (inr t) = inr (
        t.0,
        omega (arith, t.1),
        t.2,
        λ k a b h. elim (cases_eq k n) [
          | inl q ↦ elim (and_cases _ _ e) [ inl x ↦ absurd (both_ways _ x (rw q at h)) | inr x ↦ rw q (not-false _ x) ]
          | inr q ↦ t.3 k a (omega arith) h
        ],
      )

  module _ (l : Row) (ls : List Row) where
    same_test : (k : ℕ) → (l.step ≡ k → ⊥) → (w k && not (begun k (l ∷ ls))) ≡ (w k && not (begun k ls))
    same_test k h = ap (λ b. w k && not (b || begun k ls)) (ne_eqb l.step k h)

    place_same : (n : ℕ) → n ≤ l.step → waiting w (l ∷ ls) n ≡ waiting w ls n
    place_same zero h = refl
    place_same (suc n) h = ap₂ bump (same_test n (λ q. omega arith)) (place_same n (omega arith))

    place_less : (n : ℕ) → l.step < n → (w l.step && not (begun l.step ls)) ≡ true → suc (waiting w (l ∷ ls) n) ≡ waiting w ls n
    place_less zero h t = absurd (omega arith)
    place_less (suc n) h t =
        elim (cases_eq l.step n) [
          | inl q ↦
              let a : (w n && not (begun n ls)) ≡ true = rw q at t in
              let b : (w n && not (begun n (l ∷ ls))) ≡ false = ap (λ b. w n && not (b || begun n ls)) (eq-eqb l.step n q) ∙ no_and (w n) in
              ap suc (ap₂ bump b (place_same n (omega arith))) ∙ sym (ap (λ b. bump b (waiting w ls n)) a)
          | inr q ↦ go (w n && not (begun n ls)) (same_test n q) (place_less n (omega arith) t)
        ]
      where
        no_and : (x : Bool) → (x && false) ≡ false
        no_and true = refl
        no_and false = refl

        go : (b : Bool) → (w n && not (begun n (l ∷ ls))) ≡ b → suc (waiting w (l ∷ ls) n) ≡ waiting w ls n → suc (bump (w n && not (begun n (l ∷ ls))) (waiting w (l ∷ ls) n)) ≡ bump b (waiting w ls n)
        go true e h = ap (λ b. suc (bump b (waiting w (l ∷ ls) n))) e ∙ ap suc h
        go false e h = ap (λ b. suc (bump b (waiting w (l ∷ ls) n))) e ∙ h

-- of the steps that wait, one less when it begins
begins_less : (w : Set) (st : State) (i b : ℕ) (ss : List Step) → i < length ss → ready ss w st i ≡ true → suc (waiting w (begin ss st i b).rows (length ss)) ≡ waiting w st.rows (length ss)
begins_less w st i b ss d r =
    place_less w (new_row ss st.now i b) st.rows (length ss) d
    (and_parts (w i && not (begun i st.rows)) (fed w (over st) i (suc i) (drop (suc i) ss)) r).0

falls : (x y z n : ℕ) → x ≤ y - n → y ≤ z - 1 → x ≤ z - suc n
falls x y z n a b = omega arith

fed_from : (w : Set) (st : State) (i j : ℕ) (ss : List Step) → Each (λ k u us. w k ≡ true → ended st.now k st.rows ≡ true) j ss → fed w (over st) i j ss ≡ true
fed_from w st i j [] h = refl
fed_from w st i j (s ∷ ss) h =
    and_from (not (eqb s.target i && w j) || ended st.now j st.rows) (fed w (over st) i (suc j) ss)
    (go (eqb s.target i) (w j) (ended st.now j st.rows) h.0) (fed_from w st i (suc j) ss h.1)
  where
    go : (a b c : Bool) → (b ≡ true → c ≡ true) → (not (a && b) || c) ≡ true
    go false b c f = refl
    go true false c f = refl
    go true true c f = f refl

module _ (benches : ℕ) (some : 0 < benches) (ss : List Step) (w : Set) where
  -- what is left to do: it falls with each turn
  abbrev μ : State → ℕ
  μ st = 2 * waiting w st.rows (length ss) + running st.now st.rows

  -- where nothing runs and nothing can, nothing waits
  all_begun : (st : State) → All (λ o. o.end ≤ st.now) st.rows → WorkConserving benches ss w st → waiting w st.rows (length ss) ≡ 0
  all_begun st h f = elim (top w st.rows (length ss)) [
    | inl z ↦ z
    | inr t ↦
        let i = t.0 in
        let g : fed w (over st) i (suc i) (drop (suc i) ss) ≡ true =
        fed_from w st i (suc i) (drop (suc i) ss)
        (each_from ss (λ k u us. w k ≡ true → ended st.now k st.rows ≡ true) (suc i) (drop (suc i) ss) refl
        (λ k a b o. begun_ended st.now k st.rows h (t.3 k a b o))) in
        absurd (both_ways _ (none_busy st.now 0 st.rows h) (f i 0 t.1 (and_from (w i && not (begun i st.rows)) _ t.2 g) some))
  ]

  less : (st : State) → Kept benches ss w (λ s. μ s ≤ μ st - 1) st
  less st = record {
    on_begin = λ i b d r c f.
        let a = begins_less w st i b ss d r in
        let l : ℕ = st.now + (step ss i).minutes in
        let e : bump (ltb st.now l) (running st.now st.rows) ≤ suc (running st.now st.rows) = bump_le (ltb st.now l) true _ _ (λ h. refl) (le_refl _) in
        omega (arith, a, e);
    on_wait = λ t e h. let a = next_less st.now t st.rows e in omega (arith, a.1);
    on_rest = λ e h.
        let n = next_none st.now st.rows e in
        let a = all_begun st n h in
        let b = running_none st.now st.rows n in
        omega arith;
  }

  turns_less : (p : Placing) (n : ℕ) (st : State) → μ (turns n (turn benches ss p w) st) ≤ μ st - n
  turns_less p zero st = omega arith
  turns_less p (suc n) st =
      let a = turn_kept benches ss w p (λ s. μ s ≤ μ st - 1) st (less st) in
      let b = turns_less p n (turn benches ss p w st) in
      falls _ _ _ n b a

  -- at the end every step of the way has a row, and all have ended
  pub final_whole : (p : Placing) → ((i : ℕ) → i < length ss → w i ≡ true → begun i (final benches ss p w).rows ≡ true) × All (λ o. o.end ≤ (final benches ss p w).now) (final benches ss p w).rows
  final_whole p =
      let st = final benches ss p w in
      let a = turns_less p (2 * length ss) empty_state in
      let b = waiting_le w [] (length ss) in
      let z : waiting w st.rows (length ss) ≡ 0 = omega arith in
      let r : running st.now st.rows ≡ 0 = omega arith in
      (waiting_none w st.rows (length ss) z, none_running st.now st.rows r)

-- at most one row for each step
pub rows_most : (benches : ℕ) (ss : List Step) (w : Set) {st : State} → Greedy benches ss w st → length st.rows ≤ length ss
rows_most benches ss w g =
    let a = greedy_kept benches ss w (λ s. waiting w s.rows (length ss) + length s.rows ≤ length ss) (let b = waiting_le w [] (length ss) in omega arith)
    (λ st h. record { on_begin = λ i b d r c f. let a = begins_less w st i b ss d r in omega arith; on_wait = λ t e k. h; on_rest = λ e k. h }) g in
    omega arith
