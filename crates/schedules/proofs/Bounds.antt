-- What every timetable takes at least.
use Rattle.std.proofs.Common.{◌≡◌, ℕ, zero, suc, ◌+◌, ◌-◌, ◌*◌, ◌<◌, ◌≤◌, min, Bool, true, false, ◌&&◌, eqb, ltb, leb, ◌⊎◌, List, [], ◌∷◌, length, drop, sym, refl, ap, ◌∙◌, inl, inr, le_trans, le_refl, mul-one, arith}
use Rattle.std.proofs.lemmas.Bool.{eqb-true, eq-eqb, ne_eqb, cases_eq, cases_lt, cases_Bool, and_from, and_parts, and_left, and_right, leb-true, ltb-true, le-leb, lt-leb, lt-ltb, le-ltb}
use Rattle.steps.specs.declared.row.Row.{Row}
use Rattle.steps.specs.declared.step.Step.{Step}
use Rattle.steps.specs.Sheet.{step, Descending}
use Rattle.ways.specs.Figures.{total, figure_line, figures}
use Rattle.ways.specs.Sums.{longest, only, sum_below, way_sum, minutes_of, chain_of}
use Rattle.ways.specs.Ways.{Set, Feeds, Way}
use Rattle.ways.proofs.Added.{all_added}
use Rattle.ways.proofs.Suffixes.{Each, uncons, each_at}
use Rattle.schedules.specs.Timetables.{All, Has, Two, latest, end_of, Takes, Apart, Waits, ValidTimetable}
use Rattle.schedules.specs.Theorems.{LowerBounds, FirstEndsLast}
use Rattle.schedules.proofs.Potential.{plus_le}
use Rattle.schedules.proofs.Rows.{all_map, all_and, all_has, has_map, has_and, has_self, once_all, all_diag, ends_le, latest_le}
use Rattle.schedules.proofs.Sums.{sum_rows, below_none, below_le, below_const, rows_same, rows_none, rows_has, swap, by_key}

-- The minutes: whether a row covers the minute t, and how many minutes of the first F it covers.

abbrev covers : Row → ℕ → Bool
covers l t = leb l.start t && ltb t l.end

covered : (l : Row) (F : ℕ) → sum_below (λ t. only (covers l t) 1) F ≡ min F l.end - l.start
covered l zero = omega arith
covered l (suc F) =
    let a = covered l F in
    elim (cases_lt F l.end) [
      | inl x ↦ elim (cases_lt F l.start) [
        | inl y ↦ rw (and_left _ (ltb F l.end) (lt-leb l.start F y)) (omega arith)
        | inr y ↦ rw (and_from _ _ (le-leb l.start F y) (lt-ltb F l.end x)) (omega arith)
      ]
      | inr x ↦ rw (and_right (leb l.start F) _ (le-ltb F l.end x)) (omega arith)
    ]

only_and : (b : Bool) (c : ℕ → Bool) (F : ℕ) → sum_below (λ t. only (b && c t) 1) F ≡ only b (sum_below (λ t. only (c t) 1) F)
only_and true c F = refl
only_and false c F = below_none F

-- on one bench, at most one row covers a minute
one_covers : (b t : ℕ) (ls : List Row) → Two Apart ls → sum_rows (λ l. only (eqb l.bench b && covers l t) 1) ls ≤ 1
one_covers b t [] h = omega arith
one_covers b t (l ∷ ls) h = go (eqb l.bench b && covers l t) (λ e. rows_none (λ l. only (eqb l.bench b && covers l t) 1) ls (all_map (Apart l) (λ p. only (eqb p.bench b && covers p t) 1 ≡ 0) (other e) ls h.0)) (one_covers b t ls h.1)
  where
    over : (p : Row) → (eqb p.bench b && covers p t) ≡ true → (p.bench ≡ b) × (p.start ≤ t) × (t < p.end)
    over p e =
        let x = and_parts (eqb p.bench b) (covers p t) e in
        let y = and_parts (leb p.start t) (ltb t p.end) x.1 in
        (eqb-true p.bench b x.0, leb-true p.start t y.0, ltb-true t p.end y.1)

    other : (eqb l.bench b && covers l t) ≡ true → (p : Row) → (l.bench ≡ p.bench → (l.end ≤ p.start) ⊎ (p.end ≤ l.start)) → only (eqb p.bench b && covers p t) 1 ≡ 0
    other e p f = elim (cases_Bool (eqb p.bench b && covers p t)) [
      | inl x ↦
          let u = over l e in
          let v = over p x in
          absurd (elim (f (u.0 ∙ sym v.0)) [ inl y ↦ omega (arith, u.2, v.1) | inr y ↦ omega (arith, u.1, v.2) ])
      | inr x ↦ rw x refl
    ]

    go : (v : Bool) → (v ≡ true → sum_rows (λ l. only (eqb l.bench b && covers l t) 1) ls ≡ 0) → sum_rows (λ l. only (eqb l.bench b && covers l t) 1) ls ≤ 1 → only v 1 + sum_rows (λ l. only (eqb l.bench b && covers l t) 1) ls ≤ 1
    go true f k = let z = f refl in omega arith
    go false f k = omega arith

-- the rows of one bench have at most the minutes up to the greatest end
bench_minutes : (b F : ℕ) (ls : List Row) → Two Apart ls → All (λ o. o.end ≤ F) ls → sum_rows (λ l. only (eqb l.bench b) (l.end - l.start)) ls ≤ F
bench_minutes b F ls h k =
    let a = rows_same (λ l. only (eqb l.bench b) (l.end - l.start)) (λ l. sum_below (λ t. only (eqb l.bench b && covers l t) 1) F) ls
    (all_map (λ o. o.end ≤ F) (λ l. only (eqb l.bench b) (l.end - l.start) ≡ sum_below (λ t. only (eqb l.bench b && covers l t) 1) F)
    (λ l x. ap (only (eqb l.bench b)) (let c = covered l F in let z : l.end - l.start ≡ sum_below (λ t. only (covers l t) 1) F = omega arith in z) ∙ sym (only_and (eqb l.bench b) (covers l) F)) ls k) in
    let c = swap (λ l t. only (eqb l.bench b && covers l t) 1) F ls in
    let d = below_le (λ t. sum_rows (λ l. only (eqb l.bench b && covers l t) 1) ls) (λ t. 1) F (λ t x. one_covers b t ls h) in
    let e = below_const 1 F in
    let f = mul-one F in
    omega arith

-- The critical path.

module _ (benches : ℕ) (sheet : List Step) (w : Set) (rows : List Row) (lower : Descending sheet) (way : Way sheet w) (v : ValidTimetable benches sheet w rows) where
  abbrev LineEnds : ℕ → Step → List Step → Type 0
  LineEnds k u us = w k ≡ true → All (λ o. o.step ≡ k → (figure_line longest w k u (figures longest w (suc k) us)).entry ≤ o.end) rows

  total_ends : (o : Row) → All (Waits sheet o) rows → (j : ℕ) (ss : List Step) → drop j sheet ≡ ss → o.step < j → Each LineEnds j ss → total longest w o.step j (figures longest w j ss) ≤ o.start
  total_ends o f j [] e l h = omega arith
  total_ends o f j (s ∷ ss) e l h =
      let t = uncons sheet j s ss e in
      let E = (figure_line longest w j s (figures longest w (suc j) ss)).entry in
      plus_le (eqb s.target o.step && w j) _ _ o.start
      (λ x.
      let p = and_parts (eqb s.target o.step) (w j) x in
      let a = all_has (λ p. Waits sheet o p × (p.step ≡ j → E ≤ p.end)) (λ p. p.step ≡ j) rows (all_and (Waits sheet o) (λ p. p.step ≡ j → E ≤ p.end) rows f (h.0 p.1)) (v.whole j p.1) in
      let q = a.2 in
      let g : Feeds sheet j o.step = (omega arith, t.0, ap (λ (u : Step). u.target) t.1 ∙ eqb-true s.target o.step p.0) in
      le_trans (a.1.1 q) (a.1.0 (rw q g)))
      (total_ends o f (suc j) ss t.2 (omega arith) h.1)

  each_ends : (j : ℕ) (ss : List Step) → drop j sheet ≡ ss → Each LineEnds j ss
  each_ends j [] e = tt
  each_ends j (s ∷ ss) e =
      let t = uncons sheet j s ss e in
      let h = each_ends (suc j) ss t.2 in
      let A = Takes sheet in
      let B = λ (o : Row). All (Waits sheet o) rows in (
        (λ on. all_map (λ o. A o × B o) (λ o. o.step ≡ j → (figure_line longest w j s (figures longest w (suc j) ss)).entry ≤ o.end)
            (λ o x q.
            let a : total longest w j (suc j) (figures longest w (suc j) ss) ≤ o.start = rw q at (total_ends o x.1 (suc j) ss t.2 (omega arith) h) in
            let b : (step sheet o.step).minutes ≡ s.minutes = ap (λ i. (step sheet i).minutes) q ∙ ap (λ (u : Step). u.minutes) t.1 in
            let c = x.0 in
            omega arith)
            rows (all_and A B rows v.takes v.fed)),
        h,
      )

  critical_bound : chain_of sheet w ≤ latest rows
  critical_bound =
      let E = chain_of sheet w in
      let h = each_at sheet LineEnds 0 sheet refl (each_ends 0 sheet refl) 0 (omega arith) (way.within 0 way.holds) way.holds in
      let a = all_has (λ p. (p.step ≡ 0 → E ≤ p.end) × (p.end ≤ latest rows)) (λ p. p.step ≡ 0) rows (all_and (λ p. p.step ≡ 0 → E ≤ p.end) (λ p. p.end ≤ latest rows) rows h (ends_le (latest rows) rows (le_refl _))) (v.whole 0 way.holds) in
      le_trans (a.1.0 a.2) a.1.1

  -- each step of the way has its minutes among the rows
  way_le : way_sum (λ f. f.minutes) sheet w ≤ sum_rows (λ l. l.end - l.start) rows
  way_le =
      let inside : All (λ o. o.step < length sheet) rows = all_map (λ o. w o.step ≡ true) (λ o. o.step < length sheet) (λ o h. way.within o.step h) rows v.member in
      let a = by_key (λ l. l.step) (λ l. l.end - l.start) (length sheet) rows inside in
      let b = below_le (λ i. only (w i) (step sheet i).minutes) (λ i. sum_rows (λ l. only (eqb l.step i) (l.end - l.start)) rows) (length sheet) (λ i l. go i (w i) (v.whole i)) in
      omega arith
    where
      go : (i : ℕ) (b : Bool) → (b ≡ true → Has (λ o. o.step ≡ i) rows) → only b (step sheet i).minutes ≤ sum_rows (λ l. only (eqb l.step i) (l.end - l.start)) rows
      go i false f = omega arith
      go i true f =
          rows_has (step sheet i).minutes (λ l. only (eqb l.step i) (l.end - l.start)) rows
          (has_map (λ o. Takes sheet o × (o.step ≡ i)) (λ l. (step sheet i).minutes ≤ only (eqb l.step i) (l.end - l.start))
          (λ o h. let e : (step sheet o.step).minutes ≡ (step sheet i).minutes = ap (λ i. (step sheet i).minutes) h.1 in let x = h.0 in rw (eq-eqb o.step i h.1) (omega arith))
          rows (has_and (Takes sheet) (λ o. o.step ≡ i) rows v.takes (f refl)))

  work_bound : minutes_of sheet w ≤ benches * latest rows
  work_bound =
      let a = all_added (λ f. f.minutes) sheet w lower way in
      let b = way_le in
      let c = by_key (λ l. l.bench) (λ l. l.end - l.start) benches rows v.on_bench in
      let d = below_le (λ b. sum_rows (λ l. only (eqb l.bench b) (l.end - l.start)) rows) (λ b. latest rows) benches (λ b l. bench_minutes b (latest rows) rows v.apart (ends_le (latest rows) rows (le_refl _))) in
      let e = below_const (latest rows) benches in
      omega arith

  -- each row ends no later than a row of step 0
  ends_before : (z : Row) → All (λ o. o.step ≡ 0 → o.end ≤ z.end) rows → (n j : ℕ) → j ≤ n → w j ≡ true → All (λ o. o.step ≡ j → o.end ≤ z.end) rows
  ends_before z h zero j l on = let q : j ≡ 0 = omega arith in rw q h
  ends_before z h (suc n) j l on =
      elim (cases_eq j 0) [
        | inl q ↦ rw q h
        | inr q ↦
            let i = (step sheet j).target in
            let b = way.within j on in
            let u = lower j (omega arith) b in
            let x = ends_before z h n i (omega arith) (way.led j on q).1 in
            let A = λ (o : Row). (o.step ≡ i → o.end ≤ z.end) × Takes sheet o in
            let B = λ (o : Row). All (Waits sheet o) rows in
            let y = all_has (λ o. A o × B o) (λ o. o.step ≡ i) rows (all_and A B rows (all_and (λ o. o.step ≡ i → o.end ≤ z.end) (Takes sheet) rows x v.takes) v.fed) (v.whole i (way.led j on q).1) in
            let o = y.0 in
            let by_first : o.end ≤ z.end = y.1.0.0 y.2 in
            let lasts : Takes sheet o = y.1.0.1 in
            let g : Feeds sheet j o.step = (omega arith, b, sym y.2) in
            all_map (Waits sheet o) (λ p. p.step ≡ j → p.end ≤ z.end) (λ p f r. let k = f (rw r g) in omega arith) rows y.1.1
      ]

  first_last : All (λ o. o.step ≡ 0 → o.end ≡ latest rows) rows
  first_last =
      let a = has_self (λ o. o.step ≡ 0) rows (v.whole 0 way.holds) in
      let z = a.0 in
      let b = once_all 0 (λ o. o.end ≡ z.end) rows v.once (has_map (λ o. o ≡ z) (λ o. (o.step ≡ 0) × (o.end ≡ z.end)) (λ o e. (ap (λ (x : Row). x.step) e ∙ a.1, ap (λ (x : Row). x.end) e)) rows a.2) in
      let c = all_map (λ o. o.step ≡ 0 → o.end ≡ z.end) (λ o. o.step ≡ 0 → o.end ≤ z.end) (λ o f e. let x = f e in omega arith) rows b in
      let d = all_diag w (λ o. o.end ≤ z.end) rows v.member (λ j. ends_before z c j j (le_refl j)) in
      let e = latest_le z.end rows d in
      let f = all_has (λ o. o.end ≤ latest rows) (λ o. o ≡ z) rows (ends_le (latest rows) rows (le_refl _)) a.2 in
      let g : z.end ≤ latest rows = rw f.2 at f.1 in
      all_map (λ o. o.step ≡ 0 → o.end ≡ z.end) (λ o. o.step ≡ 0 → o.end ≡ latest rows) (λ o h q. let x = h q in omega arith) rows b

pub lower_bounds : LowerBounds
lower_bounds benches sheet w rows lower way v = (critical_bound benches sheet w rows lower way v, work_bound benches sheet w rows lower way v)

-- the end of a step that has a row
end_of_all : (i n : ℕ) (rs : List Row) → All (λ r. r.step ≡ i → r.end ≡ n) rs → Has (λ r. r.step ≡ i) rs → end_of i rs ≡ n
end_of_all i n [] a h = absurd h
end_of_all i n (r ∷ rs) a h = elim (cases_eq r.step i) [
  | inl q ↦ rw (eq-eqb r.step i q) (a.0 q)
  | inr q ↦ rw (ne_eqb r.step i q) (end_of_all i n rs a.1 (elim h [ inl x ↦ absurd (q x) | inr x ↦ x ]))
]

pub first_ends_last : FirstEndsLast
first_ends_last benches sheet w rows lower way v = end_of_all 0 (latest rows) rows (first_last benches sheet w rows lower way v) (v.whole 0 way.holds)
