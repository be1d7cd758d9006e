-- What is left of the work and of the longest path, and how it falls with the time.
use Rattle.std.proofs.Common.{◌≡◌, ℕ, suc, ◌+◌, ◌-◌, ◌*◌, ◌<◌, ◌≤◌, min, Bool, true, false, cond, not, ◌&&◌, ◌||◌, eqb, ltb, leb, ◌⊎◌, List, [], ◌∷◌, length, drop, Some, None, Option, sym, refl, ap, ◌∙◌, inl, inr, arith}
use mathlib.Core.Path.{fun_ext}
use Rattle.std.proofs.lemmas.Bool.{false≢true, true≢false, eqb-true, eq-eqb, ne_eqb, cases_eq, and_parts, and_cases, or_cases, or_parts, not-false, both_ways, ltb-true, ltb-false, le-leb}
use Rattle.steps.specs.declared.row.Row.{Row}
use Rattle.steps.specs.declared.step.Step.{Step}
use Rattle.steps.specs.Sheet.{step}
use Rattle.steps.proofs.Clashes.{clash}
use Rattle.ways.specs.Figures.{Line, plus, total, onto, figures}
use Rattle.ways.specs.Sums.{longest, only, sum_below}
use Rattle.ways.specs.Ways.{Set}
use Rattle.ways.proofs.Suffixes.{Each, uncons}
use Rattle.schedules.specs.Timetables.{All, Has}
use Rattle.schedules.specs.Dispatch.{State, moment, busy, begun, ended, over, fed, earlier, next_end, begin}
use Rattle.schedules.proofs.Progress.{next_none}
use Rattle.schedules.proofs.Rows.{NoEnd, all_map, all_always, has_map}
use Rattle.schedules.proofs.Sums.{sum_rows, below_add, below_le, below_const, single, rows_add, rows_same, by_key}

-- The next end: each row has ended, or lasts until then, and one does.

pub next_all : (now t : ℕ) (ls : List Row) → next_end now ls ≡ Some t → All (NoEnd now t) ls
next_all now t [] e = tt
next_all now t (l ∷ ls) e = go (ltb now l.end) refl (next_end now ls) refl e (λ u. next_all now u ls)
  where
    go : (b : Bool) → ltb now l.end ≡ b → (o : Option ℕ) → next_end now ls ≡ o → earlier b l.end o ≡ Some t → ((u : ℕ) → o ≡ Some u → All (NoEnd now u) ls) → All (NoEnd now t) (l ∷ ls)
    go false b o n e f = (inl (ltb-false now l.end b), f t e)
    go true b None n e f = let q : l.end ≡ t = cc in (inr (omega arith), all_map (λ o. o.end ≤ now) (NoEnd now t) (λ o h. inl h) ls (next_none now ls n))
    go true b (Some u) n e f =
        let q : min l.end u ≡ t = cc in
        (inr (omega arith), all_map (NoEnd now u) (NoEnd now t) (λ o h. elim h [ inl x ↦ inl x | inr x ↦ inr (omega arith) ]) ls (f u refl))

pub next_is : (now t : ℕ) (ls : List Row) → next_end now ls ≡ Some t → Has (λ l. l.end ≡ t) ls
next_is now t [] e = clash (cc)
next_is now t (l ∷ ls) e = go (ltb now l.end) (next_end now ls) e (λ u. next_is now u ls)
  where
    go : (b : Bool) (o : Option ℕ) → earlier b l.end o ≡ Some t → ((u : ℕ) → o ≡ Some u → Has (λ l. l.end ≡ u) ls) → Has (λ l. l.end ≡ t) (l ∷ ls)
    go false o e f = inr (f t e)
    go true None e f = let q : l.end ≡ t = cc in inl q
    go true (Some u) e f =
        let q : min l.end u ≡ t = cc in
        elim (cases_eq l.end t) [ inl z ↦ inl z | inr z ↦ let y : u ≡ t = omega arith in inr (f t (ap Some y)) ]

pub next_has : (now t : ℕ) (ls : List Row) → next_end now ls ≡ Some t → Has (λ l. t ≤ l.end) ls
next_has now t ls e = has_map (λ l. l.end ≡ t) (λ l. t ≤ l.end) (λ l q. omega arith) ls (next_is now t ls e)

-- The work that is left: the minutes of the steps that are not begun, and what is left of the rows.

abbrev pub unbegun : List Step → Set → List Row → ℕ → ℕ
unbegun sheet w ls i = only (w i && not (begun i ls)) (step sheet i).minutes

abbrev pub work_left : List Step → Set → State → ℕ
work_left sheet w st = sum_below (unbegun sheet w st.rows) (length sheet) + sum_rows (λ l. l.end - st.now) st.rows

begun_step : (v a c : Bool) (x y : ℕ) → (v ≡ true → (a && not c) ≡ true) → (v ≡ true → x ≡ y) → only (a && not c) x ≡ only (a && not (v || c)) x + only v y
begun_step false a c x y h e = omega arith
begun_step true true false x y h e = let q = e refl in omega arith
begun_step true true true x y h e = absurd (false≢true (h refl))
begun_step true false c x y h e = absurd (false≢true (h refl))

pub work_begin : (sheet : List Step) (w : Set) (st : State) (i b : ℕ) → i < length sheet → (w i && not (begun i st.rows)) ≡ true → work_left sheet w (begin sheet st i b) ≡ work_left sheet w st
work_begin sheet w st i b l h =
    let x = (step sheet i).minutes in
    let g = unbegun sheet w st.rows in
    let g_after = unbegun sheet w (begin sheet st i b).rows in
    let a : sum_below g (length sheet) ≡ sum_below (λ k. g_after k + only (eqb i k) x) (length sheet) =
    ap (λ f. sum_below f (length sheet)) (fun_ext (λ k. begun_step (eqb i k) (w k) (begun k st.rows) (step sheet k).minutes x
    (λ v. let q : i ≡ k = eqb-true i k v in rw q at h) (λ v. let q : i ≡ k = eqb-true i k v in ap (λ k. (step sheet k).minutes) (sym q)))) in
    let c = below_add g_after (λ k. only (eqb i k) x) (length sheet) in
    let d = single i x (length sheet) l in
    omega arith

-- how much of a row passes from now until t
abbrev pub passes : ℕ → ℕ → Row → ℕ
passes now t l = (l.end - now) - (l.end - t)

pub work_falls : (sheet : List Step) (w : Set) (now t : ℕ) (ls : List Row) → now < t → work_left sheet w (moment now ls) ≡ work_left sheet w (moment t ls) + sum_rows (passes now t) ls
work_falls sheet w now t ls h =
    let a = rows_same (λ l. l.end - now) (λ l. (l.end - t) + passes now t l) ls (all_always (λ l. l.end - now ≡ (l.end - t) + passes now t l) (λ l. omega arith) ls) in
    let b = rows_add (λ l. l.end - t) (passes now t) ls in
    omega arith

busy_passes : (now t b : ℕ) (ls : List Row) → now < t → busy now b ls ≡ true → All (NoEnd now t) ls → t - now ≤ sum_rows (λ l. only (eqb l.bench b) (passes now t l)) ls
busy_passes now t b [] h e a = absurd (false≢true e)
busy_passes now t b (l ∷ ls) h e a =
    elim (or_cases (eqb l.bench b && ltb now l.end) (busy now b ls) e) [
      | inl x ↦
          let p = and_parts (eqb l.bench b) (ltb now l.end) x in
          let k = ltb-true now l.end p.1 in
          rw p.0 (elim a.0 [ inl y ↦ absurd (omega arith) | inr y ↦ omega arith ])
      | inr x ↦ let i = busy_passes now t b ls h x a.1 in omega arith
    ]

pub all_busy : (m now t : ℕ) (ls : List Row) → now < t → ((b : ℕ) → b < m → busy now b ls ≡ true) → All (λ l. l.bench < m) ls → All (NoEnd now t) ls → m * (t - now) ≤ sum_rows (passes now t) ls
all_busy m now t ls h f v a =
    let k = by_key (λ l. l.bench) (passes now t) m ls v in
    let c = below_const (t - now) m in
    let d = below_le (λ b. t - now) (λ b. sum_rows (λ l. only (eqb l.bench b) (passes now t l)) ls) m (λ b l. busy_passes now t b ls h (f b l) a) in
    omega arith

-- The longest path: what is left of each step, and the longest path of what is left.

abbrev pub left_of : ℕ → ℕ → ℕ → List Row → ℕ
left_of now i n [] = n
left_of now i n (l ∷ ls) = cond (eqb l.step i) (l.end - now) (left_of now i n ls)

abbrev pub left : List Step → State → ℕ → ℕ
left sheet st i = left_of st.now i (step sheet i).minutes st.rows

abbrev pub rest_line : (ℕ → ℕ) → Set → ℕ → Step → List (Line ℕ) → Line ℕ
rest_line r w j s t = record { into = s.target; entry = total longest w j (suc j) t + r j }

abbrev pub rests : (ℕ → ℕ) → Set → ℕ → List Step → List (Line ℕ)
rests r w j [] = []
rests r w j (s ∷ ss) = onto (rest_line r w j s) (rests r w (suc j) ss)

-- the greatest entry of a step on the way
abbrev pub peak : Set → ℕ → List (Line ℕ) → ℕ
peak w j [] = 0
peak w j (r ∷ rs) = plus longest (w j) r.entry (peak w (suc j) rs)

abbrev pub longest_left : List Step → Set → State → ℕ
longest_left sheet w st = peak w 0 (rests (left sheet st) w 0 sheet)

-- with all its minutes left, a sheet has its own figures
pub rests_whole : (sheet : List Step) (w : Set) (j : ℕ) (ss : List Step) → drop j sheet ≡ ss → rests (λ i. (step sheet i).minutes) w j ss ≡ figures longest w j ss
rests_whole sheet w j [] e = refl
rests_whole sheet w j (s ∷ ss) e =
    let t = uncons sheet j s ss e in
    let go : (r q : List (Line ℕ)) (x : ℕ) → r ≡ q → x ≡ s.minutes → ◌≡◌ {A = List (Line ℕ)} (record { into = s.target; entry = total longest w j (suc j) r + x } ∷ r) (record { into = s.target; entry = total longest w j (suc j) q + s.minutes } ∷ q) = λ r q x a b. cc in
    go _ _ _ (rests_whole sheet w (suc j) ss t.2) (ap (λ (x : Step). x.minutes) t.1)

pub left_begin : (now i k b x n : ℕ) (ls : List Row) → begun i ls ≡ false → (i ≡ k → x ≡ n) → left_of now k n (record { step = i; bench = b; start = now; end = now + x } ∷ ls) ≡ left_of now k n ls
left_begin now i k b x n ls h e = elim (cases_eq i k) [
  | inl q ↦ let z = e q in rw (eq-eqb i k q) ((let y : now + x - now ≡ n = omega arith in y) ∙ sym (unbegun_left now k n ls (rw q at h)))
  | inr q ↦ rw (ne_eqb i k q) refl
]
  where
    unbegun_left : (now k n : ℕ) (ls : List Row) → begun k ls ≡ false → left_of now k n ls ≡ n
    unbegun_left now k n [] h = refl
    unbegun_left now k n (l ∷ ls) h = let p = or_parts (eqb l.step k) (begun k ls) h in rw p.0 (unbegun_left now k n ls p.1)

-- over a stretch of time a step is not begun, has ended, or runs
abbrev pub Passed : ℕ → Bool → Bool → ℕ → ℕ → Type 0
Passed d has_begun has_ended before after = ((has_begun ≡ false) × (after ≡ before)) ⊎ (((has_ended ≡ true) × (before ≡ 0) × (after ≡ 0)) ⊎ (after + d ≡ before))

pub passing : (now t k n : ℕ) (ls : List Row) → now < t → All (NoEnd now t) ls → Passed (t - now) (begun k ls) (ended now k ls) (left_of now k n ls) (left_of t k n ls)
passing now t k n [] h a = inl (refl, refl)
passing now t k n (l ∷ ls) h a = go (eqb l.step k) a.0 (passing now t k n ls h a.1)
  where
    go : (v : Bool) → NoEnd now t l → Passed (t - now) (begun k ls) (ended now k ls) (left_of now k n ls) (left_of t k n ls) → Passed (t - now) (v || begun k ls) ((v && leb l.end now) || ended now k ls) (cond v (l.end - now) (left_of now k n ls)) (cond v (l.end - t) (left_of t k n ls))
    go false c p = p
    go true (inl c) p = inr (inl (ap (λ b. b || ended now k ls) (le-leb l.end now c), omega arith, omega arith))
    go true (inr c) p = inr (inr (omega arith))

plus_falls : (b : Bool) (d f g u v : ℕ) → (b ≡ true → u ≤ f - d) → v ≤ g - d → plus longest b u v ≤ plus longest b f g - d
plus_falls true d f g u v x y = let z = x refl in omega arith
plus_falls false d f g u v x y = y

pub plus_left : (b : Bool) (d f g : ℕ) → b ≡ true → d ≤ f → d ≤ plus longest b f g
plus_left true d f g e h = omega arith
plus_left false d f g e h = absurd (false≢true e)

pub plus_right : (b : Bool) (d f g : ℕ) → d ≤ g → d ≤ plus longest b f g
plus_right true d f g h = omega arith
plus_right false d f g h = h

pub plus_le : (b : Bool) (f g n : ℕ) → (b ≡ true → f ≤ n) → g ≤ n → plus longest b f g ≤ n
plus_le true f g n h k = let x = h refl in omega arith
plus_le false f g n h k = k

module _ (w : Set) (r q : ℕ → ℕ) (d : ℕ) where
  abbrev pub LineFalls : ℕ → Step → List Step → Type 0
  LineFalls k u us = w k ≡ true → (rest_line q w k u (rests q w (suc k) us)).entry ≤ (rest_line r w k u (rests r w (suc k) us)).entry - d

  total_falls : (i j : ℕ) (ss : List Step) → Each LineFalls j ss → total longest w i j (rests q w j ss) ≤ total longest w i j (rests r w j ss) - d
  total_falls i j [] h = omega arith
  total_falls i j (s ∷ ss) h = plus_falls (eqb s.target i && w j) d _ _ _ _ (λ e. h.0 (and_parts (eqb s.target i) (w j) e).1) (total_falls i (suc j) ss h.1)

  pub peak_falls : (j : ℕ) (ss : List Step) → Each LineFalls j ss → peak w j (rests q w j ss) ≤ peak w j (rests r w j ss) - d
  peak_falls j [] h = omega arith
  peak_falls j (s ∷ ss) h = plus_falls (w j) d _ _ _ _ h.0 (peak_falls (suc j) ss h.1)

-- where nothing grows, no path grows
pub each_le : (w : Set) (r q : ℕ → ℕ) → ((k : ℕ) → q k ≤ r k) → (j : ℕ) (ss : List Step) → Each (LineFalls w r q 0) j ss
each_le w r q f j [] = tt
each_le w r q f j (s ∷ ss) =
    let a = each_le w r q f (suc j) ss in
    let b = total_falls w r q 0 j (suc j) ss a in
    let c = f j in
    ((λ h. omega arith), a)

-- where each unfinished step of the way runs or waits for another, each path falls
module _ (sheet : List Step) (w : Set) (now t : ℕ) (ls : List Row) (later : now < t) (next : All (NoEnd now t) ls) (waits : (k : ℕ) → k < length sheet → w k ≡ true → begun k ls ≡ false → fed w (over (moment now ls)) k (suc k) (drop (suc k) sheet) ≡ false) where
  abbrev pub before : ℕ → ℕ
  before = left sheet (moment now ls)

  abbrev pub after : ℕ → ℕ
  after = left sheet (moment t ls)

  abbrev LineHigh : ℕ → Step → List Step → Type 0
  LineHigh k u us = w k ≡ true → ended now k ls ≡ false → t - now ≤ (rest_line before w k u (rests before w (suc k) us)).entry

  total_high : (i j : ℕ) (ss : List Step) → fed w (over (moment now ls)) i j ss ≡ false → Each LineHigh j ss → t - now ≤ total longest w i j (rests before w j ss)
  total_high i j [] e h = absurd (true≢false e)
  total_high i j (s ∷ ss) e h =
      elim (and_cases (not (eqb s.target i && w j) || ended now j ls) (fed w (over (moment now ls)) i (suc j) ss) e) [
        | inl x ↦
            let p = or_parts (not (eqb s.target i && w j)) (ended now j ls) x in
            let q = not-false (eqb s.target i && w j) p.0 in
            plus_left (eqb s.target i && w j) (t - now) _ _ q (h.0 (and_parts (eqb s.target i) (w j) q).1 p.1)
        | inr x ↦ plus_right (eqb s.target i && w j) (t - now) _ _ (total_high i (suc j) ss x h.1)
      ]

  each_high : (j : ℕ) (ss : List Step) → drop j sheet ≡ ss → Each LineHigh j ss
  each_high j [] e = tt
  each_high j (s ∷ ss) e =
      let u = uncons sheet j s ss e in
      let h = each_high (suc j) ss u.2 in (
        (λ on x. elim (passing now t j (step sheet j).minutes ls later next) [
          | inl p ↦ let f = total_high j (suc j) ss (rw u.2 at (waits j u.0 on p.0)) h in omega arith
          | inr (inl p) ↦ absurd (both_ways (ended now j ls) x p.0)
          | inr (inr p) ↦ omega arith
        ]),
        h,
      )

  pub each_falls : (j : ℕ) (ss : List Step) → drop j sheet ≡ ss → Each (LineFalls w before after (t - now)) j ss
  each_falls j [] e = tt
  each_falls j (s ∷ ss) e =
      let u = uncons sheet j s ss e in
      let h = each_falls (suc j) ss u.2 in
      let b = total_falls w before after (t - now) j (suc j) ss h in (
        (λ on. elim (passing now t j (step sheet j).minutes ls later next) [
          | inl p ↦ let f = total_high j (suc j) ss (rw u.2 at (waits j u.0 on p.0)) (each_high (suc j) ss u.2) in omega (arith, p.1)
          | inr (inl p) ↦ omega (arith, p.1, p.2)
          | inr (inr p) ↦ omega (arith, p)
        ]),
        h,
      )
