-- The figure of a way under a measure that adds is what its steps have, added up.
use Rattle.std.proofs.Common.{◌≡◌, ℕ, zero, suc, ◌+◌, ◌*◌, ◌<◌, ◌≤◌, Bool, true, false, ◌&&◌, eqb, ltb, List, [], ◌∷◌, length, drop, sym, refl, ap, ◌∙◌, inl, inr, le_refl, suc-mul, arith, length-drop}
use Rattle.std.proofs.lemmas.Bool.{eq-eqb, ne_eqb, lt-ltb, le-ltb, cases_order, both_ways}
use Rattle.steps.specs.declared.step.Step.{Step}
use Rattle.steps.specs.Sheet.{step, Descending}
use Rattle.ways.specs.declared.StepFacts.{StepFacts}
use Rattle.ways.specs.Figures.{Line, facts, plus, total, figures, figure}
use Rattle.ways.specs.Measures.{Measure}
use Rattle.ways.specs.Sums.{adding, only, sum_below, way_sum}
use Rattle.ways.specs.Ways.{Set, Way}
use Rattle.ways.proofs.Lower.{zero_total, count_zero}
use Rattle.ways.proofs.Suffixes.{uncons}

-- the figures of the steps on the way, from j on, with a target below i
abbrev roots : Measure ℕ → Set → ℕ → ℕ → List (Line ℕ) → ℕ
roots m w i j [] = m.empty
roots m w i j (r ∷ rs) = plus m (ltb r.into i && w j) r.entry (roots m w i (suc j) rs)

-- tests of x against suc i, i, and for i
data Three : Bool → Bool → Bool → Type 0 where
  low : Three true true false
  at : Three true false true
  high : Three false false false

three : (x i : ℕ) → Three (ltb x (suc i)) (ltb x i) (eqb x i)
three x i = elim (cases_order x i) [
  | inl q ↦ rw (lt-ltb x (suc i) (omega arith), le-ltb x i (omega arith), eq-eqb x i q) at
  | inr (inl q) ↦ rw (lt-ltb x (suc i) (omega arith), lt-ltb x i q, ne_eqb x i (λ e. omega arith)) low
  | inr (inr q) ↦ rw (le-ltb x (suc i) (omega arith), le-ltb x i (omega arith), ne_eqb x i (λ e. omega arith)) high
]

split_adding : (has : StepFacts → ℕ) {a b e : Bool} → Three a b e → (c : Bool) (f s r t : ℕ) → s ≡ r + t → plus (adding has) (a && c) f s ≡ plus (adding has) (b && c) f r + plus (adding has) (e && c) f t
split_adding has low true f s r t h = omega arith
split_adding has low false f s r t h = h
split_adding has at true f s r t h = omega arith
split_adding has at false f s r t h = h
split_adding has high c f s r t h = h

module _ (w : Set) where
  roots_adding : (has : StepFacts → ℕ) (i j : ℕ) (rs : List (Line ℕ)) → roots (adding has) w (suc i) j rs ≡ roots (adding has) w i j rs + total (adding has) w i j rs
  roots_adding has i j [] = refl
  roots_adding has i j (r ∷ rs) = split_adding has (three r.into i) (w j) r.entry _ _ _ (roots_adding has i (suc j) rs)

  roots_zero : (m : Measure ℕ) (j : ℕ) (rs : List (Line ℕ)) → roots m w 0 j rs ≡ m.empty
  roots_zero m j [] = refl
  roots_zero m j (r ∷ rs) = ap (λ b. plus m (b && w j) r.entry (roots m w 0 (suc j) rs)) (le-ltb r.into 0 (omega arith)) ∙ roots_zero m (suc j) rs

  abbrev members : (StepFacts → ℕ) → ℕ → List Step → ℕ
  members has j [] = 0
  members has j (s ∷ ss) = only (w j) (has (facts j s)) + members has (suc j) ss

module _ (sheet : List Step) (lower_targets : Descending sheet) (w : Set) (way : Way sheet w) where
  -- what is off the way has no feeder on it
  off : (m : Measure ℕ) (j : ℕ) (ss : List Step) → drop (suc j) sheet ≡ ss → w j ≡ false → total m w j (suc j) (figures m w (suc j) ss) ≡ m.empty
  off m j ss e v = zero_total m w j (suc j) ss (count_zero sheet w j (suc j) ss e (λ k a b t h. both_ways (w j) v (rw t at (way.led k h (λ z. omega arith)).1)))

  added : (has : StepFacts → ℕ) (j : ℕ) (ss : List Step) → drop j sheet ≡ ss → 0 < j → members w has j ss ≡ roots (adding has) w j j (figures (adding has) w j ss)
  added has j [] e p = refl
  added has j (s ∷ ss) e p =
      let t = uncons sheet j s ss e in
      let l : s.target < j = rw t.1 at (lower_targets j p t.0) in
      ap (λ x. only (w j) (has (facts j s)) + x) (added has (suc j) ss t.2 (omega arith) ∙ roots_adding w has j (suc j) (figures (adding has) w (suc j) ss))
      ∙ go (w j) (off (adding has) j ss t.2)
      ∙ ap (λ b. plus (adding has) (b && w j) (total (adding has) w j (suc j) (figures (adding has) w (suc j) ss) + has (facts j s)) (roots (adding has) w j (suc j) (figures (adding has) w (suc j) ss))) (sym (lt-ltb s.target j l))
    where
      go : (v : Bool) → (v ≡ false → total (adding has) w j (suc j) (figures (adding has) w (suc j) ss) ≡ 0) → only v (has (facts j s)) + (roots (adding has) w j (suc j) (figures (adding has) w (suc j) ss) + total (adding has) w j (suc j) (figures (adding has) w (suc j) ss)) ≡ plus (adding has) v (total (adding has) w j (suc j) (figures (adding has) w (suc j) ss) + has (facts j s)) (roots (adding has) w j (suc j) (figures (adding has) w (suc j) ss))
      go true f = omega arith
      go false f = let z = f refl in omega arith

  below_members : (has : StepFacts → ℕ) (j : ℕ) (ss : List Step) → drop j sheet ≡ ss → j ≤ length sheet → sum_below (λ i. only (w i) (has (facts i (step sheet i)))) j + members w has j ss ≡ way_sum has sheet w
  below_members has j [] e l =
      let q : j ≡ length sheet = omega (arith, length-drop j sheet, ap length e) in
      let z : sum_below (λ i. only (w i) (has (facts i (step sheet i)))) j + 0 ≡ sum_below (λ i. only (w i) (has (facts i (step sheet i)))) j = omega arith in
      z ∙ ap (sum_below (λ i. only (w i) (has (facts i (step sheet i))))) q
  below_members has j (s ∷ ss) e l =
      let t = uncons sheet j s ss e in
      let a = below_members has (suc j) ss t.2 t.0 in
      let b : only (w j) (has (facts j (step sheet j))) ≡ only (w j) (has (facts j s)) = ap (λ (x : Step). only (w j) (has (facts j x))) t.1 in
      omega arith

-- the figure of a way under a measure that adds is what its steps have
pub all_added : (has : StepFacts → ℕ) (ss : List Step) (w : Set) → Descending ss → Way ss w → figure (adding has) ss w 0 ≡ way_sum has ss w
all_added has [] w lower_targets way = absurd (omega (arith, way.within 0 way.holds))
all_added has (s ∷ ss) w lower_targets way =
    let a = added (s ∷ ss) lower_targets w way has 1 ss refl (omega arith) in
    let b = roots_adding w has 0 1 (figures (adding has) w 1 ss) in
    let c = roots_zero w (adding has) 1 (figures (adding has) w 1 ss) in
    let d = below_members (s ∷ ss) lower_targets w way has 0 (s ∷ ss) refl (omega arith) in
    let e : only (w 0) (has (facts 0 s)) ≡ has (facts 0 s) = ap (λ b. only b (has (facts 0 s))) way.holds in
    omega arith

-- at most so much for each step
pub way_sum_most : (has : StepFacts → ℕ) (ss : List Step) (w : Set) (top : ℕ) → ((i : ℕ) → i < length ss → has (facts i (step ss i)) ≤ top) → way_sum has ss w ≤ length ss * top
way_sum_most has ss w top each = upto (length ss) (le_refl (length ss))
  where
    at_most : (b : Bool) (x : ℕ) → x ≤ top → only b x ≤ top
    at_most true x h = h
    at_most false x h = omega arith

    upto : (n : ℕ) → n ≤ length ss → sum_below (λ i. only (w i) (has (facts i (step ss i)))) n ≤ n * top
    upto zero h = omega arith
    upto (suc n) h =
        let here = at_most (w n) (has (facts n (step ss n))) (each n h) in
        let rest = upto n (omega arith) in
        omega (arith, here, rest, suc-mul n top)
