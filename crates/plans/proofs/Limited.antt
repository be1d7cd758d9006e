-- The sheet at a limit, and the way taken there.
use Rattle.std.proofs.Common.{◌≡◌, ℕ, zero, suc, ◌+◌, ◌<◌, ◌≤◌, Bool, ◌&&◌, ◌||◌, ltb, List, [], ◌∷◌, length, drop, Some, None, Option, sym, refl, ap, ◌∙◌, subst, ap₂, inl, inr, le_trans, arith, drop-cons}
use Rattle.std.proofs.lemmas.List.{at_drop_all}
use Rattle.std.proofs.lemmas.Bool.{and_cases, or_parts, or_from, and_left, and_right, le-ltb, ltb-false, cases_Bool, both_ways}
use Rattle.steps.specs.declared.step.Step.{Step}
use Rattle.steps.specs.Sheet.{step, blank, Descending}
use Rattle.ways.specs.Figures.{facts, onto, total, figures, figure}
use Rattle.ways.specs.Least.{least_line, least_table}
use Rattle.ways.specs.Measures.{Measure}
use Rattle.ways.specs.Paths.{tail}
use Rattle.ways.specs.Sums.{longest, all_minutes, minutes_of, chain_of}
use Rattle.ways.specs.Ways.{Set, WayOf, Way, Open}
use Rattle.ways.proofs.Lower.{LeEntry, lower}
use Rattle.ways.proofs.Upper.{taken_way, taken_open, taken_exact}
use Rattle.plans.specs.Leaves.{leaf, is_leaf}
use Rattle.plans.specs.declared.Sums.{Sums}
use Rattle.plans.specs.Limited.{both, OpenAt, shut, steps_at, sheet_at, at_limit, taken_at, TakesOrNone, TakenRight}
use Rattle.plans.proofs.Chains.{longest_path}
use Rattle.plans.proofs.Leaves.{leaves_right}
use Rattle.plans.proofs.SideBySide.{both_work, both_long, both_rising}

module _ (limit : ℕ) (sheet : List Step) where
  steps_length : (j : ℕ) (ss : List Step) → length (steps_at limit sheet j ss) ≡ length ss
  steps_length j [] = refl
  steps_length j (s ∷ ss) = ap suc (steps_length (suc j) ss)

  steps_step : (j : ℕ) (ss : List Step) (i k : ℕ) → k ≡ j + i → i < length ss → step (steps_at limit sheet j ss) i ≡ shut (leaf k (step ss i) (drop (suc i) ss) && ltb limit (tail sheet k)) (step ss i)
  steps_step j [] i k e l = absurd (omega arith)
  steps_step j (s ∷ ss) zero k e l = let q : j ≡ k = omega arith in ap (λ x. shut (leaf x s ss && ltb limit (tail sheet x)) s) q
  steps_step j (s ∷ ss) (suc i) k e l = steps_step (suc j) ss i k (omega arith) (omega arith)

  -- what does not read whether a step is closed is kept
  steps_kept : {X : Type 0} (f : Step → X) → ((b : Bool) (s : Step) → f (shut b s) ≡ f s) → (j : ℕ) (ss : List Step) (i : ℕ) → f (step (steps_at limit sheet j ss) i) ≡ f (step ss i)
  steps_kept f h j [] i = refl
  steps_kept f h j (s ∷ ss) zero = h _ s
  steps_kept f h j (s ∷ ss) (suc i) = steps_kept f h (suc j) ss i

  module _ {A : Type 0} (m : Measure A) (w : Set) where
    steps_figures : (k j : ℕ) (ss : List Step) → figures m w k (steps_at limit sheet j ss) ≡ figures m w k ss
    steps_figures k j [] = refl
    steps_figures k j (s ∷ ss) = rw (steps_figures (suc k) (suc j) ss) refl

    dropped_figures : (n k j : ℕ) (ss : List Step) → figures m w k (drop n (steps_at limit sheet j ss)) ≡ figures m w k (drop n ss)
    dropped_figures zero k j ss = steps_figures k j ss
    dropped_figures (suc n) k j [] = refl
    dropped_figures (suc n) k j (s ∷ ss) = dropped_figures n k (suc j) ss

-- sheets that differ in what is closed alone have the same ways
same_ways : (a b : List Step) → length a ≡ length b → ((i : ℕ) → (step a i).join ≡ (step b i).join) → ((i : ℕ) → (step a i).target ≡ (step b i).target) → (i : ℕ) (w : Set) → WayOf a i w → WayOf b i w
same_ways a b n joins targets i w way = record {
  holds = way.holds;
  every = λ j on e k f. way.every j on (joins j ∙ e) k (f.0, omega (arith, f.1), targets k ∙ f.2);
  one = λ j on e.
      let o = way.one j on (joins j ∙ e) in
      let f = o.1 in
      (o.0, (f.0, omega (arith, f.1), sym (targets o.0) ∙ f.2), o.2, λ l g h. o.3 l (g.0, omega (arith, g.1), targets l ∙ g.2) h);
  led = λ k on apart. let l = way.led k on apart in (l.0, rw (targets k) at l.1);
  within = λ k on. omega (arith, way.within k on);
}

module _ (limit : ℕ) (ss : List Step) where
  pub length_at : length (sheet_at limit ss) ≡ length ss
  length_at = steps_length limit ss 0 ss

  pub step_at : (i : ℕ) → i < length ss → step (sheet_at limit ss) i ≡ shut (is_leaf ss i && ltb limit (tail ss i)) (step ss i)
  step_at i l = steps_step limit ss 0 ss i i (omega arith) l

  -- the table of least figures at the limit, from the highest step down
  pub table_at_end : {A : Type 0} (m : Measure A) (j : ℕ) → length ss ≤ j → least_table m j (drop j (sheet_at limit ss)) ≡ []
  table_at_end m j l = at_drop_all (least_table m j) (sheet_at limit ss) j (rw length_at l)

  pub table_at_step : {A : Type 0} (m : Measure A) (j : ℕ) → j < length ss → least_table m j (drop j (sheet_at limit ss)) ≡ onto (least_line m j (shut (is_leaf ss j && ltb limit (tail ss j)) (step ss j))) (least_table m (suc j) (drop (suc j) (sheet_at limit ss)))
  table_at_step m j l = rw (drop-cons (sheet_at limit ss) j blank (rw length_at l), step_at j l) refl

  pub join_at : (i : ℕ) → (step (sheet_at limit ss) i).join ≡ (step ss i).join
  join_at = steps_kept limit ss (λ s. s.join) (λ b s. refl) 0 ss

  pub target_at : (i : ℕ) → (step (sheet_at limit ss) i).target ≡ (step ss i).target
  target_at = steps_kept limit ss (λ s. s.target) (λ b s. refl) 0 ss

  pub figure_at : {A : Type 0} (m : Measure A) (w : Set) (i : ℕ) → figure m (sheet_at limit ss) w i ≡ figure m ss w i
  figure_at m w i =
      ap₂ (λ f t. m.grows f (total m w i (suc i) t)) (steps_kept limit ss (facts i) (λ b s. refl) 0 ss i) (dropped_figures limit ss m w (suc i) (suc i) 0 ss)

  pub work_at : (w : Set) (i : ℕ) → (figure both (sheet_at limit ss) w i).work ≡ figure all_minutes ss w i
  work_at w i = ap (λ (a : Sums). a.work) (figure_at both w i) ∙ both_work ss w i

  long_at : (w : Set) (i : ℕ) → (figure both (sheet_at limit ss) w i).long ≡ figure longest ss w i
  long_at w i = ap (λ (a : Sums). a.long) (figure_at both w i) ∙ both_long ss w i

  pub descending_at : Descending ss → Descending (sheet_at limit ss)
  descending_at lower_targets j p l = rw (target_at j) (lower_targets j p (rw length_at at l))

  pub way_at : (i : ℕ) (w : Set) → WayOf ss i w → WayOf (sheet_at limit ss) i w
  way_at = same_ways ss (sheet_at limit ss) (sym length_at) (λ i. sym (join_at i)) (λ i. sym (target_at i))

  pub way_from : (i : ℕ) (w : Set) → WayOf (sheet_at limit ss) i w → WayOf ss i w
  way_from = same_ways (sheet_at limit ss) ss length_at join_at target_at

  closed_at : (i : ℕ) → i < length ss → (step (sheet_at limit ss) i).closed ≡ ((step ss i).closed || (is_leaf ss i && ltb limit (tail ss i)))
  closed_at i l = ap (λ (s : Step). s.closed) (step_at i l)

  module _ (lower_targets : Descending ss) where
    pub open_at : (i : ℕ) (w : Set) → WayOf ss i w → OpenAt limit ss w → Open (sheet_at limit ss) w
    open_at i w way o k on =
        let p = o k on in
        closed_at k (way.within k on) ∙ or_from _ _ p.0 (elim (cases_Bool (is_leaf ss k)) [
          | inl y ↦ and_right _ _ (le-ltb limit (tail ss k) (p.1 ((leaves_right ss lower_targets k).0 y)))
          | inr n ↦ and_left _ _ n
        ])

    pub open_from : (i : ℕ) (w : Set) → WayOf ss i w → Open (sheet_at limit ss) w → OpenAt limit ss w
    open_from i w way o k on =
        let p = or_parts _ _ (sym (closed_at k (way.within k on)) ∙ o k on) in
        (p.0, λ y. elim (and_cases _ _ p.1) [ inl n ↦ absurd (both_ways _ n ((leaves_right ss lower_targets k).1 y)) | inr n ↦ ltb-false limit (tail ss k) n ])

    -- an open way with its chain within the limit is open at the limit
    pub open_within : (w : Set) → Way ss w → Open ss w → chain_of ss w ≤ limit → OpenAt limit ss w
    open_within w way o h k on = (o k on, λ y. le_trans ((longest_path ss lower_targets w way).above k on) h)

    -- what is taken is there, and has no more minutes than such a way
    taken_below : (o : Option Sums) → at_limit limit ss ≡ o → (w : Set) → Way ss w → Open ss w → chain_of ss w ≤ limit → LeEntry both o (figure both (sheet_at limit ss) w 0)
    taken_below o e w way is_open h =
        subst (λ x. LeEntry both x (figure both (sheet_at limit ss) w 0)) e
        (lower (sheet_at limit ss) (descending_at lower_targets) 0 w (way_at 0 w way) (open_at 0 w way (open_within w way is_open h)) both both_rising)

    takes_or_none : 0 < length ss → (o : Option Sums) → at_limit limit ss ≡ o → TakesOrNone limit ss o
    takes_or_none some None e = taken_below None e
    takes_or_none some (Some r) e =
        let v = taken_at limit ss in
        let inside : 0 < length (sheet_at limit ss) = rw length_at some in
        let way = way_from 0 v (taken_way both (sheet_at limit ss) (descending_at lower_targets) 0 inside r e) in
        let o = open_from 0 v way (taken_open both (sheet_at limit ss) (descending_at lower_targets) 0 inside r e) in
        let sums = taken_exact both (sheet_at limit ss) (descending_at lower_targets) 0 inside r e in
        let path = longest_path ss lower_targets v way in
        let minutes : minutes_of ss v ≡ r.work = sym (work_at v 0) ∙ ap (λ (a : Sums). a.work) sums in
        record {
          way = way;
          is_open = λ k on. (o k on).0;
          within = rw (← path.attains) ((o path.leaf path.on_way).1 path.is_leaf);
          fewest = λ w x y h. omega (arith, minutes, taken_below (Some r) e w x y h, work_at w 0);
          work = minutes;
          long = sym (long_at v 0) ∙ ap (λ (a : Sums). a.long) sums;
        }

pub taken_right : TakenRight
taken_right limit ss lower_targets some = takes_or_none limit ss lower_targets some (at_limit limit ss) refl
