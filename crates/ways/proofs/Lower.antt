-- No open way of a step is below its least figure.
use Rattle.std.proofs.Common.{◌≡◌, ℕ, suc, ◌<◌, ◌≤◌, Bool, true, false, cond, ◌&&◌, eqb, leb, List, [], ◌∷◌, length, drop, Some, None, Option, sym, refl, ap, ◌∙◌, ap₂, inl, inr, le_trans, le_refl, arith}
use Rattle.std.specs.Option.{option_map}
use Rattle.std.proofs.lemmas.Bool.{false≢true, eqb-true, eq-eqb, cases_eq, and_from, and_parts, cond_both, leb-true, leb-false}
use Rattle.steps.specs.Sheet.{step, Descending}
use Rattle.steps.specs.declared.step.Join.{Join}
use Rattle.steps.specs.declared.step.Join.TheVariants.{And, Or}
use Rattle.steps.specs.declared.step.Step.{Step}
use Rattle.ways.proofs.Suffixes.{Each, none_left, uncons, each_from, each_at}
use Rattle.ways.specs.declared.StepFacts.{StepFacts}
use Rattle.ways.specs.Measures.{Measure, Rising}
use Rattle.ways.specs.Figures.{facts, plus, total, figure_line, figures, figure}
use Rattle.ways.specs.Least.{plus_all, all_of, lesser, best_of, by_join, unless_closed, least_line, least_table, least_of}
use Rattle.ways.specs.Ways.{Set, WayOf, Open}
use Rattle.ways.proofs.Counts.{bump, count}

-- an entry is there, and at most f
abbrev pub LeEntry : {A : Type 0} → Measure A → Option A → A → Type 0
LeEntry m None f = ⊥
LeEntry m (Some r) f = m.key r ≤ m.key f

pub better : {A : Type 0} (m : Measure A) (a b : A) → (m.key (cond (leb (m.key a) (m.key b)) a b) ≤ m.key a) × (m.key (cond (leb (m.key a) (m.key b)) a b) ≤ m.key b)
better m a b = cond_both (leb (m.key a) (m.key b)) a b (λ c. (m.key c ≤ m.key a) × (m.key c ≤ m.key b)) (λ e. (le_refl _, leb-true _ _ e)) (λ e. (omega (arith, leb-false _ _ e), le_refl _))

abbrev pub AllIn : Set → ℕ → ℕ → List Step → Type 0
AllIn w i j ss = Each (λ k u us. eqb u.target i ≡ true → w k ≡ true) j ss

pub zero_total : {A : Type 0} (m : Measure A) (w : Set) (i j : ℕ) (ss : List Step) → count w i j ss ≡ 0 → total m w i j (figures m w j ss) ≡ m.empty
zero_total m w i j [] h = refl
zero_total m w i j (s ∷ ss) h = go (eqb s.target i && w j) h (zero_total m w i (suc j) ss)
  where
    go : (b : Bool) → bump b (count w i (suc j) ss) ≡ 0 → (count w i (suc j) ss ≡ 0 → total m w i (suc j) (figures m w (suc j) ss) ≡ m.empty) → plus m b (figure_line m w j s (figures m w (suc j) ss)).entry (total m w i (suc j) (figures m w (suc j) ss)) ≡ m.empty
    go true e f = absurd (omega arith)
    go false e f = f e

-- of a step on the way, the least figure is there and at most the way's
abbrev pub LineBelow : {A : Type 0} → Measure A → Set → ℕ → Step → List Step → Type 0
LineBelow m w j s ss = w j ≡ true → LeEntry m (least_line m j s (least_table m (suc j) ss)).entry (figure_line m w j s (figures m w (suc j) ss)).entry

module _ {A : Type 0} (m : Measure A) (mono : Rising m) where
  all_step : (b c : Bool) → (b ≡ true → c ≡ true) → (o p : Option A) (f g : A) → (c ≡ true → LeEntry m o f) → LeEntry m p g → LeEntry m (plus_all m b o p) (plus m (b && c) f g)
  all_step false c h o p f g x y = y
  all_step true false h o p f g x y = absurd (false≢true (h refl))
  all_step true true h None p f g x y = x refl
  all_step true true h (Some a) None f g x y = y
  all_step true true h (Some a) (Some b) f g x y = mono.joined a f b g (x refl) y

  lesser_right : (o p : Option A) (g : A) → LeEntry m (option_map (λ f. m.joins f m.empty) p) g → LeEntry m (option_map (λ f. m.joins f m.empty) (lesser m true o p)) g
  lesser_right None p g h = h
  lesser_right (Some a) None g h = absurd h
  lesser_right (Some a) (Some b) g h = le_trans (mono.joined _ b m.empty m.empty (better m a b).1 (le_refl (m.key m.empty))) h

  lesser_left : (o p : Option A) (f : A) → LeEntry m o f → LeEntry m (option_map (λ f. m.joins f m.empty) (lesser m true o p)) (m.joins f m.empty)
  lesser_left None p f h = absurd h
  lesser_left (Some a) None f h = mono.joined a f m.empty m.empty h (le_refl (m.key m.empty))
  lesser_left (Some a) (Some b) f h = mono.joined _ f m.empty m.empty (le_trans (better m a b).0 h) (le_refl (m.key m.empty))

  one_step : (b c : Bool) (n : ℕ) → bump (b && c) n ≡ 1 → (o p : Option A) (f g : A) → (c ≡ true → LeEntry m o f) → (n ≡ 0 → g ≡ m.empty) → (n ≡ 1 → LeEntry m (option_map (λ f. m.joins f m.empty) p) g) → LeEntry m (option_map (λ f. m.joins f m.empty) (lesser m b o p)) (plus m (b && c) f g)
  one_step false c n e o p f g x y z = z e
  one_step true false n e o p f g x y z = lesser_right o p g (z e)
  one_step true true n e o p f g x y z = rw (y (omega arith)) (lesser_left o p f (x refl))

  module _ (w : Set) where
    all_below : (i j : ℕ) (ss : List Step) → AllIn w i j ss → Each (LineBelow m w) j ss → LeEntry m (all_of m i (least_table m j ss)) (total m w i j (figures m w j ss))
    all_below i j [] a b = le_refl (m.key m.empty)
    all_below i j (s ∷ ss) a b = all_step (eqb s.target i) (w j) a.0 _ _ _ _ b.0 (all_below i (suc j) ss a.1 b.1)

    one_below : (i j : ℕ) (ss : List Step) → count w i j ss ≡ 1 → Each (LineBelow m w) j ss → LeEntry m (option_map (λ f. m.joins f m.empty) (best_of m i (least_table m j ss))) (total m w i j (figures m w j ss))
    one_below i j [] e b = absurd (omega arith)
    one_below i j (s ∷ ss) e b =
        one_step (eqb s.target i) (w j) _ e _ _ _ _ b.0 (zero_total m w i (suc j) ss) (λ h. one_below i (suc j) ss h b.1)

    by_join_below : (k : Join) (i j : ℕ) (ss : List Step) → (k ≡ And → AllIn w i j ss) → (k ≡ Or → count w i j ss ≡ 1) → Each (LineBelow m w) j ss → LeEntry m (by_join m k i (least_table m j ss)) (total m w i j (figures m w j ss))
    by_join_below And i j ss a o b = all_below i j ss (a refl) b
    by_join_below Or i j ss a o b = one_below i j ss (o refl) b

  grown_below : (s : StepFacts) (o : Option A) (f : A) → LeEntry m o f → LeEntry m (option_map (m.grows s) o) (m.grows s f)
  grown_below s None f h = h
  grown_below s (Some a) f h = mono.grown s a f h

open_below : {A : Type 0} (m : Measure A) (b : Bool) → b ≡ false → (o : Option A) (f : A) → LeEntry m o f → LeEntry m (unless_closed b o) f
open_below m true e o f h = absurd (false≢true (sym e))
open_below m false e o f h = h

-- What a step on a way has, by the steps after it
pub record Local (w : Set) (j : ℕ) (s : Step) (ss : List Step) : Type 0 where
  pub is_open : w j ≡ true → s.closed ≡ false
  pub every : w j ≡ true → s.join ≡ And → AllIn w j (suc j) ss
  pub one : w j ≡ true → s.join ≡ Or → count w j (suc j) ss ≡ 1

pub line_below : {A : Type 0} (m : Measure A) → Rising m → (w : Set) (j : ℕ) (s : Step) (ss : List Step) → Local w j s ss → Each (LineBelow m w) (suc j) ss → LineBelow m w j s ss
line_below m mono w j s ss l b on =
    open_below m s.closed (l.is_open on) _ _ (grown_below m mono (facts j s) _ _ (by_join_below m mono w s.join j (suc j) ss (l.every on) (l.one on) b))

-- exactly one feeder of i is on the way, the step c
pub count_zero : (sheet : List Step) (w : Set) (i j : ℕ) (ss : List Step) → drop j sheet ≡ ss → ((k : ℕ) → j ≤ k → k < length sheet → (step sheet k).target ≡ i → w k ≡ true → ⊥) → count w i j ss ≡ 0
count_zero sheet w i j [] e f = refl
count_zero sheet w i j (s ∷ ss) e f =
    let t = uncons sheet j s ss e in
    go (eqb s.target i && w j) (λ h. let p = and_parts (eqb s.target i) (w j) h in f j (le_refl j) t.0 (ap (λ (x : Step). x.target) t.1 ∙ eqb-true s.target i p.0) p.1)
    (count_zero sheet w i (suc j) ss t.2 (λ k l. f k (omega arith)))
  where
    go : (b : Bool) → (b ≡ true → ⊥) → count w i (suc j) ss ≡ 0 → bump b (count w i (suc j) ss) ≡ 0
    go true n h = absurd (n refl)
    go false n h = h

pub count_one : (sheet : List Step) (w : Set) (i c : ℕ) → c < length sheet → (step sheet c).target ≡ i → w c ≡ true → (j : ℕ) (ss : List Step) → drop j sheet ≡ ss → j ≤ c → ((k : ℕ) → j ≤ k → k < length sheet → (step sheet k).target ≡ i → w k ≡ true → k ≡ c) → count w i j ss ≡ 1
count_one sheet w i c l at on j [] e a f = absurd (none_left sheet j c e a l)
count_one sheet w i c l at on j (s ∷ ss) e a f =
    let t = uncons sheet j s ss e in
    elim (cases_eq j c) [
      | inl q ↦
          let test : (eqb s.target i && w j) ≡ true = and_from (eqb s.target i) (w j) (eq-eqb s.target i (ap (λ (x : Step). x.target) (sym t.1) ∙ rw (← q) at at)) (rw q on) in
          let rest : count w i (suc j) ss ≡ 0 = count_zero sheet w i (suc j) ss t.2 (λ k b d g h. omega (arith, f k (omega arith) d g h)) in
          ap₂ bump test rest
      | inr q ↦
          go (eqb s.target i && w j) (λ h. let p = and_parts (eqb s.target i) (w j) h in q (f j (le_refl j) t.0 (ap (λ (x : Step). x.target) t.1 ∙ eqb-true s.target i p.0) p.1))
          (count_one sheet w i c l at on (suc j) ss t.2 (omega arith) (λ k b. f k (omega arith)))
    ]
  where
    go : (b : Bool) → (b ≡ true → ⊥) → count w i (suc j) ss ≡ 1 → bump b (count w i (suc j) ss) ≡ 1
    go true n h = absurd (n refl)
    go false n h = h

module _ (sheet : List Step) (lower_targets : Descending sheet) (root : ℕ) (w : Set) (way : WayOf sheet root w) (is_open : Open sheet w) where
  local : (i : ℕ) → i < length sheet → Local w i (step sheet i) (drop (suc i) sheet)
  local i l = record {
    is_open = is_open i;
    every = λ on e. each_from sheet (λ k u us. eqb u.target i ≡ true → w k ≡ true) (suc i) (drop (suc i) sheet) refl
        (λ k a b t. way.every i on e k (omega arith, b, eqb-true (step sheet k).target i t));
    one = λ on e. let o = way.one i on e in let f = o.1 in
        count_one sheet w i o.0 f.1 f.2 o.2 (suc i) (drop (suc i) sheet) refl (omega (arith, lower_targets o.0 f.0 f.1, f.2))
        (λ k a b t h. o.3 k (omega arith, b, t) h);
  }

  each_below : {A : Type 0} (m : Measure A) → Rising m → (j : ℕ) (ss : List Step) → drop j sheet ≡ ss → Each (LineBelow m w) j ss
  each_below m mono j [] e = tt
  each_below m mono j (s ∷ ss) e =
      let t = uncons sheet j s ss e in
      let b = each_below m mono (suc j) ss t.2 in
      (line_below m mono w j s ss (rw (t.1, t.2) at (local j t.0)) b, b)

  -- the least figure of the root is there, and at most its figure on any open way of it
  pub lower : {A : Type 0} (m : Measure A) → Rising m → LeEntry m (least_of m sheet root) (figure m sheet w root)
  lower m mono =
      each_at sheet (LineBelow m w) 0 sheet refl (each_below m mono 0 sheet refl) root (omega arith) (way.within root way.holds) way.holds
