-- Figures under two measures are related, where the measures keep the relation.
use Rattle.std.proofs.Common.{◌≡◌, ℕ, suc, ◌≤◌, Bool, true, false, ◌&&◌, eqb, List, [], ◌∷◌, drop, sym, ap, ◌∙◌, ap₂, arith}
use Rattle.steps.specs.declared.step.Step.{Step}
use Rattle.steps.specs.Sheet.{step}
use Rattle.ways.specs.declared.StepFacts.{StepFacts}
use Rattle.ways.specs.Figures.{facts, plus, total, figures, figure}
use Rattle.ways.specs.Measures.{Measure}
use Rattle.ways.specs.Sums.{longest, all_minutes}
use Rattle.ways.specs.Ways.{Set}

pub record Kept {A B : Type 0} (R : A → B → Type 0) (m : Measure A) (n : Measure B) : Type 0 where
  pub start : R m.empty n.empty
  pub joins : (a b : A) (x y : B) → R a x → R b y → R (m.joins a b) (n.joins x y)
  pub grows : (f : StepFacts) (a : A) (x : B) → R a x → R (m.grows f a) (n.grows f x)

module _ {A B : Type 0} (R : A → B → Type 0) (m : Measure A) (n : Measure B) (kept : Kept R m n) (w : Set) where
  plus_related : (c : Bool) (a b : A) (x y : B) → R a x → R b y → R (plus m c a b) (plus n c x y)
  plus_related true a b x y e f = kept.joins a b x y e f
  plus_related false a b x y e f = f

  total_related : (i j : ℕ) (ss : List Step) → R (total m w i j (figures m w j ss)) (total n w i j (figures n w j ss))
  total_related i j [] = kept.start
  total_related i j (s ∷ ss) = plus_related (eqb s.target i && w j) _ _ _ _ (kept.grows (facts j s) _ _ (total_related j (suc j) ss)) (total_related i (suc j) ss)

  pub figure_related : (ss : List Step) (i : ℕ) → R (figure m ss w i) (figure n ss w i)
  figure_related ss i = kept.grows (facts i (step ss i)) _ _ (total_related i (suc i) (drop (suc i) ss))

-- c does to the images of figures under h what p does to the figures
module _ (h : ℕ → ℕ) (p c : Measure ℕ) (start : h p.empty ≡ c.empty) (joins : (a b : ℕ) → h (p.joins a b) ≡ c.joins (h a) (h b)) (grows : (s : StepFacts) (a : ℕ) → h (p.grows s a) ≡ c.grows s (h a)) (w : Set) where
  pub figure_image : (ss : List Step) (i : ℕ) → figure c ss w i ≡ h (figure p ss w i)
  figure_image =
      figure_related (λ x a. x ≡ h a) c p
      (record { start = sym start; joins = λ x y a b e f. ap₂ c.joins e f ∙ sym (joins a b); grows = λ s x a e. ap (c.grows s) e ∙ sym (grows s a) }) w

-- the longest path is no longer than all minutes together
pub longest_below : (w : Set) (ss : List Step) (i : ℕ) → figure longest ss w i ≤ figure all_minutes ss w i
longest_below = figure_related (λ x a. x ≤ a) longest all_minutes (record { start = omega arith; joins = λ x y a b e f. omega arith; grows = λ s x a e. omega arith })
