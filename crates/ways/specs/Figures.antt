-- The figure of a step on a set of steps: the figures of its feeders there, joined from the highest number to the lowest, then
-- grown by the step.
use Rattle.std.specs.Prelude.{ℕ, suc, Bool, true, false, ◌&&◌, List, [], ◌∷◌, drop, ◌==◌}
use Rattle.steps.specs.declared.step.Step.{Step}
use Rattle.steps.specs.Sheet.{step}
use Rattle.ways.specs.declared.StepFacts.{StepFacts}
use Rattle.ways.specs.Measures.{Measure}
use Rattle.ways.specs.Ways.{Set}

-- what a measure is told of the step of number i
abbrev pub facts : ℕ → Step → StepFacts
facts i s = record { number = i; minutes = s.minutes; fee = s.fee }

-- a line of a table: the target of a step, and the step's entry
pub record Line (A : Type 0) : Type 0 where
  pub into : ℕ
  pub entry : A

abbrev pub onto : {A : Type 0} → (List A → A) → List A → List A
onto f t = f t ∷ t

-- a feeder that is there is joined with what is joined so far
abbrev pub plus : {A : Type 0} → Measure A → Bool → A → A → A
plus m true f acc = m.joins f acc
plus m false f acc = acc

-- the feeders of i among these lines, the first of which has the number j
abbrev pub total : {A : Type 0} → Measure A → Set → ℕ → ℕ → List (Line A) → A
total m w i j [] = m.empty
total m w i j (r ∷ rs) = plus m (r.into == i && w j) r.entry (total m w i (suc j) rs)

abbrev pub figure_line : {A : Type 0} → Measure A → Set → ℕ → Step → List (Line A) → Line A
figure_line m w j s t = record { into = s.target; entry = m.grows (facts j s) (total m w j (suc j) t) }

-- the lines of these steps, the first of which has the number j
abbrev pub figures : {A : Type 0} → Measure A → Set → ℕ → List Step → List (Line A)
figures m w j [] = []
figures m w j (s ∷ ss) = onto (figure_line m w j s) (figures m w (suc j) ss)

-- the figure of step i
abbrev pub figure : {A : Type 0} → Measure A → List Step → Set → ℕ → A
figure m ss w i = (figure_line m w i (step ss i) (figures m w (suc i) (drop (suc i) ss))).entry
