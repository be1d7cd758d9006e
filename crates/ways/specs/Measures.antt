-- What a measure means.
use Rattle.std.specs.Prelude.{ℕ, ◌≤◌}
use Rattle.ways.specs.declared.StepFacts.{StepFacts}

-- figures of any kind, each of which stands for a number: the empty figure, two joined, one grown by a step
pub record Measure (A : Type 0) : Type 0 where
  pub empty : A
  pub joins : A → A → A
  pub grows : StepFacts → A → A
  pub key : A → ℕ

-- neither result falls when a figure rises
pub record Rising {A : Type 0} (m : Measure A) : Type 0 where
  pub joined : (a b c d : A) → m.key a ≤ m.key b → m.key c ≤ m.key d → m.key (m.joins a c) ≤ m.key (m.joins b d)
  pub grown : (s : StepFacts) (a b : A) → m.key a ≤ m.key b → m.key (m.grows s a) ≤ m.key (m.grows s b)

-- a measure by its numbers alone, with its laws
pub record Meaning : Type 0 where
  pub empty : ℕ
  pub joins : ℕ → ℕ → ℕ
  pub grows : StepFacts → ℕ → ℕ
  pub joins_rise : (a b c d : ℕ) → a ≤ b → c ≤ d → joins a c ≤ joins b d
  pub grows_rise : (s : StepFacts) (a b : ℕ) → a ≤ b → grows s a ≤ grows s b

-- its numbers as figures
abbrev pub numbers : Meaning → Measure ℕ
numbers m = record { empty = m.empty; joins = m.joins; grows = m.grows; key = λ n. n }
