-- The least figures, from the highest step down, and what they are.
use Rattle.std.specs.Prelude.{◌≡◌, ℕ, suc, ◌<◌, ◌≤◌, Bool, true, false, cond, List, [], ◌∷◌, length, drop, Some, None, Option, ◌==◌, nat_le}
use Rattle.std.specs.Option.{option_map}
use Rattle.steps.specs.declared.step.Join.{Join}
use Rattle.steps.specs.declared.step.Join.TheVariants.{And, Or}
use Rattle.steps.specs.declared.step.Step.{Step}
use Rattle.steps.specs.Sheet.{step, Descending}
use Rattle.ways.specs.Measures.{Measure, Rising, Meaning, numbers}
use Rattle.ways.specs.Figures.{Line, onto, facts, figure}
use Rattle.ways.specs.Ways.{Set, WayOf, Way, Open}

-- all feeders of i among these lines, joined; none where one has no figure
abbrev pub plus_all : {A : Type 0} → Measure A → Bool → Option A → Option A → Option A
plus_all m false e acc = acc
plus_all m true None acc = None
plus_all m true (Some f) None = None
plus_all m true (Some f) (Some acc) = Some (m.joins f acc)

abbrev pub all_of : {A : Type 0} → Measure A → ℕ → List (Line (Option A)) → Option A
all_of m i [] = Some m.empty
all_of m i (r ∷ rs) = plus_all m (r.into == i) r.entry (all_of m i rs)

-- the least of the feeders of i, the one of the lowest number among equals; none where none has a figure
abbrev pub lesser : {A : Type 0} → Measure A → Bool → Option A → Option A → Option A
lesser m false e acc = acc
lesser m true None acc = acc
lesser m true (Some f) None = Some f
lesser m true (Some f) (Some acc) = Some (cond (nat_le (m.key f) (m.key acc)) f acc)

abbrev pub best_of : {A : Type 0} → Measure A → ℕ → List (Line (Option A)) → Option A
best_of m i [] = None
best_of m i (r ∷ rs) = lesser m (r.into == i) r.entry (best_of m i rs)

abbrev pub by_join : {A : Type 0} → Measure A → Join → ℕ → List (Line (Option A)) → Option A
by_join m And i t = all_of m i t
by_join m Or i t = option_map (λ f. m.joins f m.empty) (best_of m i t)

abbrev pub unless_closed : {A : Type 0} → Bool → Option A → Option A
unless_closed true e = None
unless_closed false e = e

abbrev pub least_line : {A : Type 0} → Measure A → ℕ → Step → List (Line (Option A)) → Line (Option A)
least_line m j s t = record { into = s.target; entry = unless_closed s.closed (option_map (m.grows (facts j s)) (by_join m s.join j t)) }

-- the lines of these steps, the first of which has the number j
abbrev pub least_table : {A : Type 0} → Measure A → ℕ → List Step → List (Line (Option A))
least_table m j [] = []
least_table m j (s ∷ ss) = onto (least_line m j s) (least_table m (suc j) ss)

-- the entry of step i
abbrev pub least_of : {A : Type 0} → Measure A → List Step → ℕ → Option A
least_of m ss i = (least_line m i (step ss i) (least_table m (suc i) (drop (suc i) ss))).entry

-- none exactly where step i has no open way; else an open way of i has the figure, and none has a lesser one
abbrev pub IsLeast : {A : Type 0} → Measure A → List Step → ℕ → Option A → Type 0
IsLeast m ss i None = (w : Set) → WayOf ss i w → Open ss w → ⊥
IsLeast m ss i (Some r) = ((w : Set) × WayOf ss i w × Open ss w × (figure m ss w i ≡ r)) × ((w : Set) → WayOf ss i w → Open ss w → m.key r ≤ m.key (figure m ss w i))

-- the entry of every step is the least figure of its open ways
abbrev pub LeastRight : Type 1
LeastRight = (A : Type 0) (m : Measure A) → Rising m → (ss : List Step) → Descending ss → (i : ℕ) → i < length ss → IsLeast m ss i (least_of m ss i)

-- the same of the numbers of every measure that keeps the laws
abbrev pub LeastNumbers : Type 0
LeastNumbers = (m : Meaning) (ss : List Step) → Descending ss → (i : ℕ) → i < length ss → IsLeast (numbers m) ss i (least_of (numbers m) ss i)

-- of what is reported for a sheet: the open ways that have that number are those that no open way is below
abbrev pub Reported : Meaning → List Step → ℕ → Type 0
Reported m ss r = (w : Set) → Way ss w → Open ss w →
    (figure (numbers m) ss w 0 ≡ r → (v : Set) → Way ss v → Open ss v → figure (numbers m) ss w 0 ≤ figure (numbers m) ss v 0)
    × (((v : Set) → Way ss v → Open ss v → figure (numbers m) ss w 0 ≤ figure (numbers m) ss v 0) → figure (numbers m) ss w 0 ≡ r)
