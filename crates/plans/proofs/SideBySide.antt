-- Minutes and chain side by side are the minutes and the chain.
use Rattle.std.proofs.Common.{◌≡◌, ℕ, ◌+◌, max, List, refl, ap, ap₂, arith}
use Rattle.steps.specs.declared.step.Step.{Step}
use Rattle.ways.specs.Figures.{figure}
use Rattle.ways.specs.Measures.{Rising}
use Rattle.ways.specs.Sums.{longest, all_minutes}
use Rattle.ways.specs.Ways.{Set}
use Rattle.ways.proofs.Compared.{figure_related}
use Rattle.plans.specs.Limited.{both}

pub both_work : (ss : List Step) (w : Set) (i : ℕ) → (figure both ss w i).work ≡ figure all_minutes ss w i
both_work ss w i = figure_related (λ a x. a.work ≡ x) both all_minutes (record { start = refl; joins = λ a b x y e f. omega arith; grows = λ s a x e. omega arith }) w ss i

pub both_long : (ss : List Step) (w : Set) (i : ℕ) → (figure both ss w i).long ≡ figure longest ss w i
both_long ss w i = figure_related (λ a x. a.long ≡ x) both longest (record { start = refl; joins = λ a b x y e f. ap₂ max e f; grows = λ s a x e. ap (λ z. z + s.minutes) e }) w ss i

pub both_rising : Rising both
both_rising = record { joined = λ a b c d x y. omega arith; grown = λ s a b x. omega arith }
