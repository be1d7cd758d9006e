-- A sum that stops is the plain sum, cut off; on a sheet nothing is cut off.
use mathlib.Core.Path.{◌≡◌, refl, ◌∙◌}
use Prim.Native.Nat.{ℕ, ◌*◌, ◌≤◌, min}
use native.Mathlib.Nat.{mul-le-mul, le_trans}
use native.Mathlib.Omega.{arith}
use lib.ListN.{length}
use Rattle.steps.specs.Limits.{max_fee}
use Rattle.steps.specs.Sheet.{Sheet}
use Rattle.ways.specs.declared.StepFacts.{StepFacts}
use Rattle.ways.specs.Figures.{figure}
use Rattle.ways.specs.Measures.{numbers}
use Rattle.ways.specs.Sums.{adding, longest}
use Rattle.ways.specs.Ways.{Set}
use Rattle.ways.proofs.Added.{all_added, way_sum_most}
use Rattle.ways.proofs.Compared.{figure_image, longest_below}
use Rattle.measures.specs.Meanings.{max_sum, summing, chain_meaning}
use Rattle.measures.specs.Plain.{SumsPlain}

abbrev stopped : ℕ → ℕ
stopped n = min n max_sum

module _ (s : Sheet) (w : Set) where
  sum_stopped : (amount : StepFacts → ℕ) → figure (numbers (summing amount)) s.steps w 0 ≡ stopped (figure (adding amount) s.steps w 0)
  sum_stopped amount = figure_image stopped (adding amount) (numbers (summing amount)) refl (λ a b. omega arith) (λ f a. omega arith) w s.steps 0

  chain_stopped : figure (numbers chain_meaning) s.steps w 0 ≡ stopped (figure longest s.steps w 0)
  chain_stopped = figure_image stopped longest (numbers chain_meaning) refl (λ a b. omega arith) (λ f a. omega arith) w s.steps 0

-- what is at most the stop is not cut off
within : (n : ℕ) → n ≤ max_sum → stopped n ≡ n
within n h = omega arith

pub sums_plain : SumsPlain
sums_plain limit s w room well way =
    let ss = s.steps in
    let minutes = all_added (λ f. f.minutes) ss w well.descending way in
    let fees = all_added (λ f. f.fee) ss w well.descending way in
    let top : length ss * max_fee ≤ max_sum = le_trans (mul-le-mul well.size.1 (omega arith)) room in
    let few = way_sum_most (λ f. f.minutes) ss w max_fee (λ i h. omega (arith, well.timed i h)) in
    let cheap = way_sum_most (λ f. f.fee) ss w max_fee (λ i h. well.priced i h) in
    let path = longest_below w ss 0 in
    record {
      minutes = sum_stopped s w (λ f. f.minutes) ∙ within _ (omega (arith, minutes, few, top)) ∙ minutes;
      chain = chain_stopped s w ∙ within _ (omega (arith, path, minutes, few, top));
      fees = sum_stopped s w (λ f. f.fee) ∙ within _ (omega (arith, fees, cheap, top)) ∙ fees;
    }
