-- The least figures are right, at every step; and what that says of a sheet's open ways.
use Rattle.std.proofs.Common.{◌≡◌, ℕ, ◌≤◌, List, Some, None, Option, sym, refl, subst, arith}
use Rattle.steps.specs.declared.step.Step.{Step}
use Rattle.ways.specs.Measures.{Rising, Meaning, numbers}
use Rattle.ways.specs.Figures.{figure}
use Rattle.ways.specs.Least.{least_of, IsLeast, LeastRight, Reported}
use Rattle.ways.specs.Taken.{taken}
use Rattle.ways.specs.Ways.{Set, WayOf, Open}
use Rattle.ways.proofs.Lower.{LeEntry, lower}
use Rattle.ways.proofs.Upper.{taken_way, taken_open, taken_exact}

pub least_right : LeastRight
least_right A m rising ss lower_targets i inside = by (least_of m ss i) refl
  where
    at_most : (o : Option A) → least_of m ss i ≡ o → (w : Set) → WayOf ss i w → Open ss w → LeEntry m o (figure m ss w i)
    at_most o e w way is_open = subst (λ x. LeEntry m x (figure m ss w i)) e (lower ss lower_targets i w way is_open m rising)

    by : (o : Option A) → least_of m ss i ≡ o → IsLeast m ss i o
    by None e = at_most None e
    by (Some r) e = ((taken m ss i, taken_way m ss lower_targets i inside r e, taken_open m ss lower_targets i inside r e, taken_exact m ss lower_targets i inside r e), at_most (Some r) e)

-- a meaning keeps the laws
pub numbers_rise : (m : Meaning) → Rising (numbers m)
numbers_rise m = record { joined = m.joins_rise; grown = m.grows_rise }

pub least_reported : (m : Meaning) (ss : List Step) (r : ℕ) → IsLeast (numbers m) ss 0 (Some r) → Reported m ss r
least_reported m ss r least w way is_open =
    let best = least.0 in
    let low = least.1 in (
      λ e v vway vopen. subst (λ x. x ≤ figure (numbers m) ss v 0) (sym e) (low v vway vopen),
      λ below. let a = below best.0 best.1 best.2 in omega (arith, a, best.3, low w way is_open),
    )
