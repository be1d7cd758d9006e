-- A number within its range is not outside.
use Rattle.std.proofs.Common.{◌≡◌, ℕ, ◌≤◌, false}
use Rattle.std.proofs.lemmas.Bool.{le-ltb, or_from}
use Rattle.steps.specs.Limits.{outside}

pub inside : (low high n : ℕ) → low ≤ n → n ≤ high → outside low high n ≡ false
inside low high n a b = or_from _ _ (le-ltb n low a) (le-ltb high n b)
