-- Two constructors are never equal: `cc` gets 0 ≡ 1 from such an equation, and anything follows.
use Rattle.std.proofs.Common.{◌≡◌, ℕ, arith}

pub clash : {A : Type 0} → ◌≡◌ {A = ℕ} 0 1 → A
clash z = absurd (omega arith)
