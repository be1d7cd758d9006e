-- A number of one digit, written in decimal.
use Rattle.std.proofs.Common.{◌≡◌, ℕ, ◌+◌, ◌<◌, List, length, set, decimal, sym, ap, ◌∙◌}
use Rattle.std.proofs.lemmas.Fmt.{decimal_digit}
use Rattle.buffer.specs.Put.{put}
use Rattle.buffer.proofs.Puts.{set_put}

pub length_digit : (n : ℕ) → n < 10 → length (decimal n) ≡ 1
length_digit n h = ap length (decimal_digit n h)

pub put_digit : (xs : List ℕ) (at n : ℕ) → n < 10 → at < length xs → set xs at (48 + n) ≡ put xs at (decimal n)
put_digit xs at n h s = set_put xs at (48 + n) s ∙ ap (λ l. put xs at l) (sym (decimal_digit n h))
