-- Kept values are the same where their lists are, and what replacing one of them gives.
use Rattle.std.specs.Prelude.{◌≡◌, ℕ, Bool, true, false, cond, length, nat_lt, slice_index, refl}
use Rattle.std.proofs.Common.{ap, ◌∙◌, subst}
use Rattle.std.proofs.Math.Nat.{ℕ_set}
use Rattle.std.proofs.lemmas.List.{set-get_or, set-set}
use Rattle.policies.specs.declared.values.Values.{Values}
use Rattle.policies.specs.Values.{kept_values}
use Rattle.policies.specs.Changes.{put_value}

pub same_values : (a b : Values) → a.values ≡ b.values → a ≡ b
same_values a b e =
    subst (λ xs. (w : length xs ≡ kept_values) → a ≡ record { values = xs; whole = w }) e
    (λ w. ap (λ p. record { values = a.values; whole = p }) (ℕ_set (length a.values) kept_values a.whole w)) b.whole

pub put_same : (vs : Values) (step : ℕ) → put_value vs step (slice_index vs.values step) ≡ vs
put_same vs step = same_values _ _ (set-get_or vs.values step 0)

pub put_second : (vs : Values) (step v w : ℕ) → put_value (put_value vs step v) step w ≡ put_value vs step w
put_second vs step v w = same_values _ _ (set-set vs.values step v w)

-- what holds the values has one of them replaced where they have
pub put_made : {P : Type 0} (made : Values → P) (old new : Values) (step v : ℕ) → new ≡ cond (nat_lt step kept_values) (put_value old step v) old → made new ≡ cond (nat_lt step kept_values) (made (put_value old step v)) (made old)
put_made made old new step v e = ap made e ∙ one (nat_lt step kept_values) (put_value old step v) old
  where
    one : (b : Bool) (x y : Values) → made (cond b x y) ≡ cond b (made x) (made y)
    one true x y = refl
    one false x y = refl
