-- The values that changeable policies keep, one for each step that a sheet may have.
use Rattle.std.specs.Prelude.{ℕ, zero, suc, cond, List, Ok, Err, Result, nat_lt, slice_index}
use Rattle.steps.specs.declared.refusal.Refusal.TheVariants.{NoValueKept}
use Rattle.steps.specs.Limits.{max_steps}
use Rattle.steps.specs.Numbers.{number}

abbrev pub kept_values : ℕ
kept_values = max_steps

-- the value kept for a step, or what counts for a step for which none is kept
abbrev pub value_or : ℕ → List ℕ → ℕ → ℕ
value_or otherwise values step = cond (nat_lt step kept_values) (slice_index values step) otherwise

abbrev pub set_answer : ℕ → Result Unit ℕ
set_answer step = cond (nat_lt step kept_values) (Ok tt) (Err (number NoValueKept))

-- the first n values set to 0, one after the other, by the change that `put` is
unfoldable pub cleared : {C : Type 0} → (C → ℕ → ℕ → C) → ℕ → C → C
cleared put zero c = c
cleared put (suc n) c = put (cleared put n c) n 0
