-- Which place of a list of ready steps a rule names.
use Rattle.std.specs.Prelude.{◌≡◌, ℕ, ◌-◌, ◌<◌, ◌≤◌, Bool, true, false, cond, not, List, length, slice_index_or}
use Rattle.std.proofs.Common.{Bor}
use Rattle.std.specs.Fn.{Shared, AnyResult}
use Rattle.std.specs.List.{list_any, position_or_len}
use Rattle.steps.specs.declared.ready.Ready.{Ready}
use Rattle.steps.specs.Placing.{rising, no_ready}

abbrev pub entry : List Ready → ℕ → Ready
entry rs k = slice_index_or rs k no_ready

-- of a rule that says which of two entries comes before the other
pub record Strict (beats : Ready → Ready → Bool) : Type 0 where
  pub itself : (r : Ready) → beats r r ≡ false
  pub through : (a b c : Ready) → beats a b ≡ true → beats b c ≡ true → beats a c ≡ true
  pub level : (a b c : Ready) → beats a b ≡ true → beats c b ≡ false → beats a c ≡ true

-- each answer of such a rule, as code calls it
abbrev pub Says : {F : Type 0} → Shared F (Bor Ready × (Bor Ready × Unit {0})) Bool → F → (Ready → Ready → Bool) → Type 0
Says g rule beats = (r s : Bor Ready) → AnyResult g rule (r, (s, tt)) (λ b. b ≡ beats r.now s.now)

-- whether no entry of the list comes before r
abbrev pub unbeaten : (Ready → Ready → Bool) → List Ready → Ready → Bool
unbeaten beats rs r = not (list_any (λ s. beats s r) rs)

-- the first entry that none comes before
abbrev pub best : (Ready → Ready → Bool) → List Ready → ℕ
best beats rs = position_or_len (unbeaten beats rs) rs

-- a rule for lists whose step numbers rise; for others place 0
abbrev pub in_order : (List Ready → ℕ) → List Ready → ℕ
in_order rule rs = cond (rising rs) (rule rs) 0

-- of the first i entries none comes before the one at place `at`, which is among them, and that one comes before all that stand
-- before it
pub record Leads (beats : Ready → Ready → Bool) (rs : List Ready) (i at : ℕ) : Type 0 where
  pub inside : at ≤ i - 1
  pub unbeaten : (k : ℕ) → k < i → beats (entry rs k) (entry rs at) ≡ false
  pub before : (k : ℕ) → k < at → beats (entry rs at) (entry rs k) ≡ true

-- the place of the first entry that none comes before, and what that is in words of the entries
pub record IsFirstBest (beats : Ready → Ready → Bool) (rs : List Ready) (at : ℕ) : Type 0 where
  pub place : at ≡ in_order (best beats) rs
  pub leads : rising rs ≡ true → Leads beats rs (length rs) at
