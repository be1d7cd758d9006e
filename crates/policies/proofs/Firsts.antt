-- The loop that looks for the first entry that none comes before, and the one that looks for the first that passes a test.
use Rattle.std.proofs.Common.{◌≡◌, ℕ, ◌-◌, ◌<◌, ◌≤◌, Bool, true, false, cond, ltb, List, length, Some, None, sym, ap, ◌∙◌, arith}
use Rattle.std.proofs.lemmas.Bool.{cond-true, cond-false, lt-ltb, le-ltb, not_from_true}
use Rattle.std.specs.List.{position}
use Rattle.std.specs.Option.{unwrap_or}
use Rattle.std.proofs.lemmas.List.Folds.{list_any_at}
use Rattle.std.proofs.lemmas.List.Sums.{position_or_len_is}
use Rattle.steps.specs.declared.ready.Ready.{Ready}
use Rattle.steps.specs.Placing.{no_ready}
use Rattle.policies.specs.Places.{entry, unbeaten, best, Leads}
use Rattle.policies.specs.Found.{none_before}

module _ (beats : Ready → Ready → Bool) (rs : List Ready) where
  pub leads_best : (at : ℕ) → Leads beats rs (length rs) at → at ≡ best beats rs
  leads_best at l =
      sym (position_or_len_is (unbeaten beats rs) rs at no_ready (omega (arith, l.inside))
      (λ k h. not_from_true _ (list_any_at (λ s. beats s (entry rs k)) rs at no_ready (omega (arith, l.inside)) (l.before k h)))
      (λ h. none_before beats rs at l.unbeaten))

module _ (p : Ready → Bool) (rs : List Ready) where
  place_is : (i : ℕ) → i ≤ length rs → ((k : ℕ) → k < i → p (entry rs k) ≡ false) → (i < length rs → p (entry rs i) ≡ true) → position p rs ≡ cond (ltb i (length rs)) (Some i) None
  place_is i l none here = ap (λ n. cond (ltb n (length rs)) (Some n) None) (position_or_len_is p rs i no_ready l none here)

  -- the first entry that passes a test, or another place where none does
  pub place_found : (i other : ℕ) → i < length rs → p (entry rs i) ≡ true → ((k : ℕ) → k < i → p (entry rs k) ≡ false) → unwrap_or (position p rs) other ≡ i
  place_found i other l here none = ap (λ o. unwrap_or o other) (place_is i (omega arith) none (λ h. here) ∙ cond-true _ _ _ (lt-ltb i (length rs) l))

  pub place_missing : (other : ℕ) → ((k : ℕ) → k < length rs → p (entry rs k) ≡ false) → unwrap_or (position p rs) other ≡ other
  place_missing other none = ap (λ o. unwrap_or o other) (place_is (length rs) (omega arith) none (λ h. absurd (omega arith)) ∙ cond-false _ _ _ (le-ltb (length rs) (length rs) (omega arith)))
