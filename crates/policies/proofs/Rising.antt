-- Step numbers rise where each is below the next, and else do not.
use Rattle.std.proofs.Common.{◌≡◌, ℕ, zero, suc, ◌+◌, ◌<◌, ◌≤◌, Bool, true, false, ltb, List, [], ◌∷◌, length, sym, refl, subst, add-one, arith}
use Rattle.std.proofs.lemmas.Bool.{and_left, and_right, and_from, le-leb, lt-leb, ltb-true, ltb-false}
use Rattle.std.specs.List.{IsAllAdjacentAnswer}
use Rattle.steps.specs.declared.ready.Ready.{Ready}
use Rattle.steps.specs.Placing.{rising, rises_from, no_ready}
use Rattle.policies.specs.Places.{entry}

up : (rs : List Ready) (floor : ℕ) → (0 < length rs → floor ≤ (entry rs 0).step) → ((k : ℕ) → suc k < length rs → (entry rs k).step < (entry rs (suc k)).step) → rises_from floor rs ≡ true
up [] floor low each = refl
up (r ∷ rs) floor low each =
    and_from _ _ (le-leb floor r.step (low (omega arith))) (up rs (r.step + 1) (λ h. let e = each 0 (omega arith) in omega arith) (λ k h. each (suc k) (omega arith)))

not_up : (rs : List Ready) (floor k : ℕ) → suc k < length rs → (entry rs (suc k)).step ≤ (entry rs k).step → rises_from floor rs ≡ false
not_up [] floor k h low = absurd (omega arith)
not_up (r ∷ []) floor k h low = absurd (omega arith)
not_up (r ∷ (s ∷ rs)) floor zero h low = and_right _ _ (and_left _ _ (lt-leb (r.step + 1) s.step (omega arith)))
not_up (r ∷ (s ∷ rs)) floor (suc k) h low = and_right _ _ (not_up (s ∷ rs) (r.step + 1) k (omega arith) low)

pub rising_answer : (rs : List Ready) (b : Bool) → IsAllAdjacentAnswer (λ (r s : Ready) c. c ≡ ltb r.step s.step) rs b → b ≡ rising rs
rising_answer rs true each =
    sym (up rs 0 (λ h. omega arith) (λ k h. subst (λ n. (entry rs k).step < (entry rs n).step) (add-one k) (ltb-true _ _ (sym (each k no_ready (omega arith))))))
rising_answer rs false (k, h, fails) =
    sym (not_up rs 0 k (omega arith) (subst (λ n. (entry rs n).step ≤ (entry rs k).step) (add-one k) (ltb-false _ _ (sym (fails no_ready)))))
