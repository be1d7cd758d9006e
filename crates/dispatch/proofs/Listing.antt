-- The loops that list what is ready, look for a free bench, and look for the next end.
use Rattle.std.proofs.Common.{◌≡◌, ℕ, zero, suc, ◌+◌, ◌<◌, Bool, true, false, not, ◌&&◌, ltb, List, [], ◌∷◌, ◌++◌, length, drop, min, map, cond, Some, Option, sym, refl, ap, ◌∙◌, append_assoc, add-one, arith}
use mathlib.Core.Bool.{not-not}
use Rattle.std.proofs.lemmas.List.{at_drop_more}
use Rattle.steps.specs.declared.ready.Ready.{Ready}
use Rattle.steps.specs.declared.row.Row.{Row}
use Rattle.steps.specs.declared.step.Step.{Step}
use Rattle.steps.specs.Sheet.{step, blank}
use Rattle.std.specs.List.{filter, find, fold, range_with_len, reduce}
use Rattle.schedules.specs.Dispatch.{State, fed, ready_among, busy, unless_busy, free_from, keep, entry, readies, earlier, next_end}
use Rattle.ways.specs.Ways.{Set}

module _ (test : ℕ → Bool) (tails : ℕ → ℕ) (ss : List Step) (i : ℕ) (h : i < length ss) where
  readies_step : readies test tails i (drop i ss) ≡ keep (test i) (entry tails i (step ss i)) (readies test tails (i + 1) (drop (i + 1) ss))
  readies_step = at_drop_more (readies test tails i) ss i blank h ∙ ap (λ j. keep (test i) (entry tails i (step ss i)) (readies test tails j (drop (i + 1) ss))) (sym (add-one i))

  module _ (ready all : List Ready) (so_far : ready ++ readies test tails i (drop i ss) ≡ all) where
    pub listed_more : test i ≡ true → (ready ++ entry tails i (step ss i) ∷ []) ++ readies test tails (i + 1) (drop (i + 1) ss) ≡ all
    listed_more e =
        let rest = readies test tails (i + 1) (drop (i + 1) ss) in
        let r = entry tails i (step ss i) in
        append_assoc ready (r ∷ []) rest
        ∙ ap (λ xs. ready ++ xs) (sym (readies_step ∙ ap (λ b. keep b r rest) e)) ∙ so_far

    pub listed_same : test i ≡ false → ready ++ readies test tails (i + 1) (drop (i + 1) ss) ≡ all
    listed_same e =
        ap (λ xs. ready ++ xs) (sym (readies_step ∙ ap (λ b. keep b (entry tails i (step ss i)) (readies test tails (i + 1) (drop (i + 1) ss))) e)) ∙ so_far

-- a step is ready if it may begin and does not wait
pub not_waiting : (ss : List Step) (w started done : Set) (i : ℕ) (waits : Bool) → waits ≡ not (fed w done i (suc i) (drop (suc i) ss)) → (w i && not (started i) && not waits) ≡ ready_among ss w started done i
not_waiting ss w started done i waits e = ap (λ b. w i && not (started i) && not b) e ∙ ap (λ b. w i && not (started i) && b) (not-not (fed w done i (suc i) (drop (suc i) ss)))

-- the first bench that is not busy is the lowest free one
pub first_free : (st : State) (from count : ℕ) → find (λ b. not (busy st.now b st.rows)) (range_with_len from count) ≡ free_from st from count
first_free st from zero = refl
first_free st from (suc count) = by (busy st.now from st.rows) (ap (λ n. find (λ b. not (busy st.now b st.rows)) (range_with_len n count)) (add-one from) ∙ first_free st (suc from) count)
  where
    by : (b : Bool) {o p : Option ℕ} → o ≡ p → cond (not b) (Some from) o ≡ unless_busy b from p
    by true e = e
    by false e = refl

min_all : (e y : ℕ) (ys : List ℕ) → fold min (min e y) ys ≡ min e (fold min y ys)
min_all e y [] = refl
min_all e y (z ∷ ys) = ap (λ n. fold min n ys) (let h : min (min e y) z ≡ min e (min y z) = omega arith in h) ∙ min_all e (min y z) ys

-- the least end that is later is the next one
pub least_later : (time : ℕ) (rows : List Row) → reduce min (map (λ r. r.end) (filter (λ r. ltb time r.end) rows)) ≡ next_end time rows
least_later time [] = refl
least_later time (r ∷ rows) = by (ltb time r.end) ∙ ap (earlier (ltb time r.end) r.end) (least_later time rows)
  where
    rest : List Row
    rest = filter (λ q. ltb time q.end) rows

    with_first : (ends : List ℕ) → reduce min (r.end ∷ ends) ≡ earlier true r.end (reduce min ends)
    with_first [] = refl
    with_first (e ∷ ends) = ap (λ n. Some n) (min_all r.end e ends)

    by : (b : Bool) → reduce min (map (λ q. q.end) (cond b (r ∷ rest) rest)) ≡ earlier b r.end (reduce min (map (λ q. q.end) rest))
    by true = with_first (map (λ q. q.end) rest)
    by false = refl
