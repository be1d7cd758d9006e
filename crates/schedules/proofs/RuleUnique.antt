-- No two lists of rows meet the dispatch rule.
use Rattle.std.proofs.Common.{◌≡◌, ℕ, zero, suc, ◌<◌, ◌≤◌, true, false, List, [], ◌∷◌, length, take, drop, sym, refl, ap, ◌∙◌, subst, inl, inr, le_refl, add-one, arith}
use Rattle.std.proofs.lemmas.List.{take_all, take_more_same}
use Rattle.std.proofs.lemmas.Bool.{both_ways, cases_lt, cases_order}
use Rattle.steps.specs.declared.row.Row.{Row}
use Rattle.steps.specs.declared.step.Step.{Step}
use Rattle.steps.specs.Placing.{Placing}
use Rattle.steps.specs.Sheet.{step}
use Rattle.ways.specs.Ways.{Set}
use Rattle.schedules.specs.Timetables.{All, InOrder, Takes, no_row, row}
use Rattle.schedules.specs.Dispatch.{moment, begun, busy, ready, ready_list, named, free}
use Rattle.schedules.specs.Greedy.{WorkConserving}
use Rattle.schedules.specs.Rule.{beginning, started, Dispatched}
use Rattle.schedules.specs.Theorems.{RuleUnique}
use Rattle.schedules.proofs.Moments.{started_take}
use Rattle.schedules.proofs.Progress.{row_begun}
use Rattle.schedules.proofs.Rows.{all_map}
use Rattle.schedules.proofs.Turns.{named_right, free_right}
use Rattle.schedules.proofs.Valid.{is_ready}

all_at : (P : Row → Type 0) (rs : List Row) → All P rs → (k : ℕ) → k < length rs → P (row rs k)
all_at P [] h k l = absurd (omega arith)
all_at P (r ∷ rs) h zero l = h.0
all_at P (r ∷ rs) h (suc k) l = all_at P rs h.1 k (omega arith)

-- where starts do not fall, those before a place are not later, and those after it not earlier
before_place : (rs : List Row) → InOrder rs → (k : ℕ) → k < length rs → All (λ r. r.start ≤ (row rs k).start) (take k rs)
before_place [] h k l = absurd (omega arith)
before_place (r ∷ rs) h zero l = tt
before_place (r ∷ rs) h (suc k) l = (all_at (λ q. r.start ≤ q.start) rs h.0 k (omega arith), before_place rs h.1 k (omega arith))

after_place : (rs : List Row) → InOrder rs → (k : ℕ) → k < length rs → All (λ r. (row rs k).start ≤ r.start) (drop k rs)
after_place [] h k l = absurd (omega arith)
after_place (r ∷ rs) h zero l = (le_refl _, h.0)
after_place (r ∷ rs) h (suc k) l = after_place rs h.1 k (omega arith)

same_row : (r q : Row) → r.step ≡ q.step → r.bench ≡ q.bench → r.start ≡ q.start → r.end ≡ q.end → r ≡ q
same_row r q a b c d = go r.step q.step r.bench q.bench r.start q.start r.end q.end a b c d
  where
    go : (a b c d e f g h : ℕ) → a ≡ b → c ≡ d → e ≡ f → g ≡ h → ◌≡◌ {A = Row} (record { step = a; bench = c; start = e; end = g }) (record { step = b; bench = d; start = f; end = h })
    go a b c d e f g h p q r s = cc

module _ (benches : ℕ) (ss : List Step) (w : Set) (p : Placing) where
  -- what the rule says of the row at a place: its step is ready, and its bench free
  step_ready : (xs : List Row) → Dispatched benches ss w p xs → (k : ℕ) → k < length xs → ((row xs k).step < length ss) × (ready ss w (beginning xs k) (row xs k).step ≡ true)
  step_ready xs d k l = named_right p ss w (beginning xs k) (row xs k).step (d.by_policy k l)

  -- of two lists with the same rows before a place, neither begins the next one earlier
  not_earlier : (xs ys : List Row) → Dispatched benches ss w p xs → Dispatched benches ss w p ys → (k : ℕ) → k < length xs → k < length ys → take k xs ≡ take k ys → (row xs k).start < (row ys k).start → ⊥
  not_earlier xs ys dx dy k lx ly e h =
      let t = (row xs k).start in
      let r = step_ready xs dx k lx in
      let f = free_right benches (beginning xs k) (row xs k).bench (dx.lowest_free k lx) in
      let a = subst (All (λ r. r.start ≤ t)) e (before_place xs dx.in_order k lx) in
      let b = all_map (λ r. (row ys k).start ≤ r.start) (λ r. t < r.start) (λ r x. omega arith) (drop k ys) (after_place ys dy.in_order k ly) in
      let s : started t ys ≡ take k xs = started_take t k ys a b ∙ sym e in
      let c = subst (λ rs. WorkConserving benches ss w (moment t rs)) s (dy.none_idle t) in
      both_ways (busy t (row xs k).bench (take k xs)) f.1 (c (row xs k).step (row xs k).bench r.0 r.1 f.0)

  module _ (xs ys : List Row) (dx : Dispatched benches ss w p xs) (dy : Dispatched benches ss w p ys) (k : ℕ) (lx : k < length xs) (e : take k xs ≡ take k ys) where
    same_start : k < length ys → (row xs k).start ≡ (row ys k).start
    same_start ly = elim (cases_order (row xs k).start (row ys k).start) [
      | inl q ↦ q
      | inr (inl q) ↦ absurd (not_earlier xs ys dx dy k lx ly e q)
      | inr (inr q) ↦ absurd (not_earlier ys xs dy dx k ly lx (sym e) q)
    ]

    next_same : k < length ys → row xs k ≡ row ys k
    next_same ly =
        let s = same_start ly in
        let m : beginning xs k ≡ beginning ys k = go s e in
        let a = dx.by_policy k lx in
        let b = dy.by_policy k ly in
        let c : named p (ready_list ss w (beginning xs k)) ≡ named p (ready_list ss w (beginning ys k)) = ap (λ st. named p (ready_list ss w st)) m in
        let u : (row xs k).step ≡ (row ys k).step = cc in
        let f = dx.lowest_free k lx in
        let g = dy.lowest_free k ly in
        let h : free benches (beginning xs k) ≡ free benches (beginning ys k) = ap (free benches) m in
        let v : (row xs k).bench ≡ (row ys k).bench = cc in
        let i = all_at (Takes ss) xs dx.takes k lx in
        let j = all_at (Takes ss) ys dy.takes k ly in
        let n : (step ss (row xs k).step).minutes ≡ (step ss (row ys k).step).minutes = ap (λ i. (step ss i).minutes) u in
        same_row (row xs k) (row ys k) u v s (omega arith)
      where
        go : {t u : ℕ} {rs qs : List Row} → t ≡ u → rs ≡ qs → moment t rs ≡ moment u qs
        go a b = cc

    -- neither list ends before the other: the next step would have no row in it
    not_over : length ys ≤ k → ⊥
    not_over l =
        let r = step_ready xs dx k lx in
        let a = is_ready ss w (beginning xs k) (row xs k).step r.1 in
        let b = row_begun (row xs k).step ys (dy.whole (row xs k).step a.0) in
        both_ways (begun (row xs k).step ys) (subst (λ rs. begun (row xs k).step rs ≡ false) (e ∙ take_all k ys l) a.1) b

  agree : (xs ys : List Row) → Dispatched benches ss w p xs → Dispatched benches ss w p ys → (k : ℕ) → k ≤ length xs → (k ≤ length ys) × (take k xs ≡ take k ys)
  agree xs ys dx dy zero l = (omega arith, refl)
  agree xs ys dx dy (suc k) l =
      let h = agree xs ys dx dy k (omega arith) in
      elim (cases_lt k (length ys)) [
        | inl x ↦ (x, rw (add-one) at (take_more_same xs ys k no_row l x h.1 (next_same xs ys dx dy k l h.1 x)))
        | inr x ↦ absurd (not_over xs ys dx dy k l h.1 x)
      ]

pub rule_unique : RuleUnique
rule_unique benches ss w p xs ys dx dy =
    let a = agree benches ss w p xs ys dx dy (length xs) (le_refl _) in
    let b = agree benches ss w p ys xs dy dx (length ys) (le_refl _) in
    sym (take_all (length xs) xs (le_refl _)) ∙ a.1 ∙ take_all (length xs) ys b.0
