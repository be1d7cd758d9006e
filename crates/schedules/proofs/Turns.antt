-- What a turn does, whatever the policy.
use Rattle.std.proofs.Common.{◌≡◌, ℕ, zero, suc, ◌+◌, ◌<◌, ◌≤◌, Bool, true, false, ◌⊎◌, List, [], ◌∷◌, length, get_or, Some, None, Option, sym, refl, ◌∙◌, subst, inl, inr, arith}
use Rattle.std.proofs.lemmas.Bool.{false≢true, both_ways, cases_eq}
use Rattle.steps.specs.declared.ready.Ready.{Ready}
use Rattle.steps.specs.declared.step.Step.{Step}
use Rattle.steps.specs.Placing.{Placing, no_ready}
use Rattle.steps.proofs.Clashes.{clash}
use Rattle.ways.specs.Paths.{tail}
use Rattle.ways.specs.Ways.{Set}
use Rattle.schedules.specs.Dispatch.{State, moment, busy, ready, unless_busy, free_from, free, keep, entry, readies, ready_list, named, next_end, wait, begin, begin_or_wait, turn, turns, empty_state}
use Rattle.schedules.specs.Greedy.{WorkConserving, Greedy, starts, begins, goes_on}

abbrev pub NoneReady : List Step → Set → State → Type 0
NoneReady ss w st = (i : ℕ) → i < length ss → ready ss w st i ≡ true → ⊥

abbrev pub AllBusy : ℕ → State → Type 0
AllBusy benches st = (b : ℕ) → b < benches → busy st.now b st.rows ≡ true

-- The lowest free bench is free, and where there is none all are busy.

free_from_right : (st : State) (b n c : ℕ) → free_from st b n ≡ Some c → (c < b + n) × (busy st.now c st.rows ≡ false)
free_from_right st b zero c e = clash (cc)
free_from_right st b (suc n) c e = go (busy st.now b st.rows) refl e (free_from_right st (suc b) n c)
  where
    go : (v : Bool) → busy st.now b st.rows ≡ v → unless_busy v b (free_from st (suc b) n) ≡ Some c → (free_from st (suc b) n ≡ Some c → (c < suc b + n) × (busy st.now c st.rows ≡ false)) → (c < b + suc n) × (busy st.now c st.rows ≡ false)
    go true v e f = let h = f e in (omega arith, h.1)
    go false v e f = let q : b ≡ c = cc in (omega arith, rw q at v)

free_from_none : (st : State) (b n : ℕ) → free_from st b n ≡ None → (c : ℕ) → b ≤ c → c < b + n → busy st.now c st.rows ≡ true
free_from_none st b zero e c l h = absurd (omega arith)
free_from_none st b (suc n) e c l h = go (busy st.now b st.rows) refl e (λ e l. free_from_none st (suc b) n e c l (omega arith))
  where
    go : (v : Bool) → busy st.now b st.rows ≡ v → unless_busy v b (free_from st (suc b) n) ≡ None → (free_from st (suc b) n ≡ None → suc b ≤ c → busy st.now c st.rows ≡ true) → busy st.now c st.rows ≡ true
    go true v e f = elim (cases_eq b c) [ inl q ↦ rw q at v | inr q ↦ f e (omega arith) ]
    go false v e f = clash (cc)

pub free_right : (benches : ℕ) (st : State) (b : ℕ) → free benches st ≡ Some b → (b < benches) × (busy st.now b st.rows ≡ false)
free_right benches st b e = let h = free_from_right st 0 benches b e in (omega (arith, h.0), h.1)

pub free_none : (benches : ℕ) (st : State) → free benches st ≡ None → AllBusy benches st
free_none benches st e b l = free_from_none st 0 benches e b (omega arith) (omega arith)

-- What stands in the list of ready steps is ready, and what is ready stands in it.

module _ (test : ℕ → Bool) (tails : ℕ → ℕ) where
  abbrev Passes : ℕ → Ready → Type 0
  Passes top r = (r.step < top) × (test r.step ≡ true)

  place_ready : (n j : ℕ) (ss : List Step) → n < length (readies test tails j ss) → Passes (j + length ss) (get_or (readies test tails j ss) n no_ready)
  place_ready n j [] l = absurd (omega arith)
  place_ready n j (s ∷ ss) l = go n (test j) (readies test tails (suc j) ss) refl l (λ n. place_ready n (suc j) ss)
    where
      go : (n : ℕ) (v : Bool) (rs : List Ready) → test j ≡ v → n < length (keep v (entry tails j s) rs) → ((n : ℕ) → n < length rs → Passes (suc j + length ss) (get_or rs n no_ready)) → Passes (j + suc (length ss)) (get_or (keep v (entry tails j s) rs) n no_ready)
      go n false rs v l f = let h = f n l in (omega (arith, h.0), h.1)
      go zero true rs v l f = (omega arith, v)
      go (suc n) true rs v l f = let h = f n (omega arith) in (omega (arith, h.0), h.1)

  readies_some : (j : ℕ) (ss : List Step) (i : ℕ) → j ≤ i → i < j + length ss → test i ≡ true → 0 < length (readies test tails j ss)
  readies_some j [] i a b h = absurd (omega arith)
  readies_some j (s ∷ ss) i a b h = go (test j) refl (λ l. readies_some (suc j) ss i l (omega arith) h)
    where
      go : (v : Bool) → test j ≡ v → (suc j ≤ i → 0 < length (readies test tails (suc j) ss)) → 0 < length (keep v (entry tails j s) (readies test tails (suc j) ss))
      go true v f = omega arith
      go false v f = elim (cases_eq j i) [ inl q ↦ absurd (false≢true (sym v ∙ rw q h)) | inr q ↦ f (omega arith) ]

module _ (p : Placing) where
  -- the policy names a place where something is ready
  pub named_place : (rs : List Ready) → 0 < length rs → (p.place rs < length rs) × (named p rs ≡ Some (get_or rs (p.place rs) no_ready).step)
  named_place [] l = absurd (omega arith)
  named_place (r ∷ rs) l = (p.inside (r ∷ rs) l, refl)

  named_some : (rs : List Ready) (i : ℕ) → named p rs ≡ Some i → (p.place rs < length rs) × ((get_or rs (p.place rs) no_ready).step ≡ i)
  named_some [] i e = clash (cc)
  named_some (r ∷ rs) i e = (p.inside (r ∷ rs) (omega arith), (cc))

  named_none : (rs : List Ready) → named p rs ≡ None → 0 < length rs → ⊥
  named_none [] e l = omega arith
  named_none (r ∷ rs) e l = clash (cc)

  pub named_right : (ss : List Step) (w : Set) (st : State) (i : ℕ) → named p (ready_list ss w st) ≡ Some i → (i < length ss) × (ready ss w st i ≡ true)
  named_right ss w st i e =
      let n = named_some (ready_list ss w st) i e in
      let h = place_ready (ready ss w st) (tail ss) (p.place (ready_list ss w st)) 0 ss n.0 in
      (omega (arith, h.0, n.1), subst (λ k. ready ss w st k ≡ true) n.1 h.1)

  pub none_ready : (ss : List Step) (w : Set) (st : State) → named p (ready_list ss w st) ≡ None → NoneReady ss w st
  none_ready ss w st e i l h = named_none (ready_list ss w st) e (readies_some (ready ss w st) (tail ss) 0 ss i (omega arith) (omega arith) h)

module _ (benches : ℕ) (ss : List Step) (w : Set) where
  -- P after each thing that may happen: a ready step begins on a free bench; or the time goes on to the next end, where no bench
  -- is free while a step is ready; or nothing runs and nothing can
  pub record Kept (P : State → Type 0) (st : State) : Type 0 where
    pub on_begin : (i b : ℕ) → i < length ss → ready ss w st i ≡ true → b < benches → busy st.now b st.rows ≡ false → P (begin ss st i b)
    pub on_wait : (t : ℕ) → next_end st.now st.rows ≡ Some t → WorkConserving benches ss w st → P (moment t st.rows)
    pub on_rest : next_end st.now st.rows ≡ None → WorkConserving benches ss w st → P st

  pub greedy_kept : (P : State → Type 0) → P empty_state → ((st : State) → P st → Kept P st) → {st : State} → Greedy benches ss w st → P st
  greedy_kept P h f starts = h
  greedy_kept P h f (begins {st} g i b l r c e) = (f st (greedy_kept P h f g)).on_begin i b l r c e
  greedy_kept P h f (goes_on {st} g t e i) = (f st (greedy_kept P h f g)).on_wait t e i

  pub ready_or_free : (st : State) → WorkConserving benches ss w st → NoneReady ss w st ⊎ AllBusy benches st
  ready_or_free st h = go (free benches st) refl
    where
      go : (o : Option ℕ) → free benches st ≡ o → NoneReady ss w st ⊎ AllBusy benches st
      go None e = inr (free_none benches st e)
      go (Some b) e = let f = free_right benches st b e in inl (λ i l r. both_ways _ f.1 (h i b l r f.0))

  module _ (p : Placing) where
    -- the same of a turn, with the step and the bench that it takes
    pub record Taken (P : State → Type 0) (st : State) : Type 0 where
      pub on_begin : (i b : ℕ) → named p (ready_list ss w st) ≡ Some i → free benches st ≡ Some b → P (begin ss st i b)
      pub on_wait : (t : ℕ) → next_end st.now st.rows ≡ Some t → WorkConserving benches ss w st → P (moment t st.rows)
      pub on_rest : next_end st.now st.rows ≡ None → WorkConserving benches ss w st → P st

    waits : (P : State → Type 0) (st : State) → Taken P st → WorkConserving benches ss w st → (o : Option ℕ) → next_end st.now st.rows ≡ o → P (wait st o)
    waits P st k h None e = k.on_rest e h
    waits P st k h (Some t) e = k.on_wait t e h

    pub turn_taken : (P : State → Type 0) (st : State) → Taken P st → P (turn benches ss p w st)
    turn_taken P st k = go (named p (ready_list ss w st)) refl (free benches st) refl
      where
        go : (o : Option ℕ) → named p (ready_list ss w st) ≡ o → (f : Option ℕ) → free benches st ≡ f → P (begin_or_wait ss st o f)
        go None e f g = waits P st k (λ i b l r c. absurd (none_ready p ss w st e i l r)) (next_end st.now st.rows) refl
        go (Some i) e None g = waits P st k (λ i b l r c. free_none benches st g b c) (next_end st.now st.rows) refl
        go (Some i) e (Some b) g = k.on_begin i b e g

    pub turns_taken : (P : State → Type 0) → ((st : State) → P st → Taken P st) → (n : ℕ) (st : State) → P st → P (turns n (turn benches ss p w) st)
    turns_taken P f zero st h = h
    turns_taken P f (suc n) st h = turns_taken P f n (turn benches ss p w st) (turn_taken P st (f st h))

    pub turn_kept : (P : State → Type 0) (st : State) → Kept P st → P (turn benches ss p w st)
    turn_kept P st k = turn_taken P st (record {
      on_begin = λ i b e g. let r = named_right p ss w st i e in let f = free_right benches st b g in k.on_begin i b r.0 r.1 f.0 f.1;
      on_wait = k.on_wait;
      on_rest = k.on_rest;
    })

    -- turns make a greedy run
    pub turn_greedy : (st : State) → Greedy benches ss w st → Greedy benches ss w (turn benches ss p w st)
    turn_greedy st g = turn_kept (Greedy benches ss w) st (record { on_begin = λ i b. begins g i b; on_wait = λ t. goes_on g t; on_rest = λ e h. g })

    pub turns_greedy : (n : ℕ) (st : State) → Greedy benches ss w st → Greedy benches ss w (turns n (turn benches ss p w) st)
    turns_greedy zero st g = g
    turns_greedy (suc n) st g = turns_greedy n (turn benches ss p w st) (turn_greedy st g)
