-- A table of entries as the code holds it: what is written makes one step more settled.
use Rattle.std.proofs.Common.{◌≡◌, ℕ, suc, ◌+◌, ◌<◌, ◌≤◌, ◌≢◌, List, map, length, get_or, set, None, Option, sym, refl, ap, ◌∙◌, subst, ap₂, add-one, arith, below_more}
use Rattle.std.proofs.lemmas.List.{get_or-map, get_or-set_same, get_or-set_other, map-set, length-map}
use Rattle.std.specs.Option.{option_map}
use Rattle.steps.specs.declared.step.Step.{Step}
use Rattle.steps.specs.Sheet.{step}
use Rattle.ways.specs.Least.{least_of}
use Rattle.ways.specs.Measures.{Meaning, numbers}
use Rattle.ways.specs.Progress.{started, folded, finished, progress}
use Rattle.ways.proofs.Held.{hold_one, hold_two}
use Rattle.ways.proofs.Settling.{here, settled_least, later, folded_in, unchanged}
use Rattle.least.specs.declared.Entry.{Entry}
use Rattle.least.specs.Entries.{Shown, least_figure, shown, entry_for}
use Rattle.least.specs.Progress.{Settled}

module _ (F : Type 0) (m : Meaning) (number : F → ℕ) (ss : List Step) where
  -- what the entries of a table show
  abbrev seen : List (Entry F) → List Shown
  seen table = map (shown number) table

  -- with an entry written that shows v
  set_seen : (table : List (Entry F)) (i : ℕ) (e : Entry F) (v : Shown) → shown number e ≡ v → seen (set table i e) ≡ set (seen table) i v
  set_seen table i e v h = map-set (shown number) table i e ∙ ap (set (seen table) i) h

  -- an entry more is begun
  pub begun_more : (table : List (Entry F)) (i : ℕ) → i < length table → ((k : ℕ) → k < i → get_or (seen table) k (entry_for m None) ≡ entry_for m (started (numbers m) (step ss k).join)) → (o : Option F) → option_map number o ≡ started (numbers m) (step ss i).join → (e : Entry F) → shown number e ≡ entry_for m (option_map number o) → (k : ℕ) → k < i + 1 → get_or (seen (set table i e)) k (entry_for m None) ≡ entry_for m (started (numbers m) (step ss k).join)
  begun_more table i l old o is_o e is_e =
      let d = entry_for m None in
      let begun : ℕ → Shown = λ k. entry_for m (started (numbers m) (step ss k).join) in
      let n = length-map table (shown number) in
      rw (set_seen table i e (begun i) (is_e ∙ ap (entry_for m) is_o))
      (below_more (λ k. get_or (set (seen table) i (begun i)) k d ≡ begun k) i
      (λ k h. get_or-set_other (seen table) i k (begun i) d (λ z. omega arith) ∙ old k h)
      (get_or-set_same (seen table) i (begun i) d (omega (arith, n))))

  module _ (table : List (Entry F)) (i : ℕ) (room : length ss ≤ length table) (within : i < length ss) (given : Settled m number ss (i + 1) table) where
    old : Settled m number ss (suc i) table
    old = subst (λ n. Settled m number ss n table) (add-one i) given

    -- the figure of the entry x that is read at k is as far as step k is
    read : (k : ℕ) (x : Entry F) (o : Option F) → k < length ss → x ≡ get_or table k x → o ≡ least_figure x → option_map number o ≡ progress (numbers m) ss (suc i) k
    read k x o h is_x is_o =
        ap (option_map number) is_o
        ∙ ap (λ (v : Shown). v.least) (ap (shown number) is_x ∙ sym (get_or-map (shown number) table k x (entry_for m None) (omega arith)) ∙ old k h)

    -- the entry of step i is read and written
    module _ (x : Entry F) (is_x : x ≡ get_or table i x) (a : Option F) (is_a : a ≡ least_figure x) (b : Option F) (is_b : option_map number b ≡ finished (numbers m) i (step ss i) (option_map number a)) (e : Entry F) (is_e : shown number e ≡ entry_for m (option_map number b)) where
      least : option_map number b ≡ least_of (numbers m) ss i
      least = is_b ∙ ap (finished (numbers m) i (step ss i)) (read i x a within is_x is_a) ∙ settled_least (numbers m) ss i

      written : shown number e ≡ entry_for m (progress (numbers m) ss i i)
      written = is_e ∙ ap (entry_for m) (least ∙ sym (here (numbers m) ss i))

      -- step 0
      pub first_settled : i ≡ 0 → Settled m number ss i (set table i e)
      first_settled z =
          let n = length-map table (shown number) in
          rw (set_seen table i e _ refl)
          (hold_one (entry_for m None) (length ss) (λ k. entry_for m (progress (numbers m) ss (suc i) k)) (λ k. entry_for m (progress (numbers m) ss i k)) (seen table) i (shown number e) (omega (arith, n)) old written
          (λ k h ne. ap (entry_for m) (later (numbers m) ss i k (omega arith))))

      -- any other step, and the entry of its target
      pub more_settled : (step ss i).target < i → (y : Entry F) → y ≡ get_or (set table i e) (step ss i).target y → (c : Option F) → c ≡ least_figure y → (d : Option F) → option_map number d ≡ folded (numbers m) (step ss (step ss i).target).join (option_map number b) (option_map number c) → (f : Entry F) → shown number f ≡ entry_for m (option_map number d) → Settled m number ss i (set (set table i e) (step ss i).target f)
      more_settled low y is_y c is_c d is_d f is_f =
          let t = (step ss i).target in
          let n = length-map table (shown number) in
          let other : t ≢ i = (λ z. omega arith) in
          let so_far = read t y c (omega arith) (is_y ∙ get_or-set_other table i t e y other) is_c in
          let folds = ap₂ (folded (numbers m) (step ss t).join) least so_far ∙ sym (folded_in (numbers m) ss i within low) in
          rw (set_seen (set table i e) t f _ refl, set_seen table i e _ refl)
          (hold_two (entry_for m None) (length ss) (λ k. entry_for m (progress (numbers m) ss (suc i) k)) (λ k. entry_for m (progress (numbers m) ss i k)) (seen table) i t (shown number e) (shown number f) (omega (arith, n)) low old written
          (is_f ∙ ap (entry_for m) (is_d ∙ folds))
          (λ k h ne nt. ap (entry_for m) (unchanged (numbers m) ss i k within ne nt)))
