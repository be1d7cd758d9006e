-- The entries of a table, as step i is settled and folded into its target.
use Rattle.std.proofs.Common.{◌≡◌, ℕ, suc, ◌+◌, ◌<◌, ◌≤◌, max, Bool, true, false, ◌&&◌, ◌||◌, ltb, ◌≢◌, List, length, get_or, set, Some, None, Option, sym, refl, ap, ◌∙◌, subst, ap₂, add-one, arith}
use Rattle.std.proofs.lemmas.List.{get_or-set_other}
use Rattle.steps.specs.declared.step.Join.{Join}
use Rattle.steps.specs.declared.step.Join.TheVariants.{And, Or}
use Rattle.steps.specs.declared.step.Step.{Step}
use Rattle.steps.specs.Limits.{max_steps}
use Rattle.steps.specs.Sheet.{step, Timed}
use Rattle.ways.specs.Least.{least_of}
use Rattle.ways.specs.Paths.{tail}
use Rattle.ways.specs.Progress.{folded, finished, progress}
use Rattle.ways.proofs.Held.{hold_one, hold_two}
use Rattle.ways.proofs.Settling.{begun, here, settled_least, later, folded_in, unchanged}
use Rattle.plans.specs.declared.Sums.{Sums}
use Rattle.plans.specs.Leaves.{is_leaf}
use Rattle.plans.specs.Limited.{both, sheet_at}
use Rattle.plans.proofs.Limited.{length_at, step_at, join_at, target_at}
use Rattle.choice.specs.declared.settling.Entry.{Entry}
use Rattle.choice.specs.Entries.{blank_entry, Within, grown, start_entry, fold_entry, entry_at, Settled}
use Rattle.choice.proofs.Amounts.{least_within, progress_within}
use Rattle.choice.proofs.Picking.{feeder_begun, feeder_here, feeder_later, feeder_in, feeder_unchanged}

abbrev entry : Option Sums → Option ℕ → Entry
entry o n = record { sums = o; feeder = n }

-- an OR step adds its minutes to the one feeder as an AND step does to all
grown_by : (c : Bool) (j : Join) (s : Step) (i : ℕ) (o : Option Sums) → finished both i (record { target = s.target; join = j; minutes = s.minutes; fee = s.fee; closed = c }) o ≡ grown c s.minutes o
grown_by true j s i o = refl
grown_by false And s i None = refl
grown_by false And s i (Some r) = refl
grown_by false Or s i None = refl
grown_by false Or s i (Some r) = ap₂ (λ a b. Some (record { work = a; long = b })) (let z : r.work + 0 + s.minutes ≡ r.work + s.minutes = omega arith in z) (let z : max r.long 0 + s.minutes ≡ r.long + s.minutes = omega arith in z)

finished_grown : (i : ℕ) (s : Step) (o : Option Sums) → finished both i s o ≡ grown s.closed s.minutes o
finished_grown i s o = grown_by s.closed s.join s i o

module _ (limit : ℕ) (ss : List Step) where
  abbrev sheet : List Step
  sheet = sheet_at limit ss

  -- the table as it is begun
  pub entries_begun : (es : List Entry) → ((k : ℕ) → k < length ss → get_or es k blank_entry ≡ start_entry (step ss k).join) → Settled limit ss (length ss) es
  entries_begun es all k h =
      let n = length_at limit ss in
      let l : k < length sheet = omega (arith, n) in
      all k h
      ∙ ap start_entry (sym (join_at limit ss k))
      ∙ ap₂ entry (sym (begun both sheet k l)) (sym (feeder_begun both sheet (step sheet k).join k l))
      ∙ ap (λ c. entry_at sheet c k) n

  module _ (es : List Entry) (i : ℕ) (l : i < length ss) (given : Settled limit ss (i + 1) es) where
    old : Settled limit ss (suc i) es
    old = subst (λ n. Settled limit ss n es) (add-one i) given

    -- the sums of step i
    pub settled_sums : (c : Bool) → c ≡ ((step ss i).closed || (is_leaf ss i && ltb limit (tail ss i))) → grown c (step ss i).minutes (get_or es i blank_entry).sums ≡ least_of both sheet i
    settled_sums c is_c =
        ap₂ (λ b (e : Entry). grown b (step ss i).minutes e.sums) is_c (old i l)
        ∙ ap (λ (s : Step). grown s.closed s.minutes (progress both sheet (suc i) i)) (sym (step_at limit ss i l))
        ∙ sym (finished_grown i (step sheet i) (progress both sheet (suc i) i))
        ∙ settled_least both sheet i

    settled_entry : (o : Option Sums) → o ≡ least_of both sheet i → entry o (get_or es i blank_entry).feeder ≡ entry_at sheet i i
    settled_entry o is_o =
        ap₂ entry (is_o ∙ sym (here both sheet i)) (ap (λ (e : Entry). e.feeder) (old i l) ∙ sym (feeder_here both sheet (step sheet i).join i))

    -- step 0
    pub entries_first : i ≡ 0 → length ss ≤ length es → (o : Option Sums) → o ≡ least_of both sheet i → Settled limit ss i (set es i (entry o (get_or es i blank_entry).feeder))
    entries_first z room o is_o =
        hold_one blank_entry (length ss) (entry_at sheet (suc i)) (entry_at sheet i) es i _ (omega arith) old (settled_entry o is_o)
        (λ k h n. ap₂ entry (later both sheet i k (omega arith)) (feeder_later both sheet (step sheet k).join i k (omega arith)))

    -- what step i adds to its target
    fold_as : (t : ℕ) → t ≡ (step sheet i).target → t < i → fold_entry (step ss t).join i (least_of both sheet i) (entry_at sheet (suc i) t) ≡ entry_at sheet i t
    fold_as t is_t less =
        let inside : i < length sheet = omega (arith, length_at limit ss) in
        let low : (step sheet i).target < i = omega arith in
        ap (λ j. fold_entry j i (least_of both sheet i) (entry_at sheet (suc i) t)) (sym (join_at limit ss t))
        ∙ subst (λ v. fold_entry (step sheet v).join i (least_of both sheet i) (entry_at sheet (suc i) v) ≡ entry_at sheet i v) (sym is_t)
        (ap₂ entry (sym (folded_in both sheet i inside low)) (sym (feeder_in both sheet i (step sheet (step sheet i).target).join refl inside low)))

    -- any other step, and its target
    module _ (low : (step ss i).target < i) (o : Option Sums) (is_o : o ≡ least_of both sheet i) (e : Entry) where
      pub folded_entry : fold_entry (step ss (step ss i).target).join i o (get_or (set es i e) (step ss i).target blank_entry) ≡ entry_at sheet i (step ss i).target
      folded_entry =
          let t = (step ss i).target in
          let ne : t ≢ i = (λ z. omega arith) in
          ap₂ (fold_entry (step ss t).join i) is_o (get_or-set_other es i t e blank_entry ne ∙ old t (omega arith))
          ∙ fold_as t (sym (target_at limit ss i)) low

      pub entries_more : length ss ≤ length es → e ≡ entry o (get_or es i blank_entry).feeder → (f : Entry) → f ≡ fold_entry (step ss (step ss i).target).join i o (get_or (set es i e) (step ss i).target blank_entry) → Settled limit ss i (set (set es i e) (step ss i).target f)
      entries_more room is_e f is_f =
          hold_two blank_entry (length ss) (entry_at sheet (suc i)) (entry_at sheet i) es i (step ss i).target e f (omega arith) low old
          (is_e ∙ settled_entry o is_o)
          (is_f ∙ folded_entry)
          (λ k h n m.
          let inside : i < length sheet = omega (arith, length_at limit ss) in
          let other : k ≡ (step sheet i).target → ⊥ = (λ z. m (z ∙ target_at limit ss i)) in
          ap₂ entry (unchanged both sheet i k inside n other) (feeder_unchanged both sheet (step sheet k).join i k inside n other))

    -- all that is added up fits
    module _ (few : length ss ≤ max_steps) (timed : Timed ss) where
      pub sums_within : (o : Option Sums) → o ≡ least_of both sheet i → Within o
      sums_within o is_o = subst Within (sym is_o) (least_within limit ss few timed i l)

      pub fold_within : (low : (step ss i).target < i) (o : Option Sums) → o ≡ least_of both sheet i → (e : Entry) → Within (folded both (step ss (step ss i).target).join o (get_or (set es i e) (step ss i).target blank_entry).sums)
      fold_within low o is_o e = subst Within (ap (λ (f : Entry). f.sums) (sym (folded_entry low o is_o e))) (progress_within limit ss few timed i (step ss i).target (omega arith))
