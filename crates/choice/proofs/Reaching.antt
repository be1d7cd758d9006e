-- The members of the way that is taken, from step 0 on.
use Rattle.std.proofs.Common.{◌≡◌, ℕ, suc, ◌<◌, ◌≤◌, Bool, true, false, ◌&&◌, eqb, List, length, get_or, sym, ap, ◌∙◌, ap₂, arith}
use Rattle.std.proofs.lemmas.Bool.{lt-ltb, le-ltb}
use Rattle.std.proofs.Math.Bool.{and-false}
use Rattle.steps.specs.declared.step.Step.{Step}
use Rattle.steps.specs.Sheet.{step, Descending}
use Rattle.ways.specs.Taken.{rest, pick, chosen, comes, taken}
use Rattle.ways.proofs.Upper.{rule, root_in}
use Rattle.plans.specs.Limited.{both, sheet_at, taken_at}
use Rattle.plans.proofs.Limited.{length_at, join_at, target_at, descending_at}
use Rattle.choice.specs.declared.settling.Entry.{Entry}
use Rattle.choice.specs.Entries.{Settled, is_step, along}
use Rattle.choice.proofs.Picking.{feeder_ended}

module _ (limit : ℕ) (ss : List Step) (lower_targets : Descending ss) where
  pub taken_first : taken_at limit ss 0 ≡ true
  taken_first = root_in both (sheet_at limit ss) (descending_at limit ss lower_targets) 0

  -- nothing past the steps
  pub taken_past : (k : ℕ) → 0 < k → length ss ≤ k → taken_at limit ss k ≡ false
  taken_past k above past =
      let sheet = sheet_at limit ss in
      let t = (step sheet k).target in
      let outside = le-ltb k (length sheet) (omega (arith, length_at limit ss)) in
      rule both sheet (descending_at limit ss lower_targets) 0 k above (λ z. omega arith)
      ∙ ap (λ v. taken both sheet 0 t && (v && chosen (step sheet t).join (eqb k (pick both t (suc t) (rest both sheet t))))) outside
      ∙ and-false (taken both sheet 0 t)

  pub taken_more : (es : List Entry) → Settled limit ss 0 es → (way : List Bool) (k : ℕ) → 0 < k → k < length ss → get_or way (step ss k).target false ≡ taken_at limit ss (step ss k).target → (b : Bool) → b ≡ along ss es way k → b ≡ taken_at limit ss k
  taken_more es all way k above inside led b is_b =
      let sheet = sheet_at limit ss in
      let t = (step ss k).target in
      let low = lower_targets k above inside in
      let here : k < length sheet = omega (arith, length_at limit ss) in
      let kept = chosen (step sheet t).join (eqb k (pick both t (suc t) (rest both sheet t))) in
      is_b
      ∙ ap₂ ◌&&◌ led
      (ap₂ (λ j (e : Entry). chosen j (is_step k e.feeder)) (sym (join_at limit ss t)) (all t (omega arith)) ∙ feeder_ended both sheet (step sheet t).join t k here)
      ∙ ap (λ v. taken both sheet 0 t && (v && kept)) (sym (lt-ltb k (length sheet) here))
      ∙ ap (λ v. taken both sheet 0 v && comes both sheet v k) (sym (target_at limit ss k))
      ∙ sym (rule both sheet (descending_at limit ss lower_targets) 0 k above (λ z. omega arith))
