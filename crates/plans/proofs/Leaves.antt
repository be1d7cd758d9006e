-- The test for leaves is right.
use Rattle.std.proofs.Common.{◌≡◌, ℕ, suc, true, false, eqb, List, [], ◌∷◌, drop, refl, ap, arith}
use Rattle.std.proofs.lemmas.Bool.{false≢true, eqb-false, ne_eqb, and_from, and_parts, or_parts, or_from, not-true, not_from_false}
use Rattle.steps.specs.declared.step.Join.{Join}
use Rattle.steps.specs.declared.step.Join.TheVariants.{And, Or}
use Rattle.steps.specs.declared.step.Step.{Step}
use Rattle.steps.specs.Sheet.{step}
use Rattle.ways.proofs.Suffixes.{Each, each_from, each_at}
use Rattle.plans.specs.Leaves.{is_and, fed, LeavesRight}

and_is : (k : Join) → is_and k ≡ true → k ≡ And
and_is And e = refl
and_is Or e = absurd (false≢true e)

each_unfed : (i j : ℕ) (ss : List Step) → fed i ss ≡ false → Each (λ k u us. eqb u.target i ≡ false) j ss
each_unfed i j [] e = tt
each_unfed i j (s ∷ ss) e = let p = or_parts _ _ e in (p.0, each_unfed i (suc j) ss p.1)

unfed_each : (i j : ℕ) (ss : List Step) → Each (λ k u us. eqb u.target i ≡ false) j ss → fed i ss ≡ false
unfed_each i j [] h = refl
unfed_each i j (s ∷ ss) h = or_from _ _ h.0 (unfed_each i (suc j) ss h.1)

pub leaves_right : LeavesRight
leaves_right ss lower_targets i = (
  λ e.
      let a = and_parts _ _ e in (
        and_is (step ss i).join a.0,
        λ k f.
            let after = each_unfed i (suc i) (drop (suc i) ss) (not-true _ a.1) in
            eqb-false (step ss k).target i
            (each_at ss (λ k u us. eqb u.target i ≡ false) (suc i) (drop (suc i) ss) refl after k (omega (arith, lower_targets k f.0 f.1, f.2)) f.1)
            f.2,
      ),
  λ l.
      let after = each_from ss (λ k u us. eqb u.target i ≡ false) (suc i) (drop (suc i) ss) refl (λ k a b. ne_eqb (step ss k).target i (λ t. l.1 k (omega arith, b, t))) in
      and_from _ _ (ap is_and l.0) (not_from_false _ (unfed_each i (suc i) (drop (suc i) ss) after)),
)
