-- The planned way has the least score.
use Rattle.std.proofs.Common.{◌≡◌, ℕ, ◌-◌, ◌<◌, ◌≤◌, Bool, true, false, cond, ltb, ◌⊎◌, List, [], ◌∷◌, Some, None, Option, sym, refl, ◌∙◌, subst, ap₂, inl, inr, le_trans, le_refl, mul-le-mul_left, arith}
use Rattle.std.proofs.lemmas.Bool.{ltb-true, ltb-false, cases_lt}
use Rattle.steps.proofs.Clashes.{clash}
use Rattle.steps.specs.declared.step.Step.{Step}
use Rattle.steps.specs.Sheet.{Descending}
use Rattle.ways.specs.Ways.{Set, Way, Open}
use Rattle.plans.specs.declared.Sums.{Sums}
use Rattle.plans.specs.Limited.{at_limit, Takes, TakesOrNone}
use Rattle.plans.specs.Limits.{IsLimit, limits, Among, Ascending}
use Rattle.plans.specs.declared.Plan.{Plan}
use Rattle.plans.specs.Plan.{plan_at, better, consider, best_plan, planned, planned_way}
use Rattle.plans.specs.Planned.{PlansOrNone, PlannedRight}
use Rattle.ways.specs.Sums.{chain_of}
use Rattle.plans.specs.Scores.{score, score_of}
use Rattle.plans.proofs.Chains.{chains_right}
use Rattle.plans.proofs.Limited.{taken_right}
use Rattle.plans.proofs.Limits.{limits_right}

-- p comes before q: its score is no greater, and less if its limit is greater
abbrev pub Sooner : Plan → Plan → Type 0
Sooner p q = (p.score ≤ q.score) × (q.limit < p.limit → p.score < q.score)

sooner_self : (p : Plan) → Sooner p p
sooner_self p = (le_refl _, λ l. absurd (omega arith))

sooner_still : (p q r : Plan) → Sooner p q → Sooner q r → Sooner p r
sooner_still p q r a b = (
  le_trans a.0 b.0,
  λ l. elim (cases_lt q.limit p.limit) [
    | inl h ↦ omega (arith, a.1 h, b.0)
    | inr h ↦ omega (arith, a.0, b.1 (omega arith))
  ],
)

-- a plan is there, and comes before q
abbrev NotAfter : Option Plan → Plan → Type 0
NotAfter None q = ⊥
NotAfter (Some p) q = Sooner p q

-- the best so far is of a smaller limit than those to come
abbrev Ahead : Option Plan → List ℕ → Type 0
Ahead None ls = Unit {0}
Ahead (Some p) ls = (l : ℕ) → Among l ls → p.limit < l

-- the better of p and the best so far, which is of a smaller limit
pub record Improves (p : Plan) (best best_now : Option Plan) : Type 0 where
  pub arrives : NotAfter best_now p
  pub keeps : (q : Plan) → NotAfter best q → NotAfter best_now q
  pub ahead : (ls : List ℕ) → ((l : ℕ) → Among l ls → p.limit < l) → Ahead best ls → Ahead best_now ls

improves : (p : Plan) (best : Option Plan) → ((q : Plan) → best ≡ Some q → q.limit < p.limit) → Improves p best (better p best)
improves p None h = record { arrives = sooner_self p; keeps = λ q a. absurd a; ahead = λ ls a b. a }
improves p (Some b) h = go (ltb p.score b.score) refl
  where
    go : (t : Bool) → ltb p.score b.score ≡ t → Improves p (Some b) (Some (cond t p b))
    go true e =
        let l = ltb-true p.score b.score e in
        record { arrives = sooner_self p; keeps = λ q a. sooner_still p b q (omega arith, λ k. l) a; ahead = λ ls a c. a }
    go false e =
        let l = ltb-false p.score b.score e in
        let k = h b refl in
        record { arrives = (l, λ i. absurd (omega arith)); keeps = λ q a. a; ahead = λ ls a c. c }

better_from : (p : Plan) (best : Option Plan) (q : Plan) → better p best ≡ Some q → (best ≡ Some q) ⊎ (q ≡ p)
better_from p None q e = inr (cc)
better_from p (Some b) q e = go (ltb p.score b.score) e
  where
    go : (t : Bool) → Some (cond t p b) ≡ Some q → (Some b ≡ Some q) ⊎ (q ≡ p)
    go true e = inr (cc)
    go false e = inl e

module _ (benches : ℕ) (ss : List Step) where
  improved : (l : ℕ) (ls : List ℕ) (r : Sums) (best : Option Plan) → Ahead best (l ∷ ls) → Improves (plan_at benches l r) best (better (plan_at benches l r) best)
  improved l ls r best a = improves (plan_at benches l r) best (λ q e. subst (λ b. Ahead b (l ∷ ls)) e a l (inl refl))

  considered_ahead : (l : ℕ) (ls : List ℕ) (o : Option Sums) (best : Option Plan) → ((k : ℕ) → Among k ls → l < k) → Ahead best (l ∷ ls) → Ahead (consider benches l o best) ls
  considered_ahead l ls None None h a = tt
  considered_ahead l ls None (Some p) h a = λ k i. a k (inr i)
  considered_ahead l ls (Some r) None h a = h
  considered_ahead l ls (Some r) (Some p) h a = (improved l ls r (Some p) a).ahead ls h (λ k i. a k (inr i))

  considered_keeps : (l : ℕ) (ls : List ℕ) (o : Option Sums) (best : Option Plan) → Ahead best (l ∷ ls) → (q : Plan) → NotAfter best q → NotAfter (consider benches l o best) q
  considered_keeps l ls None best a q h = h
  considered_keeps l ls (Some r) best a q h = (improved l ls r best a).keeps q h

  -- what is not after the best so far is not after the best of all
  best_keeps : (ls : List ℕ) (best : Option Plan) → Ascending ls → Ahead best ls → (q : Plan) → NotAfter best q → NotAfter (best_plan benches ss best ls) q
  best_keeps [] best up a q h = h
  best_keeps (l ∷ ls) best up a q h =
      best_keeps ls (consider benches l (at_limit l ss) best) up.1 (considered_ahead l ls (at_limit l ss) best up.0 a) q (considered_keeps l ls (at_limit l ss) best a q h)

  best_first : (ls : List ℕ) (best : Option Plan) → Ascending ls → Ahead best ls → (l : ℕ) (r : Sums) → Among l ls → at_limit l ss ≡ Some r → NotAfter (best_plan benches ss best ls) (plan_at benches l r)
  best_first [] best up a l r i e = absurd i
  best_first (k ∷ ls) best up a l r (inl q) e =
      best_keeps ls (consider benches k (at_limit k ss) best) up.1 (considered_ahead k ls (at_limit k ss) best up.0 a) (plan_at benches l r)
      (rw (← q, e) (improved l ls r best (rw q a)).arrives)
  best_first (k ∷ ls) best up a l r (inr i) e =
      best_first ls (consider benches k (at_limit k ss) best) up.1 (considered_ahead k ls (at_limit k ss) best up.0 a) l r i e

  -- what a plan comes from
  pub record From (ls : List ℕ) (p : Plan) : Type 0 where
    pub sums : Sums
    pub listed : Among p.limit ls
    pub there : at_limit p.limit ss ≡ Some sums
    pub scored : p.score ≡ score benches sums.work sums.long

  considered_from : (l : ℕ) (o : Option Sums) (best : Option Plan) (p : Plan) → consider benches l o best ≡ Some p → (best ≡ Some p) ⊎ ((r : Sums) × (o ≡ Some r) × (p ≡ plan_at benches l r))
  considered_from l None best p e = inl e
  considered_from l (Some r) best p e = elim (better_from (plan_at benches l r) best p e) [ inl h ↦ inl h | inr h ↦ inr (r, refl, h) ]

  best_from : (ls : List ℕ) (best : Option Plan) (p : Plan) → best_plan benches ss best ls ≡ Some p → (best ≡ Some p) ⊎ From ls p
  best_from [] best p e = inl e
  best_from (l ∷ ls) best p e = elim (best_from ls (consider benches l (at_limit l ss) best) p e) [
    | inl h ↦ elim (considered_from l (at_limit l ss) best p h) [
      | inl b ↦ inl b
      | inr g ↦ inr (subst (From (l ∷ ls)) (sym g.2) (record { sums = g.0; listed = inl refl; there = g.1; scored = refl }))
    ]
    | inr f ↦ inr (record { sums = f.sums; listed = inr f.listed; there = f.there; scored = f.scored })
  ]

  pub planned_from : (p : Plan) → planned benches ss ≡ Some p → From (limits ss) p
  planned_from p e = elim (best_from (limits ss) None p e) [ inl z ↦ clash (cc) | inr f ↦ f ]

  module _ (lower_targets : Descending ss) where
    planned_first : (l : ℕ) (r : Sums) → IsLimit ss l → at_limit l ss ≡ Some r → NotAfter (planned benches ss) (plan_at benches l r)
    planned_first l r i e = let ls = limits_right ss lower_targets in best_first (limits ss) None ls.ascending tt l r (ls.every l i) e

    -- no limit has a way of a lower score, and no smaller limit one of the same
    pub soonest : (p : Plan) → planned benches ss ≡ Some p → (l : ℕ) (r : Sums) → IsLimit ss l → at_limit l ss ≡ Some r → Sooner p (plan_at benches l r)
    soonest p e l r i h = subst (λ x. NotAfter x (plan_at benches l r)) e (planned_first l r i h)

    planned_takes : (p : Plan) (f : From (limits ss) p) → Takes p.limit ss (planned_way ss p) f.sums
    planned_takes p f = subst (TakesOrNone p.limit ss) f.there (taken_right p.limit ss lower_targets (omega (arith, ((limits_right ss lower_targets).only p.limit f.listed).1)))

    pub planned_scores : (p : Plan) (f : From (limits ss) p) → score_of benches ss (planned_way ss p) ≡ p.score
    planned_scores p f = let t = planned_takes p f in ap₂ (score benches) t.work t.long ∙ sym f.scored

    scores : (a b c d : ℕ) → a ≤ c → b ≤ d → score benches a b ≤ score benches c d
    scores a b c d x y = let h = mul-le-mul_left (benches - 1) y in omega arith

    -- what is taken at the limit that is the chain of an open way has no greater score
    taken_first : (w : Set) → Way ss w → Open ss w → (r : Sums) × (at_limit (chain_of ss w) ss ≡ Some r) × (score benches r.work r.long ≤ score_of benches ss w)
    taken_first w way o = go (at_limit (chain_of ss w) ss) refl (taken_right (chain_of ss w) ss lower_targets (way.within 0 way.holds))
      where
        go : (u : Option Sums) → at_limit (chain_of ss w) ss ≡ u → TakesOrNone (chain_of ss w) ss u → (r : Sums) × (at_limit (chain_of ss w) ss ≡ Some r) × (score benches r.work r.long ≤ score_of benches ss w)
        go None e t = absurd (t w way o (le_refl _))
        go (Some r) e t = (r, e, scores r.work r.long _ _ (rw (← t.work) (t.fewest w way o (le_refl _))) (rw (← t.long) t.within))

    -- a plan is there, and its score is at most that of any open way
    abbrev AtMost : Option Plan → ℕ → Type 0
    AtMost None n = ⊥
    AtMost (Some p) n = p.score ≤ n

    at_most : (o : Option Plan) (q : Plan) (n : ℕ) → NotAfter o q → q.score ≤ n → AtMost o n
    at_most None q n h l = h
    at_most (Some p) q n h l = le_trans h.0 l

    none_below : (o : Option Plan) → planned benches ss ≡ o → (w : Set) → Way ss w → Open ss w → AtMost o (score_of benches ss w)
    none_below o e w way is_open =
        let t = taken_first w way is_open in
        subst (λ x. AtMost x (score_of benches ss w)) e
        (at_most (planned benches ss) (plan_at benches (chain_of ss w) t.0) (score_of benches ss w) (planned_first (chain_of ss w) t.0 ((chains_right ss lower_targets w way).1 is_open) t.1) t.2)

    plans_or_none : (o : Option Plan) → planned benches ss ≡ o → PlansOrNone benches ss o
    plans_or_none None e = none_below None e
    plans_or_none (Some p) e =
        let f = planned_from p e in
        let t = planned_takes p f in
        let same = planned_scores p f in
        record {
          way = t.way;
          is_open = t.is_open;
          scores = same;
          none_less = none_below (Some p) e;
          exactly = λ w way o. (
            λ q v x y. omega (arith, q, none_below (Some p) e v x y),
            λ h. omega (arith, none_below (Some p) e w way o, h (planned_way ss p) t.way t.is_open, same),
          );
        }

pub planned_right : PlannedRight
planned_right benches ss lower_targets = plans_or_none benches ss lower_targets (planned benches ss) refl
