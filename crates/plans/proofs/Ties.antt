-- At an OR step the way that is taken holds the feeder of the least figure, of the lowest number among equals.
use Rattle.std.proofs.Common.{◌≡◌, ℕ, suc, ◌<◌, ◌≤◌, Bool, true, false, cond, eqb, leb, List, [], ◌∷◌, length, drop, Some, None, Option, sym, refl, ap, subst, inl, inr, le_refl, arith}
use Rattle.std.proofs.lemmas.Bool.{false≢true, eq-eqb, cases_eq, leb-true, leb-false}
use Rattle.steps.proofs.Clashes.{clash}
use Rattle.steps.specs.declared.step.Join.TheVariants.{Or}
use Rattle.steps.specs.declared.step.Step.{Step}
use Rattle.steps.specs.Sheet.{step, Descending}
use Rattle.ways.specs.Least.{lesser, best_of, least_table, least_of}
use Rattle.ways.specs.Measures.{Measure}
use Rattle.ways.specs.Taken.{rest, wins, pick, taken}
use Rattle.ways.specs.Ways.{Feeds}
use Rattle.ways.proofs.Suffixes.{none_left, uncons}
use Rattle.ways.proofs.Upper.{only, the_one}

module _ {A : Type 0} (m : Measure A) (sheet : List Step) (i : ℕ) where
  -- the step k, from j on, is a feeder of i with the figure f
  abbrev Fed : ℕ → ℕ → A → Type 0
  Fed j k f = (j ≤ k) × (k < length sheet) × ((step sheet k).target ≡ i) × (least_of m sheet k ≡ Some f)

  -- of the feeders from j on: none has a figure; or none is below the best, and none of a lower number than c as low
  abbrev First : ℕ → Option A → ℕ → Type 0
  First j None c = (k : ℕ) (f : A) → Fed j k f → ⊥
  First j (Some b) c = (k : ℕ) (f : A) → Fed j k f → (m.key b ≤ m.key f) × (k < c → m.key b < m.key f)

  -- what holds of the feeder j, and of those after it
  from_next : (Q : ℕ → A → Type 0) (j : ℕ) → ((f : A) → Fed j j f → Q j f) → ((k : ℕ) (f : A) → Fed (suc j) k f → Q k f) → (k : ℕ) (f : A) → Fed j k f → Q k f
  from_next Q j here next k f d = elim (cases_eq j k) [
    | inl q ↦ subst (λ x. Q x f) q (here f (le_refl j, rw q d.1, rw q d.2, rw q d.3))
    | inr q ↦ next k f (omega (arith, d.0), d.1, d.2, d.3)
  ]

  skip : (j : ℕ) (p : Option A) (c : ℕ) → ((f : A) → Fed j j f → ⊥) → First (suc j) p c → First j p c
  skip j None c none g = from_next (λ k f. ⊥) j none g
  skip j (Some b) c none g = from_next (λ k f. (m.key b ≤ m.key f) × (k < c → m.key b < m.key f)) j (λ f d. absurd (none f d)) g

  -- t says whether j is a feeder of i, and o is its figure
  step_first : (j : ℕ) (t : Bool) (o p : Option A) (c : ℕ) → ((f : A) → Fed j j f → (t ≡ true) × (o ≡ Some f)) → First (suc j) p c → First j (lesser m t o p) (cond (wins m t o p) j c)
  step_first j false o p c h g = skip j p c (λ f d. false≢true (h f d).0) g
  step_first j true None p c h g = skip j p c (λ f d. let e = (h f d).1 in clash (cc)) g
  step_first j true (Some x) None c h g =
      from_next (λ k f. (m.key x ≤ m.key f) × (k < j → m.key x < m.key f)) j
      (λ f d. let e : Some x ≡ Some f = (h f d).1 in let z : m.key x ≡ m.key f = ap m.key (cc) in (omega arith, λ l. absurd (omega arith)))
      (λ k f d. absurd (g k f d))
  step_first j true (Some x) (Some y) c h g = go (leb (m.key x) (m.key y)) refl
    where
      at_j : (f : A) → Fed j j f → m.key x ≡ m.key f
      at_j f d = let e : Some x ≡ Some f = (h f d).1 in ap m.key (cc)

      go : (v : Bool) → leb (m.key x) (m.key y) ≡ v → First j (Some (cond v x y)) (cond v j c)
      go true e =
          let l = leb-true (m.key x) (m.key y) e in
          from_next (λ k f. (m.key x ≤ m.key f) × (k < j → m.key x < m.key f)) j
          (λ f d. let z = at_j f d in (omega arith, λ l. absurd (omega arith)))
          (λ k f d. let b = g k f d in (omega (arith, b.0), λ l. absurd (omega (arith, d.0))))
      go false e =
          let l = leb-false (m.key x) (m.key y) e in
          from_next (λ k f. (m.key y ≤ m.key f) × (k < c → m.key y < m.key f)) j
          (λ f d. let z = at_j f d in (omega arith, λ i. omega arith))
          g

  first : (j : ℕ) (ss : List Step) → drop j sheet ≡ ss → First j (best_of m i (least_table m j ss)) (pick m i j (least_table m j ss))
  first j [] e = λ k f d. none_left sheet j k e d.0 d.1
  first j (s ∷ ss) e =
      let t = uncons sheet j s ss e in
      step_first j (eqb s.target i) _ _ _ (λ f d. (eq-eqb s.target i (rw t.1 at d.2), rw (t.1, t.2) at d.3)) (first (suc j) ss t.2)

pub least_feeder : {A : Type 0} (m : Measure A) (sheet : List Step) → Descending sheet → (root : ℕ) → root < length sheet → (r : A) → least_of m sheet root ≡ Some r →
    (i k : ℕ) → taken m sheet root i ≡ true → (step sheet i).join ≡ Or → Feeds sheet k i → taken m sheet root k ≡ true →
    (b : A) × (least_of m sheet k ≡ Some b) × ((j : ℕ) (f : A) → Feeds sheet j i → least_of m sheet j ≡ Some f → (m.key b ≤ m.key f) × (j < k → m.key b < m.key f))
least_feeder m sheet lower_targets root inside r there i k on or fed kept =
    let g = the_one m sheet lower_targets root inside r there i on or in
    let c = pick m i (suc i) (rest m sheet i) in
    let q : k ≡ c = only m sheet lower_targets root inside r there i on or k fed kept in
    let h : First m sheet i (suc i) (Some g.0) c = subst (λ o. First m sheet i (suc i) o c) g.1 (first m sheet i (suc i) (drop (suc i) sheet) refl) in
    (g.0, subst (λ x. least_of m sheet x ≡ Some g.0) (sym q) g.2.3, λ j f d e. let b = h j f (omega (arith, lower_targets j d.0 d.1, d.2), d.1, d.2, e) in (b.0, λ l. b.1 (omega arith)))
