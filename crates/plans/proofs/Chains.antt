-- Tails, and the chain of a way as the greatest path of a leaf on it.
use Rattle.std.proofs.Common.{◌≡◌, ℕ, zero, suc, ◌+◌, ◌<◌, ◌≤◌, max, Bool, true, false, ◌&&◌, eqb, ◌⊎◌, List, [], ◌∷◌, length, drop, sym, refl, ap, ◌∙◌, inl, inr, le_trans, le_refl, arith}
use Rattle.std.proofs.lemmas.Bool.{false≢true, eqb-true, eq-eqb, cases_eq, cases_lt, and_from, and_parts, both_ways}
use Rattle.steps.specs.declared.step.Join.{Join}
use Rattle.steps.specs.declared.step.Join.TheVariants.{And, Or}
use Rattle.steps.specs.declared.step.Step.{Step}
use Rattle.steps.specs.Sheet.{step, Descending}
use Rattle.ways.specs.Figures.{plus, total, figure_line, figures, figure}
use Rattle.ways.specs.Paths.{tail_in, tail}
use Rattle.ways.specs.Sums.{longest, chain_of}
use Rattle.ways.specs.Ways.{Set, Way}
use Rattle.ways.proofs.Suffixes.{none_left, uncons}
use Rattle.plans.specs.Chains.{TailsRight, Longest, ChainsRight}
use Rattle.plans.specs.Leaves.{Leaf}

-- more turns than the number go no further
tail_more : (ss : List Step) → Descending ss → (j f g : ℕ) → j < length ss → j ≤ f → j ≤ g → tail_in ss j f ≡ tail_in ss j g
tail_more ss lower_targets zero f g l a b = refl
tail_more ss lower_targets (suc j) zero g l a b = absurd (omega arith)
tail_more ss lower_targets (suc j) (suc f) zero l a b = absurd (omega arith)
tail_more ss lower_targets (suc j) (suc f) (suc g) l a b =
    let o = lower_targets (suc j) (omega arith) l in
    ap (λ x. (step ss (suc j)).minutes + x) (tail_more ss lower_targets (step ss (suc j)).target f g (omega arith) (omega arith) (omega arith))

pub tails_right : TailsRight
tails_right ss lower_targets = (refl, go)
  where
    go : (j : ℕ) → 0 < j → j < length ss → tail ss j ≡ (step ss j).minutes + tail ss (step ss j).target
    go zero p l = absurd (omega arith)
    go (suc j) p l =
        let o = lower_targets (suc j) p l in
        ap (λ x. (step ss (suc j)).minutes + x) (tail_more ss lower_targets (step ss (suc j)).target j (step ss (suc j)).target (omega arith) (omega arith) (le_refl _))

-- what the feeders of i on the way come to
abbrev fed : List Step → Set → ℕ → ℕ
fed ss w i = total longest w i (suc i) (figures longest w (suc i) (drop (suc i) ss))

-- the greatest path through i
abbrev reach : List Step → Set → ℕ → ℕ
reach ss w i = tail ss i + fed ss w i

module _ (sheet : List Step) (w : Set) (i : ℕ) where
  plus_here : (c : Bool) (f acc : ℕ) → c ≡ true → f ≤ plus longest c f acc
  plus_here true f acc e = omega arith
  plus_here false f acc e = absurd (false≢true e)

  plus_there : (c : Bool) (f acc x : ℕ) → x ≤ acc → x ≤ plus longest c f acc
  plus_there true f acc x h = omega arith
  plus_there false f acc x h = h

  -- no feeder's chain is above what they come to
  total_above : (j : ℕ) (ss : List Step) → drop j sheet ≡ ss → (k : ℕ) → j ≤ k → k < length sheet → (step sheet k).target ≡ i → w k ≡ true → figure longest sheet w k ≤ total longest w i j (figures longest w j ss)
  total_above j [] e k a b t h = absurd (none_left sheet j k e a b)
  total_above j (s ∷ ss) e k a b t h =
      let u = uncons sheet j s ss e in
      elim (cases_eq j k) [
        | inl q ↦
            let c : (eqb s.target i && w j) ≡ true = and_from _ _ (eq-eqb s.target i (rw (← q, u.1) at t)) (rw q h) in
            rw (← q, u.1, u.2) (plus_here (eqb s.target i && w j) _ _ c)
        | inr q ↦ plus_there (eqb s.target i && w j) _ _ _ (total_above (suc j) ss u.2 k (omega arith) b t h)
      ]

  -- there is no feeder on the way from j on, or one of them has all that they come to
  abbrev NoneOn : ℕ → Type 0
  NoneOn j = (k : ℕ) → j ≤ k → k < length sheet → (step sheet k).target ≡ i → w k ≡ true → ⊥

  abbrev OneOn : ℕ → ℕ → Type 0
  OneOn j x = (k : ℕ) × (j ≤ k) × (k < length sheet) × ((step sheet k).target ≡ i) × (w k ≡ true) × (figure longest sheet w k ≡ x)

  total_from : (j : ℕ) (ss : List Step) → drop j sheet ≡ ss → ((total longest w i j (figures longest w j ss) ≡ 0) × NoneOn j) ⊎ OneOn j (total longest w i j (figures longest w j ss))
  total_from j [] e = inl (refl, λ k a b t h. none_left sheet j k e a b)
  total_from j (s ∷ ss) e =
      let u = uncons sheet j s ss e in
      go u (eqb s.target i && w j) refl (total_from (suc j) ss u.2)
    where
      f : ℕ
      f = (figure_line longest w j s (figures longest w (suc j) ss)).entry

      acc : ℕ
      acc = total longest w i (suc j) (figures longest w (suc j) ss)

      go : (j < length sheet) × (step sheet j ≡ s) × (drop (suc j) sheet ≡ ss) → (c : Bool) → (eqb s.target i && w j) ≡ c → ((acc ≡ 0) × NoneOn (suc j)) ⊎ OneOn (suc j) acc → ((plus longest c f acc ≡ 0) × NoneOn j) ⊎ OneOn j (plus longest c f acc)
      go u true c h = let p = and_parts _ _ c in elim (cases_lt acc (suc f)) [
        | inl l ↦ inr (j, le_refl j, u.0, ap (λ (x : Step). x.target) u.1 ∙ eqb-true s.target i p.0, p.1, rw (u.1, u.2) (let z : f ≡ max f acc = omega arith in z))
        | inr l ↦ elim h [
          | inl z ↦ absurd (omega (arith, z.0))
          | inr o ↦ inr (o.0, omega (arith, o.1), o.2, o.3, o.4, o.5 ∙ (let z : acc ≡ max f acc = omega arith in z))
        ]
      ]
      go u false c (inl z) = inl (
        z.0,
        λ k a b t v. elim (cases_eq j k) [
          | inl q ↦ both_ways _ c (and_from _ _ (eq-eqb s.target i (rw (← q, u.1) at t)) (rw q v))
          | inr q ↦ z.1 k (omega arith) b t v
        ],
      )
      go u false c (inr o) = inr (o.0, omega (arith, o.1), o.2, o.3, o.4, o.5)

module _ (sheet : List Step) (lower_targets : Descending sheet) (w : Set) (way : Way sheet w) where
  -- a feeder's reach: the tail of its target, and the chain to it
  reach_is : (j : ℕ) → 0 < j → j < length sheet → reach sheet w j ≡ tail sheet (step sheet j).target + figure longest sheet w j
  reach_is j p l = let t = (tails_right sheet lower_targets).1 j p l in omega arith

  climb : (f j : ℕ) → j ≤ f → w j ≡ true → reach sheet w j ≤ reach sheet w 0
  climb f zero a h = le_refl _
  climb zero (suc j) a h = absurd (omega arith)
  climb (suc f) (suc j) a h =
      let l = way.within (suc j) h in
      let i = (step sheet (suc j)).target in
      let o = lower_targets (suc j) (omega arith) l in
      let r = reach_is (suc j) (omega arith) l in
      let t = total_above sheet w i (suc i) (drop (suc i) sheet) refl (suc j) o l refl h in
      le_trans (let z : reach sheet w (suc j) ≤ reach sheet w i = omega arith in z) (climb f i (omega arith) (way.led (suc j) h (λ z. omega arith)).1)

  -- a member without feeders on the way is a leaf
  ends : (i : ℕ) → w i ≡ true → NoneOn sheet w i (suc i) → Leaf sheet i
  ends i h n = go (step sheet i).join refl
    where
      go : (k : Join) → (step sheet i).join ≡ k → Leaf sheet i
      go And e = (e, λ k f. n k (omega (arith, lower_targets k f.0 f.1, f.2)) f.1 f.2 (way.every i h e k f))
      go Or e =
          let o = way.one i h e in
          let f = o.1 in
          absurd (n o.0 (omega (arith, lower_targets o.0 f.0 f.1, f.2)) f.1 f.2 o.2)

  descend : (f i : ℕ) → length sheet ≤ i + f → w i ≡ true → (l : ℕ) × (w l ≡ true) × Leaf sheet l × (tail sheet l ≡ reach sheet w i)
  descend zero i a h = absurd (omega (arith, way.within i h))
  descend (suc f) i a h = elim (total_from sheet w i (suc i) (drop (suc i) sheet) refl) [
    | inl n ↦ (i, h, ends i h n.1, omega (arith, n.0))
    | inr o ↦
        let k = o.0 in
        let r = reach_is k (omega (arith, o.1)) o.2 in
        let d = descend f k (omega (arith, o.1)) o.4 in
        let t : tail sheet (step sheet k).target ≡ tail sheet i = ap (tail sheet) o.3 in
        (d.0, d.1, d.2, omega (arith, d.3, r, t, o.5))
  ]

  whole : chain_of sheet w ≡ reach sheet w 0
  whole = omega arith

  pub longest_path : Longest sheet w
  longest_path =
      let d = descend (length sheet) 0 (omega arith) way.holds in
      record {
        above = λ j h. let c = climb j j (le_refl j) h in omega (arith, whole);
        leaf = d.0;
        on_way = d.1;
        is_leaf = d.2;
        attains = d.3 ∙ sym whole;
      }

pub chains_right : ChainsRight
chains_right ss lower_targets w way =
    let g = longest_path ss lower_targets w way in
    (g, λ is_open. (g.leaf, way.within g.leaf g.on_way, g.is_leaf, is_open g.leaf g.on_way, g.attains))
