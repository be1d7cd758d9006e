-- Where a step has a least figure, an open way of it has that figure: the one that is taken.
use Rattle.std.proofs.Common.{◌≡◌, ℕ, zero, suc, ◌<◌, ◌≤◌, Bool, true, false, cond, ◌&&◌, ◌||◌, eqb, ltb, leb, List, [], ◌∷◌, length, drop, Some, None, Option, sym, refl, ap, ◌∙◌, ap₂, inl, inr, le_refl, arith}
use Rattle.std.specs.Option.{option_map}
use Rattle.std.proofs.lemmas.List.{get_or_past}
use Rattle.std.proofs.lemmas.Bool.{false≢true, eqb-true, eq-eqb, ne_eqb, cases_eq, cases_lt, and_from, and_parts, or_cases, or_left, ltb-true, lt-ltb, cond-true, cond-false}
use Rattle.steps.proofs.Clashes.{clash}
use Rattle.steps.specs.Sheet.{step, blank, Descending}
use Rattle.steps.specs.declared.step.Join.{Join}
use Rattle.steps.specs.declared.step.Join.TheVariants.{And, Or}
use Rattle.steps.specs.declared.step.Step.{Step}
use Rattle.ways.proofs.Suffixes.{Each, uncons, each_from, each_at}
use Rattle.ways.specs.Measures.{Measure}
use Rattle.ways.specs.Figures.{facts, plus, total, figure_line, figures, figure}
use Rattle.ways.specs.Least.{plus_all, all_of, lesser, best_of, by_join, unless_closed, least_line, least_table, least_of}
use Rattle.ways.specs.Taken.{rest, wins, pick, chosen, comes, reached, taken}
use Rattle.ways.specs.Ways.{Set, Feeds, WayOf, Open}
use Rattle.ways.proofs.Counts.{bump, count}
use Rattle.ways.proofs.Lower.{AllIn, zero_total, count_one}

-- What a Some says

opened : {A : Type 0} (b : Bool) (o : Option A) (q : A) → unless_closed b o ≡ Some q → (b ≡ false) × (o ≡ Some q)
opened true o q e = clash (cc)
opened false o q e = (refl, e)

unmapped : {A : Type 0} (f : A → A) (o : Option A) (q : A) → option_map f o ≡ Some q → (a : A) × (o ≡ Some a) × (f a ≡ q)
unmapped f None q e = clash (cc)
unmapped f (Some a) q e = (a, refl, (cc))

all_parts : {A : Type 0} (m : Measure A) (b : Bool) (o p : Option A) (a : A) → plus_all m b o p ≡ Some a → (b ≡ true → (q : A) × (o ≡ Some q)) × ((q : A) × (p ≡ Some q))
all_parts m false o p a e = (λ h. absurd (false≢true h), (a, e))
all_parts m true None p a e = clash (cc)
all_parts m true (Some f) None a e = clash (cc)
all_parts m true (Some f) (Some g) a e = (λ h. (f, refl), (g, refl))

all_some : {A : Type 0} (m : Measure A) (i j : ℕ) (ss : List Step) (a : A) → all_of m i (least_table m j ss) ≡ Some a → Each (λ k u us. eqb u.target i ≡ true → (q : A) × ((least_line m k u (least_table m (suc k) us)).entry ≡ Some q)) j ss
all_some m i j [] a e = tt
all_some m i j (s ∷ ss) a e =
    let p = all_parts m (eqb s.target i) _ _ a e in
    (p.0, all_some m i (suc j) ss p.1.0 p.1.1)

-- Where the way holds just what the table took, its figures are the table's.

abbrev LineExact : {A : Type 0} → Measure A → Set → ℕ → Step → List Step → Type 0
LineExact {A} m w k u us = (q : A) → w k ≡ true → (least_line m k u (least_table m (suc k) us)).entry ≡ Some q → (figure_line m w k u (figures m w (suc k) us)).entry ≡ q

all_exact_step : {A : Type 0} (m : Measure A) (b c : Bool) → (b ≡ true → c ≡ true) → (o p : Option A) (f g a : A) → ((q : A) → c ≡ true → o ≡ Some q → f ≡ q) → ((q : A) → p ≡ Some q → g ≡ q) → plus_all m b o p ≡ Some a → plus m (b && c) f g ≡ a
all_exact_step m false c h o p f g a x y e = y a e
all_exact_step m true false h o p f g a x y e = absurd (false≢true (h refl))
all_exact_step m true true h None p f g a x y e = clash (cc)
all_exact_step m true true h (Some o) None f g a x y e = clash (cc)
all_exact_step m true true h (Some o) (Some p) f g a x y e = let u = x o refl refl in let v = y p refl in cc

all_exact : {A : Type 0} (m : Measure A) (w : Set) (i j : ℕ) (ss : List Step) → AllIn w i j ss → Each (LineExact m w) j ss → (a : A) → all_of m i (least_table m j ss) ≡ Some a → total m w i j (figures m w j ss) ≡ a
all_exact m w i j [] h x a e = cc
all_exact m w i j (s ∷ ss) h x a e =
    all_exact_step m (eqb s.target i) (w j) h.0 _ _ _ _ a x.0 (all_exact m w i (suc j) ss h.1 x.1) e

one_exact : {A : Type 0} (m : Measure A) (w : Set) (i : ℕ) (b : A) (j : ℕ) (ss : List Step) → count w i j ss ≡ 1 → Each (LineExact m w) j ss → Each (λ k u us. eqb u.target i ≡ true → w k ≡ true → (least_line m k u (least_table m (suc k) us)).entry ≡ Some b) j ss → total m w i j (figures m w j ss) ≡ m.joins b m.empty
one_exact m w i b j [] e x h = absurd (omega arith)
one_exact m w i b j (s ∷ ss) e x h = go (eqb s.target i && w j) refl e (λ d. one_exact m w i b (suc j) ss d x.1 h.1)
  where
    go : (t : Bool) → (eqb s.target i && w j) ≡ t → bump t (count w i (suc j) ss) ≡ 1 → (count w i (suc j) ss ≡ 1 → total m w i (suc j) (figures m w (suc j) ss) ≡ m.joins b m.empty) → plus m t (figure_line m w j s (figures m w (suc j) ss)).entry (total m w i (suc j) (figures m w (suc j) ss)) ≡ m.joins b m.empty
    go true t e y = let p = and_parts _ _ t in ap₂ m.joins (x.0 b p.1 (h.0 p.0 p.1)) (zero_total m w i (suc j) ss (omega arith))
    go false t e y = y e

module _ {A : Type 0} (m : Measure A) (sheet : List Step) where
  -- the step c, from j on, is a feeder of i with the entry b
  abbrev Good : ℕ → A → ℕ → ℕ → Type 0
  Good i b j c = (j ≤ c) × (c < length sheet) × ((step sheet c).target ≡ i) × (least_of m sheet c ≡ Some b)

  good_step : (i : ℕ) (b : A) (j : ℕ) (t : Bool) (o p : Option A) (c : ℕ) → ((f : A) → t ≡ true → o ≡ Some f → Good i f j j) → (p ≡ Some b → Good i b (suc j) c) → lesser m t o p ≡ Some b → Good i b j (cond (wins m t o p) j c)
  good_step i b j false o p c f g e = let h = g e in (omega arith, h.1, h.2, h.3)
  good_step i b j true None p c f g e = let h = g e in (omega arith, h.1, h.2, h.3)
  good_step i b j true (Some x) None c f g e = let q : x ≡ b = cc in f b refl (ap Some q)
  good_step i b j true (Some x) (Some y) c f g e = go (leb (m.key x) (m.key y)) refl
    where
      go : (v : Bool) → leb (m.key x) (m.key y) ≡ v → Good i b j (cond v j c)
      go true l = f b refl (let q : cond (leb (m.key x) (m.key y)) x y ≡ x = cond-true _ x y l in cc)
      go false l = let q : cond (leb (m.key x) (m.key y)) x y ≡ y = cond-false _ x y l in let k = g (cc) in (omega (arith, k.0), k.1, k.2, k.3)

  pub pick_right : (i : ℕ) (b : A) (j : ℕ) (ss : List Step) → drop j sheet ≡ ss → best_of m i (least_table m j ss) ≡ Some b → Good i b j (pick m i j (least_table m j ss))
  pick_right i b j [] e h = clash (cc)
  pick_right i b j (s ∷ ss) e h =
      let t = uncons sheet j s ss e in
      good_step i b j (eqb s.target i) _ _ _
      (λ f x y. (le_refl j, t.0, ap (λ (v : Step). v.target) t.1 ∙ eqb-true s.target i x, rw (t.1, t.2) y))
      (pick_right i b (suc j) ss t.2)
      h

  module _ (lower_targets : Descending sheet) (root : ℕ) where
    low : (j : ℕ) → 0 < j → (step sheet j).target < j
    low j p = elim (cases_lt j (length sheet)) [
      | inl l ↦ lower_targets j p l
      | inr l ↦ rw (get_or_past sheet j blank l) p
    ]

    -- more turns than the number reach no further
    reached_more : (f g j : ℕ) → j ≤ f → j ≤ g → reached m sheet root f j ≡ reached m sheet root g j
    reached_more f g zero a b = at_zero f ∙ sym (at_zero g)
      where
        or_none : (b : Bool) → (b || false) ≡ b
        or_none true = refl
        or_none false = refl

        at_zero : (f : ℕ) → reached m sheet root f 0 ≡ eqb 0 root
        at_zero zero = refl
        at_zero (suc f) = or_none (eqb 0 root)
    reached_more zero g (suc j) a b = absurd (omega arith)
    reached_more (suc f) zero (suc j) a b = absurd (omega arith)
    reached_more (suc f) (suc g) (suc j) a b =
        let l = low (suc j) (omega arith) in
        ap (λ x. eqb (suc j) root || (ltb 0 (suc j) && (x && comes m sheet (step sheet (suc j)).target (suc j)))) (reached_more f g (step sheet (suc j)).target (omega arith) (omega arith))

    pub rule : (j : ℕ) → 0 < j → (j ≡ root → ⊥) → taken m sheet root j ≡ (taken m sheet root (step sheet j).target && comes m sheet (step sheet j).target j)
    rule zero p n = absurd (omega arith)
    rule (suc j) p n =
        let t = (step sheet (suc j)).target in
        let l = low (suc j) p in
        let more = reached m sheet root j t && comes m sheet t (suc j) in
        ap (λ x. x || (ltb 0 (suc j) && more)) (ne_eqb (suc j) root n)
        ∙ ap (λ x. x && more) (lt-ltb 0 (suc j) p)
        ∙ ap (λ x. x && comes m sheet t (suc j)) (reached_more j t t (omega arith) (le_refl _))

    pub root_in : taken m sheet root root ≡ true
    root_in = at root
      where
        at : (f : ℕ) → reached m sheet root f root ≡ true
        at zero = eq-eqb root root refl
        at (suc f) = or_left _ _ (eq-eqb root root refl)

    -- nothing below the root is taken
    not_below : (f j : ℕ) → reached m sheet root f j ≡ true → root ≤ j
    not_below zero j e = omega (arith, eqb-true j root e)
    not_below (suc f) j e =
        elim (or_cases _ _ e) [
          | inl h ↦ omega (arith, eqb-true j root h)
          | inr h ↦
              let a = and_parts _ _ h in
              let b = and_parts _ _ a.1 in
              omega (arith, not_below f (step sheet j).target b.0, low j (ltb-true 0 j a.0))
        ]

    -- what a member but the root has
    pub record Member (j : ℕ) : Type 0 where
      pub above : 0 < j
      pub within : j < length sheet
      pub led : taken m sheet root (step sheet j).target ≡ true
      pub kept : chosen (step sheet (step sheet j).target).join (eqb j (pick m (step sheet j).target (suc (step sheet j).target) (rest m sheet (step sheet j).target))) ≡ true

    pub member : (j : ℕ) → (j ≡ root → ⊥) → taken m sheet root j ≡ true → Member j
    member zero n on = absurd (n (eqb-true 0 root on))
    member (suc j) n on =
        let a = and_parts _ _ (sym (rule (suc j) (omega arith) n) ∙ on) in
        let b = and_parts _ _ a.1 in
        record { above = omega arith; within = ltb-true (suc j) (length sheet) b.0; led = a.0; kept = b.1 }

    joins_in : (i j : ℕ) → 0 < j → j < length sheet → (step sheet j).target ≡ i → taken m sheet root i ≡ true → chosen (step sheet i).join (eqb j (pick m i (suc i) (rest m sheet i))) ≡ true → taken m sheet root j ≡ true
    joins_in i j p l t on k =
        elim (cases_eq j root) [
          | inl e ↦ rw e root_in
          | inr n ↦ rule j p n ∙ and_from _ _ (rw t on) (and_from _ _ (lt-ltb j (length sheet) l) (rw t k))
        ]

    -- a step with an entry is not closed, and its feeders that come along have entries
    feeder_some : (i j : ℕ) (q : A) → i < j → j < length sheet → (step sheet j).target ≡ i → least_of m sheet i ≡ Some q → chosen (step sheet i).join (eqb j (pick m i (suc i) (rest m sheet i))) ≡ true → (r : A) × (least_of m sheet j ≡ Some r)
    feeder_some i j q a l t e k =
        let o = opened (step sheet i).closed _ q e in
        let u = unmapped (m.grows (facts i (step sheet i))) _ q o.1 in
        go (step sheet i).join u.0 u.1 k
      where
        go : (n : Join) (x : A) → by_join m n i (rest m sheet i) ≡ Some x → chosen n (eqb j (pick m i (suc i) (rest m sheet i))) ≡ true → (r : A) × (least_of m sheet j ≡ Some r)
        go And x h k =
            each_at sheet (λ k u us. eqb u.target i ≡ true → (q : A) × ((least_line m k u (least_table m (suc k) us)).entry ≡ Some q)) (suc i) (drop (suc i) sheet) refl
            (all_some m i (suc i) (drop (suc i) sheet) x h) j a l (eq-eqb (step sheet j).target i t)
        go Or x h k =
            let b = unmapped (λ f. m.joins f m.empty) _ x h in
            let g = pick_right i b.0 (suc i) (drop (suc i) sheet) refl b.1 in
            let s : j ≡ pick m i (suc i) (rest m sheet i) = eqb-true j (pick m i (suc i) (rest m sheet i)) k in
            (b.0, rw s g.3)

    module _ (inside : root < length sheet) (r : A) (there : least_of m sheet root ≡ Some r) where
      some_reached : (f j : ℕ) → reached m sheet root f j ≡ true → (q : A) × (least_of m sheet j ≡ Some q)
      some_reached zero j e = (r, rw (eqb-true j root e) there)
      some_reached (suc f) j e =
          elim (or_cases _ _ e) [
            | inl h ↦ (r, rw (eqb-true j root h) there)
            | inr h ↦
                let a = and_parts _ _ h in
                let b = and_parts _ _ a.1 in
                let c = and_parts _ _ b.1 in
                let u = some_reached f (step sheet j).target b.0 in
                feeder_some (step sheet j).target j u.0 (low j (ltb-true 0 j a.0)) (ltb-true j (length sheet) c.0) refl u.1 c.1
          ]

      some_at : (j : ℕ) → taken m sheet root j ≡ true → (q : A) × (least_of m sheet j ≡ Some q)
      some_at j = some_reached j j

      pub taken_open : Open sheet (taken m sheet root)
      taken_open i on = let s = some_at i on in (opened (step sheet i).closed _ s.0 s.1).0

      -- the feeder that comes along with an Or step
      pub the_one : (i : ℕ) → taken m sheet root i ≡ true → (step sheet i).join ≡ Or → (b : A) × (best_of m i (rest m sheet i) ≡ Some b) × Good i b (suc i) (pick m i (suc i) (rest m sheet i))
      the_one i on e =
          let s = some_at i on in
          let o = opened (step sheet i).closed _ s.0 s.1 in
          let u = unmapped (m.grows (facts i (step sheet i))) _ s.0 o.1 in
          let v : by_join m Or i (rest m sheet i) ≡ Some u.0 = ap (λ k. by_join m k i (rest m sheet i)) (sym e) ∙ u.1 in
          let b = unmapped (λ f. m.joins f m.empty) _ u.0 v in
          (b.0, b.1, pick_right i b.0 (suc i) (drop (suc i) sheet) refl b.1)

      chosen_in : (i : ℕ) → taken m sheet root i ≡ true → (step sheet i).join ≡ Or → taken m sheet root (pick m i (suc i) (rest m sheet i)) ≡ true
      chosen_in i on e =
          let g = (the_one i on e).2 in
          let c = pick m i (suc i) (rest m sheet i) in
          joins_in i c (omega (arith, g.0)) g.1 g.2 on (rw e (eq-eqb c c refl))

      pub only : (i : ℕ) → taken m sheet root i ≡ true → (step sheet i).join ≡ Or → (k : ℕ) → Feeds sheet k i → taken m sheet root k ≡ true → k ≡ pick m i (suc i) (rest m sheet i)
      only i on e k f h =
          let n : k ≡ root → ⊥ = λ z. omega (arith, not_below i i on, low k f.0, f.2) in
          let p = member k n h in
          eqb-true k (pick m i (suc i) (rest m sheet i)) (rw (f.2, e) at p.kept)

      pub taken_way : WayOf sheet root (taken m sheet root)
      taken_way = record {
        holds = root_in;
        every = λ j on e k f. joins_in j k f.0 f.1 f.2 on (rw e refl);
        one = λ j on e.
            let g = (the_one j on e).2 in
            (pick m j (suc j) (rest m sheet j), (omega (arith, g.0), g.1, g.2), chosen_in j on e, only j on e);
        led = λ k on n. let p = member k n on in (p.above, p.led);
        within = λ k on. elim (cases_eq k root) [ inl z ↦ omega (arith, inside) | inr z ↦ (member k z on).within ];
      }

      line_exact : (j : ℕ) → j < length sheet → Each (LineExact m (taken m sheet root)) (suc j) (drop (suc j) sheet) → LineExact m (taken m sheet root) j (step sheet j) (drop (suc j) sheet)
      line_exact j l x q on e =
          let o = opened (step sheet j).closed _ q e in
          let u = unmapped (m.grows (facts j (step sheet j))) _ q o.1 in
          ap (m.grows (facts j (step sheet j))) (go (step sheet j).join refl u.0 u.1) ∙ u.2
        where
          go : (n : Join) → (step sheet j).join ≡ n → (a : A) → by_join m n j (rest m sheet j) ≡ Some a → total m (taken m sheet root) j (suc j) (figures m (taken m sheet root) (suc j) (drop (suc j) sheet)) ≡ a
          go And n a h =
              all_exact m (taken m sheet root) j (suc j) (drop (suc j) sheet)
              (each_from sheet (λ k u us. eqb u.target j ≡ true → taken m sheet root k ≡ true) (suc j) (drop (suc j) sheet) refl
              (λ k b d t. taken_way.every j on n k (omega arith, d, eqb-true (step sheet k).target j t)))
              x a h
          go Or n a h =
              let g = the_one j on n in
              let c = pick m j (suc j) (rest m sheet j) in
              let v = unmapped (λ f. m.joins f m.empty) _ a h in
              one_exact m (taken m sheet root) j g.0 (suc j) (drop (suc j) sheet)
              (count_one sheet (taken m sheet root) j c g.2.1 g.2.2 (chosen_in j on n) (suc j) (drop (suc j) sheet) refl g.2.0 (λ k b d t w. only j on n k (omega arith, d, t) w))
              x
              (each_from sheet (λ k u us. eqb u.target j ≡ true → taken m sheet root k ≡ true → (least_line m k u (least_table m (suc k) us)).entry ≡ Some g.0) (suc j) (drop (suc j) sheet) refl
              (λ k b d t w. rw (only j on n k (omega arith, d, eqb-true (step sheet k).target j t) w) g.2.3))
              ∙ (let z : v.0 ≡ g.0 = cc (v.1, g.1) in ap (λ f. m.joins f m.empty) (sym z) ∙ v.2)

      each_exact : (j : ℕ) (ss : List Step) → drop j sheet ≡ ss → Each (LineExact m (taken m sheet root)) j ss
      each_exact j [] e = tt
      each_exact j (s ∷ ss) e =
          let t = uncons sheet j s ss e in
          let x = each_exact (suc j) ss t.2 in
          (rw (t.1, t.2) at (line_exact j t.0 (rw t.2 x)), x)

      -- the figure of the root on what is taken is its entry
      pub taken_exact : figure m sheet (taken m sheet root) root ≡ r
      taken_exact = each_at sheet (LineExact m (taken m sheet root)) 0 sheet refl (each_exact 0 sheet refl) root (omega arith) inside r root_in there
