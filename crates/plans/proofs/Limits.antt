-- The list of the limits is right.
use Rattle.std.proofs.Common.{◌≡◌, ℕ, suc, ◌<◌, ◌≤◌, Bool, true, false, cond, not, ◌&&◌, eqb, ltb, ◌⊎◌, List, [], ◌∷◌, length, drop, sym, refl, ap, inl, inr, arith}
use Rattle.std.proofs.lemmas.Bool.{false≢true, eqb-true, eqb-false, ltb-true, ltb-false, cases_eq, and_from, and_parts, not-true, not_from_false}
use Rattle.steps.specs.declared.step.Step.{Step}
use Rattle.steps.specs.Sheet.{step}
use Rattle.ways.specs.Paths.{tail}
use Rattle.ways.proofs.Suffixes.{none_left, uncons}
use Rattle.plans.specs.Leaves.{leaf, is_leaf}
use Rattle.plans.specs.Limits.{insert, insert_if, limits_from, Among, Ascending, LimitsRight}
use Rattle.plans.proofs.Leaves.{leaves_right}

-- What a number inserted does: it is among them, the others stay, nothing else comes, and the list still ascends

-- how x stands to y, with what the tests say
data Order (x y : ℕ) : Bool → Bool → Type 0 where
  less : x < y → (b : Bool) → Order x y true b
  same : x ≡ y → Order x y false true
  more : y < x → Order x y false false

order : (x y : ℕ) → Order x y (ltb x y) (eqb x y)
order x y = go (ltb x y) refl (eqb x y) refl
  where
    go : (a : Bool) → ltb x y ≡ a → (b : Bool) → eqb x y ≡ b → Order x y a b
    go true e b f = less (ltb-true x y e) b
    go false e true f = same (eqb-true x y f)
    go false e false f = let l = ltb-false x y e in let n = eqb-false x y f in more (omega arith)

abbrev at_place : Bool → Bool → ℕ → ℕ → List ℕ → List ℕ → List ℕ
at_place a b x y ys zs = cond a (x ∷ y ∷ ys) (cond b (y ∷ ys) (y ∷ zs))

insert_in : (x : ℕ) (ys : List ℕ) → Among x (insert x ys)
insert_in x [] = inl refl
insert_in x (y ∷ ys) = go (order x y) (insert_in x ys)
  where
    go : {a b : Bool} → Order x y a b → Among x (insert x ys) → Among x (at_place a b x y ys (insert x ys))
    go (less h b) r = inl refl
    go (same h) r = inl h
    go (more h) r = inr r

insert_keeps : (x : ℕ) (ys : List ℕ) (l : ℕ) → Among l ys → Among l (insert x ys)
insert_keeps x [] l h = absurd h
insert_keeps x (y ∷ ys) l h = go (order x y) h (insert_keeps x ys l)
  where
    go : {a b : Bool} → Order x y a b → Among l (y ∷ ys) → (Among l ys → Among l (insert x ys)) → Among l (at_place a b x y ys (insert x ys))
    go (less q b) h r = inr h
    go (same q) h r = h
    go (more q) (inl h) r = inl h
    go (more q) (inr h) r = inr (r h)

insert_from : (x : ℕ) (ys : List ℕ) (l : ℕ) → Among l (insert x ys) → (l ≡ x) ⊎ Among l ys
insert_from x [] l h = h
insert_from x (y ∷ ys) l h = go (order x y) h (insert_from x ys l)
  where
    go : {a b : Bool} → Order x y a b → Among l (at_place a b x y ys (insert x ys)) → (Among l (insert x ys) → (l ≡ x) ⊎ Among l ys) → (l ≡ x) ⊎ Among l (y ∷ ys)
    go (less q b) h r = h
    go (same q) h r = inr h
    go (more q) (inl h) r = inr (inl h)
    go (more q) (inr h) r = elim (r h) [ inl e ↦ inl e | inr e ↦ inr (inr e) ]

insert_ascends : (x : ℕ) (ys : List ℕ) → Ascending ys → Ascending (insert x ys)
insert_ascends x [] h = (λ y a. absurd a, tt)
insert_ascends x (y ∷ ys) h = go (order x y) (insert_ascends x ys h.1)
  where
    go : {a b : Bool} → Order x y a b → Ascending (insert x ys) → Ascending (at_place a b x y ys (insert x ys))
    go (less q b) r = (λ z a. elim a [ inl e ↦ omega arith | inr e ↦ omega (arith, h.0 z e) ], h)
    go (same q) r = h
    go (more q) r = (λ z a. elim (insert_from x ys z a) [ inl e ↦ omega arith | inr e ↦ h.0 z e ], r)

insert_length : (x : ℕ) (ys : List ℕ) → length (insert x ys) ≤ suc (length ys)
insert_length x [] = omega arith
insert_length x (y ∷ ys) = go (order x y) (insert_length x ys)
  where
    go : {a b : Bool} → Order x y a b → length (insert x ys) ≤ suc (length ys) → length (at_place a b x y ys (insert x ys)) ≤ suc (length (y ∷ ys))
    go (less q b) r = omega arith
    go (same q) r = omega arith
    go (more q) r = omega arith

pub ascends : (sheet : List Step) (j : ℕ) (ss : List Step) → Ascending (limits_from sheet j ss)
ascends sheet j [] = tt
ascends sheet j (s ∷ ss) = go (leaf j s ss && not s.closed) (ascends sheet (suc j) ss)
  where
    go : (c : Bool) → Ascending (limits_from sheet (suc j) ss) → Ascending (insert_if c (tail sheet j) (limits_from sheet (suc j) ss))
    go true h = insert_ascends (tail sheet j) (limits_from sheet (suc j) ss) h
    go false h = h

-- no more limits than steps
pub limits_fit : (sheet : List Step) (j : ℕ) (ss : List Step) → length (limits_from sheet j ss) ≤ length ss
limits_fit sheet j [] = omega arith
limits_fit sheet j (s ∷ ss) = go (leaf j s ss && not s.closed) (limits_fit sheet (suc j) ss)
  where
    go : (c : Bool) → length (limits_from sheet (suc j) ss) ≤ length ss → length (insert_if c (tail sheet j) (limits_from sheet (suc j) ss)) ≤ suc (length ss)
    go true h = let i = insert_length (tail sheet j) (limits_from sheet (suc j) ss) in omega arith
    go false h = omega arith

module _ (sheet : List Step) where
  -- the step k sets a limit
  abbrev Sets : ℕ → Type 0
  Sets k = (is_leaf sheet k ≡ true) × ((step sheet k).closed ≡ false)

  limit_in : (j : ℕ) (ss : List Step) → drop j sheet ≡ ss → (k : ℕ) → j ≤ k → k < length sheet → Sets k → Among (tail sheet k) (limits_from sheet j ss)
  limit_in j [] e k a b h = absurd (none_left sheet j k e a b)
  limit_in j (s ∷ ss) e k a b h =
      let t = uncons sheet j s ss e in
      elim (cases_eq j k) [
        | inl q ↦ here (leaf j s ss && not s.closed) (and_from _ _ (rw (← q, t.1, t.2) at h.0) (not_from_false _ (rw (← q, t.1) at h.1))) (ap (tail sheet) (sym q))
        | inr q ↦ there (leaf j s ss && not s.closed) (limit_in (suc j) ss t.2 k (omega arith) b h)
      ]
    where
      here : (c : Bool) → c ≡ true → tail sheet k ≡ tail sheet j → Among (tail sheet k) (insert_if c (tail sheet j) (limits_from sheet (suc j) ss))
      here true x y = rw y (insert_in (tail sheet j) (limits_from sheet (suc j) ss))
      here false x y = absurd (false≢true x)

      there : (c : Bool) → Among (tail sheet k) (limits_from sheet (suc j) ss) → Among (tail sheet k) (insert_if c (tail sheet j) (limits_from sheet (suc j) ss))
      there true x = insert_keeps (tail sheet j) (limits_from sheet (suc j) ss) (tail sheet k) x
      there false x = x

  -- the step that sets the limit l
  abbrev From : ℕ → Type 0
  From l = (k : ℕ) × (k < length sheet) × Sets k × (tail sheet k ≡ l)

  limit_from : (j : ℕ) (ss : List Step) → drop j sheet ≡ ss → (l : ℕ) → Among l (limits_from sheet j ss) → From l
  limit_from j [] e l h = absurd h
  limit_from j (s ∷ ss) e l h =
      let t = uncons sheet j s ss e in
      go (leaf j s ss && not s.closed) (λ x. let p = and_parts _ _ x in (t.0, (rw (t.1, t.2) p.0, rw t.1 (not-true _ p.1)))) (limit_from (suc j) ss t.2 l) h
    where
      go : (c : Bool) → (c ≡ true → (j < length sheet) × Sets j) → (Among l (limits_from sheet (suc j) ss) → From l) → Among l (insert_if c (tail sheet j) (limits_from sheet (suc j) ss)) → From l
      go true f g x = elim (insert_from (tail sheet j) (limits_from sheet (suc j) ss) l x) [ inl e ↦ (let p = f refl in (j, p.0, p.1, sym e)) | inr e ↦ g e ]
      go false f g x = g x

pub limits_right : LimitsRight
limits_right ss lower_targets = record {
  ascending = ascends ss 0 ss;
  only = λ l h. let f = limit_from ss 0 ss refl l h in (f.0, f.1, (leaves_right ss lower_targets f.0).0 f.2.0, f.2.1, f.3);
  every = λ l h. rw (← h.4) (limit_in ss 0 ss refl h.0 (omega arith) h.1 ((leaves_right ss lower_targets h.0).1 h.2, h.3));
}
