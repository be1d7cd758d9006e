-- A number inserted where a search among ascending ones finds its place.
use Rattle.std.proofs.Common.{◌≡◌, ℕ, zero, suc, ◌<◌, ◌≤◌, eqb, ltb, List, [], ◌∷◌, ◌++◌, length, get_or, take, drop, Ok, Err, Result, sym, refl, ap, ◌∙◌, subst, inl, inr, arith}
use Rattle.std.proofs.lemmas.Bool.{lt-ltb, le-ltb, eq-eqb, ne_eqb, cond-true, cond-false}
use Rattle.std.proofs.lemmas.List.Sorted.{searched}
use Rattle.std.specs.List.{insert as put}
use Rattle.std.specs.List.Sorted.{IsBinarySearchResult}
use Rattle.std.specs.Ordering.{nat_cmp}
use Rattle.std.specs.Result.{MatchResult}
use Rattle.plans.specs.Limits.{Among, Ascending, insert}

among_at : (xs : List ℕ) (k : ℕ) → k < length xs → Among (get_or xs k 0) xs
among_at [] k h = absurd (omega arith)
among_at (x ∷ xs) zero h = inl refl
among_at (x ∷ xs) (suc k) h = inr (among_at xs k (omega arith))

rises : (xs : List ℕ) → Ascending xs → (i j : ℕ) → i ≤ j → j < length xs → get_or xs i 0 ≤ get_or xs j 0
rises [] up i j within h = absurd (omega arith)
rises (x ∷ xs) up zero zero within h = omega arith
rises (x ∷ xs) up zero (suc j) within h = let above = up.0 (get_or xs j 0) (among_at xs j (omega arith)) in omega arith
rises (x ∷ xs) up (suc i) zero within h = absurd (omega arith)
rises (x ∷ xs) up (suc i) (suc j) within h = rises xs up.1 i j (omega arith) (omega arith)

further : (x y : ℕ) (ys : List ℕ) → y < x → insert x (y ∷ ys) ≡ y ∷ insert x ys
further x y ys h =
    cond-false (ltb x y) _ _ (le-ltb x y (omega arith))
    ∙ cond-false (eqb x y) _ _ (ne_eqb x y (λ e. omega arith))

insert_among : (x : ℕ) (xs : List ℕ) → Ascending xs → Among x xs → insert x xs ≡ xs
insert_among x [] up among = absurd among
insert_among x (y ∷ ys) up (inl e) =
    cond-false (ltb x y) _ _ (le-ltb x y (omega arith)) ∙ cond-true (eqb x y) _ _ (eq-eqb x y e)
insert_among x (y ∷ ys) up (inr among) =
    further x y ys (up.0 x among) ∙ ap (λ zs. y ∷ zs) (insert_among x ys up.1 among)

-- a number that is there already
insert_there : (x : ℕ) (xs : List ℕ) → Ascending xs → (k : ℕ) → k < length xs → get_or xs k 0 ≡ x → insert x xs ≡ xs
insert_there x xs up k h e = insert_among x xs up (subst (λ n. Among n xs) e (among_at xs k h))

-- a new one
insert_at : (x : ℕ) (xs : List ℕ) (p : ℕ) → p ≤ length xs → ((k : ℕ) → k < p → get_or xs k 0 < x) → (p < length xs → x < get_or xs p 0) → insert x xs ≡ take p xs ++ (x ∷ drop p xs)
insert_at x [] zero l less above = refl
insert_at x [] (suc p) l less above = absurd (omega arith)
insert_at x (y ∷ ys) zero l less above = cond-true (ltb x y) _ _ (lt-ltb x y (above (omega arith)))
insert_at x (y ∷ ys) (suc p) l less above =
    further x y ys (less 0 (omega arith)) ∙ ap (λ zs. y ∷ zs) (insert_at x ys p (omega arith) (λ k h. less (suc k) (omega arith)) (λ h. above (omega arith)))

pub inserted : (x : ℕ) (xs : List ℕ) → Ascending xs → (r : Result ℕ ℕ) → IsBinarySearchResult (λ y. nat_cmp y x) xs r → MatchResult r (λ _. xs ≡ insert x xs) (λ p. put xs p x ≡ insert x xs)
inserted x xs up (Ok k) found =
    let at = searched xs x (Ok k) found (rises xs up) in
    sym (insert_there x xs up k at.0 at.1)
inserted x xs up (Err p) found =
    let at = searched xs x (Err p) found (rises xs up) in
    sym (insert_at x xs p at.0 at.1 (λ h. at.2 p (omega arith) h))
