-- What is in a list, and lists in which each comes before all that follow it.
use Rattle.std.proofs.Common.{◌≡◌, ℕ, zero, suc, ◌+◌, ◌<◌, ◌≤◌, Bool, true, ◌⊎◌, List, [], ◌∷◌, ◌++◌, map, length, get_or, filter, sym, refl, ap, ◌∙◌, subst, inl, inr, arith}
use Rattle.std.specs.List.{range_with_len, flat_map, list_all}
use Rattle.std.proofs.lemmas.Bool.{both_ways, and_parts, and_from, cond_both, cases_eq}
use Rattle.rules.specs.Units.{labels}

module _ {X : Type 0} where
  abbrev pub In : X → List X → Type 0
  In x [] = ⊥
  In x (z ∷ zs) = (x ≡ z) ⊎ In x zs

  pub in_left : (x : X) (xs ys : List X) → In x xs → In x (xs ++ ys)
  in_left x [] ys h = absurd h
  in_left x (z ∷ xs) ys (inl e) = inl e
  in_left x (z ∷ xs) ys (inr h) = inr (in_left x xs ys h)

  pub in_right : (x : X) (xs ys : List X) → In x ys → In x (xs ++ ys)
  in_right x [] ys h = h
  in_right x (z ∷ xs) ys h = inr (in_right x xs ys h)

  pub in_parts : (x : X) (xs ys : List X) → In x (xs ++ ys) → In x xs ⊎ In x ys
  in_parts x [] ys h = inr h
  in_parts x (z ∷ xs) ys (inl e) = inl (inl e)
  in_parts x (z ∷ xs) ys (inr h) = elim (in_parts x xs ys h) [ inl l ↦ inl (inr l) | inr r ↦ inr r ]

  pub in_at : (xs : List X) (i : ℕ) (d : X) → i < length xs → In (get_or xs i d) xs
  in_at [] i d h = absurd (omega arith)
  in_at (x ∷ xs) zero d h = inl refl
  in_at (x ∷ xs) (suc i) d h = inr (in_at xs i d (omega arith))

  pub at_in : (x : X) (xs : List X) (d : X) → In x xs → (i : ℕ) × ((i < length xs) × (get_or xs i d ≡ x))
  at_in x [] d h = absurd h
  at_in x (z ∷ xs) d (inl e) = (0, (omega arith, sym e))
  at_in x (z ∷ xs) d (inr h) = let r = at_in x xs d h in (suc r.0, (omega arith, r.1.1))

  pub in_filter : (f : X → Bool) (x : X) (xs : List X) → In x xs → f x ≡ true → In x (filter f xs)
  in_filter f x [] h e = absurd h
  in_filter f x (z ∷ xs) (inl q) e =
      cond_both (f z) (z ∷ filter f xs) (filter f xs) (In x) (λ _. inl q)
      (λ no. absurd (both_ways (f z) no (ap f (sym q) ∙ e)))
  in_filter f x (z ∷ xs) (inr h) e =
      let r = in_filter f x xs h e in cond_both (f z) (z ∷ filter f xs) (filter f xs) (In x) (λ _. inr r) (λ _. r)

  pub filter_in : (f : X → Bool) (x : X) (xs : List X) → In x (filter f xs) → In x xs × (f x ≡ true)
  filter_in f x [] h = absurd h
  filter_in f x (z ∷ xs) h =
      cond_both (f z) (z ∷ filter f xs) (filter f xs) (λ ys. In x ys → In x (z ∷ xs) × (f x ≡ true))
      (λ yes i. elim i [ inl q ↦ (inl q, ap f q ∙ yes) | inr k ↦ (inr (filter_in f x xs k).0, (filter_in f x xs k).1) ])
      (λ no k. (inr (filter_in f x xs k).0, (filter_in f x xs k).1)) h

  -- each is related to all that follow it
  abbrev pub Ascending : (X → X → Type 0) → List X → Type 0
  Ascending R [] = Unit {0}
  Ascending R (x ∷ xs) = ((z : X) → In z xs → R x z) × Ascending R xs

  pub ascending_append : (R : X → X → Type 0) (xs ys : List X) → Ascending R xs → Ascending R ys
      → ((x y : X) → In x xs → In y ys → R x y) → Ascending R (xs ++ ys)
  ascending_append R [] ys h k m = k
  ascending_append R (x ∷ xs) ys h k m = (
    (λ z i. elim (in_parts z xs ys i) [ inl l ↦ h.0 z l | inr r ↦ m x z (inl refl) r ]),
    ascending_append R xs ys h.1 k (λ a b i j. m a b (inr i) j),
  )

  pub ascending_filter : (R : X → X → Type 0) (f : X → Bool) (xs : List X) → Ascending R xs → Ascending R (filter f xs)
  ascending_filter R f [] h = tt
  ascending_filter R f (x ∷ xs) h =
      let r = ascending_filter R f xs h.1 in
      cond_both (f x) (x ∷ filter f xs) (filter f xs) (Ascending R)
      (λ _. ((λ z i. h.0 z (filter_in f z xs i).0), r)) (λ _. r)

  pub ascending_at : (R : X → X → Type 0) (xs : List X) (d : X) → Ascending R xs
      → (i k : ℕ) → i < k → k < length xs → R (get_or xs i d) (get_or xs k d)
  ascending_at R [] d h i k l m = absurd (omega arith)
  ascending_at R (x ∷ xs) d h i zero l m = absurd (omega arith)
  ascending_at R (x ∷ xs) d h zero (suc k) l m = h.0 (get_or xs k d) (in_at xs k d (omega arith))
  ascending_at R (x ∷ xs) d h (suc i) (suc k) l m = ascending_at R xs d h.1 i k (omega arith) (omega arith)

  pub all_of_in : (f : X → Bool) (xs : List X) → list_all f xs ≡ true → (x : X) → In x xs → f x ≡ true
  all_of_in f [] h x i = absurd i
  all_of_in f (z ∷ xs) h x (inl q) = ap f q ∙ (and_parts (f z) (list_all f xs) h).0
  all_of_in f (z ∷ xs) h x (inr i) = all_of_in f xs (and_parts (f z) (list_all f xs) h).1 x i

  pub in_all_of : (f : X → Bool) (xs : List X) → ((x : X) → In x xs → f x ≡ true) → list_all f xs ≡ true
  in_all_of f [] h = refl
  in_all_of f (z ∷ xs) h = and_from (f z) (list_all f xs) (h z (inl refl)) (in_all_of f xs (λ x i. h x (inr i)))

module _ {X Y : Type 0} where
  pub in_map : (f : X → Y) (x : X) (xs : List X) → In x xs → In (f x) (map f xs)
  in_map f x [] h = absurd h
  in_map f x (z ∷ xs) (inl e) = inl (ap f e)
  in_map f x (z ∷ xs) (inr h) = inr (in_map f x xs h)

  pub map_in : (f : X → Y) (y : Y) (xs : List X) → In y (map f xs) → (x : X) × (In x xs × (y ≡ f x))
  map_in f y [] h = absurd h
  map_in f y (z ∷ xs) (inl e) = (z, (inl refl, e))
  map_in f y (z ∷ xs) (inr h) = let r = map_in f y xs h in (r.0, (inr r.1.0, r.1.1))

  pub in_concat : (f : X → List Y) (x : X) (y : Y) (xs : List X) → In x xs → In y (f x) → In y (flat_map f xs)
  in_concat f x y [] h k = absurd h
  in_concat f x y (z ∷ xs) (inl e) k = in_left y (f z) (flat_map f xs) (subst (λ (w : X). In y (f w)) e k)
  in_concat f x y (z ∷ xs) (inr h) k = in_right y (f z) (flat_map f xs) (in_concat f x y xs h k)

  pub concat_in : (f : X → List Y) (y : Y) (xs : List X) → In y (flat_map f xs) → (x : X) × (In x xs × In y (f x))
  concat_in f y [] h = absurd h
  concat_in f y (z ∷ xs) h = elim (in_parts y (f z) (flat_map f xs) h) [
    | inl l ↦ (z, (inl refl, l))
    | inr k ↦ (let w = concat_in f y xs k in (w.0, (inr w.1.0, w.1.1)))
  ]

  pub ascending_map : (R : X → X → Type 0) (S : Y → Y → Type 0) (f : X → Y) → ((a b : X) → R a b → S (f a) (f b))
      → (xs : List X) → Ascending R xs → Ascending S (map f xs)
  ascending_map R S f m [] h = tt
  ascending_map R S f m (x ∷ xs) h = (
    (λ z i. let w = map_in f z xs i in subst (S (f x)) (sym w.1.1) (m x w.0 (h.0 w.0 w.1.0))),
    ascending_map R S f m xs h.1,
  )

  pub ascending_concat : (R : X → X → Type 0) (S : Y → Y → Type 0) (f : X → List Y) → ((x : X) → Ascending S (f x))
      → ((a b : X) (y z : Y) → R a b → In y (f a) → In z (f b) → S y z)
      → (xs : List X) → Ascending R xs → Ascending S (flat_map f xs)
  ascending_concat R S f each m [] h = tt
  ascending_concat R S f each m (x ∷ xs) h =
      ascending_append S (f x) (flat_map f xs) (each x) (ascending_concat R S f each m xs h.1)
      (λ y z i j. let w = concat_in f z xs j in m x w.0 y z (h.0 w.0 w.1.0) i w.1.1)

-- the labels
pub in_labels : (n j : ℕ) → 1 ≤ j → j ≤ n → In j (labels n)
in_labels zero j h k = absurd (omega arith)
in_labels (suc n) j h k = elim (cases_eq j (suc n)) [
  | inl e ↦ in_right j (labels n) (suc n ∷ []) (inl e)
  | inr ne ↦ in_left j (labels n) (suc n ∷ []) (in_labels n j h (omega arith))
]

pub labels_in : (n j : ℕ) → In j (labels n) → (1 ≤ j) × (j ≤ n)
labels_in zero j h = absurd h
labels_in (suc n) j h = elim (in_parts j (labels n) (suc n ∷ []) h) [
  | inl l ↦ (let w = labels_in n j l in omega arith)
  | inr (inl e) ↦ omega arith
  | inr (inr z) ↦ absurd z
]

pub labels_ascend : (n : ℕ) → Ascending (λ a b. a < b) (labels n)
labels_ascend zero = tt
labels_ascend (suc n) =
    ascending_append (λ a b. a < b) (labels n) (suc n ∷ []) (labels_ascend n) ((λ z i. absurd i), tt)
    (λ x y i j. let k = labels_in n x i in elim j [ inl e ↦ omega arith | inr z ↦ absurd z ])

-- the numbers from a on
pub in_counting : (a m v : ℕ) → a ≤ v → v < a + m → In v (range_with_len a m)
in_counting a zero v h k = absurd (omega arith)
in_counting a (suc m) v h k = elim (cases_eq v a) [
  | inl e ↦ inl e
  | inr ne ↦ inr (in_counting (a + 1) m v (omega arith) (omega arith))
]

pub counting_in : (a m v : ℕ) → In v (range_with_len a m) → (a ≤ v) × (v < a + m)
counting_in a zero v h = absurd h
counting_in a (suc m) v (inl e) = omega arith
counting_in a (suc m) v (inr h) = let w = counting_in (a + 1) m v h in omega arith
