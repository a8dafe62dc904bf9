-- Lists made piece by piece: what a test keeps, joined pieces, their lengths and places.
use Rattle.std.proofs.Common.{◌≡◌, ℕ, zero, suc, ◌+◌, ◌-◌, ◌<◌, ◌≤◌, Bool, false, cond, ltb, List, [], ◌∷◌, ◌++◌, map, length, get_or, filter, refl, ap, ◌∙◌, inl, inr, arith, length-append}
use Rattle.std.specs.List.{flat_map}
use Rattle.std.proofs.lemmas.Bool.{ltb-true, ltb-false, cond-false, cond_both, cases_Bool}
use Rattle.rules.specs.Units.{sum_over}
use Rattle.rules.specs.Recurrence.{turn}
use Rattle.rules.proofs.Members.{In}

pub get_or_left : {X : Type 0} (xs ys : List X) (i : ℕ) (d : X) → i < length xs → get_or (xs ++ ys) i d ≡ get_or xs i d
get_or_left [] ys i d h = absurd (omega arith)
get_or_left (x ∷ xs) ys zero d h = refl
get_or_left (x ∷ xs) ys (suc i) d h = get_or_left xs ys i d (omega arith)

pub get_or_right : {X : Type 0} (xs ys : List X) (i : ℕ) (d : X) → length xs ≤ i
    → get_or (xs ++ ys) i d ≡ get_or ys (i - length xs) d
get_or_right [] ys i d h = ap (λ (k : ℕ). get_or ys k d) (omega arith)
get_or_right (x ∷ xs) ys zero d h = absurd (omega arith)
get_or_right (x ∷ xs) ys (suc i) d h = get_or_right xs ys i d (omega arith) ∙ ap (λ (k : ℕ). get_or ys k d) (omega arith)

pub get_or_mapped : {X Y : Type 0} (f : X → Y) (xs : List X) (i : ℕ) (d : X) (e : Y) → i < length xs
    → get_or (map f xs) i e ≡ f (get_or xs i d)
get_or_mapped f [] i d e h = absurd (omega arith)
get_or_mapped f (x ∷ xs) zero d e h = refl
get_or_mapped f (x ∷ xs) (suc i) d e h = get_or_mapped f xs i d e (omega arith)

module _ {X : Type 0} where
  pub filter_short : (f : X → Bool) (xs : List X) → length (filter f xs) ≤ length xs
  filter_short f [] = omega arith
  filter_short f (x ∷ xs) =
      let r = filter_short f xs in
      cond_both (f x) (x ∷ filter f xs) (filter f xs) (λ ys. length ys ≤ suc (length xs)) (λ _. omega arith) (λ _. omega arith)

  pub filter_append : (f : X → Bool) (xs ys : List X) → filter f (xs ++ ys) ≡ filter f xs ++ filter f ys
  filter_append f [] ys = refl
  filter_append f (x ∷ xs) ys = elim (cases_Bool (f x)) [
    | inl e ↦ rw e (ap (λ (r : List X). x ∷ r) (filter_append f xs ys))
    | inr e ↦ rw e (filter_append f xs ys)
  ]

  pub filter_same : (f g : X → Bool) (xs : List X) → ((x : X) → In x xs → f x ≡ g x) → filter f xs ≡ filter g xs
  filter_same f g [] h = refl
  filter_same f g (x ∷ xs) h =
      let r = filter_same f g xs (λ z k. h z (inr k)) in λ i. cond (h x (inl refl) i) (x ∷ r i) (r i)

  pub filter_none : (f : X → Bool) (xs : List X) → ((x : X) → In x xs → f x ≡ false) → filter f xs ≡ []
  filter_none f [] h = refl
  filter_none f (x ∷ xs) h =
      cond-false (f x) (x ∷ filter f xs) (filter f xs) (h x (inl refl)) ∙ filter_none f xs (λ z k. h z (inr k))

  pub sum_same : (f g : X → ℕ) (xs : List X) → ((x : X) → In x xs → f x ≡ g x) → sum_over f xs ≡ sum_over g xs
  sum_same f g [] h = refl
  sum_same f g (x ∷ xs) h = λ i. h x (inl refl) i + sum_same f g xs (λ z k. h z (inr k)) i

  pub sum_append : (f : X → ℕ) (xs ys : List X) → sum_over f (xs ++ ys) ≡ sum_over f xs + sum_over f ys
  sum_append f [] ys = omega arith
  sum_append f (x ∷ xs) ys = omega (arith, sum_append f xs ys)

  pub in_sum_zero : (f : X → ℕ) (xs : List X) → ((x : X) → In x xs → f x ≡ 0) → sum_over f xs ≡ 0
  in_sum_zero f [] h = refl
  in_sum_zero f (z ∷ xs) h = omega (arith, h z (inl refl), in_sum_zero f xs (λ x i. h x (inr i)))

  pub sum_filter : (f : X → Bool) (h : X → ℕ) (xs : List X) → sum_over h (filter f xs) ≡ sum_over (λ j. cond (f j) (h j) 0) xs
  sum_filter f h [] = refl
  sum_filter f h (x ∷ xs) = elim (cases_Bool (f x)) [
    | inl e ↦ rw e (ap (λ (z : ℕ). h x + z) (sum_filter f h xs))
    | inr e ↦ rw e (omega (arith, sum_filter f h xs))
  ]

module _ {X Y : Type 0} where
  pub map_same : (f g : X → Y) (xs : List X) → ((x : X) → In x xs → f x ≡ g x) → map f xs ≡ map g xs
  map_same f g [] h = refl
  map_same f g (x ∷ xs) h = λ i. h x (inl refl) i ∷ map_same f g xs (λ z k. h z (inr k)) i

  pub filter_map : (f : Y → Bool) (g : X → Y) (xs : List X) → filter f (map g xs) ≡ map g (filter (λ x. f (g x)) xs)
  filter_map f g [] = refl
  filter_map f g (x ∷ xs) = elim (cases_Bool (f (g x))) [
    | inl e ↦ rw e (ap (λ (r : List Y). g x ∷ r) (filter_map f g xs))
    | inr e ↦ rw e (filter_map f g xs)
  ]

  pub filter_concat : (f : Y → Bool) (g : X → List Y) (xs : List X) → filter f (flat_map g xs) ≡ flat_map (λ x. filter f (g x)) xs
  filter_concat f g [] = refl
  filter_concat f g (x ∷ xs) =
      filter_append f (g x) (flat_map g xs) ∙ ap (λ (r : List Y). filter f (g x) ++ r) (filter_concat f g xs)

  pub concat_same : (f g : X → List Y) (xs : List X) → ((x : X) → In x xs → f x ≡ g x) → flat_map f xs ≡ flat_map g xs
  concat_same f g [] h = refl
  concat_same f g (x ∷ xs) h = λ i. h x (inl refl) i ++ concat_same f g xs (λ z k. h z (inr k)) i

  pub length_concat : (f : X → List Y) (xs : List X) → length (flat_map f xs) ≡ sum_over (λ x. length (f x)) xs
  length_concat f [] = refl
  length_concat f (x ∷ xs) = length-append (f x) (flat_map f xs) ∙ ap (λ (k : ℕ). length (f x) + k) (length_concat f xs)

-- the place k of joined pieces lies in the piece that `turn` finds
abbrev pub Lies : {Y : Type 0} → (ℕ → List Y) → List ℕ → ℕ → Y → ℕ × ℕ → Type 0
Lies f js k e w = In w.0 js × ((w.1 < length (f w.0)) × (get_or (flat_map f js) k e ≡ get_or (f w.0) w.1 e))

pub turn_lies : {Y : Type 0} (f : ℕ → List Y) (e : Y) (js : List ℕ) (k : ℕ) → k < length (flat_map f js)
    → Lies f js k e (turn (λ j. length (f j)) js k)
turn_lies f e [] k h = absurd (omega arith)
turn_lies f e (j ∷ js) k h =
    cond_both (ltb k (length (f j))) (j, k) (turn (λ i. length (f i)) js (k - length (f j))) (Lies f (j ∷ js) k e)
    (λ yes. let l = ltb-true k (length (f j)) yes in (inl refl, (l, get_or_left (f j) (flat_map f js) k e l)))
    (λ no.
    let l = ltb-false k (length (f j)) no in
    let w = turn_lies f e js (k - length (f j)) (omega (arith, length-append (f j) (flat_map f js))) in
    (inr w.0, (w.1.0, get_or_right (f j) (flat_map f js) k e l ∙ w.1.1)))

pub turn_same : (c e : ℕ → ℕ) (js : List ℕ) → ((j : ℕ) → In j js → c j ≡ e j) → (k : ℕ) → turn c js k ≡ turn e js k
turn_same c e [] h k = refl
turn_same c e (j ∷ js) h k =
    ap (λ (z : ℕ). cond (ltb k z) (j, k) (turn c js (k - z))) (h j (inl refl))
    ∙ ap (λ (r : ℕ × ℕ). cond (ltb k (e j)) (j, k) r) (turn_same c e js (λ z i. h z (inr i)) (k - e j))
