-- Sums of whole numbers over a list, over the pairs of a row and over its triples.
use Rattle.std.proofs.Common.{◌≡◌, ℕ, zero, suc, ◌<◌, List, [], ◌∷◌, ◌++◌, map, length, get_or, ℤ, pos, ◌+ℤ◌, ◌*ℤ◌, ◌≤ℤ◌, sym, refl, ap, ◌∙◌, subst, inl, inr, arith}
use mathlib.Core.List.{map-append}
use lib.IntN.{+ℤ_idl, *ℤ-zero}
use Rattle.rules.specs.Units.{sum_ℤ}
use Rattle.rules.specs.Sheets.{pairs_with, pairs_in}
use Rattle.rules.specs.Scaling.{square}
use Rattle.rules.specs.Pattern.{Triple, triples_at, triples_from, triples}
use Rattle.rules.proofs.Members.{In, in_left, in_right, in_parts, in_at, at_in, in_map, map_in, Ascending}
use Rattle.rules.proofs.Integers.{lin, mul_ℤ_distl, sq_nonneg}

module _ {X : Type 0} where
  sumℤ_append : (f : X → ℤ) (xs ys : List X) → sum_ℤ f (xs ++ ys) ≡ sum_ℤ f xs +ℤ sum_ℤ f ys
  sumℤ_append f [] ys = sym (+ℤ_idl (sum_ℤ f ys))
  sumℤ_append f (x ∷ xs) ys = omega (arith, lin, sumℤ_append f xs ys)

  pub sumℤ_same : (f g : X → ℤ) (xs : List X) → ((x : X) → In x xs → f x ≡ g x) → sum_ℤ f xs ≡ sum_ℤ g xs
  sumℤ_same f g [] h = refl
  sumℤ_same f g (x ∷ xs) h = λ i. h x (inl refl) i +ℤ sumℤ_same f g xs (λ z k. h z (inr k)) i

  pub sumℤ_none : (xs : List X) → sum_ℤ (λ x. pos 0) xs ≡ pos 0
  sumℤ_none [] = refl
  sumℤ_none (x ∷ xs) = omega (arith, lin, sumℤ_none xs)

  pub sumℤ_ones : (xs : List X) → sum_ℤ (λ x. pos 1) xs ≡ pos (length xs)
  sumℤ_ones [] = refl
  sumℤ_ones (x ∷ xs) = ap (λ (w : ℤ). pos 1 +ℤ w) (sumℤ_ones xs) ∙ ap pos (omega arith)

  pub sumℤ_split : (f g h : X → ℤ) (xs : List X) → ((x : X) → In x xs → f x ≡ g x +ℤ h x) → sum_ℤ f xs ≡ sum_ℤ g xs +ℤ sum_ℤ h xs
  sumℤ_split f g h [] e = refl
  sumℤ_split f g h (x ∷ xs) e = omega (arith, lin, e x (inl refl), sumℤ_split f g h xs (λ z k. e z (inr k)))

  pub sumℤ_le : (f g : X → ℤ) (xs : List X) → ((x : X) → f x ≤ℤ g x) → sum_ℤ f xs ≤ℤ sum_ℤ g xs
  sumℤ_le f g [] h = omega (arith, lin)
  sumℤ_le f g (x ∷ xs) h = omega (arith, lin, h x, sumℤ_le f g xs h)

  -- where the greater sum is not greater, each two are equal
  pub sumℤ_tight : (f g : X → ℤ) (xs : List X) → ((x : X) → f x ≤ℤ g x) → sum_ℤ g xs ≤ℤ sum_ℤ f xs → (x : X) → In x xs → f x ≡ g x
  sumℤ_tight f g [] h e x i = absurd i
  sumℤ_tight f g (z ∷ xs) h e x (inl q) = ap f q ∙ omega (arith, lin, h z, sumℤ_le f g xs h) ∙ sym (ap g q)
  sumℤ_tight f g (z ∷ xs) h e x (inr i) = sumℤ_tight f g xs h (omega (arith, lin, h z, sumℤ_le f g xs h)) x i

  pub squares_nonneg : (f : X → ℤ) (xs : List X) → pos 0 ≤ℤ sum_ℤ (λ x. square (f x)) xs
  squares_nonneg f [] = omega (arith, lin)
  squares_nonneg f (x ∷ xs) = omega (arith, lin, sq_nonneg (f x), squares_nonneg f xs)

  -- each is related to all that follow it, where it is so by places
  pub ascending_from : (R : X → X → Type 0) (xs : List X) (d : X) → ((i k : ℕ) → i < k → k < length xs → R (get_or xs i d) (get_or xs k d)) → Ascending R xs
  ascending_from R [] d h = tt
  ascending_from R (x ∷ xs) d h = (
    (λ z i. let w = at_in z xs d i in subst (R x) w.1.1 (h 0 (suc w.0) (omega arith) (omega (arith, w.1.0)))),
    ascending_from R xs d (λ i k l m. h (suc i) (suc k) (omega arith) (omega arith)),
  )

pub sumℤ_map : {X Y : Type 0} (f : Y → ℤ) (g : X → Y) (xs : List X) → sum_ℤ f (map g xs) ≡ sum_ℤ (λ x. f (g x)) xs
sumℤ_map f g [] = refl
sumℤ_map f g (x ∷ xs) = ap (λ (w : ℤ). f (g x) +ℤ w) (sumℤ_map f g xs)

-- a sum of what is several functions, each times a number of its own
pub sumℤ_linear : {X : Type 0} (g : X → ℤ) (cs : List (ℤ × (X → ℤ))) (xs : List X) → ((x : X) → g x ≡ sum_ℤ (λ c. c.0 *ℤ c.1 x) cs)
    → sum_ℤ g xs ≡ sum_ℤ (λ c. c.0 *ℤ sum_ℤ c.1 xs) cs
sumℤ_linear g cs [] e = sym ((λ i. sum_ℤ (λ c. *ℤ-zero c.0 i) cs) ∙ sumℤ_none cs)
sumℤ_linear g cs (x ∷ xs) e =
    (λ i. e x i +ℤ sumℤ_linear g cs xs e i)
    ∙ sym (sumℤ_split _ (λ c. c.0 *ℤ c.1 x) (λ c. c.0 *ℤ sum_ℤ c.1 xs) cs (λ c i. mul_ℤ_distl c.0 (c.1 x) (sum_ℤ c.1 xs)))

-- the pairs of a row

pairs_with_map : (a : ℕ) (l : List ℕ) → pairs_with a l ≡ map (λ b. (a, b)) l
pairs_with_map a [] = refl
pairs_with_map a (b ∷ l) = λ i. (a, b) ∷ pairs_with_map a l i

pub pairs_step : (h : ℕ × ℕ → ℤ) (a : ℕ) (l : List ℕ) → sum_ℤ h (pairs_in (a ∷ l)) ≡ sum_ℤ (λ b. h (a, b)) l +ℤ sum_ℤ h (pairs_in l)
pairs_step h a l = sumℤ_append h (pairs_with a l) (pairs_in l) ∙ rw (pairs_with_map a l, sumℤ_map h (λ b. (a, b)) l)

in_pairs : (l : List ℕ) (i k : ℕ) → i < k → k < length l → In (get_or l i 0, get_or l k 0) (pairs_in l)
in_pairs [] i k a b = absurd (omega arith)
in_pairs (x ∷ l) i zero a b = absurd (omega arith)
in_pairs (x ∷ l) zero (suc k) a b =
    in_left (x, get_or l k 0) (pairs_with x l) (pairs_in l) (rw (pairs_with_map x l) (in_map (λ b. (x, b)) (get_or l k 0) l (in_at l k 0 (omega arith))))
in_pairs (x ∷ l) (suc i) (suc k) a b = in_right (get_or l i 0, get_or l k 0) (pairs_with x l) (pairs_in l) (in_pairs l i k (omega arith) (omega arith))

pub pairs_related : (R : ℕ → ℕ → Type 0) (l : List ℕ) → Ascending R l → (q : ℕ × ℕ) → In q (pairs_in l) → R q.0 q.1
pairs_related R [] h q i = absurd i
pairs_related R (a ∷ l) h q i = elim (in_parts q (pairs_with a l) (pairs_in l) i) [
  | inl k ↦ let w = map_in (λ b. (a, b)) q l (rw (pairs_with_map a l) at k) in subst (λ (z : ℕ × ℕ). R z.0 z.1) (sym w.1.1) (h.0 w.0 w.1.0)
  | inr k ↦ pairs_related R l h.1 q k
]

-- the triples of a row: each unit before the pairs of those that follow

abbrev pub three : ℕ → ℕ × ℕ → Triple
three u q = record { first = u; middle = q.0; last = q.1 }

triples_from_map : (u : ℕ) (l : List ℕ) → triples_from u l ≡ map (three u) (pairs_in l)
triples_from_map u [] = refl
triples_from_map u (v ∷ l) = (λ i. at l i ++ triples_from_map u l i) ∙ sym (map-append (three u) (pairs_with v l) (pairs_in l))
  where
    at : (l : List ℕ) → triples_at u v l ≡ map (three u) (pairs_with v l)
    at [] = refl
    at (w ∷ l) = λ i. three u (v, w) ∷ at l i

pub triples_step : (g : Triple → ℤ) (u : ℕ) (l : List ℕ) → sum_ℤ g (triples (u ∷ l)) ≡ sum_ℤ (λ q. g (three u q)) (pairs_in l) +ℤ sum_ℤ g (triples l)
triples_step g u l = sumℤ_append g (triples_from u l) (triples l) ∙ rw (triples_from_map u l, sumℤ_map g (three u) (pairs_in l))

pub in_triples : (l : List ℕ) (i j k : ℕ) → i < j → j < k → k < length l → In (three (get_or l i 0) (get_or l j 0, get_or l k 0)) (triples l)
in_triples [] i j k a b c = absurd (omega arith)
in_triples (u ∷ l) i zero k a b c = absurd (omega arith)
in_triples (u ∷ l) i (suc j) zero a b c = absurd (omega arith)
in_triples (u ∷ l) zero (suc j) (suc k) a b c =
    let q : ℕ × ℕ = (get_or l j 0, get_or l k 0) in
    in_left (three u q) (triples_from u l) (triples l) (rw (triples_from_map u l) (in_map (three u) q (pairs_in l) (in_pairs l j k (omega arith) (omega arith))))
in_triples (u ∷ l) (suc i) (suc j) (suc k) a b c =
    in_right (three (get_or l i 0) (get_or l j 0, get_or l k 0)) (triples_from u l) (triples l) (in_triples l i j k (omega arith) (omega arith) (omega arith))

pub triples_related : (R : ℕ → ℕ → ℕ → Type 0) (l : List ℕ) → ((i j k : ℕ) → i < j → j < k → k < length l → R (get_or l i 0) (get_or l j 0) (get_or l k 0))
    → (t : Triple) → In t (triples l) → R t.first t.middle t.last
triples_related R [] h t i = absurd i
triples_related R (u ∷ l) h t i = elim (in_parts t (triples_from u l) (triples l) i) [
  | inl k ↦
      let w = map_in (three u) t (pairs_in l) (rw (triples_from_map u l) at k) in
      let up = ascending_from (R u) l 0 (λ j k a b. h 0 (suc j) (suc k) (omega arith) (omega arith) (omega arith)) in
      subst (λ (z : Triple). R z.first z.middle z.last) (sym w.1.1) (pairs_related (R u) l up w.0 w.1.0)
  | inr k ↦ triples_related R l (λ i j k a b c. h (suc i) (suc j) (suc k) (omega arith) (omega arith) (omega arith)) t k
]
