-- Spread, gradient and target are lawful: totals added number by number and compared by the first number, then by the
-- next, keep the laws, and the steps stay within their caps.
use Rattle.std.proofs.Common.{◌≡◌, ℕ, zero, suc, ◌+◌, ◌-◌, ◌*◌, ◌^◌, ◌<◌, ◌≤◌, Bool, true, false, cond, not, ◌||◌, eqb, leb, List, [], ◌∷◌, get_or, ℤ, pos, negsuc, ◌+ℤ◌, ◌-ℤ◌, ◌*ℤ◌, neg_ℤ, nat_abs, sym, refl, ap, subst, inl, inr, le_trans, mul-le-mul_right, mul_assoc, add-mul, mul-le-mul_left, arith}
use lib.Signed.{lt_z}
use Rattle.std.specs.List.{AllByRecursion}
use Rattle.std.proofs.lemmas.Bool.{both_ways, leb-true, eq-eqb, cases_eq}
use Rattle.std.proofs.lemmas.Int.{ints}
use Rattle.rules.specs.Units.{label, labels, has, sum_ℤ, size, displacement}
use Rattle.rules.specs.Yardsticks.{Lawful, Within, Low, Symmetric, zeros, add_each, above, spread, target, gradient, places, sign_ℤ, across}
use Rattle.rules.specs.Theorems.{YardsticksLawful}
use Rattle.rules.proofs.Sets.{label_low, label_high, sum_last}
use Rattle.rules.proofs.Members.{all_of_in, in_labels}

each_zero : (m : ℕ) (caps : List ℕ) (u : List ℤ) → Within m caps u → add_each u (zeros caps) ≡ u
each_zero m [] [] h = refl
each_zero m [] (x ∷ u) h = absurd h
each_zero m (c ∷ caps) [] h = absurd h
each_zero m (c ∷ caps) (x ∷ u) h = let e : (x +ℤ pos 0) ≡ x = omega (arith, ints) in λ i. e i ∷ each_zero m caps u h.1 i

each_comm : (u v : List ℤ) → add_each u v ≡ add_each v u
each_comm [] [] = refl
each_comm [] (z ∷ v) = refl
each_comm (x ∷ u) [] = refl
each_comm (x ∷ u) (z ∷ v) = let e : (x +ℤ z) ≡ (z +ℤ x) = omega (arith, ints) in λ i. e i ∷ each_comm u v i

each_assoc : (u v w : List ℤ) → add_each (add_each u v) w ≡ add_each u (add_each v w)
each_assoc [] v w = refl
each_assoc (x ∷ u) [] w = refl
each_assoc (x ∷ u) (z ∷ v) [] = refl
each_assoc (x ∷ u) (z ∷ v) (t ∷ w) =
    let e : ((x +ℤ z) +ℤ t) ≡ (x +ℤ (z +ℤ t)) = omega (arith, ints) in λ i. e i ∷ each_assoc u v w i

-- comparing by the first numbers and, where they are equal, by a test of the others
abbrev by_first : ℤ → ℤ → Bool → Bool
by_first x z p = cond (lt_z z x) true (cond (lt_z x z) false p)

first_itself : (x : ℤ) (p : Bool) → p ≡ false → by_first x x p ≡ false
first_itself x p h = grind (arith, ints)

first_trans : (x z t : ℤ) (p q s : Bool) → (p ≡ true → q ≡ true → s ≡ true)
    → by_first x z p ≡ true → by_first z t q ≡ true → by_first x t s ≡ true
first_trans x z t p q s r h k = grind (arith, ints)

first_same : (x z : ℤ) (p q : Bool) → by_first x z p ≡ false → by_first z x q ≡ false → (x ≡ z) × ((p ≡ false) × (q ≡ false))
first_same x z p q h k = grind (arith, ints)

first_after : (x z t : ℤ) (p q : Bool) → p ≡ q → by_first (x +ℤ t) (z +ℤ t) p ≡ by_first x z q
first_after x z t p q h = grind (arith, ints)

above_itself : (u : List ℤ) → above u u ≡ false
above_itself [] = refl
above_itself (x ∷ u) = first_itself x (above u u) (above_itself u)

above_trans : (u v w : List ℤ) → above u v ≡ true → above v w ≡ true → above u w ≡ true
above_trans [] v w h k = absurd (both_ways false refl h)
above_trans (x ∷ u) [] w h k = absurd (both_ways false refl h)
above_trans (x ∷ u) (z ∷ v) [] h k = absurd (both_ways false refl k)
above_trans (x ∷ u) (z ∷ v) (t ∷ w) h k = first_trans x z t (above u v) (above v w) (above u w) (above_trans u v w) h k

above_compared : (m : ℕ) (caps : List ℕ) (u v : List ℤ) → Within m caps u → Within m caps v
    → above u v ≡ false → above v u ≡ false → u ≡ v
above_compared m [] [] [] a b h k = refl
above_compared m [] [] (z ∷ v) a b h k = absurd b
above_compared m [] (x ∷ u) v a b h k = absurd a
above_compared m (c ∷ caps) [] v a b h k = absurd a
above_compared m (c ∷ caps) (x ∷ u) [] a b h k = absurd b
above_compared m (c ∷ caps) (x ∷ u) (z ∷ v) a b h k =
    let w = first_same x z (above u v) (above v u) h k in
    λ i. w.0 i ∷ above_compared m caps u v a.1 b.1 w.1.0 w.1.1 i

above_after : (m : ℕ) (caps : List ℕ) (u v w : List ℤ) → Within m caps u → Within m caps v → Within m caps w
    → above (add_each u w) (add_each v w) ≡ above u v
above_after m [] [] v w a b c = refl
above_after m [] (x ∷ u) v w a b c = absurd a
above_after m (q ∷ caps) [] v w a b c = absurd a
above_after m (q ∷ caps) (x ∷ u) [] w a b c = absurd b
above_after m (q ∷ caps) (x ∷ u) (z ∷ v) [] a b c = absurd c
above_after m (q ∷ caps) (x ∷ u) (z ∷ v) (t ∷ w) a b c =
    first_after x z t (above (add_each u w) (add_each v w)) (above u v) (above_after m caps u v w a.1 b.1 c.1)

abs_sum : (x z : ℤ) → nat_abs (x +ℤ z) ≤ nat_abs x + nat_abs z
abs_sum x z = omega (arith, ints)

each_within : (a b : ℕ) (caps : List ℕ) (u v : List ℤ) → Within a caps u → Within b caps v → Within (a + b) caps (add_each u v)
each_within a b [] [] v h k = tt
each_within a b [] (x ∷ u) v h k = absurd h
each_within a b (c ∷ caps) [] v h k = absurd h
each_within a b (c ∷ caps) (x ∷ u) [] h k = absurd k
each_within a b (c ∷ caps) (x ∷ u) (z ∷ v) h k = (omega (arith, abs_sum x z, h.0, k.0, add-mul a b c), each_within a b caps u v h.1 k.1)

-- the steps stay within the caps
abbrev StepWithin : List ℕ → ((ℕ → ℕ → ℕ) → ℕ → ℕ → ℕ → List ℤ) → Type 0
StepWithin caps step =
    (p : ℕ → ℕ → ℕ) (n A j : ℕ) → 2 ≤ n → n ≤ 20 → Low p → Symmetric p
    → A < 2 ^ n → label n j ≡ true → has A j ≡ false → Within 1 caps (step p n A j)

additive_lawful : (caps : List ℕ) (step : (ℕ → ℕ → ℕ) → ℕ → ℕ → ℕ → List ℤ) → StepWithin caps step
    → Lawful (record { caps = caps; plus = add_each; exceeds = above; step = step })
additive_lawful caps step h = record {
  plus_zero = λ u a. each_zero 21 caps u a;
  plus_comm = λ u v a b c d. each_comm u v;
  plus_assoc = λ u v w a b c d e f g. each_assoc u v w;
  never_itself = λ u a. above_itself u;
  transitive = λ u v w a b c d e. above_trans u v w d e;
  compared = λ u v a b c d. above_compared 21 caps u v a b c d;
  after_adding = λ u v w a b c d e. above_after 21 caps u v w a b c;
  adds_caps = λ a b u v l c d. each_within a b caps u v c d;
  step_within = h;
}

abs_product : (x z : ℤ) → nat_abs (x *ℤ z) ≡ nat_abs x * nat_abs z
abs_product (pos a) (pos b) = omega (arith, ints)
abs_product (pos a) (negsuc b) = omega (arith, ints)
abs_product (negsuc a) (pos b) = omega (arith, ints)
abs_product (negsuc a) (negsuc b) = omega (arith, ints)

product_low : (a b c d : ℕ) → a ≤ c → b ≤ d → a * b ≤ c * d
product_low a b c d h k = le_trans (mul-le-mul_left a k) (mul-le-mul_right d h)

-- how many labels pass a test, and a sum over them
abbrev passing : (ℕ → Bool) → ℕ → ℕ
passing f zero = 0
passing f (suc m) = passing f m + cond (f (suc m)) 1 0

times_if : (b : Bool) (c : ℕ) → cond b 1 0 * c ≡ cond b c 0
times_if b c = grind arith

some_sum : (f : ℕ → Bool) (g : ℕ → ℤ) (c : ℕ) → ((i : ℕ) → nat_abs (g i) ≤ cond (f i) c 0)
    → (m : ℕ) → nat_abs (sum_ℤ g (labels m)) ≤ passing f m * c
some_sum f g c h zero = omega arith
some_sum f g c h (suc m) =
    omega (
      arith,
      ap nat_abs (sum_last g (labels m) (suc m)),
      abs_sum (sum_ℤ g (labels m)) (g (suc m)),
      some_sum f g c h m,
      h (suc m),
      add-mul (passing f m) (cond (f (suc m)) 1 0) c,
      times_if (f (suc m)) c,
    )

-- a number that counts only under a test
low_if : (b : Bool) (x : ℤ) (c : ℕ) → nat_abs x ≤ c → nat_abs (cond b x (pos 0)) ≤ cond b c 0
low_if b x c h = grind (arith, ints)

low_unless : (b : Bool) (x : ℤ) (c : ℕ) → nat_abs x ≤ c → nat_abs (cond b (pos 0) x) ≤ cond (not b) c 0
low_unless b x c h = grind (arith, ints)

-- those that pass a test, those that do not, and j, which does not, are all
module _ (f : ℕ → Bool) (j : ℕ) (out : f j ≡ false) where
  abbrev other : ℕ → Bool
  other k = not (f k || eqb k j)

  at_most_one : (b c : Bool) → cond (not (b || c)) 1 0 + cond b 1 0 ≤ 1
  at_most_one b c = grind arith

  below : (m : ℕ) → passing other m + passing f m ≤ m
  below zero = omega arith
  below (suc m) = omega (arith, below m, at_most_one (f (suc m)) (eqb (suc m) j))

  others : (m : ℕ) → 1 ≤ j → j ≤ m → suc (passing other m + passing f m) ≤ m
  others zero a b = absurd (omega arith)
  others (suc m) a b = elim (cases_eq j (suc m)) [
    | inl e ↦ omega (arith, below m, neither (f (suc m)) (eqb (suc m) j) (subst (λ (z : ℕ). f z ≡ false) e out) (eq-eqb (suc m) j (sym e)))
    | inr ne ↦ omega (arith, others m a (omega arith), at_most_one (f (suc m)) (eqb (suc m) j))
  ]
    where
      neither : (b c : Bool) → b ≡ false → c ≡ true → cond (not (b || c)) 1 0 + cond b 1 0 ≤ 0
      neither b c e f = rw (e, f) (omega arith)

-- a displacement: at most nineteen marks
signed_low : (b : Bool) (d : ℕ) → nat_abs (cond b (pos d) (neg_ℤ (pos d))) ≤ d
signed_low b d = grind (arith, ints)

displacement_low : (p : ℕ → ℕ → ℕ) (n A j : ℕ) → n ≤ 20 → Low p → label n j ≡ true → nat_abs (displacement p n A j) ≤ 190000
displacement_low p n A j t low l =
    let r = some_sum (λ i. not (false || eqb i j)) (λ i. cond (eqb i j) (pos 0) (cond (has A i) (pos (p i j)) (neg_ℤ (pos (p i j))))) 10000
    (λ i. low_unless (eqb i j) (cond (has A i) (pos (p i j)) (neg_ℤ (pos (p i j)))) 10000 (le_trans (signed_low (has A i) (p i j)) (low i j))) n in
    omega (arith, others (λ i. false) j refl n (label_low n j l) (label_high n j l))

spread_lawful : Lawful spread
spread_lawful = additive_lawful spread.caps spread.step (λ p n A j two t low sm a l h.
    let d : ℤ = displacement p n A j in
    let k = displacement_low p n A j t low l in
    (omega (arith, abs_product d d, product_low (nat_abs d) (nat_abs d) 190000 190000 k k), tt))

place_low : (c : ℕ) (xs : List ℕ) → AllByRecursion (λ x. x ≤ c) xs → (i : ℕ) → get_or xs i 0 ≤ c
place_low c [] h i = omega arith
place_low c (x ∷ xs) h zero = h.0
place_low c (x ∷ xs) h (suc i) = place_low c xs h.1 i

target_lawful : Lawful target
target_lawful = additive_lawful target.caps target.step (λ p n A j two t low sm a l h.
    let d : ℤ = displacement p n A j in
    let q : ℕ = get_or places (size n A) 0 in
    let low_place : q ≤ 19 = place_low 19 places (omega arith) (size n A) in
    (omega (arith, abs_product d (pos q), product_low (nat_abs d) q 190000 19 (displacement_low p n A j t low l) low_place), tt))

-- two numbers of sum at most 19
ab_low : (a b : ℕ) → a + b ≤ 19 → a * b ≤ 90
ab_low zero b h = omega arith
ab_low (suc a) b h =
    le_trans (mul-le-mul_left (suc a) (omega arith))
    (leb-true (suc a * (19 - suc a)) 90 (all_of_in (λ k. leb (k * (19 - k)) 90) (labels 19) refl (suc a) (in_labels 19 (suc a) (omega arith) (omega arith))))

across_low : (f : ℕ → ℕ → ℤ) (c : ℕ) → ((i k : ℕ) → nat_abs (f i k) ≤ c) → (n A j : ℕ) → n ≤ 20 → label n j ≡ true → has A j ≡ false
    → nat_abs (across f n A j) ≤ 90 * c
across_low f c h n A j t l o =
    le_trans (some_sum (has A) (λ i. cond (has A i) (inner i) (pos 0)) (b * c) (λ i. low_if (has A i) (inner i) (b * c) (inner_low i)) n)
    (subst (λ (x : ℕ). x ≤ 90 * c) (mul_assoc (passing (has A) n) b c)
    (mul-le-mul_right c (ab_low (passing (has A) n) b (omega (arith, others (has A) j o n (label_low n j l) (label_high n j l))))))
  where
    b : ℕ
    b = passing (λ k. not (has A k || eqb k j)) n

    inner : ℕ → ℤ
    inner i = sum_ℤ (λ k. cond (has A k || eqb k j) (pos 0) (f i k)) (labels n)

    inner_low : (i : ℕ) → nat_abs (inner i) ≤ b * c
    inner_low i =
        some_sum (λ k. not (has A k || eqb k j)) (λ k. cond (has A k || eqb k j) (pos 0) (f i k)) c
        (λ k. low_unless (has A k || eqb k j) (f i k) c (h i k)) n

sign_low : (z : ℤ) → nat_abs (sign_ℤ z) ≤ 1
sign_low z = grind (arith, ints)

gradient_lawful : Lawful gradient
gradient_lawful = additive_lawful gradient.caps gradient.step (λ p n A j two t low sm a l h. (
  across_low (λ i k. sign_ℤ (pos (p i k) -ℤ pos (p i j)) +ℤ sign_ℤ (pos (p i k) -ℤ pos (p j k))) 2
      (λ i k. omega (
        arith,
        abs_sum (sign_ℤ (pos (p i k) -ℤ pos (p i j))) (sign_ℤ (pos (p i k) -ℤ pos (p j k))),
        sign_low (pos (p i k) -ℤ pos (p i j)),
        sign_low (pos (p i k) -ℤ pos (p j k)),
      )) n A j t l h,
  (
    across_low (λ i k. (pos (p i k) -ℤ pos (p i j)) +ℤ (pos (p i k) -ℤ pos (p j k))) 20000
        (λ i k. omega (arith, ints, low i k, low i j, low j k)) n A j t l h,
    tt,
  ),
))

pub yardsticks_lawful : YardsticksLawful
yardsticks_lawful = (spread_lawful, (gradient_lawful, target_lawful))
