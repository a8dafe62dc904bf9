-- Sets of units as bit masks: what a set has once a unit is put to it, and how many units it has.
use Rattle.std.proofs.Common.{◌≡◌, ℕ, zero, suc, ◌+◌, ◌-◌, ◌/◌, ◌%◌, ◌^◌, ◌<◌, ◌≤◌, Bool, true, false, cond, eqb, leb, ◌⊎◌, List, [], ◌∷◌, ◌++◌, ℤ, ◌+ℤ◌, sym, refl, ap, ◌∙◌, subst, inl, inr, div-one, arith}
use native.Mathlib.Nat.{pow-succ', div-div-eq-div-mul, zero-div, one-le-pow}
use Rattle.std.proofs.lemmas.Bool.{both_ways, and_parts, and_from, leb-true, le-leb, eqb-true, eqb-false, eq-eqb, cases_eq}
use Rattle.std.proofs.lemmas.Int.{ints}
use Rattle.rules.specs.Units.{label, labels, has, with_unit, size, sum_ℤ}
use Rattle.rules.proofs.Tests.{refuted, bit_low, one_if, none_if, if_one}
use Rattle.rules.proofs.Lists.{sum_append}

pub label_from : (n j : ℕ) → 1 ≤ j → j ≤ n → label n j ≡ true
label_from n j h k = and_from (leb 1 j) (leb j n) (le-leb 1 j h) (le-leb j n k)

pub label_low : (n j : ℕ) → label n j ≡ true → 1 ≤ j
label_low n j h = leb-true 1 j (and_parts (leb 1 j) (leb j n) h).0

pub label_high : (n j : ℕ) → label n j ≡ true → j ≤ n
label_high n j h = leb-true j n (and_parts (leb 1 j) (leb j n) h).1

abbrev bit : ℕ → ℕ → ℕ
bit A m = (A / 2 ^ m) % 2

bit_zero : (A : ℕ) → bit A 0 ≡ A % 2
bit_zero A = ap (λ (q : ℕ). q % 2) (div-one A)

bit_suc : (A m : ℕ) → bit A (suc m) ≡ bit (A / 2) m
bit_suc A m = ap (λ (q : ℕ). q % 2) (ap (λ (d : ℕ). A / d) (pow-succ' 2 m) ∙ sym (div-div-eq-div-mul A 2 (2 ^ m)))

half_more : (A m : ℕ) → (A + 2 ^ suc m) / 2 ≡ A / 2 + 2 ^ m
half_more A m = omega (arith, pow-succ' 2 m)

bit_same : (m A : ℕ) → bit A m ≡ 0 → bit (A + 2 ^ m) m ≡ 1
bit_same zero A h =
    let e : A % 2 ≡ 0 = sym (bit_zero A) ∙ h in
    bit_zero (A + 1) ∙ omega arith
bit_same (suc m) A h =
    bit_suc (A + 2 ^ suc m) m ∙ (ap (λ (q : ℕ). bit q m) (half_more A m) ∙ bit_same m (A / 2) (sym (bit_suc A m) ∙ h))

bit_other : (m A : ℕ) → bit A m ≡ 0 → (i : ℕ) → (i ≡ m → ⊥) → bit (A + 2 ^ m) i ≡ bit A i
bit_other zero A h zero ne = absurd (ne refl)
bit_other zero A h (suc i) ne =
    let e : A % 2 ≡ 0 = sym (bit_zero A) ∙ h in
    let f : (A + 1) / 2 ≡ A / 2 = omega arith in
    bit_suc (A + 1) i ∙ (ap (λ (q : ℕ). bit q i) f ∙ sym (bit_suc A i))
bit_other (suc m) A h zero ne =
    let f : (A + 2 ^ suc m) % 2 ≡ A % 2 = omega (arith, pow-succ' 2 m) in
    bit_zero (A + 2 ^ suc m) ∙ (f ∙ sym (bit_zero A))
bit_other (suc m) A h (suc i) ne =
    bit_suc (A + 2 ^ suc m) i
    ∙ (ap (λ (q : ℕ). bit q i) (half_more A m)
    ∙ (bit_other m (A / 2) (sym (bit_suc A m) ∙ h) i (λ e. ne (ap suc e)) ∙ sym (bit_suc A i)))

bit_below : (n m A : ℕ) → m < n → A < 2 ^ n → bit A m ≡ 0 → A + 2 ^ m < 2 ^ n
bit_below zero m A k l h = absurd (omega arith)
bit_below (suc n) zero A k l h =
    let e : A % 2 ≡ 0 = sym (bit_zero A) ∙ h in
    omega (arith, pow-succ' 2 n)
bit_below (suc n) (suc m) A k l h =
    let r = bit_below n m (A / 2) (omega arith) (omega (arith, pow-succ' 2 n)) (sym (bit_suc A m) ∙ h) in
    omega (arith, pow-succ' 2 n, pow-succ' 2 m)

no_bit : (A j : ℕ) → has A j ≡ false → bit A (j - 1) ≡ 0
no_bit A j h = let e = eqb-false (bit A (j - 1)) 1 h in omega arith

-- a set with a unit put to it
pub with_same : (A j : ℕ) → has A j ≡ false → has (with_unit A j) j ≡ true
with_same A j h = eq-eqb (bit (with_unit A j) (j - 1)) 1 (bit_same (j - 1) A (no_bit A j h))

pub with_other : (A j i : ℕ) → 1 ≤ j → has A j ≡ false → 1 ≤ i → (i ≡ j → ⊥) → has (with_unit A j) i ≡ has A i
with_other A j i l h k ne =
    let f : i - 1 ≡ j - 1 → ⊥ = λ e. ne (omega arith) in
    ap (λ (q : ℕ). eqb q 1) (bit_other (j - 1) A (no_bit A j h) (i - 1) f)

pub with_kept : (A j i : ℕ) → 1 ≤ j → has A j ≡ false → 1 ≤ i → has A i ≡ true → has (with_unit A j) i ≡ true
with_kept A j i l h k e =
    with_other A j i l h k (λ q. both_ways (has A i) (subst (λ (z : ℕ). has A z ≡ false) (sym q) h) e) ∙ e

pub with_back : (A j i : ℕ) → 1 ≤ j → has A j ≡ false → 1 ≤ i → has (with_unit A j) i ≡ true → (i ≡ j) ⊎ (has A i ≡ true)
with_back A j i l h k e = elim (cases_eq i j) [ inl q ↦ inl q | inr ne ↦ inr (sym (with_other A j i l h k ne) ∙ e) ]

pub with_lost : (A j i : ℕ) → 1 ≤ j → has A j ≡ false → 1 ≤ i → has (with_unit A j) i ≡ false → has A i ≡ false
with_lost A j i l h k e = refuted (has A i) (λ f. both_ways (has (with_unit A j) i) e (with_kept A j i l h k f))

pub with_below : (n A j : ℕ) → label n j ≡ true → A < 2 ^ n → has A j ≡ false → with_unit A j < 2 ^ n
with_below n A j l k h =
    let a = label_low n j l in
    let b = label_high n j l in
    bit_below n (j - 1) A (omega arith) k (no_bit A j h)

pub has_none : (i : ℕ) → has 0 i ≡ false
has_none i = ap (λ (q : ℕ). eqb (q % 2) 1) (zero-div (2 ^ (i - 1)))

-- how many units up to n it has
abbrev pub many : ℕ → ℕ → ℕ
many zero A = 0
many (suc n) A = many n A + cond (has A (suc n)) 1 0

pub sum_last : {X : Type 0} (f : X → ℤ) (xs : List X) (x : X) → sum_ℤ f (xs ++ (x ∷ [])) ≡ sum_ℤ f xs +ℤ f x
sum_last f [] x = omega (arith, ints)
sum_last f (z ∷ xs) x = let h = sum_last f xs x in omega (arith, ints)

pub size_many : (n A : ℕ) → size n A ≡ many n A
size_many zero A = refl
size_many (suc n) A =
    omega (arith, sum_append (λ i. cond (has A i) 1 0) (labels n) (suc n ∷ []), size_many n A)

pub many_low : (n A : ℕ) → many n A ≤ n
many_low zero A = omega arith
many_low (suc n) A = omega (arith, many_low n A, bit_low (has A (suc n)))

pub many_full : (n A : ℕ) → many n A ≡ n → (i : ℕ) → 1 ≤ i → i ≤ n → has A i ≡ true
many_full zero A h i k l = absurd (omega arith)
many_full (suc n) A h i k l = elim (cases_eq i (suc n)) [
  | inl q ↦ subst (λ (z : ℕ). has A z ≡ true) (sym q) (if_one (has A (suc n)) (omega (arith, many_low n A)))
  | inr ne ↦ many_full n A (omega (arith, many_low n A, bit_low (has A (suc n)))) i k (omega arith)
]

pub many_all : (n A : ℕ) → ((i : ℕ) → 1 ≤ i → i ≤ n → has A i ≡ true) → many n A ≡ n
many_all zero A h = refl
many_all (suc n) A h =
    omega (arith, many_all n A (λ i k l. h i k (omega arith)), one_if (has A (suc n)) (h (suc n) (omega arith) (omega arith)), bit_low (has A (suc n)))

many_above : (n A j : ℕ) → n < j → has A j ≡ false → many n (with_unit A j) ≡ many n A
many_above zero A j l h = refl
many_above (suc n) A j l h =
    λ i. many_above n A j (omega arith) h i + cond (with_other A j (suc n) (omega arith) h (omega arith) (λ e. omega arith) i) 1 0

many_upto : (n A j : ℕ) → 1 ≤ j → j ≤ n → has A j ≡ false → many n (with_unit A j) ≡ suc (many n A)
many_upto zero A j l m h = absurd (omega arith)
many_upto (suc n) A j l m h = elim (cases_eq j (suc n)) [
  | inl q ↦ omega (
    arith,
    many_above n A j (omega arith) h,
    one_if (has (with_unit A j) (suc n)) (subst (λ (z : ℕ). has (with_unit A j) z ≡ true) q (with_same A j h)),
    bit_low (has (with_unit A j) (suc n)),
    none_if (has A (suc n)) (subst (λ (z : ℕ). has A z ≡ false) q h),
  )
  | inr ne ↦ omega (
    arith,
    many_upto n A j l (omega arith) h,
    ap (λ (b : Bool). cond {A = ℕ} b 1 0) (with_other A j (suc n) l h (omega arith) (λ e. ne (sym e))),
  )
]

pub many_with : (n A j : ℕ) → label n j ≡ true → has A j ≡ false → many n (with_unit A j) ≡ suc (many n A)
many_with n A j l h = many_upto n A j (label_low n j l) (label_high n j l) h

pub size_with : (n A j : ℕ) → label n j ≡ true → has A j ≡ false → size n (with_unit A j) ≡ suc (size n A)
size_with n A j l h = size_many n (with_unit A j) ∙ (many_with n A j l h ∙ sym (ap suc (size_many n A)))

pub many_none : (n : ℕ) → many n 0 ≡ 0
many_none zero = refl
many_none (suc n) = λ i. many_none n i + cond (has_none (suc n) i) 1 0

pub size_none : (n : ℕ) → size n 0 ≡ 0
size_none n = size_many n 0 ∙ many_none n

-- the full set
all_bits : (n A : ℕ) → A < 2 ^ n → ((m : ℕ) → m < n → bit A m ≡ 1) → suc A ≡ 2 ^ n
all_bits zero A l h = omega arith
all_bits (suc n) A l h =
    let e : A % 2 ≡ 1 = sym (bit_zero A) ∙ h 0 (omega arith) in
    let r = all_bits n (A / 2) (omega (arith, pow-succ' 2 n)) (λ m k. sym (bit_suc A m) ∙ h (suc m) (omega arith)) in
    omega (arith, pow-succ' 2 n)

bits_all : (n A : ℕ) → suc A ≡ 2 ^ n → (m : ℕ) → m < n → bit A m ≡ 1
bits_all zero A h m l = absurd (omega arith)
bits_all (suc n) A h zero l = bit_zero A ∙ omega (arith, pow-succ' 2 n)
bits_all (suc n) A h (suc m) l = bit_suc A m ∙ bits_all n (A / 2) (omega (arith, pow-succ' 2 n)) m (omega arith)

pub full_is : (n A : ℕ) → A < 2 ^ n → size n A ≡ n → suc A ≡ 2 ^ n
full_is n A l h = all_bits n A l (λ m k. eqb-true (bit A m) 1 (at m k))
  where
    at : (m : ℕ) → m < n → eqb (bit A m) 1 ≡ true
    at m k =
        let e : suc m - 1 ≡ m = omega arith in
        subst (λ (z : ℕ). eqb (bit A z) 1 ≡ true) e (many_full n A (sym (size_many n A) ∙ h) (suc m) (omega arith) (omega arith))

pub is_full : (n A : ℕ) → suc A ≡ 2 ^ n → size n A ≡ n
is_full n A h =
    size_many n A ∙ many_all n A (λ i k l. eq-eqb (bit A (i - 1)) 1 (bits_all n A h (i - 1) (omega arith)))

-- a set with a unit put to it has a higher number
pub with_above : (A j : ℕ) → A < with_unit A j
with_above A j = omega (arith, one-le-pow (j - 1) 2 (omega arith))
