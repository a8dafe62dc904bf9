-- Sums of squares: of the marks of a unit and the labels before it, of the marks of all pairs, and their bounds.
use Rattle.std.proofs.Common.{◌≡◌, ℕ, zero, suc, ◌+◌, ◌-◌, ◌*◌, ◌≤◌, List, [], ◌∷◌, ◌++◌, sum_by, ℤ, pos, negsuc, ◌+ℤ◌, nat_abs, sym, refl, ap, ◌∙◌, arith}
use Rattle.std.proofs.lemmas.Nat.{mul-le}
use Rattle.std.proofs.lemmas.List.Sums.{sum_by-cons, sum_by_push}
use Rattle.rules.specs.Units.{labels, sum_ℤ}
use Rattle.rules.specs.Sheets.{pairs_in}
use Rattle.rules.specs.Scaling.{square}
use Rattle.rules.proofs.Integers.{lin}
use Rattle.rules.proofs.Sets.{sum_last}
use Rattle.rules.proofs.Sums.{pairs_step}
use Rattle.marks.specs.declared.marks.Marks.{Marks}
use Rattle.marks.specs.Numbers.{numbers_of}
use Rattle.marks.proofs.Laws.{low}

-- a number squared is its size squared
pub square_size : (z : ℤ) → pos (nat_abs z * nat_abs z) ≡ square z
square_size (pos a) = refl
square_size (negsuc a) = refl

pub square_low : (x m : ℕ) → x ≤ m → x * x ≤ m * m
square_low x m h = mul-le x x m m h h

-- up to twenty times the greatest sum of squared marks
pub times_low : (n s : ℕ) → n ≤ 20 → s ≤ 40000000000 → n * s ≤ 800000000000
times_low n s h k = mul-le n s 20 40000000000 h k

-- the same sum in whole numbers
as_ℤ : (f : ℕ → ℕ) (xs : List ℕ) → pos (sum_by f xs) ≡ sum_ℤ (λ a. pos (f a)) xs
as_ℤ f [] = refl
as_ℤ f (x ∷ xs) = ap pos (sum_by-cons f x xs) ∙ ap (λ z. pos (f x) +ℤ z) (as_ℤ f xs)

-- the pairs of a row with one more unit
pairs_last : (h : ℕ × ℕ → ℤ) (xs : List ℕ) (x : ℕ)
    → sum_ℤ h (pairs_in (xs ++ (x ∷ []))) ≡ sum_ℤ h (pairs_in xs) +ℤ sum_ℤ (λ a. h (a, x)) xs
pairs_last h [] x = refl
pairs_last h (a ∷ xs) x =
    omega (
      arith,
      lin,
      pairs_step h a (xs ++ (x ∷ [])),
      sum_last (λ b. h (a, b)) xs x,
      pairs_last h xs x,
      pairs_step h a xs,
    )

module _ (m : Marks) where
  -- the square of the mark of two units
  abbrev pub of_pair : ℕ → ℕ → ℕ
  of_pair a b = numbers_of m a b * numbers_of m a b

  pub of_pair_low : (a b : ℕ) → of_pair a b ≤ 100000000
  of_pair_low a b = square_low (numbers_of m a b) 10000 (low m a b)

  -- of a unit with each unit before it
  abbrev pub before : ℕ → ℕ
  before b = sum_by (λ a. of_pair a b) (labels (b - 1))

  pub some_low : (b k : ℕ) → sum_by (λ a. of_pair a b) (labels k) ≤ 100000000 * k
  some_low b zero = omega arith
  some_low b (suc k) = omega (arith, sum_by_push (λ a. of_pair a b) (labels k) (suc k), some_low b k, of_pair_low (suc k) b)

  next : (n : ℕ) → sum_by before (labels (suc n)) ≡ sum_by before (labels n) + sum_by (λ a. of_pair a (suc n)) (labels n)
  next n =
      let e : suc n - 1 ≡ n = omega arith in
      sum_by_push before (labels n) (suc n) ∙ ap (λ k. sum_by before (labels n) + sum_by (λ a. of_pair a (suc n)) (labels k)) e

  -- of all pairs
  pub all_low : (n : ℕ) → n ≤ 20 → sum_by before (labels n) ≤ 2000000000 * n
  all_low zero l = omega arith
  all_low (suc n) l = omega (arith, next n, some_low (suc n) n, all_low n (omega arith))

  pub all_pairs : (n : ℕ) → pos (sum_by before (labels n)) ≡ sum_ℤ (λ q. square (pos (numbers_of m q.0 q.1))) (pairs_in (labels n))
  all_pairs zero = refl
  all_pairs (suc n) =
      ap pos (next n) ∙ (λ i. all_pairs n i +ℤ as_ℤ (λ a. of_pair a (suc n)) (labels n) i)
      ∙ sym (pairs_last (λ q. square (pos (numbers_of m q.0 q.1))) (labels n) (suc n))
