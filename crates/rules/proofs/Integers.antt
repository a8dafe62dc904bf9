-- Laws of whole numbers that the shelf lacks: products over sums, and orders with products.
use Rattle.std.proofs.Common.{◌≡◌, ℕ, zero, suc, ◌*◌, ◌<◌, ℤ, pos, negsuc, ◌+ℤ◌, ◌-ℤ◌, ◌*ℤ◌, neg_ℤ, ◌≤ℤ◌, ap, arith}
use lib.IntN.{*ℤ_comm}
use borrow.Author.Differences.{up, down, sum_is_lem, product_is, neg_is, same_out, same_in, Apart-out, lt_out, le_out, below_in, at_most_in}
use Rattle.std.proofs.lemmas.Int.{ints}

-- linear facts only: a product is taken as it stands
pub ruleset lin = (same_out, same_in, Apart-out, lt_out, le_out, below_in, at_most_in, sum_is_lem, neg_is)

pub mul_ℤ_distl : (a b c : ℤ) → a *ℤ (b +ℤ c) ≡ a *ℤ b +ℤ a *ℤ c
mul_ℤ_distl a b c = omega (arith, ints, ap (λ (n : ℕ). up a * n) (sum_is_lem b c), ap (λ (n : ℕ). down a * n) (sum_is_lem b c))

pub mul_ℤ_distr : (a b c : ℤ) → (a +ℤ b) *ℤ c ≡ a *ℤ c +ℤ b *ℤ c
mul_ℤ_distr a b c = omega (arith, ints, ap (λ (n : ℕ). n * up c) (sum_is_lem a b), ap (λ (n : ℕ). n * down c) (sum_is_lem a b))

pub mul_ℤ_assoc : (a b c : ℤ) → (a *ℤ b) *ℤ c ≡ a *ℤ (b *ℤ c)
mul_ℤ_assoc a b c =
    omega (
      arith,
      ints,
      ap (λ (n : ℕ). up a * n) (product_is b c).0,
      ap (λ (n : ℕ). up a * n) (product_is b c).1,
      ap (λ (n : ℕ). down a * n) (product_is b c).0,
      ap (λ (n : ℕ). down a * n) (product_is b c).1,
      ap (λ (n : ℕ). n * up c) (product_is a b).0,
      ap (λ (n : ℕ). n * up c) (product_is a b).1,
      ap (λ (n : ℕ). n * down c) (product_is a b).0,
      ap (λ (n : ℕ). n * down c) (product_is a b).1,
    )

pub one_mul_ℤ : (a : ℤ) → pos 1 *ℤ a ≡ a
one_mul_ℤ a = omega (arith, ints)

pub neg_ℤ_mul : (a b : ℤ) → neg_ℤ a *ℤ b ≡ neg_ℤ (a *ℤ b)
neg_ℤ_mul a b =
    omega (
      arith,
      ints,
      ap (λ (n : ℕ). n * up b) (neg_is a).0,
      ap (λ (n : ℕ). n * up b) (neg_is a).1,
      ap (λ (n : ℕ). n * down b) (neg_is a).0,
      ap (λ (n : ℕ). n * down b) (neg_is a).1,
    )

pub sq_nonneg : (a : ℤ) → pos 0 ≤ℤ (a *ℤ a)
sq_nonneg (pos a) = omega (arith, ints)
sq_nonneg (negsuc a) = omega (arith, ints)

pub prod_nonneg : (n : ℕ) (a : ℤ) → pos 0 ≤ℤ a → pos 0 ≤ℤ (pos n *ℤ a)
prod_nonneg n (pos a) h = omega (arith, ints)
prod_nonneg n (negsuc a) h = absurd (omega (arith, ints))

minus_out : (n : ℕ) (a b : ℤ) → pos n *ℤ (b -ℤ a) ≡ pos n *ℤ b -ℤ pos n *ℤ a
minus_out n a b = omega (arith, lin, mul_ℤ_distl (pos n) b (neg_ℤ a), *ℤ_comm (pos n) (neg_ℤ a), neg_ℤ_mul a (pos n), *ℤ_comm a (pos n))

-- a factor may be put to both sides, and taken away where it is above 0
pub mul_le : (n : ℕ) (a b : ℤ) → a ≤ℤ b → (pos n *ℤ a) ≤ℤ (pos n *ℤ b)
mul_le n a b h = omega (arith, lin, prod_nonneg n (b -ℤ a) (omega (arith, lin)), minus_out n a b)

pub cancel_le : (n : ℕ) (a b : ℤ) → 0 < n → (pos n *ℤ a) ≤ℤ (pos n *ℤ b) → a ≤ℤ b
cancel_le n a b l h = let g : pos 0 ≤ℤ (b -ℤ a) = go n (b -ℤ a) l (omega (arith, lin, minus_out n a b)) in omega (arith, lin)
  where
    go : (n : ℕ) (c : ℤ) → 0 < n → pos 0 ≤ℤ (pos n *ℤ c) → pos 0 ≤ℤ c
    go zero c l h = absurd (omega arith)
    go (suc n) (pos c) l h = omega (arith, ints)
    go (suc n) (negsuc c) l h = absurd (omega (arith, ints))
