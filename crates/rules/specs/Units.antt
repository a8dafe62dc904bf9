-- Units, sets of units, sums, and the displacement of a unit.
use Rattle.std.specs.Prelude.{ℕ, zero, suc, ◌+◌, ◌-◌, ◌/◌, ◌%◌, ◌^◌, Bool, cond, ◌&&◌, List, [], ◌∷◌, ◌++◌, ℤ, pos, ◌+ℤ◌, neg_ℤ, ◌==◌, nat_le}

-- the labels 1 to n, in order
abbrev pub labels : ℕ → List ℕ
labels zero = []
labels (suc n) = labels n ++ (suc n ∷ [])

-- a is one of the labels 1 to n
abbrev pub label : ℕ → ℕ → Bool
label n a = nat_le 1 a && nat_le a n

-- A set of units is the number that sums 2^(i-1) over its units i. Whether A has j.
abbrev pub has : ℕ → ℕ → Bool
has A j = (A / 2 ^ (j - 1)) % 2 == 1

-- A with the unit j, which it does not have, put to it
abbrev pub with_unit : ℕ → ℕ → ℕ
with_unit A j = A + 2 ^ (j - 1)

-- the sum of f over a list, in natural numbers
abbrev pub sum_over : {X : Type 0} → (X → ℕ) → List X → ℕ
sum_over f [] = 0
sum_over f (x ∷ xs) = f x + sum_over f xs

-- and in whole numbers
abbrev pub sum_ℤ : {X : Type 0} → (X → ℤ) → List X → ℤ
sum_ℤ f [] = pos 0
sum_ℤ f (x ∷ xs) = f x +ℤ sum_ℤ f xs

-- how many of the labels 1 to n a set has
abbrev pub size : ℕ → ℕ → ℕ
size n A = sum_over (λ i. cond (has A i) 1 0) (labels n)

-- p is the mark of two units: the sum of j's marks to units in A, minus the sum of its marks to the other units
abbrev pub displacement : (ℕ → ℕ → ℕ) → ℕ → ℕ → ℕ → ℤ
displacement p n A j =
    sum_ℤ (λ i. cond (i == j) (pos 0) (cond (has A i) (pos (p i j)) (neg_ℤ (pos (p i j))))) (labels n)
