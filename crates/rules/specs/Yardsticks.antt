-- Yardsticks: one step for each set of units already placed and each unit outside it, and totals of steps.
use Rattle.std.specs.Prelude.{◌≡◌, ℕ, ◌+◌, ◌*◌, ◌^◌, ◌<◌, ◌≤◌, Bool, true, false, cond, ◌||◌, List, [], ◌∷◌, ℤ, pos, negsuc, ◌+ℤ◌, ◌-ℤ◌, ◌*ℤ◌, ◌==◌, int_lt, slice_index, unsigned_abs}
use Rattle.rules.specs.Units.{label, labels, has, size, sum_ℤ, displacement}

-- A yardstick. A total is one or more whole numbers, as many as there are caps.
pub record Merit : Type 0 where
  pub caps : List ℕ
  pub plus : List ℤ → List ℤ → List ℤ
  -- the first total is greater than the second
  pub exceeds : List ℤ → List ℤ → Bool
  -- from the marks, the number of units, the set already placed, and the unit placed next
  pub step : (ℕ → ℕ → ℕ) → ℕ → ℕ → ℕ → List ℤ

-- the zero total: 0 in each of its numbers
abbrev pub zeros : List ℕ → List ℤ
zeros [] = []
zeros (c ∷ cs) = pos 0 ∷ zeros cs

-- there are as many numbers as caps, and each lies within m times its cap of zero
abbrev pub Within : ℕ → List ℕ → List ℤ → Type 0
Within m [] [] = Unit {0}
Within m [] (x ∷ xs) = ⊥
Within m (c ∷ cs) [] = ⊥
Within m (c ∷ cs) (x ∷ xs) = (unsigned_abs x ≤ m * c) × Within m cs xs

-- within twenty-one caps of zero
abbrev pub Near : Merit → List ℤ → Type 0
Near y u = Within 21 y.caps u

-- marks as numbers, without direction
abbrev pub Symmetric : (ℕ → ℕ → ℕ) → Type 0
Symmetric p = (a b : ℕ) → p a b ≡ p b a

-- no mark is above 10,000
abbrev pub Low : (ℕ → ℕ → ℕ) → Type 0
Low p = (a b : ℕ) → p a b ≤ 10000

-- What a yardstick owes. Each law but the last two is owed where all sums stay within twenty-one caps of zero.
pub record Lawful (y : Merit) : Type 0 where
  pub plus_zero : (u : List ℤ) → Near y u → y.plus u (zeros y.caps) ≡ u
  pub plus_comm : (u v : List ℤ) → Near y u → Near y v → Near y (y.plus u v) → Near y (y.plus v u)
      → y.plus u v ≡ y.plus v u
  pub plus_assoc : (u v w : List ℤ) → Near y u → Near y v → Near y w → Near y (y.plus u v) → Near y (y.plus v w)
      → Near y (y.plus (y.plus u v) w) → Near y (y.plus u (y.plus v w))
      → y.plus (y.plus u v) w ≡ y.plus u (y.plus v w)
  -- the totals are in a total order
  pub never_itself : (u : List ℤ) → Near y u → y.exceeds u u ≡ false
  pub transitive : (u v w : List ℤ) → Near y u → Near y v → Near y w
      → y.exceeds u v ≡ true → y.exceeds v w ≡ true → y.exceeds u w ≡ true
  pub compared : (u v : List ℤ) → Near y u → Near y v → y.exceeds u v ≡ false → y.exceeds v u ≡ false → u ≡ v
  -- one exceeds another exactly if it still does after a third is added to both
  pub after_adding : (u v w : List ℤ) → Near y u → Near y v → Near y w → Near y (y.plus u w) → Near y (y.plus v w)
      → y.exceeds (y.plus u w) (y.plus v w) ≡ y.exceeds u v
  -- owed always
  pub adds_caps : (a b : ℕ) (u v : List ℤ) → a + b ≤ 21 → Within a y.caps u → Within b y.caps v
      → Within (a + b) y.caps (y.plus u v)
  pub step_within : (p : ℕ → ℕ → ℕ) (n A j : ℕ) → 2 ≤ n → n ≤ 20 → Low p → Symmetric p
      → A < 2 ^ n → label n j ≡ true → has A j ≡ false → Within 1 y.caps (y.step p n A j)

-- added number by number
abbrev pub add_each : List ℤ → List ℤ → List ℤ
add_each [] vs = []
add_each (u ∷ us) [] = []
add_each (u ∷ us) (v ∷ vs) = (u +ℤ v) ∷ add_each us vs

-- compared by the first number, then by the next
abbrev pub above : List ℤ → List ℤ → Bool
above [] vs = false
above (u ∷ us) [] = false
above (u ∷ us) (v ∷ vs) = cond (int_lt v u) true (cond (int_lt u v) false (above us vs))

-- spread: the displacement squared
abbrev pub spread : Merit
spread = record {
  caps = 36100000000 ∷ [];
  plus = add_each;
  exceeds = above;
  step = λ p n A j. (displacement p n A j *ℤ displacement p n A j) ∷ [];
}

-- the sign of a number: -1, 0 or 1
abbrev pub sign_ℤ : ℤ → ℤ
sign_ℤ z = cond (int_lt (pos 0) z) (pos 1) (cond (int_lt z (pos 0)) (negsuc 0) (pos 0))

-- the sum of f over each i in A and each k outside A other than j
abbrev pub across : (ℕ → ℕ → ℤ) → ℕ → ℕ → ℕ → ℤ
across f n A j =
    sum_ℤ (λ i. cond (has A i) (sum_ℤ (λ k. cond (has A k || k == j) (pos 0) (f i k)) (labels n)) (pos 0)) (labels n)

-- gradient: the signs of what the mark of i and k is above those of i and j and of j and k, then these differences
abbrev pub gradient : Merit
gradient = record {
  caps = 180 ∷ 1800000 ∷ [];
  plus = add_each;
  exceeds = above;
  step = λ p n A j.
      across (λ i k. sign_ℤ (pos (p i k) -ℤ pos (p i j)) +ℤ sign_ℤ (pos (p i k) -ℤ pos (p j k))) n A j
      ∷ across (λ i k. (pos (p i k) -ℤ pos (p i j)) +ℤ (pos (p i k) -ℤ pos (p j k))) n A j
      ∷ [];
}

-- the place numbers of positions 1 to 20
abbrev pub places : List ℕ
places = 0 ∷ 1 ∷ 2 ∷ 3 ∷ 4 ∷ 5 ∷ 6 ∷ 7 ∷ 8 ∷ 9 ∷ 10 ∷ 11 ∷ 12 ∷ 13 ∷ 14 ∷ 15 ∷ 16 ∷ 17 ∷ 18 ∷ 19 ∷ []

-- target: the displacement times the place number of the position that is filled, size of A + 1
abbrev pub target : Merit
target = record {
  caps = 3610000 ∷ [];
  plus = add_each;
  exceeds = above;
  step = λ p n A j. (displacement p n A j *ℤ pos (slice_index places (size n A))) ∷ [];
}
