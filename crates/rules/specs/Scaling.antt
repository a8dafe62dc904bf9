-- Coordinates along a line, the loss, and placings of the units at fractions.
use Rattle.std.specs.Prelude.{◌≡◌, ℕ, suc, ◌*◌, ◌<◌, true, cond, List, [], ◌∷◌, map, ℤ, pos, ◌+ℤ◌, ◌-ℤ◌, ◌*ℤ◌, ◌≤ℤ◌, ◌==◌, slice_index_or, unsigned_abs}
use Rattle.rules.specs.Units.{label, labels, sum_ℤ, with_unit, displacement}
use Rattle.rules.specs.Sheets.{pairs_in}

-- the displacement of each unit of a row after A and the units before it
abbrev pub displacements : (ℕ → ℕ → ℕ) → ℕ → ℕ → List ℕ → List ℤ
displacements p n A [] = []
displacements p n A (j ∷ o) = displacement p n A j ∷ displacements p n (with_unit A j) o

-- a whole number squared
abbrev pub square : ℤ → ℤ
square z = z *ℤ z

-- the loss in n-ths: n times the sum of squared marks, minus the sum of squared displacements
abbrev pub loss : (ℕ → ℕ → ℕ) → ℕ → List ℕ → ℤ
loss p n o =
    (pos n *ℤ sum_ℤ (λ q. square (pos (p q.0 q.1))) (pairs_in (labels n))) -ℤ sum_ℤ square (displacements p n 0 o)

-- a whole number over a whole number, which is above 0 in a placing
pub record Fraction : Type 0 where
  pub over : ℤ
  pub under : ℕ

-- the difference and the sum of two fractions
abbrev pub minus : Fraction → Fraction → Fraction
minus x z = record {
  over = (x.over *ℤ pos z.under) -ℤ (z.over *ℤ pos x.under);
  under = x.under * z.under;
}

abbrev pub plus : Fraction → Fraction → Fraction
plus x z = record {
  over = (x.over *ℤ pos z.under) +ℤ (z.over *ℤ pos x.under);
  under = x.under * z.under;
}

-- its size without its sign
abbrev pub magnitude : Fraction → Fraction
magnitude x = record { over = pos (unsigned_abs x.over); under = x.under }

-- a fraction squared
abbrev pub squared : Fraction → Fraction
squared x = record { over = square x.over; under = x.under * x.under }

-- a number as a fraction
abbrev pub whole : ℕ → Fraction
whole k = record { over = pos k; under = 1 }

-- compared by cross products
abbrev pub AtMost : Fraction → Fraction → Type 0
AtMost x z = (x.over *ℤ pos z.under) ≤ℤ (z.over *ℤ pos x.under)

-- a placing gives each unit a fraction
abbrev pub Placing : ℕ → (ℕ → Fraction) → Type 0
Placing n x = (j : ℕ) → label n j ≡ true → 0 < (x j).under

-- the mark of a pair minus the distance of its two units
abbrev pub misfit : (ℕ → ℕ → ℕ) → (ℕ → Fraction) → ℕ × ℕ → Fraction
misfit p x q = minus (whole (p q.0 q.1)) (magnitude (minus (x q.0) (x q.1)))

-- the sum of some fractions
abbrev pub sum_fractions : List Fraction → Fraction
sum_fractions [] = whole 0
sum_fractions (x ∷ xs) = plus x (sum_fractions xs)

-- the sum of the squared misfits of all pairs
abbrev pub misfits : (ℕ → ℕ → ℕ) → ℕ → (ℕ → Fraction) → Fraction
misfits p n x = sum_fractions (map (λ q. squared (misfit p x q)) (pairs_in (labels n)))

-- the place of a label in a row
abbrev pub found_at : List ℕ → ℕ → ℕ
found_at [] j = 0
found_at (u ∷ us) j = cond (u == j) 0 (suc (found_at us j))

-- coordinates: each unit of the row at its displacement divided by n
abbrev pub placed_at : ℕ → List ℕ → List ℤ → ℕ → Fraction
placed_at n o ds j = record { over = slice_index_or ds (found_at o j) (pos 0); under = n }
