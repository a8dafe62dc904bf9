-- The parts of a gradient step, for the unit j placed after the set A.
use Rattle.std.specs.Prelude.{◌≡◌, ℕ, ◌+◌, ◌<◌, Bool, cond, not, ◌||◌, List, ℤ, pos, ◌+ℤ◌, ◌-ℤ◌, ◌==◌, slice_index}
use Rattle.marks.specs.declared.marks.Marks.{Marks}
use Rattle.marks.specs.Numbers.{units_of, numbers_of}
use Rattle.rules.specs.Units.{labels, has, sum_ℤ}
use Rattle.rules.specs.Yardsticks.{sign_ℤ}
use Rattle.yardsticks.specs.declared.gradient.Grades.{Grades}

-- the marks of the unit j, one for each label
abbrev pub RowOf : Marks → ℕ → List ℕ → Type 0
RowOf m j row = (k : ℕ) → k < units_of m → slice_index row k ≡ numbers_of m j (k + 1)

-- from the marks of i and k, of i and j, and of j and k: the signs of what the first is above the others
abbrev pub signs_of : ℕ → ℕ → ℕ → ℤ
signs_of ik ij jk = sign_ℤ (pos ik -ℤ pos ij) +ℤ sign_ℤ (pos ik -ℤ pos jk)

-- and the differences themselves
abbrev pub rises_of : ℕ → ℕ → ℕ → ℤ
rises_of ik ij jk = (pos ik -ℤ pos ij) +ℤ (pos ik -ℤ pos jk)

-- the signs and the rises of a grade are one and the same sum, of the signs and of the differences
abbrev pub Graded : ((ℕ → ℕ → ℕ → ℤ) → ℤ) → Grades → Type 0
Graded sum g = (g.signs ≡ sum signs_of) × (g.rises ≡ sum rises_of)

-- one of the two for i and k
abbrev pub at : (ℕ → ℕ → ℕ → ℤ) → (ℕ → ℕ → ℕ) → ℕ → ℕ → ℕ → ℤ
at f p j i k = f (p i k) (p i j) (p j k)

-- k comes later: it is outside A, and other than j
abbrev pub later : ℕ → ℕ → ℕ → Bool
later A j k = not (has A k || k == j)

-- what k adds to the sum of i: nothing where it is in A or is j
abbrev pub beyond : (ℕ → ℤ) → ℕ → ℕ → ℕ → ℤ
beyond f A j k = cond (has A k || k == j) (pos 0) (f k)

-- the sum of i, over each k outside A other than j
abbrev pub past : (ℕ → ℤ) → ℕ → ℕ → ℕ → ℤ
past f n A j = sum_ℤ (beyond f A j) (labels n)

-- what i adds to the step: nothing where it is not in A
abbrev pub behind : (ℕ → ℕ → ℤ) → ℕ → ℕ → ℕ → ℕ → ℤ
behind f n A j i = cond (has A i) (past (f i) n A j) (pos 0)
