-- The best tie-keeping orders under a yardstick, in label order, and the tables over sets.
use Rattle.std.specs.Prelude.{ℕ, ◌-◌, Bool, cond, not, List, [], ◌∷◌, ◌++◌, map, length, drop, ℤ, filter}
use Rattle.std.specs.List.{range_with_len}
use Rattle.rules.specs.Units.{with_unit, size}
use Rattle.rules.specs.Yardsticks.{Merit, zeros}
use Rattle.rules.specs.Orders.{ways, closed}

-- the total of the steps of a row whose units are placed one after another after A
abbrev pub total : Merit → (ℕ → ℕ → ℕ) → ℕ → ℕ → List ℕ → List ℤ
total y p n A [] = zeros y.caps
total y p n A (j ∷ o) = y.plus (y.step p n A j) (total y p n (with_unit A j) o)

-- the greatest of t and some totals
abbrev pub greater : Merit → List ℤ → List (List ℤ) → List ℤ
greater y t [] = t
greater y t (u ∷ us) = greater y (cond (y.exceeds u t) u t) us

-- the greatest of some totals
abbrev pub greatest : Merit → List (List ℤ) → List ℤ
greatest y [] = zeros y.caps
greatest y (t ∷ ts) = greater y t ts

module _ (y : Merit) (p : ℕ → ℕ → ℕ) (tied : ℕ → ℕ → Bool) (n : ℕ) where
  -- the tie-keeping ways to place what A leaves
  abbrev pub rest : ℕ → List (List ℕ)
  rest A = ways tied n (n - size n A) A

  -- the greatest total of the remaining steps
  abbrev pub best : ℕ → List ℤ
  best A = greatest y (map (total y p n A) (rest A))

  -- the ways that reach it, in label order
  abbrev pub listed : ℕ → List (List ℕ)
  listed A = filter (λ o. not (y.exceeds (best A) (total y p n A o))) (rest A)

  -- the cell of a set in the table of totals: the zero total for a set that is not closed
  abbrev pub total_cell : ℕ → List ℤ
  total_cell A = cond (closed tied n A) (best A) (zeros y.caps)

  -- and in the table of counts: 0 for a set that is not closed
  abbrev pub count_cell : ℕ → ℕ
  count_cell A = cond (closed tied n A) (length (listed A)) 0

-- the cells 0 to m-1 of a table are made anew, and the cells from m on stay
abbrev pub filled : {X : Type 0} → (ℕ → X) → ℕ → List X → List X
filled f m old = map f (range_with_len 0 m) ++ drop m old
