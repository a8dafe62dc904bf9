-- What the total of a row is.
use Rattle.std.specs.Prelude.{◌≡◌, ℕ, true, false, List, take, ℤ, Option, MatchOption}
use Rattle.rules.specs.Orders.{is_order}
use Rattle.rules.specs.Yardsticks.{Merit}
use Rattle.rules.specs.Ranking.{total}
use Rattle.marks.specs.declared.marks.Marks.{Marks}
use Rattle.marks.specs.Numbers.{units_of, numbers_of}

-- as many of a row as there are units
abbrev pub order_of : Marks → List ℕ → List ℕ
order_of m row = take (units_of m) row

-- the rulebook's total of an order
abbrev pub total_of : Merit → Marks → List ℕ → List ℤ
total_of y m o = total y (numbers_of m) (units_of m) 0 o

-- there is a total exactly if the first of the row are an order, and its numbers are those of the rulebook's total
abbrev pub Totals : {T : Type 0} → Merit → (T → List ℤ) → Marks → List ℕ → Option T → Type 0
Totals y numbers m row r =
    MatchOption r (is_order (units_of m) (order_of m row) ≡ false)
    (λ t. (is_order (units_of m) (order_of m row) ≡ true) × (numbers t ≡ total_of y m (order_of m row)))
