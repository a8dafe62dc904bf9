-- What the comparisons of a row are.
use Rattle.std.specs.Prelude.{◌≡◌, ℕ, ◌+◌, ◌-◌, ◌*◌, ◌/◌, true, false, ◌↔◌, List, take, Option, MatchOption}
use Rattle.rules.specs.Orders.{is_order}
use Rattle.rules.specs.Pattern.{AntiRobinson, kept, broken}
use Rattle.marks.specs.declared.marks.Marks.{Marks}
use Rattle.marks.specs.Numbers.{units_of, numbers_of}

-- the comparisons of an order o: how many are kept and broken, n(n-1)(n-2)/3 in all, and none is broken exactly if the
-- order is anti-Robinson
pub record Compared (m : Marks) (o : List ℕ) (v : ℕ × ℕ) : Type 0 where
  pub order : is_order (units_of m) o ≡ true
  pub counts : v ≡ (kept (numbers_of m) o, broken (numbers_of m) o)
  pub all : v.0 + v.1 ≡ units_of m * (units_of m - 1) * (units_of m - 2) / 3
  pub pattern : AntiRobinson (numbers_of m) o ↔ (v.1 ≡ 0)

-- there are counts exactly if the first of the row are an order
abbrev pub Compares : Marks → List ℕ → Option (ℕ × ℕ) → Type 0
Compares m row r =
    MatchOption r (is_order (units_of m) (take (units_of m) row) ≡ false) (Compared m (take (units_of m) row))
