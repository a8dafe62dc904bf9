-- What the coordinates of a row are.
use Rattle.std.specs.Prelude.{◌≡◌, ℕ, Bool, true, false, not, ◌&&◌, List, ◌++◌, length, take, drop, ℤ, Option, MatchOption, nat_lt}
use Rattle.rules.specs.Orders.{is_order}
use Rattle.rules.specs.Scaling.{displacements, loss}
use Rattle.marks.specs.declared.marks.Marks.{Marks}
use Rattle.marks.specs.Numbers.{units_of, numbers_of}

module _ (m : Marks) (row : List ℕ) where
  -- as many of a row as there are units
  abbrev first : List ℕ
  first = take (units_of m) row

  -- the list has a place for each unit, and the first of the row are an order
  abbrev pub can_scale : List ℤ → Bool
  can_scale list = not (nat_lt (length list) (units_of m)) && is_order (units_of m) first

  -- an answer: the rulebook's loss, and its displacements in the first places of the list; the list past them stays
  pub record Scaled (before after : List ℤ) (answer : ℤ) : Type 0 where
    pub can : can_scale before ≡ true
    pub losses : answer ≡ loss (numbers_of m) (units_of m) first
    pub list : after ≡ displacements (numbers_of m) (units_of m) 0 first ++ drop (units_of m) before

  -- there is an answer exactly if the list has room and the first of the row are an order; else the list stays
  abbrev pub Scales : List ℤ → List ℤ → Option ℤ → Type 0
  Scales before after r = MatchOption r ((can_scale before ≡ false) × (after ≡ before)) (Scaled before after)
