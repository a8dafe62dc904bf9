-- What a trial of an order answers.
use Rattle.std.specs.Prelude.{◌≡◌, ℕ, Bool, true, false, ◌&&◌, List, ℤ, Option, MatchOption}
use Rattle.rules.specs.Orders.{keeps}
use Rattle.rules.specs.Yardsticks.{Merit}
use Rattle.marks.specs.declared.marks.Marks.{Marks}
use Rattle.marks.specs.declared.ties.Ties.{Ties}
use Rattle.marks.specs.Tied.{tied_of}
use Rattle.yardsticks.specs.Totals.{total_of}

module _ (y : Merit) where
  -- an order keeps the ties and has a total greater than u
  abbrev pub passes : Marks → Ties → List ℤ → List ℕ → Bool
  passes m t u o = keeps (tied_of t) o && y.exceeds (total_of y m o) u

  -- there is a total exactly if the order passes, and it is that of the order
  abbrev pub Better : {T : Type 0} → (T → List ℤ) → Marks → Ties → List ℤ → List ℕ → Option T → Type 0
  Better numbers m t u o r =
      MatchOption r (passes m t u o ≡ false) (λ v. (passes m t u o ≡ true) × (numbers v ≡ total_of y m o))
