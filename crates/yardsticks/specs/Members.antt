-- The members of the three yardsticks are those of the rulebook, and the numbers of their totals.
use Rattle.std.specs.Prelude.{◌≡◌, ℕ, ℤ, pos, [], ◌∷◌}
use Rattle.rules.specs.Yardsticks.{spread, gradient, target}
use Rattle.yardsticks.specs.declared.gradient.Grades.{Grades}
use Rattle.yardsticks.specs.contracts.spread.SpreadYardstick.TheImpl as of-spread
use Rattle.yardsticks.specs.contracts.gradient.GradientYardstick.TheImpl as of-gradient
use Rattle.yardsticks.specs.contracts.target.TargetYardstick.TheImpl as of-target
use Rattle.yardsticks.specs.Merits.{merit_of}

-- caps, adding, comparing and steps of each, and what the numbers of its totals are
pub record AsRuled : Type 0 where
  pub for_spread : merit_of of-spread.ghosts ≡ spread
  pub for_gradient : merit_of of-gradient.ghosts ≡ gradient
  pub for_target : merit_of of-target.ghosts ≡ target
  pub spread_numbers : (t : ℕ) → of-spread.ghosts.numbers t ≡ pos t ∷ []
  pub gradient_numbers : (t : Grades) → of-gradient.ghosts.numbers t ≡ t.signs ∷ t.rises ∷ []
  pub target_numbers : (t : ℤ) → of-target.ghosts.numbers t ≡ t ∷ []
