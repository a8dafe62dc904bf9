-- The rulebook's record of a yardstick, from the members of the trait.
use Rattle.rules.specs.Yardsticks.{Merit}
use Rattle.yardsticks.specs.declared.yardstick.Yardstick.{Ghosts}

-- caps, adding, comparing and the step's meaning
abbrev pub merit_of : {S T : Type 0} → Ghosts S T → Merit
merit_of y = record { caps = y.caps; plus = y.plus; exceeds = y.exceeds; step = y.meaning }
