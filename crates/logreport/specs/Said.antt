-- What a report says of each line, in plain words.
use Rattle.std.specs.Prelude.{ℕ, List, ◌++◌, Ok, Err, codes, decimal}
use Rattle.loglines.specs.declared.command.Mark.TheVariants.{Number, Gap}
use Rattle.loglines.specs.declared.command.YardstickLetter.{YardstickLetter}
use Rattle.loglines.specs.declared.command.YardstickLetter.TheVariants.{Spread, Gradient, Target}
use Rattle.loglines.specs.declared.command.Command.{Command}
use Rattle.loglines.specs.declared.command.Command.TheVariants.{Open, Pair, Tie, Untie, Rank}
use Rattle.loglines.specs.Faults.{number_of}
use Rattle.loglines.specs.Readings.{Reading}

abbrev pub yardstick_name : YardstickLetter → List ℕ
yardstick_name Spread = codes "spread"
yardstick_name Gradient = codes "gradient"
yardstick_name Target = codes "target"

-- what a command asks
abbrev pub asked : Command → List ℕ
asked (Open n) = codes "opens a sheet of " ++ (decimal n ++ codes " units")
asked (Pair a b (Number d)) = codes "writes " ++ (decimal d ++ (codes " for the pair " ++ (decimal a ++ (codes " " ++ decimal b))))
asked (Pair a b Gap) = codes "makes the pair " ++ (decimal a ++ (codes " " ++ (decimal b ++ codes " a gap")))
asked (Tie a b) = codes "ties " ++ (decimal a ++ (codes " earlier than " ++ decimal b))
asked (Untie a b) = codes "unties " ++ (decimal a ++ (codes " earlier than " ++ decimal b))
asked (Rank y k) = codes "asks for order " ++ (decimal k ++ (codes " by " ++ yardstick_name y))

-- what is said of a line, without its number
abbrev pub outcome : Reading → List ℕ
outcome (Ok c) = asked c
outcome (Err f) = codes "refused " ++ decimal (number_of f)

-- the line of a report on line number n
abbrev pub said : ℕ → Reading → List ℕ
said n r = codes "line " ++ (decimal n ++ (codes " " ++ outcome r))
