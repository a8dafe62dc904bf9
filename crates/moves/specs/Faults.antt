-- What a fault of improving is printed as.
use Rattle.std.specs.Prelude.{ℕ, List, codes}
use Rattle.moves.specs.declared.improve.MoveFault.{MoveFault}
use Rattle.moves.specs.declared.improve.MoveFault.TheVariants.{Units, Short, NoOrder, Against}

-- the words of a fault
abbrev pub words_of : MoveFault → List ℕ
words_of Units = codes "marks and ties are of different numbers of units"
words_of Short = codes "the row has fewer places than there are units"
words_of NoOrder = codes "the first of the row are no order"
words_of Against = codes "the order breaks a tie"
