-- The rulebook's record of a kind of move, from the members of the trait.
use Rattle.rules.specs.Moves.{Moves}
use Rattle.moves.specs.declared.kind.MoveKind.{Ghosts}

-- how many moves there are, and what each makes of an order
abbrev pub moves_of : {S : Type 0} → Ghosts S → Moves
moves_of k = record { many = k.many; moved = k.moved }
