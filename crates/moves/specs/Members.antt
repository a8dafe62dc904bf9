-- The members of interchange and insertion are those of the rulebook.
use Rattle.std.specs.Prelude.{◌≡◌}
use Rattle.rules.specs.Moves.{interchange, insertion}
use Rattle.moves.specs.contracts.interchange.InterchangeMoveKind.TheImpl as of-interchange
use Rattle.moves.specs.contracts.insertion.InsertionMoveKind.TheImpl as of-insertion
use Rattle.moves.specs.Kinds.{moves_of}

-- how many moves there are, and what each makes of an order
pub record AsRuled : Type 0 where
  pub for_interchange : moves_of of-interchange.ghosts ≡ interchange
  pub for_insertion : moves_of of-insertion.ghosts ≡ insertion
