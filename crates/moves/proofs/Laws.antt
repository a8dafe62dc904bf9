-- What a kind of move owes, as the rulebook's record of laws.
use types.Logic.{Logic}
use contract.Running.{Running}
use denote.RattleType.{RattleType}
use seplogic.Ra.Ura.{Ura}
use mir.Syntax.{Dict}
use prog.Model.{Model}
use prog.Routine.{Env}
use Rattle.rules.specs.Moves.{LawfulMoves}
use Rattle.moves.specs.contracts.kind.MoveKind.TheBound.{Met}
use Rattle.moves.specs.declared.kind.MoveKind.{Ghosts}
use Rattle.moves.specs.Kinds.{moves_of}

pub lawful : {M : Type 1} {U : Ura M} {𝓛 : Logic U} {P : Model U 𝓛.H} {R : Running U 𝓛.H P} {E : Env} {S : RattleType}
    {k : Ghosts S.Denot} {D : Dict} → Met 𝓛 P R E S k D → LawfulMoves (moves_of k)
lawful m = record { few = m.few; order_again = m.order_again }
