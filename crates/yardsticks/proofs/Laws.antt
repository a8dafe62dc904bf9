-- What a yardstick owes, as the rulebook's record of laws.
use types.Logic.{Logic}
use contract.Running.{Running}
use denote.RattleType.{RattleType}
use seplogic.Ra.Ura.{Ura}
use mir.Syntax.{Dict}
use prog.Model.{Model}
use prog.Routine.{Env}
use Rattle.std.specs.declared.clone.Clone.{Ghosts as CloneGhosts}
use Rattle.rules.specs.Yardsticks.{Lawful}
use Rattle.yardsticks.specs.contracts.yardstick.Yardstick.TheBound.{Met}
use Rattle.yardsticks.specs.declared.yardstick.Yardstick.{Ghosts}
use Rattle.yardsticks.specs.Merits.{merit_of}

pub lawful : {M : Type 1} {U : Ura M} {𝓛 : Logic U} {P : Model U 𝓛.H} {R : Running U 𝓛.H P} {E : Env} {S T : RattleType}
    {y : Ghosts S.Denot T.Denot} {D : Dict} {C : CloneGhosts T.Denot} {F : Dict}
    → Met 𝓛 P R E S T y D C F → Lawful (merit_of y)
lawful m = record {
  plus_zero = m.plus_zero;
  plus_comm = m.plus_comm;
  plus_assoc = m.plus_assoc;
  never_itself = m.never_itself;
  transitive = m.transitive;
  compared = m.compared;
  after_adding = m.after_adding;
  adds_caps = m.adds_caps;
  step_within = m.step_within;
}
