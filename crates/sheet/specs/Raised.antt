-- What the faults of the layers below are for a call on a sheet.
use Rattle.search.specs.declared.best.SearchFault.{SearchFault}
use Rattle.search.specs.declared.best.SearchFault.TheVariants.{Units, Short, Circle, Number}
use Rattle.moves.specs.declared.improve.MoveFault.{MoveFault}
use Rattle.moves.specs.declared.improve.MoveFault.TheVariants as move
use Rattle.sheet.specs.declared.faults.AnswerFault.{AnswerFault}
use Rattle.sheet.specs.declared.faults.AnswerFault.TheVariants as answer

-- a fault of the search
abbrev pub searching : SearchFault → AnswerFault
searching Units = answer.Short
searching Short = answer.Short
searching Circle = answer.Circle
searching Number = answer.Number

-- a fault of improving
abbrev pub improving : MoveFault → AnswerFault
improving move.Units = answer.Short
improving move.Short = answer.Short
improving move.NoOrder = answer.NoRow
improving move.Against = answer.Against
