use Rattle.std.proofs.Common.{◌≡◌, Some, sym, ◌∙◌, arith}
use Rattle.yardsticks.specs.Merits.{merit_of}
use Rattle.moves.specs.Kinds.{moves_of}
use Rattle.moves.proofs.Laws.{lawful}
use Rattle.moves.proofs.Answering.{startable, cut, answered}
use Rattle.moves.proofs.improve.improve.Goals as goal

pub passes-requires-clause-start : goal.passes-requires-clause-start
passes-requires-clause-start g c =
    let some : c.total.result ≡ Some c.in_ok-start.start = grind arith in
    rw c.units-units.ensures
    (cut _ _ _ _ g.Y.Yardstick.numbers (startable _ _ _ _ g.Y.Yardstick.numbers (sym c.units.ensures ∙ c.if-units.false ∙ c.units-units.ensures)
    (omega (arith, c.if-row-units.false, c.units-units.ensures)) (rw some at c.total.ensures) c.if-not-keeps.ensures.test))

pub returns : goal.returns
returns g c =
    let some : c.total.result ≡ Some c.in_ok-start.start = grind arith in
    let found = rw some at c.total.ensures in
    let start = startable (moves_of g.M.MoveKind) (merit_of g.Y.Yardstick) c.args.marks.now c.args.ties.now g.Y.Yardstick.numbers
    (sym c.units.ensures ∙ c.if-units.false ∙ c.units-units.ensures) (omega (arith, c.if-row-units.false, c.units-units.ensures)) found c.if-not-keeps.ensures.test in
    rw c.units-units.ensures (answered _ _ _ _ g.Y.Yardstick.numbers (lawful g.met.M.MoveKind) start found.0 (rw c.units-units.ensures at c.passes.ensures))
