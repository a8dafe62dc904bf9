use Rattle.std.proofs.Common.{◌≡◌, false, take, vec_items}
use Rattle.loglines.specs.Lines.{texts}
use Rattle.loglines.specs.Readings.{Readings}
use Rattle.loglines.proofs.States.{opened_by}
use Rattle.loglines.proofs.log.read_lines.Given as goal

abbrev pub invariant-loop-line : goal.invariant-loop-line
invariant-loop-line l = Readings false (texts (take l.line-index l.lines)) (vec_items l.readings) × (l.opened ≡ opened_by false (vec_items l.readings))
