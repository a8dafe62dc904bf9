use Rattle.std.proofs.Common.{length, vec_items}
use Rattle.loglines.specs.Lines.{texts}
use Rattle.loglines.proofs.Feeds.{Sofar}
use Rattle.loglines.proofs.log.lines.Given as goal

abbrev pub invariant-loop-line : goal.invariant-loop-line
invariant-loop-line l = Sofar l.input (texts (vec_items l.out)) l.rest

abbrev pub decreases-loop-line : goal.decreases-loop-line
decreases-loop-line l = length l.rest
