use Rattle.std.proofs.Common.{◌-◌}
use Rattle.yardsticks.specs.Merits.{merit_of}
use Rattle.moves.specs.Kinds.{moves_of}
use Rattle.moves.proofs.Passes.{Sofar, Scan}
use Rattle.moves.proofs.improve.passes.Given as goal

abbrev pub invariant-pass : goal.invariant-pass
invariant-pass g l =
    Sofar (moves_of g.M.MoveKind) (merit_of g.Y.Yardstick) l.marks l.ties l.limit l.initial.order l.order l.made (g.Y.Yardstick.numbers l.best)

abbrev pub decreases-pass : goal.decreases-pass
decreases-pass g l = l.limit - l.made

abbrev pub invariant-loop-number : goal.invariant-loop-number
invariant-loop-number g l =
    Scan (moves_of g.M.MoveKind) (merit_of g.Y.Yardstick) l.marks l.ties l.limit l.fn.order l.order l.initial.made l.made
    (g.Y.Yardstick.numbers l.best) l.many l.number
