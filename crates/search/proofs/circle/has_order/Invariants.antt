use Rattle.marks.specs.Tied.{tied_of, tied_units}
use Rattle.search.proofs.Placing.{Placed}
use Rattle.search.proofs.circle.has_order.Given as goal

abbrev pub invariant-loop : goal.invariant-loop
invariant-loop l = Placed (tied_of l.ties) (tied_units l.ties) l.counter l.placed
