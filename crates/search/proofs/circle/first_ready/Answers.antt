use Rattle.std.proofs.Common.{rules}
use Rattle.rules.specs.Orders.{ready}
use Rattle.marks.specs.Tied.{tied_of, tied_units}
use Rattle.search.proofs.Ranges.{first_label}
use Rattle.search.proofs.circle.first_ready.Goals as goal

pub returns : goal.returns
returns c =
    let t = c.args.ties.now in
    first_label (tied_units t) (ready (tied_of t) (tied_units t) c.args.set)
    c.new.ensures.start (search rules) c.new.ensures.exhausted _ _ (λ x b q w. search rules) c.find.result c.find.ensures.runs
