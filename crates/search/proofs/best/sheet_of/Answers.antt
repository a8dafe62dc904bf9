use Rattle.std.proofs.Common.{rules}
use Rattle.search.proofs.Found.{circle_first}
use Rattle.search.proofs.best.sheet_of.Goals as goal

pub returns-then-not-has_order : goal.returns-then-not-has_order
returns-then-not-has_order c =
    circle_first c.args.marks.now c.args.ties.now c.args.totals c.args.counts c.args.row (search rules) (search rules) c.if-not-has_order.ensures.circle
