use Rattle.std.proofs.Common.{rules, not, ◌||◌}
use Rattle.rules.specs.Units.{has}
use Rattle.rules.specs.Orders.{follows}
use Rattle.marks.specs.Tied.{tied_of, tied_units}
use Rattle.search.proofs.Ranges.{all_places}
use Rattle.search.proofs.sets.closed.Goals as goal

pub returns : goal.returns
returns c =
    let t = c.args.ties.now in
    all_places (tied_units t) (λ b. not (has c.args.set b) || follows (tied_of t) (tied_units t) c.args.set b)
    (search rules) _ _ (λ x b q w. search rules) c.all.result c.all.ensures.runs
