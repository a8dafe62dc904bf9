use Rattle.std.proofs.Common.{◌∙◌}
use Rattle.marks.specs.Tied.{tied_of, tied_units}
use Rattle.search.proofs.Parts.{follows_part}
use Rattle.search.proofs.sets.follows.Goals as goal

pub returns : goal.returns
returns c =
    let t = c.args.ties.now in
    let n = tied_units t in
    c.within.ensures n c.before-2.ensures.within
    ∙ follows_part (tied_of t) n c.before-2.result c.args.set c.args.unit c.before-2.ensures.units
