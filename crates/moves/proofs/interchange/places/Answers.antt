use Rattle.std.proofs.Common.{sym, ◌∙◌}
use Rattle.moves.proofs.Pairs.{past_row, in_row}
use Rattle.moves.proofs.interchange.places.Goals as goal

pub loop-u-preserved : goal.loop-u-preserved
loop-u-preserved c =
    let w = c.loop-u.invariant in
    let p = past_row c.args.units c.loop-u.u c.loop-u.left c.loop-u-test.true w.0 c.if-left-later.false in
    (p.0, p.1 ∙ w.1)

pub returns-then-left-later-clause-value : goal.returns-then-left-later-clause-value
returns-then-left-later-clause-value c =
    sym (in_row c.args.units c.loop-u.u c.loop-u.left c.loop-u-test.true c.if-left-later.true) ∙ c.loop-u.invariant.1
