use Rattle.loglines.proofs.States.{read_more}
use Rattle.loglines.proofs.log.read_lines.Goals as goal

pub loop-line-preserved : goal.loop-line-preserved
loop-line-preserved c =
    read_more _ _ _ _ _ _ _ _ c.loop-line-test.true c.loop-line.invariant c.read_line-reading.ensures
    c.in_ok-push.ensures.items c.open_after-opened.ensures
