use Rattle.logreport.proofs.Listing.{listed_more}
use Rattle.logreport.proofs.report.list.Goals as goal

pub loop-i-preserved : goal.loop-i-preserved
loop-i-preserved c = listed_more _ _ _ _ _ _ c.loop-i-test.true c.loop-i.invariant c.in_ok-writeln.ensures.bytes
