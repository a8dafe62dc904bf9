use Rattle.search.proofs.Parts.{within_is}
use Rattle.search.proofs.sets.within.Goals as goal

pub returns : goal.returns
returns c n l = within_is n c.args.part c.args.set l
