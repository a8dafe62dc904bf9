use Rattle.std.proofs.Common.{w64}
use Rattle.std.proofs.lemmas.Int.{to_z-of_z}
use Rattle.answers.proofs.Placing.{appended_more}
use Rattle.answers.proofs.text.Line.put_scaling.Goals as goal

pub returns-clause-placed : goal.returns-clause-placed
returns-clause-placed c =
    appended_more c.put_text.ensures
    (appended_more c.put_each.ensures.placed
    (appended_more c.put_text-2.ensures (rw (to_z-of_z w64 c.args.loss c.ranges.loss) at c.put.ensures.placed)))
