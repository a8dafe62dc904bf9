use Rattle.std.proofs.Common.{w64, rules}
use Rattle.std.proofs.lemmas.Int.{to_z-of_z}
use Rattle.answers.proofs.Placing.{appended_more, starts}
use Rattle.answers.proofs.line.write_scaled.Goals as goal

pub returns : goal.returns
returns c =
    let scaled = rw (to_z-of_z w64 c.args.loss c.ranges.loss) at c.put_scaling.ensures.placed in
    let text = starts c.begin-scaled.ensures (appended_more c.put_ranking.ensures.placed (appended_more scaled c.put_byte.ensures)) in
    search rules
