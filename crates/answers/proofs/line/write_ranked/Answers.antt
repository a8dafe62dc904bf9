use Rattle.std.proofs.Common.{rules}
use Rattle.answers.proofs.Placing.{appended_more, starts}
use Rattle.answers.proofs.line.write_ranked.Goals as goal

pub returns-clause-text : goal.returns-clause-text
returns-clause-text c =
    let text = starts c.begin-ranked.ensures (appended_more c.put_ranking.ensures.placed c.put_byte.ensures) in
    search rules
