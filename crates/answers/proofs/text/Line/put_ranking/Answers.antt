use Rattle.answers.proofs.Placing.{appended_more}
use Rattle.answers.proofs.text.Line.put_ranking.Goals as goal

pub returns-clause-placed : goal.returns-clause-placed
returns-clause-placed c =
    appended_more c.put_text.ensures
    (appended_more c.put_each.ensures.placed
    (appended_more c.put_text-2.ensures
    (appended_more c.put_total.ensures.placed
    (appended_more c.put_text-3.ensures c.put.ensures.placed))))
