use Rattle.std.proofs.Common.{rules}
use Rattle.answers.proofs.Placing.{appended_more, starts}
use Rattle.answers.proofs.line.write_refused.Goals as goal

pub returns : goal.returns
returns c =
    let number = simp c.from.ensures at c.put.ensures.placed in
    let text = starts c.begin-refused.ensures
    (appended_more c.put_text.ensures
    (appended_more number
    (appended_more c.put_text-2.ensures
    (appended_more c.put-2.ensures.placed c.put_byte.ensures)))) in
    search rules
