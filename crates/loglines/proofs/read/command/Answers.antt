use Rattle.std.proofs.Common.{rules}
use Rattle.loglines.proofs.Commands.{letter_words, no_pair, no_tie, no_untie, no_rank}
use Rattle.loglines.proofs.read.command.Goals as goal

pub returns-in_err-b-in-80-true : goal.returns-in_err-b-in-80-true
returns-in_err-b-in-80-true c =
    rw c.from_residual-in_err-b-in-80-true.ensures
    (no_pair _ _ _ (letter_words _ 80 (search rules) (search rules)) _ _ c.in_ok-a-in-80-true.ensures c.in_err-b-in-80-true.ensures)

pub returns-in_err-a-in-84-true : goal.returns-in_err-a-in-84-true
returns-in_err-a-in-84-true c =
    rw c.from_residual-in_err-a-in-84-true.ensures (no_tie _ _ _ (letter_words _ 84 (search rules) (search rules)) c.in_err-a-in-84-true.ensures)

pub returns-in_err-a-in-70-true : goal.returns-in_err-a-in-70-true
returns-in_err-a-in-70-true c =
    rw c.from_residual-in_err-a-in-70-true.ensures (no_untie _ _ _ (letter_words _ 70 (search rules) (search rules)) c.in_err-a-in-70-true.ensures)

pub returns-in_err-by-in-82-true : goal.returns-in_err-by-in-82-true
returns-in_err-by-in-82-true c =
    rw c.from_residual-in_err-by-in-82-true.ensures (no_rank _ _ _ (letter_words _ 82 (search rules) (search rules)) c.in_err-by-in-82-true.ensures)
