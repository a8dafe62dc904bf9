use Rattle.std.proofs.Common.{subst, rules}
use Rattle.loglines.specs.Words.{Kind}
use Rattle.loglines.proofs.Digits.{decimal_numeral}
use Rattle.loglines.proofs.Spellings.{letter_no_mark}
use Rattle.loglines.proofs.value.MarkWordValue.from_token.Goals as goal

pub returns-in-Digits : goal.returns-in-Digits
returns-in-Digits c = let h = decimal_numeral _ (subst Kind c.in-Digits.is c.requires) in search (rules, h)

pub returns-in-Letter : goal.returns-in-Letter
returns-in-Letter c = rw c.in-Letter.is (letter_no_mark _ (subst Kind c.in-Letter.is c.requires))
