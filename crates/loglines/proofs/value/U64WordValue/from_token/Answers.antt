use Rattle.std.proofs.Common.{subst, rules}
use Rattle.loglines.specs.Words.{Kind}
use Rattle.loglines.proofs.Digits.{decimal_numeral}
use Rattle.loglines.proofs.Spellings.{digits_only}
use Rattle.loglines.proofs.value.U64WordValue.from_token.Goals as goal

pub returns-in-Digits : goal.returns-in-Digits
returns-in-Digits c = let h = decimal_numeral _ (subst Kind c.in-Digits.is c.requires) in search (rules, h)

pub returns-in_default : goal.returns-in_default
returns-in_default c = digits_only _ c.requires c.in_default.not-Digits
