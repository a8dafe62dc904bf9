use Rattle.std.proofs.Common.{arith}
use Rattle.marks.specs.Numbers.{numbers_of}
use Rattle.scaling.proofs.Counting.{first_middle}
use Rattle.scaling.proofs.comparisons.Row.+kept_from.Goals as goal

pub returns-in-len1-up-clause-value : goal.returns-in-len1-up-clause-value
returns-in-len1-up-clause-value t c = omega (
  arith,
  first_middle (numbers_of c.args.self.marks.now) c.args.first c.args.self.labels.now c.in-len1-up.len_at_least,
  c.kept_with.ensures.value,
  c.kept_from.ensures.value,
)
