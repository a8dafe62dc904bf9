use Rattle.std.proofs.Common.{rules, ◌≡◌, sum_by, ◌∙◌}
use Rattle.rules.specs.Units.{sum_over}
use Rattle.rules.specs.Pattern.{kept_at, triples_at}
use Rattle.marks.specs.Numbers.{numbers_of}
use Rattle.scaling.proofs.Counting.{with_last, each_last, few_last}
use Rattle.scaling.proofs.comparisons.Row.kept_with.Goals as goal

value : (c : goal.After-sum)
    → c.sum.result ≡ sum_over (kept_at (numbers_of c.args.self.marks.now)) (triples_at c.args.first c.args.middle c.args.self.labels.now)
value c =
    let e : c.sum.result ≡ sum_by (with_last (numbers_of c.args.self.marks.now) c.args.first c.args.middle) c.args.self.labels.now = search rules in
    e ∙ each_last (numbers_of c.args.self.marks.now) c.args.first c.args.middle c.args.self.labels.now

pub returns : goal.returns
returns c = record {
  value = value c;
  few = rw (value c) (few_last (numbers_of c.args.self.marks.now) c.args.first c.args.middle c.args.self.labels.now);
}
