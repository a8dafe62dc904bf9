use Rattle.std.proofs.Common.{refl, ◌∙◌, sym, arith}
use Rattle.marks.proofs.Cells.{read_none}
use Rattle.marks.proofs.marks.Marks.blank.Goals as goal

pub invariant_of-result : goal.invariant_of-result
invariant_of-result c =
    let none = read_none c.args.units.count c.zeros.result 400 c.zeros.ensures in
    record {
      symmetric = λ a b. none a b ∙ sym (none b a);
      low = λ a b. omega (arith, none a b);
    }

pub returns : goal.returns
returns c = record {
  size = refl;
  marks = read_none c.args.units.count c.zeros.result 400 c.zeros.ensures;
}
