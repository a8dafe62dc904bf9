use Rattle.std.proofs.Common.{refl, arith}
use Rattle.rules.specs.declared.Mark.TheVariants.{Gap}
use Rattle.sheet.proofs.Changing.{passed, put_low, blanked}
use Rattle.sheet.proofs.sheet.Sheet.blank.Goals as goal

pub invariant_of-self : goal.invariant_of-self
invariant_of-self c =
    let s = c.args.self.now in
    let two = passed s.units.count c.args.a c.args.b c.in_ok-pair.ensures in
    record {
      low = put_low s.units.count c.args.a c.args.b Gap s.cells c.put.new.self s.units.most two c.put.ensures (omega arith) s.low;
      same = s.same;
    }

pub returns : goal.returns
returns c =
    let s = c.args.self.now in
    let o = c.in_ok-pair.ensures in
    blanked s _ c.args.a c.args.b Gap refl refl (passed s.units.count c.args.a c.args.b o) c.put.ensures refl o
