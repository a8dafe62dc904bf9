use Rattle.std.proofs.Common.{refl}
use Rattle.rules.specs.declared.Mark.TheVariants.{Number}
use Rattle.rules.specs.Calls.{mark}
use Rattle.std.proofs.lemmas.Result.{err_from_is_err_and}
use Rattle.sheet.specs.Faults.{sheet_refusal}
use Rattle.sheet.proofs.Changing.{refused_write, write_stop, write_high, write_low, passed, put_low, wrote}
use Rattle.sheet.proofs.sheet.Sheet.write.Goals as goal

pub returns-in_err-pair : goal.returns-in_err-pair
returns-in_err-pair c =
    let s = c.args.self.now in
    let f = sheet_refusal c.in_err-pair.field-0.0 in
    let p = err_from_is_err_and c.from_residual.result c.from_residual.ensures.1 in
    rw (p.1, p.2) (refused_write s c.args.a c.args.b f c.args.d
    (write_stop s.units.count c.args.a c.args.b c.args.d f c.in_err-pair.ensures))

pub returns-then-d-gt10000 : goal.returns-then-d-gt10000
returns-then-d-gt10000 c =
    let s = c.args.self.now in
    refused_write s c.args.a c.args.b mark c.args.d
    (write_high s.units.count c.args.a c.args.b c.args.d c.in_ok-pair.ensures c.if-d-gt10000.true)

pub invariant_of-self : goal.invariant_of-self
invariant_of-self c =
    let s = c.args.self.now in
    let two = passed s.units.count c.args.a c.args.b c.in_ok-pair.ensures in
    record {
      low = put_low s.units.count c.args.a c.args.b (Number c.args.d) s.cells c.put.new.self s.units.most two c.put.ensures c.if-d-gt10000.false s.low;
      same = s.same;
    }

pub returns : goal.returns
returns c =
    let s = c.args.self.now in
    let o = c.in_ok-pair.ensures in
    wrote s _ c.args.a c.args.b (Number c.args.d) refl refl (passed s.units.count c.args.a c.args.b o) c.put.ensures c.args.d refl
    (write_low s.units.count c.args.a c.args.b c.args.d o c.if-d-gt10000.false)
