use Rattle.std.proofs.Common.{sym, refl}
use Rattle.std.proofs.lemmas.Bool.{leb-true}
use Rattle.marks.proofs.Cells.{two, read_put, put_symmetric, put_low}
use Rattle.marks.proofs.marks.Marks.put.Goals as goal

pub invariant_of-self : goal.invariant_of-self
invariant_of-self c =
    let s = c.args.self.now in
    let n = s.units.count in
    let t = two n c.args.a c.args.b (sym c.if-not-has_pair.ensures) in
    let l = c.store.ensures.whole in
    let low = leb-true c.args.d 10000 (sym c.if-not-is_low.ensures) in
    rw c.store.ensures.stored (record {
      symmetric = put_symmetric n s.cells c.args.a c.args.b c.args.d s.units.most l t s.symmetric;
      low = put_low n s.cells c.args.a c.args.b c.args.d s.units.most l t low s.low;
    })

pub returns : goal.returns
returns c =
    let s = c.args.self.now in
    let n = s.units.count in
    let p = sym c.if-not-has_pair.ensures in
    let d = sym c.if-not-is_low.ensures in
    let t = two n c.args.a c.args.b p in
    record {
      answered = rw (p, d) refl;
      size = refl;
      marks = λ x y. rw c.store.ensures.stored
          (read_put n s.cells c.args.a c.args.b c.args.d s.units.most c.store.ensures.whole t x y);
    }
