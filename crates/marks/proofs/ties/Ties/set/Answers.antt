use Rattle.std.proofs.Common.{◌≡◌, length, sym, refl, rules}
use Rattle.marks.proofs.Cells.{two}
use Rattle.marks.proofs.TieSets.{tied_put}
use Rattle.marks.proofs.ties.Ties.set.Goals as goal

pub returns : goal.returns
returns c =
    let t = c.args.self.now in
    let n = t.units.count in
    let l : length c.args.self.now.before ≡ 20 = search rules in
    let h = sym c.if-not-has_pair.ensures in
    let p = two n c.args.a c.args.b h in
    record {
      answered = rw h refl;
      size = refl;
      ties = tied_put n t.before c.args.a c.args.b c.changed.result
          c.args.stands t.units.most l p c.changed.ensures.units;
    }
