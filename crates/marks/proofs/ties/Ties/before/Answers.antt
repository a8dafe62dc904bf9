use Rattle.std.proofs.Common.{◌-◌, sym}
use Rattle.marks.proofs.TieSets.{tied_set}
use Rattle.marks.proofs.ties.Ties.before.Goals as goal

pub returns-then-has_label : goal.returns-then-has_label
returns-then-has_label c =
    let t = c.args.self.now in
    record {
      units = tied_set t.units.count t.before t.own c.args.unit (sym c.if-has_label.ensures);
      within = t.own (c.args.unit - 1);
    }
