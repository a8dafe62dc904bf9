use Rattle.std.proofs.Common.{refl}
use Rattle.marks.proofs.TieSets.{tied_none}
use Rattle.marks.proofs.ties.Ties.none.Goals as goal

pub returns : goal.returns
returns c = record {
  size = refl;
  ties = tied_none c.args.units.count c.empty.result 20 c.empty.ensures;
}
