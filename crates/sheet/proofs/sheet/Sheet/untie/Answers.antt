use Rattle.std.proofs.Common.{refl}
use Rattle.sheet.proofs.Changing.{unbound}
use Rattle.sheet.proofs.sheet.Sheet.untie.Goals as goal

pub returns : goal.returns
returns c = unbound c.args.self.now _ c.args.a c.args.b c.set.result refl refl c.in_ok-pair.ensures c.set.ensures
