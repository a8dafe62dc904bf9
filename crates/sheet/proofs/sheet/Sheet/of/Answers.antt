use Rattle.sheet.proofs.Changing.{opened_contents}
use Rattle.sheet.proofs.sheet.Sheet.of.Goals as goal

pub returns : goal.returns
returns c = opened_contents c.args.units.count c.new.result c.none.result c.new.ensures c.none.ensures
