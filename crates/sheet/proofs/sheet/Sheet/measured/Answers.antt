use Rattle.std.proofs.Common.{sym}
use Rattle.sheet.proofs.Measuring.{marks_of}
use Rattle.sheet.proofs.sheet.Sheet.measured.Goals as goal

pub returns : goal.returns
returns c = (sym c.in_default.ensures, marks_of c.args.self.now c.measured.result c.measured.ensures)
