use Rattle.std.proofs.Common.{rules, arith}
use borrow.Author.Tests.{tests}
use Rattle.rules.specs.Sheets.{is_gap}
use Rattle.cells.specs.Read.{mark_at}
use Rattle.cells.proofs.Ranges.{found}
use Rattle.cells.proofs.Finding.{row_first}
use Rattle.cells.proofs.triangle.Triangle.gap_after.Goals as goal

pub returns : goal.returns
returns c =
    row_first c.args.units c.args.self.now c.args.a c.requires.least (omega arith) c.find.result
    (found _ _ (λ b. is_gap (mark_at c.args.self.now c.args.a b)) (λ x b q k. search (rules, tests))
    c.new.result _ _ c.new.ensures.exhausted c.new.ensures.start (search rules) c.find.result c.find.ensures.runs)
