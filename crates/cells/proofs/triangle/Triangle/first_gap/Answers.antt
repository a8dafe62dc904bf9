use Rattle.std.proofs.Common.{rules, ◌≡◌}
use borrow.Author.Tests.{tests}
use Rattle.cells.specs.Gaps.{gap_outcome, row_decided}
use Rattle.cells.proofs.Ranges.{found_some}
use Rattle.cells.proofs.Finding.{pairs_first}
use Rattle.cells.proofs.triangle.Triangle.first_gap.Goals as goal

pub returns : goal.returns
returns c =
    pairs_first c.args.units c.args.self.now c.find_map.result
    (found_some _ _ (λ a r. gap_outcome r ≡ row_decided c.args.units c.args.self.now a a) (λ x r q k. search (rules, tests))
    _ c.find_map.result c.find_map.ensures.runs)
