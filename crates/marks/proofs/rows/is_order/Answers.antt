use Rattle.std.proofs.Common.{sym, ap, ◌∙◌}
use Rattle.rules.specs.Orders.{is_order}
use Rattle.rules.proofs.Rows.{row_tests_mean}
use Rattle.marks.proofs.rows.is_order.Goals as goal

pub returns-clause-means : goal.returns-clause-means
returns-clause-means c =
    let e = c.whole_order.ensures ∙ ap (is_order c.args.n) c.first.ensures in
    let w = row_tests_mean.order c.args.n _ in
    (λ h. w.0 (sym e ∙ h), λ o. e ∙ w.1 o)
