use Rattle.std.proofs.Common.{take, sym, ap, ◌∙◌}
use Rattle.rules.specs.Orders.{keeps}
use Rattle.rules.proofs.Rows.{row_tests_mean}
use Rattle.marks.specs.Tied.{tied_of, first_of}
use Rattle.marks.proofs.Laws.{ties_on_labels}
use Rattle.marks.proofs.rows.keeps.Goals as goal

pub returns-clause-means : goal.returns-clause-means
returns-clause-means c = λ o.
    let t = c.args.ties.now in
    let row = c.args.row.now in
    let e = c.all_keep.ensures ∙ ap (keeps (tied_of t)) (c.first.ensures ∙ ap (λ n. take n row) c.units.ensures) in
    let w = row_tests_mean.ties (tied_of t) t.units.count (ties_on_labels t) (first_of t row) o in
    (λ h. w.0 (sym e ∙ h), λ k. e ∙ w.1 k)
