use Rattle.std.proofs.Common.{◌+◌, sym, ◌∙◌, subst}
use Rattle.yardsticks.specs.declared.gradient.Grades.{Grades}
use Rattle.yardsticks.specs.Gradients.{Graded}
use Rattle.rules.specs.Units.{labels, sum_ℤ}
use Rattle.yardsticks.proofs.Sums.{row_mark, inner, inner_low, later_adds, other_adds, sum_fits, graded_next, sum_same}
use Rattle.yardsticks.proofs.gradient.Placing.past.Goals as goal
use Rattle.yardsticks.proofs.gradient.Placing.past.Goals.{then-comes_later, else-comes_later}

pub add-sum-requires : goal.add-sum-requires
add-sum-requires c =
    let p = c.args.self.now in
    let at = row_mark p.marks.now p.unit p.row p.row_is c.units.result c.loop-k.k c.units.ensures c.loop-k-test.true in
    sum_fits (inner p.marks.now p.placed p.unit c.args.i) (inner_low p.marks.now p.placed p.unit c.args.i)
    c.loop-k.k c.loop-k.sum c.loop-k.invariant at.0 c.compared.result
    (later_adds p.marks.now p.placed p.unit c.args.i (c.loop-k.k + 1) c.compared.result _ _ _ (sym c.comes_later.ensures ∙ c.if-comes_later.true) c.mark.ensures c.requires at.1 c.compared.ensures)

pub loop-k-preserved : goal.loop-k-preserved
loop-k-preserved c =
    let p = c.args.self.now in
    let at = row_mark p.marks.now p.unit p.row p.row_is c.units.result c.loop-k.k c.units.ensures c.loop-k-test.true in
    let next : Grades → Type 0 = λ t. Graded (λ f. sum_ℤ (inner p.marks.now p.placed p.unit c.args.i f) (labels (c.loop-k.k + 1))) t in
    elim c.if-comes_later.branch [
      | then-comes_later w ↦
          subst next (sym w.sum-is)
          (graded_next (inner p.marks.now p.placed p.unit c.args.i) (inner_low p.marks.now p.placed p.unit c.args.i)
          c.loop-k.k c.loop-k.sum c.loop-k.invariant w.compared.result w.add-sum.result
          (later_adds p.marks.now p.placed p.unit c.args.i (c.loop-k.k + 1) w.compared.result _ _ _ (sym c.comes_later.ensures ∙ w.if-comes_later.true) w.mark.ensures c.requires at.1 w.compared.ensures)
          w.add-sum.ensures)
      | else-comes_later w ↦
          subst next (sym w.sum-is)
          (sum_same (inner p.marks.now p.placed p.unit c.args.i) (inner_low p.marks.now p.placed p.unit c.args.i)
          c.loop-k.k c.loop-k.sum c.loop-k.invariant
          (other_adds p.marks.now p.placed p.unit c.args.i (c.loop-k.k + 1) (sym c.comes_later.ensures ∙ w.if-comes_later.false)))
    ]
