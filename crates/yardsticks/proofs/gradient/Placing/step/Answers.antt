use Rattle.std.proofs.Common.{◌+◌, sym, ◌∙◌, subst}
use Rattle.rules.specs.Units.{labels, sum_ℤ}
use Rattle.yardsticks.specs.declared.gradient.Grades.{Grades}
use Rattle.yardsticks.specs.Gradients.{Graded}
use Rattle.yardsticks.proofs.Sums.{row_mark, outer, outer_low, earlier_adds, none_adds, sum_fits, graded_next, sum_same}
use Rattle.yardsticks.proofs.gradient.Placing.step.Goals as goal
use Rattle.yardsticks.proofs.gradient.Placing.step.Goals.{then-has, else-has}

pub add-sum-requires : goal.add-sum-requires
add-sum-requires c =
    let p = c.args.self.now in
    let at = row_mark p.marks.now p.unit p.row p.row_is c.units.result c.loop-i.i c.units.ensures c.loop-i-test.true in
    sum_fits (outer p.marks.now p.placed p.unit) (outer_low p.marks.now p.placed p.unit)
    c.loop-i.i c.loop-i.sum c.loop-i.invariant at.0 c.past.result
    (earlier_adds p.marks.now p.placed p.unit (c.loop-i.i + 1) c.past.result (sym c.has.ensures ∙ c.if-has.true) c.past.ensures)

pub loop-i-preserved : goal.loop-i-preserved
loop-i-preserved c =
    let p = c.args.self.now in
    let next : Grades → Type 0 = λ t. Graded (λ f. sum_ℤ (outer p.marks.now p.placed p.unit f) (labels (c.loop-i.i + 1))) t in
    elim c.if-has.branch [
      | then-has w ↦
          subst next (sym w.sum-is)
          (graded_next (outer p.marks.now p.placed p.unit) (outer_low p.marks.now p.placed p.unit)
          c.loop-i.i c.loop-i.sum c.loop-i.invariant w.past.result w.add-sum.result
          (earlier_adds p.marks.now p.placed p.unit (c.loop-i.i + 1) w.past.result (sym c.has.ensures ∙ w.if-has.true) w.past.ensures)
          w.add-sum.ensures)
      | else-has w ↦
          subst next (sym w.sum-is)
          (sum_same (outer p.marks.now p.placed p.unit) (outer_low p.marks.now p.placed p.unit)
          c.loop-i.i c.loop-i.sum c.loop-i.invariant
          (none_adds p.marks.now p.placed p.unit (c.loop-i.i + 1) (sym c.has.ensures ∙ w.if-has.false)))
    ]
