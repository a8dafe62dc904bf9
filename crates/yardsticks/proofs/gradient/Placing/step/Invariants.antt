use Rattle.rules.specs.Units.{labels, sum_ℤ}
use Rattle.marks.specs.Numbers.{units_of, numbers_of}
use Rattle.yardsticks.specs.Gradients.{Graded, at, behind}
use Rattle.yardsticks.proofs.gradient.Placing.step.Given as goal

abbrev pub invariant-loop-i : goal.invariant-loop-i
invariant-loop-i l =
    Graded (λ f. sum_ℤ (behind (at f (numbers_of l.self.marks.now) l.self.unit) (units_of l.self.marks.now) l.self.placed l.self.unit) (labels l.i)) l.sum
