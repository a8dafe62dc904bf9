use Rattle.marks.specs.Numbers.{numbers_of}
use Rattle.yardsticks.specs.Gradients.{Graded, at, past}
use Rattle.yardsticks.proofs.gradient.Placing.past.Given as goal

abbrev pub invariant-loop-k : goal.invariant-loop-k
invariant-loop-k l =
    Graded (λ f. past (at f (numbers_of l.self.marks.now) l.self.unit l.i) l.k l.self.placed l.self.unit) l.sum
