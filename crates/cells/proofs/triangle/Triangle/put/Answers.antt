use Rattle.std.proofs.Common.{rules}
use Rattle.cells.proofs.Places.{read_set}
use Rattle.cells.proofs.triangle.Triangle.put.Goals as goal

pub returns-in-Some : goal.returns-in-Some
returns-in-Some c = λ x y. rw c.in-Some.ensures.1
    (read_set c.args.self.now.cells c.args.a c.args.b c.args.mark (search rules) c.in-Some.ensures.0 x y)
