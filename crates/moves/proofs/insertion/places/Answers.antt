use Rattle.std.proofs.Common.{◌-◌, ◌<◌, sym, arith}
use Rattle.moves.proofs.Pairs.{earlier_at, later_at, first_within}
use Rattle.moves.proofs.insertion.places.Goals as goal

pub returns-then-rest-u : goal.returns-then-rest-u
returns-then-rest-u c =
    let s : 0 < c.args.units - 1 = omega arith in
    let u = first_within c.args.units (c.args.number - 1) s (omega arith) in
    record { value = sym (earlier_at c.args.units (c.args.number - 1) s (omega arith) c.if-rest-u.true); within = (u, omega arith) }

pub returns-else-rest-u-clause-value : goal.returns-else-rest-u-clause-value
returns-else-rest-u-clause-value c =
    sym (later_at c.args.units (c.args.number - 1) (omega arith) (omega arith) c.if-rest-u.false)
