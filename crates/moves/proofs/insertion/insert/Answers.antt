use Rattle.std.proofs.Common.{refl, arith}
use Rattle.moves.proofs.Insertions.{put_later, put_earlier}
use Rattle.moves.proofs.insertion.insert.Goals as goal

pub returns-then-u-v : goal.returns-then-u-v
returns-then-u-v c =
    put_later c.args.order.now _ c.rotate_left.new.self c.args.u c.args.v (omega arith) (omega arith) refl c.rotate_left.ensures.after

pub returns-else-u-v : goal.returns-else-u-v
returns-else-u-v c =
    put_earlier c.args.order.now _ c.rotate_right.new.self c.args.u c.args.v (omega arith) (omega arith) refl c.rotate_right.ensures.after
