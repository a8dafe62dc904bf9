use Rattle.std.proofs.Common.{◌+◌, mul-add, arith}
use Rattle.answers.specs.Lines.{parted}
use Rattle.answers.proofs.Placing.{appended_more, joined_take}
use Rattle.answers.proofs.text.Line.put_each.Goals as goal

pub loop-x-preserved : goal.loop-x-preserved
loop-x-preserved g c = record {
  placed =
      rw (joined_take (parted 32 g.N.Number.text) c.args.numbers.now c.loop-x.x-index c.x-item.result c.loop-x-test.true c.x-item.is)
      (appended_more c.loop-x.invariant.placed (appended_more c.put_byte.ensures c.put.ensures.placed));
  room = omega (arith, c.loop-x.invariant.room, c.put_byte.ensures.placed.ends, c.put.ensures.room, mul-add (g.N.Number.most + 1) c.loop-x.x-index 1);
}
