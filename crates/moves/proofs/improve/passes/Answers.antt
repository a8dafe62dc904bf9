use Rattle.std.proofs.Common.{refl, arith, rules}
use Rattle.moves.proofs.Laws.{lawful}
use Rattle.moves.proofs.Passes as over
use Rattle.moves.proofs.improve.passes.Goals as goal
use Rattle.moves.proofs.improve.passes.Goals.{else-loop-number-test, then-loop-number-test+in_default+else-number-many}

pub better-requires-clause-order : goal.better-requires-clause-order
better-requires-clause-order g c =
    let w = over.turn _ _ _ _ (lawful g.met.M.MoveKind) c.loop-number.invariant (omega arith) c.loop-number-test.true
    c.new-trial.ensures.row in
    over.is_tried _ _ _ _ w

pub returns-then-made-limit : goal.returns-then-made-limit
returns-then-made-limit g c =
    let w = over.turn _ _ _ _ (lawful g.met.M.MoveKind) c.loop-number.invariant (omega arith) c.loop-number-test.true
    c.new-trial.ensures.row in
    let back = over.put_back _ _ _ _ w _ _ c.new-trial.ensures.before c.drop-trial.ensures in
    let lent = c.new-trial.ensures.lent in
    over.ends_limited _ _ _ _ w c.in-Some.ensures.0 g.Y.Yardstick.numbers c.loop-number.best refl c.requires.whole c.if-made-limit.true _ (search rules)

pub pass-preserved : goal.pass-preserved
pass-preserved g c =
    let w = over.turn _ _ _ _ (lawful g.met.M.MoveKind) c.loop-number.invariant (omega arith) c.loop-number-test.true
    c.new-trial.ensures.row in
    let lent = c.new-trial.ensures.lent in
    over.goes_on _ _ _ _ w c.in-Some.ensures.0 _ c.in-Some.ensures.1 (omega (arith, w.scan.so.within)) _ (search rules)

pub returns-in-pass : goal.returns-in-pass
returns-in-pass g c =
    elim c.loop-number-test.branch [
      | else-loop-number-test w ↦
          rw w.order-is (over.ends_settled _ _ _ _ g.Y.Yardstick.numbers c.loop-number.best c.requires.whole c.loop-number.invariant
          (omega arith))
      | then-loop-number-test+in_default+else-number-many w ↦
          let v = over.turn _ _ _ _ (lawful g.met.M.MoveKind) c.loop-number.invariant (omega arith) w.loop-number-test.true
          w.new-trial.ensures.row in
          let back = over.put_back _ _ _ _ v _ _ w.new-trial.ensures.before w.drop-trial-in-loop-number.ensures in
          let lent = w.new-trial.ensures.lent in
          over.ends_settled _ _ _ _ g.Y.Yardstick.numbers c.loop-number.best c.requires.whole (over.scanned_more _ _ _ _ v w.in_default.ensures _ (search rules))
          (omega arith)
    ]
