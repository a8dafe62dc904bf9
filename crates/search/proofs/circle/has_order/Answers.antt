use Rattle.std.proofs.Common.{◌≡◌, true, false, sym, add-one, arith}
use Rattle.rules.specs.Recurrence.{placeable}
use Rattle.marks.specs.Tied.{tied_of, tied_units}
use Rattle.marks.proofs.Laws.{ties_on_labels}
use Rattle.search.proofs.Placing as placing
use Rattle.search.proofs.circle.has_order.Goals as goal

pub loop-init : goal.loop-init
loop-init c = let t = c.args.ties.now in placing.none_placed (tied_of t) (tied_units t)

pub loop-preserved : goal.loop-preserved
loop-preserved c =
    let t = c.args.ties.now in
    let w = c.in-Some.ensures in
    rw add-one (placing.put_placed (tied_of t) (tied_units t) _ _ c.loop.invariant (omega arith) c.in-Some.unit w.0 w.1 t.units.most c.with_unit-placed.ensures)

pub returns-in_default : goal.returns-in_default
returns-in_default c =
    let t = c.args.ties.now in
    let n = tied_units t in
    let e : false ≡ placeable (tied_of t) n = sym (placing.not_placeable (tied_of t) n _ _ c.loop.invariant (omega arith) c.in_default.ensures) in
    let w = placing.meant (tied_of t) n (ties_on_labels t) false e in
    record { test = e; means = w.0; circle = w.1 }

pub returns : goal.returns
returns c =
    let t = c.args.ties.now in
    let n = tied_units t in
    let e : true ≡ placeable (tied_of t) n = sym (placing.all_placed (tied_of t) n _ _ c.loop.invariant (omega arith)) in
    let w = placing.meant (tied_of t) n (ties_on_labels t) true e in
    record { test = e; means = w.0; circle = w.1 }
