use Rattle.loglines.proofs.Fronts.{telling, last_none, last_told}
use Rattle.loglines.proofs.value.last_value.Goals as goal

pub returns-in_err-x : goal.returns-in_err-x
returns-in_err-x g c =
    rw c.from_residual.ensures (last_none (telling g.met.V.WordValue.word g.met.V.WordValue.same) _ c.in_err-x.ensures)

pub returns : goal.returns
returns g c =
    last_told (telling g.met.V.WordValue.word g.met.V.WordValue.same) _ _ _ _ _ c.in_ok-x.ensures c.is_empty.ensures c.then_some.ensures
