use Rattle.std.proofs.Common.{◌≡◌, rules}
use Rattle.sheet.proofs.Running.{promise_kept}
use Rattle.sheet.proofs.sheet.Sheet.open.Goals as goal

pub returns-clause-promise : goal.returns-clause-promise
returns-clause-promise c =
    let units = c.in_ok-units.units in
    let size : units.count ≡ c.args.n = search rules in
    λ _. rw (← size) (promise_kept units.count _ c.of.ensures units.least units.most)
