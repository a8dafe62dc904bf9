use Rattle.std.proofs.Common.{ℕ, rules, ◌-◌, arith}
use Rattle.std.proofs.lemmas.Iterator.{YieldsList-from_map}
use Rattle.std.proofs.lemmas.Iterator.Consumers.{fits_by_from_yields_list, sum_by_from_yields_List}
use Rattle.rules.specs.Units.{labels}
use Rattle.scaling.proofs.Ranges.{from_range}
use Rattle.scaling.proofs.Squares.{of_pair, some_low}
use Rattle.scaling.proofs.coordinates.squares_before.Goals as goal

pub sum-requires-clause-fits : goal.sum-requires-clause-fits
sum-requires-clause-fits c =
    let h : ℕ → ℕ = λ a. of_pair c.args.marks.now a c.args.unit in
    fits_by_from_yields_list h (labels (c.args.unit - 1)) c.map.result _
    (YieldsList-from_map _ h (from_range c.args.unit c.map.ensures.source) c.map.ensures.closure (λ x r q k. search rules))
    (omega (arith, some_low c.args.marks.now c.args.unit (c.args.unit - 1)))

pub returns : goal.returns
returns c =
    let h : ℕ → ℕ = λ a. of_pair c.args.marks.now a c.args.unit in
    sum_by_from_yields_List h (labels (c.args.unit - 1)) c.map.result c.sum.result c.sum.ensures.ran
    (YieldsList-from_map _ h (from_range c.args.unit c.map.ensures.source) c.map.ensures.closure (λ x r q k. search rules))
