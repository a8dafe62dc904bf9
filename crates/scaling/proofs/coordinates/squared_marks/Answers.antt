use Rattle.std.proofs.Common.{rules, ◌≡◌, pos, sum_by, ap, ◌∙◌, arith}
use Rattle.std.proofs.lemmas.Iterator.{YieldsList-from_map}
use Rattle.std.proofs.lemmas.Iterator.Consumers.{fits_by_from_yields_list, sum_by_from_yields_List}
use Rattle.rules.specs.Units.{labels}
use Rattle.marks.specs.Numbers.{units_of}
use Rattle.marks.proofs.Laws.{most}
use Rattle.scaling.proofs.Ranges.{from_inclusive}
use Rattle.scaling.proofs.Squares.{before, all_low, all_pairs}
use Rattle.scaling.proofs.coordinates.squared_marks.Goals as goal

pub sum-requires-clause-fits : goal.sum-requires-clause-fits
sum-requires-clause-fits c =
    let n = units_of c.args.marks.now in
    fits_by_from_yields_list (before c.args.marks.now) (labels n) c.map.result _
    (YieldsList-from_map _ (before c.args.marks.now) (from_inclusive n c.map.ensures.source c.new.ensures.exhausted c.new.ensures.start (search rules)) c.map.ensures.closure (λ x r q k. search rules))
    (omega (arith, all_low c.args.marks.now n (most c.args.marks.now), most c.args.marks.now))

pub returns : goal.returns
returns c =
    let n = units_of c.args.marks.now in
    let e : c.sum.result ≡ sum_by (before c.args.marks.now) (labels n) =
    sum_by_from_yields_List (before c.args.marks.now) (labels n) c.map.result c.sum.result c.sum.ensures.ran
    (YieldsList-from_map _ (before c.args.marks.now) (from_inclusive n c.map.ensures.source c.new.ensures.exhausted c.new.ensures.start (search rules)) c.map.ensures.closure (λ x r q k. search rules)) in
    record {
      value = ap pos e ∙ all_pairs c.args.marks.now n;
      low = omega (arith, e, all_low c.args.marks.now n (most c.args.marks.now), most c.args.marks.now);
    }
