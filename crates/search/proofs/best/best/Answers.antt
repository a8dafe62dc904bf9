use Rattle.std.proofs.Common.{rules, Ok, Err, ◌++◌, drop, get_or, refl, subst₂, arith}
use Rattle.marks.specs.declared.marks.Marks.{Marks}
use Rattle.marks.specs.declared.ties.Ties.{Ties}
use Rattle.yardsticks.specs.Merits.{merit_of}
use Rattle.search.specs.declared.best.SearchFault.TheVariants.{Number}
use Rattle.search.specs.Best.{Searches}
use Rattle.search.proofs.Found as found
use Rattle.search.proofs.best.best.Goals as goal

pub returns-in_err-sheet : goal.returns-in_err-sheet
returns-in_err-sheet g c =
    found.refused g.Y.Yardstick.numbers (merit_of g.Y.Yardstick) c.args.k c.args.marks.now c.args.ties.now
    (record { totals = c.args.totals.now; counts = c.args.counts.now; row = c.args.row.now }) c.in_err-sheet.field-0.0 c.in_err-sheet.ensures _ (search rules)

pub fill-requires : goal.fill-requires
fill-requires g c =
    found.room g.Y.Yardstick.numbers (merit_of g.Y.Yardstick) c.args.k c.in_ok-sheet.sheet.sound
    (record { totals = c.args.totals.now; counts = c.args.counts.now; row = c.args.row.now }) c.in_ok-sheet.ensures.2

pub returns-then-not-is_numbered : goal.returns-then-not-is_numbered
returns-then-not-is_numbered g c =
    let y = merit_of g.Y.Yardstick in
    let w = c.in_ok-sheet.ensures in
    subst₂ (λ (m : Marks) (t : Ties). Searches g.Y.Yardstick.numbers (merit_of g.Y.Yardstick) m t c.args.k
    (record { totals = c.args.totals.now; counts = c.args.counts.now; row = c.args.row.now })
    (record { totals = c.fill.new.totals; counts = c.fill.new.counts; row = c.args.row.now }) (Err Number)) w.0 w.1
    (found.no_number g.Y.Yardstick.numbers y c.args.k c.in_ok-sheet.sheet.sound _ w.2 _
    (record { filled = c.fill.ensures.filled; totals_past = c.fill.ensures.totals_past; counts_past = c.fill.ensures.counts_past }) c.if-not-is_numbered.ensures refl)

pub invariant_of-tables : goal.invariant_of-tables
invariant_of-tables g c =
    let r = found.room g.Y.Yardstick.numbers (merit_of g.Y.Yardstick) c.args.k c.in_ok-sheet.sheet.sound
    (record { totals = c.args.totals.now; counts = c.args.counts.now; row = c.args.row.now }) c.in_ok-sheet.ensures.2 in
    record { room = record { for_totals = omega (arith, r.for_totals, c.fill.ensures.lengths); for_counts = omega (arith, r.for_counts, c.fill.ensures.lengths) } }

pub slice_bounds-nth-end : goal.slice_bounds-nth-end
slice_bounds-nth-end g c =
    omega (
      arith,
      c.units.ensures,
      found.places g.Y.Yardstick.numbers (merit_of g.Y.Yardstick) c.args.k c.in_ok-sheet.sheet.sound
          (record { totals = c.args.totals.now; counts = c.args.counts.now; row = c.args.row.now }) c.in_ok-sheet.ensures.2,
    )

pub nth-requires-clause-number : goal.nth-requires-clause-number
nth-requires-clause-number g c =
    found.numbers_an_order g.Y.Yardstick.numbers (merit_of g.Y.Yardstick) c.args.k c.in_ok-sheet.sheet.sound
    (record { totals = c.args.totals.now; counts = c.args.counts.now; row = c.args.row.now }) c.in_ok-sheet.ensures.2
    (record { totals = c.fill.new.totals; counts = c.fill.new.counts; row = c.args.row.now })
    (record { filled = c.fill.ensures.filled; totals_past = c.fill.ensures.totals_past; counts_past = c.fill.ensures.counts_past }) c.if-not-is_numbered.ensures

pub returns : goal.returns
returns g c =
    let y = merit_of g.Y.Yardstick in
    let w = c.in_ok-sheet.ensures in
    subst₂ (λ (m : Marks) (t : Ties). Searches g.Y.Yardstick.numbers (merit_of g.Y.Yardstick) m t c.args.k
    (record { totals = c.args.totals.now; counts = c.args.counts.now; row = c.args.row.now })
    (record { totals = c.fill.new.totals; counts = c.fill.new.counts; row = c.nth.new.row ++ drop c.units.result c.args.row.now })
    (Ok (c.index-totals-0.result, get_or c.fill.new.counts 0 0))) w.0 w.1
    (found.answered g.Y.Yardstick.numbers y c.args.k c.in_ok-sheet.sheet.sound _ w.2 _
    (record { filled = c.fill.ensures.filled; totals_past = c.fill.ensures.totals_past; counts_past = c.fill.ensures.counts_past }) c.if-not-is_numbered.ensures
    _ c.index-totals-0.is (λ i. c.nth.ensures i ++ drop (c.units.ensures i) c.args.row.now))
