-- What always holds of the marks and the ties of a sheet.
use Rattle.std.proofs.Common.{◌≤◌}
use Rattle.rules.specs.Yardsticks.{Low, Symmetric}
use Rattle.rules.specs.Recurrence.{OnLabels}
use Rattle.marks.specs.declared.marks.Marks.{Marks}
use Rattle.marks.specs.declared.ties.Ties.{Ties}
use Rattle.marks.specs.Numbers.{units_of, numbers_of}
use Rattle.marks.specs.Tied.{tied_units, tied_of}
use Rattle.marks.proofs.TieSets.{on_labels}

pub least : (m : Marks) → 2 ≤ units_of m
least m = m.units.least

pub most : (m : Marks) → units_of m ≤ 20
most m = m.units.most

pub symmetric : (m : Marks) → Symmetric (numbers_of m)
symmetric m = m.symmetric

pub low : (m : Marks) → Low (numbers_of m)
low m = m.low

pub ties_least : (t : Ties) → 2 ≤ tied_units t
ties_least t = t.units.least

pub ties_most : (t : Ties) → tied_units t ≤ 20
ties_most t = t.units.most

pub ties_on_labels : (t : Ties) → OnLabels (tied_of t) (tied_units t)
ties_on_labels t = on_labels t.units.count t.before
