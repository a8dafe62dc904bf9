-- A sheet read as the rulebook's contents.
use Rattle.rules.specs.Sheets.{Contents}
use Rattle.marks.specs.Tied.{tied_of}
use Rattle.cells.specs.Gaps.{sheet_of}
use Rattle.sheet.specs.declared.sheet.Sheet.{Sheet}

-- the units, the mark of each pair of their labels, and the ties
abbrev pub contents : Sheet → Contents
contents s = sheet_of s.units.count s.cells (tied_of s.ties)
