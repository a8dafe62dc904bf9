-- The sheet that cells stand for, its first gap, and its marks as numbers.
use Rattle.std.specs.Prelude.{◌≡◌, ℕ, ◌<◌, ◌≤◌, Bool, false, cond, map, drop, Some, None, Option, ◌≢◌, nat_le}
use Rattle.rules.specs.declared.Mark.{Mark}
use Rattle.rules.specs.declared.Mark.TheVariants.{Gap, Number}
use Rattle.rules.specs.Units.{labels}
use Rattle.rules.specs.Sheets.{Contents, pairs_with, pairs_in}
use Rattle.rules.specs.Calls.{Outcome, accepted, refused, gap, decide, gap_test, gap_tests}
use Rattle.marks.specs.declared.marks.Marks.{Marks}
use Rattle.marks.specs.Numbers.{units_of, numbers_of}
use Rattle.marks.specs.Cells.{pair}
use Rattle.cells.specs.declared.triangle.Triangle.{Triangle}
use Rattle.cells.specs.Read.{mark_at}

-- a sheet of n units with these cells and ties
abbrev pub sheet_of : ℕ → Triangle → (ℕ → ℕ → Bool) → Contents
sheet_of n t tied = record { units = n; mark = λ a b. cond (pair n a b) (mark_at t a b) Gap; tied = tied }

-- without ties
abbrev pub untied_sheet : ℕ → Triangle → Contents
untied_sheet n t = sheet_of n t (λ a b. false)

-- the refusal that names a gap, if there is one
abbrev pub gap_outcome : Option (ℕ × ℕ) → Outcome (Unit {0})
gap_outcome None = accepted tt
gap_outcome (Some q) = refused (gap q.0 q.1)

-- r is the first gap of the sheet, none if every pair has a number
abbrev pub FirstGap : ℕ → Triangle → Option (ℕ × ℕ) → Type 0
FirstGap n t r = gap_outcome r ≡ decide (gap_tests (untied_sheet n t)) tt

-- the outcome of the gap tests of all pairs of the labels after the first i
abbrev pub pairs_decided : ℕ → Triangle → ℕ → Outcome (Unit {0})
pairs_decided n t i = decide (map (gap_test (untied_sheet n t)) (pairs_in (drop i (labels n)))) tt

-- the first gap among the pairs of a and later labels
abbrev pub row_outcome : ℕ → Option ℕ → Outcome (Unit {0})
row_outcome a None = accepted tt
row_outcome a (Some b) = refused (gap a b)

-- the outcome of the gap tests of a and the labels after the first i
abbrev pub row_decided : ℕ → Triangle → ℕ → ℕ → Outcome (Unit {0})
row_decided n t a i = decide (map (gap_test (untied_sheet n t)) (pairs_with a (drop i (labels n)))) tt

-- the number of a mark, 0 for a gap and for a number above 10,000
abbrev pub low_value : Mark → ℕ
low_value Gap = 0
low_value (Number d) = cond (nat_le d 10000) d 0

-- the numbers of the pairs of a and later labels are copied, and no others change
pub record RowCopied (t : Triangle) (a : ℕ) (m k : Marks) : Type 0 where
  pub size : units_of k ≡ units_of m
  pub here : (y : ℕ) → a < y → y ≤ units_of m → numbers_of k a y ≡ low_value (mark_at t a y)
  pub others : (x y : ℕ) → x < y → (x ≢ a) → numbers_of k x y ≡ numbers_of m x y

-- the marks of the sheet as numbers
pub record AsNumbers (n : ℕ) (t : Triangle) (m : Marks) : Type 0 where
  pub size : units_of m ≡ n
  pub marks : (x y : ℕ) → numbers_of m x y ≡ low_value ((untied_sheet n t).mark x y)
