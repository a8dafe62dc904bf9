-- The marks of a sheet as numbers.
use Rattle.std.proofs.Common.{◌≡◌, ◌≤◌, true, false, cond, refl, ap, ◌∙◌, arith}
use Rattle.std.proofs.lemmas.Bool.{le-leb}
use Rattle.rules.specs.declared.Mark.{Mark}
use Rattle.rules.specs.declared.Mark.TheVariants.{Gap, Number}
use Rattle.rules.specs.Sheets.{value, numbers}
use Rattle.marks.specs.declared.marks.Marks.{Marks}
use Rattle.marks.specs.Cells.{pair}
use Rattle.marks.specs.Numbers.{numbers_of}
use Rattle.cells.specs.Read.{mark_at}
use Rattle.cells.specs.Gaps.{low_value, AsNumbers}
use Rattle.sheet.specs.declared.sheet.Sheet.{Sheet}
use Rattle.sheet.specs.Contents.{contents}
use Rattle.sheet.specs.Measured.{MarksOf}

-- a number of at most 10,000 is read as it is
as_is : (m : Mark) → value m ≤ 10000 → low_value m ≡ value m
as_is Gap h = refl
as_is (Number d) h = ap (λ b. cond b d 0) (le-leb d 10000 h)

pub marks_of : (s : Sheet) (m : Marks) → AsNumbers s.units.count s.cells m → MarksOf s m
marks_of s m a = record {
  size = a.size;
  marks = λ x y. a.marks x y ∙ as_is ((contents s).mark x y)
      (elim (pair s.units.count x y) as (λ b. value (cond b (mark_at s.cells x y) Gap) ≤ 10000) [ true ↦ s.low x y | false ↦ omega arith ]);
}

-- the numbers, as functions
pub same_numbers : (s : Sheet) (m : Marks) → MarksOf s m → numbers_of m ≡ numbers (contents s)
same_numbers s m a = λ i x y. a.marks x y i
