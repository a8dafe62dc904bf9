-- The marks of a sheet as numbers, handed out where some tests pass.
use Rattle.std.specs.Prelude.{◌≡◌, ℕ, Bool, List, Result, MatchResult}
use Rattle.rules.specs.Sheets.{numbers}
use Rattle.rules.specs.Calls.{Refusal, accepted, refused, decide}
use Rattle.marks.specs.declared.marks.Marks.{Marks}
use Rattle.marks.specs.Numbers.{units_of, numbers_of}
use Rattle.sheet.specs.declared.sheet.Sheet.{Sheet}
use Rattle.sheet.specs.declared.faults.AnswerFault.{AnswerFault}
use Rattle.sheet.specs.Contents.{contents}
use Rattle.sheet.specs.Faults.{answer_refusal}

-- m has the units of s and the number of each pair, a gap as 0
pub record MarksOf (s : Sheet) (m : Marks) : Type 0 where
  pub size : units_of m ≡ s.units.count
  pub marks : (x y : ℕ) → numbers_of m x y ≡ numbers (contents s) x y

-- the marks if none of the tests holds, else the refusal of the first that does
abbrev pub Tested : Sheet → List (Bool × Refusal) → Result Marks AnswerFault → Type 0
Tested s tests r =
    MatchResult r (λ m. (decide tests (tt {0}) ≡ accepted tt) × MarksOf s m)
    (λ f. decide tests (tt {0}) ≡ refused (answer_refusal f))
