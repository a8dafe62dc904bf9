-- What opening a sheet, Write, Blank, Tie and Untie answer, and what they leave of the sheet.
use Rattle.std.specs.Prelude.{◌≡◌, ℕ, Bool, true, false, cond, ◌&&◌, Result}
use Rattle.rules.specs.declared.Mark.{Mark}
use Rattle.rules.specs.declared.Mark.TheVariants.{Gap, Number}
use Rattle.rules.specs.Sheets.{Contents, same_pair, same_tie}
use Rattle.rules.specs.Calls.{Outcome, is_accepted, open_outcome, write_outcome, pair_outcome}
use Rattle.rules.specs.Runs.{after, write, blank, tie, untie}
use Rattle.marks.specs.Tied.{tied_of}
use Rattle.cells.specs.Read.{mark_at}
use Rattle.sheet.specs.declared.sheet.Sheet.{Sheet}
use Rattle.sheet.specs.declared.faults.SheetFault.{SheetFault}
use Rattle.sheet.specs.Faults.{sheet_refusal, outcome_of}
use Rattle.sheet.specs.Contents.{contents}

-- opening from s to t: t is a new sheet, or is s
pub record Opens (s : Sheet) (n : ℕ) (o : Outcome Contents) (t : Sheet) : Type 0 where
  pub answer : o ≡ open_outcome n
  pub refused : is_accepted o ≡ false → t ≡ s

-- what opening answers: the contents of the sheet that it leaves
abbrev pub open_reply : Sheet → Result (Unit {0}) SheetFault → Outcome Contents
open_reply t r = outcome_of sheet_refusal (λ _. contents t) r

-- of the record only the cell of a and b changes, and it only by an accepted call, to the mark m
pub record OneMark (s : Sheet) (a b : ℕ) (m : Mark) (o : Outcome (Unit {0})) (t : Sheet) : Type 0 where
  pub units : t.units.count ≡ s.units.count
  pub cells : (x y : ℕ)
      → mark_at t.cells x y ≡ cond (is_accepted o && same_pair a b x y) m (mark_at s.cells x y)
  pub ties : t.ties ≡ s.ties
  pub refused : is_accepted o ≡ false → t ≡ s

-- of the record only the tie of a before b changes, and it only by an accepted call
pub record OneTie (s : Sheet) (a b : ℕ) (stands : Bool) (o : Outcome (Unit {0})) (t : Sheet) : Type 0 where
  pub units : t.units.count ≡ s.units.count
  pub cells : t.cells ≡ s.cells
  pub ties : (x y : ℕ)
      → tied_of t.ties x y ≡ cond (is_accepted o && same_tie a b x y) stands (tied_of s.ties x y)
  pub refused : is_accepted o ≡ false → t ≡ s

-- Write from s to t
pub record Writes (s : Sheet) (a b d : ℕ) (o : Outcome (Unit {0})) (t : Sheet) : Type 0 where
  pub answer : o ≡ write_outcome s.units.count a b d
  pub sheet : contents t ≡ after (contents s) (write a b d)
  pub record_after : OneMark s a b (Number d) o t

-- Blank
pub record Blanks (s : Sheet) (a b : ℕ) (o : Outcome (Unit {0})) (t : Sheet) : Type 0 where
  pub answer : o ≡ pair_outcome s.units.count a b
  pub sheet : contents t ≡ after (contents s) (blank a b)
  pub record_after : OneMark s a b Gap o t

-- Tie
pub record Binds (s : Sheet) (a b : ℕ) (o : Outcome (Unit {0})) (t : Sheet) : Type 0 where
  pub answer : o ≡ pair_outcome s.units.count a b
  pub sheet : contents t ≡ after (contents s) (tie a b)
  pub record_after : OneTie s a b true o t

-- Untie
pub record Unbinds (s : Sheet) (a b : ℕ) (o : Outcome (Unit {0})) (t : Sheet) : Type 0 where
  pub answer : o ≡ pair_outcome s.units.count a b
  pub sheet : contents t ≡ after (contents s) (untie a b)
  pub record_after : OneTie s a b false o t
