-- What the lines of a log ask for, each in the state that the lines before it leave.
use Rattle.std.specs.Prelude.{◌≡◌, ℕ, ◌≤◌, Bool, true, false, List, [], ◌∷◌, length, Ok, Err, Result}
use Rattle.loglines.specs.declared.command.Command.{Command}
use Rattle.loglines.specs.declared.command.Command.TheVariants.{Open, Pair, Tie, Untie, Rank}
use Rattle.loglines.specs.declared.fault.LogFault.{LogFault}
use Rattle.loglines.specs.declared.fault.LogFault.TheVariants as fault
use Rattle.loglines.specs.Text.{Form}
use Rattle.loglines.specs.Lines.{Lines}

-- a log opens a sheet of 2 to 11 units
abbrev pub Sized : Command → Type 0
Sized (Open n) = (2 ≤ n) × (n ≤ 11)
Sized (Pair a b m) = Unit {0}
Sized (Tie a b) = Unit {0}
Sized (Untie a b) = Unit {0}
Sized (Rank y k) = Unit {0}

-- what a line asks for, or why this layer refuses it
abbrev pub Reading : Type 0
Reading = Result Command LogFault

abbrev pub Reads : Bool → List ℕ → Reading → Type 0
Reads opened line (Ok c) = Form line opened c × Sized c
Reads opened line (Err fault.Size) = (c : Command) × Form line opened c × (Sized c → ⊥)
Reads opened line (Err fault.Form) = (c : Command) → Form line opened c → ⊥
Reads opened line (Err fault.Long) = ⊥

-- whether a sheet is open after a line: an accepted opening opens one, and nothing closes it
abbrev pub open_after : Bool → Reading → Bool
open_after opened (Ok (Open n)) = true
open_after opened (Ok (Pair a b m)) = opened
open_after opened (Ok (Tie a b)) = opened
open_after opened (Ok (Untie a b)) = opened
open_after opened (Ok (Rank y k)) = opened
open_after opened (Err f) = opened

-- one reading for each line, in order
abbrev pub Readings : Bool → List (List ℕ) → List Reading → Type 0
Readings opened [] [] = Unit {0}
Readings opened [] (r ∷ rs) = ⊥
Readings opened (l ∷ ls) [] = ⊥
Readings opened (l ∷ ls) (r ∷ rs) = Reads opened l r × Readings (open_after opened r) ls rs

-- rs are the readings of the lines of a whole log, which begins with no sheet open
pub record LogRead (input : List ℕ) (rs : List Reading) : Type 0 where
  pub few : length input ≤ 32768
  pub lines : List (List ℕ)
  pub cut : Lines input lines
  pub read : Readings false lines rs

-- a log is read in one way
abbrev pub OneReading : Type 0
OneReading = (input : List ℕ) (rs qs : List Reading) → LogRead input rs → LogRead input qs → rs ≡ qs
