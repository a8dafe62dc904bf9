-- The text of a command, and the form of a line.
use Rattle.std.specs.Prelude.{◌≡◌, ℕ, ◌^◌, ◌<◌, ◌≤◌, Bool, true, false, List, ◌∷◌, ◌++◌, length, codes, decimal}
use Rattle.loglines.specs.declared.command.Mark.{Mark}
use Rattle.loglines.specs.declared.command.Mark.TheVariants.{Number, Gap}
use Rattle.loglines.specs.declared.command.YardstickLetter.{YardstickLetter}
use Rattle.loglines.specs.declared.command.YardstickLetter.TheVariants.{Spread, Gradient, Target}
use Rattle.loglines.specs.declared.command.Command.{Command}
use Rattle.loglines.specs.declared.command.Command.TheVariants.{Open, Pair, Tie, Untie, Rank}

-- the word of a mark, and of a yardstick; the word of a number is its decimal, with no leading zero
abbrev pub mark_word : Mark → List ℕ
mark_word (Number d) = decimal d
mark_word Gap = codes "-"

abbrev pub letter_word : YardstickLetter → List ℕ
letter_word Spread = codes "S"
letter_word Gradient = codes "G"
letter_word Target = codes "T"

-- a word after its one space
abbrev pub spaced : {X : Type 0} → (X → List ℕ) → X → List ℕ
spaced f x = 32 ∷ f x

-- the text of a command: its letter, and its words each after one space
abbrev pub text_of : Command → List ℕ
text_of (Open n) = codes "U" ++ spaced decimal n
text_of (Pair a b m) = codes "P" ++ (spaced decimal a ++ (spaced decimal b ++ spaced mark_word m))
text_of (Tie a b) = codes "T" ++ (spaced decimal a ++ spaced decimal b)
text_of (Untie a b) = codes "F" ++ (spaced decimal a ++ spaced decimal b)
text_of (Rank y k) = codes "R" ++ (spaced letter_word y ++ spaced decimal k)

-- what holds of each number of a command
abbrev pub OfMark : (ℕ → Type 0) → Mark → Type 0
OfMark P (Number d) = P d
OfMark P Gap = Unit {0}

abbrev pub Numbers : (ℕ → Type 0) → Command → Type 0
Numbers P (Open n) = P n
Numbers P (Pair a b m) = P a × P b × OfMark P m
Numbers P (Tie a b) = P a × P b
Numbers P (Untie a b) = P a × P b
Numbers P (Rank y k) = P k

-- a number that 19 digits can write
abbrev pub Short : ℕ → Type 0
Short n = n < 10 ^ 19

-- opening belongs to a session with no sheet, and every other command to one with a sheet
abbrev pub Belongs : Bool → Command → Type 0
Belongs opened (Open n) = opened ≡ false
Belongs opened (Pair a b m) = opened ≡ true
Belongs opened (Tie a b) = opened ≡ true
Belongs opened (Untie a b) = opened ≡ true
Belongs opened (Rank y k) = opened ≡ true

-- a command that a line can ask for in this state
abbrev pub Asks : Bool → Command → Type 0
Asks opened c = Numbers Short c × Belongs opened c

-- the line asks for c: it is the text of c, within 64 bytes, its number words have at most 19 digits, and c belongs to the session's state
pub record Form (line : List ℕ) (opened : Bool) (c : Command) : Type 0 where
  pub text : line ≡ text_of c
  pub short : length line ≤ 64
  pub numbers : Numbers Short c
  pub state : Belongs opened c

-- two commands, with numbers of 64 bits, never share a text
abbrev pub OneCommand : Type 0
OneCommand = (c d : Command) → Numbers (λ n. n < 2 ^ 64) c → Numbers (λ n. n < 2 ^ 64) d → text_of c ≡ text_of d → c ≡ d
