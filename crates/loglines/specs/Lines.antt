-- A log cut into lines at its line feeds.
use Rattle.std.specs.Prelude.{◌≡◌, ℕ, ◌-◌, ◌<◌, ◌≤◌, ◌⊎◌, List, [], ◌∷◌, ◌++◌, length, map, slice_index_or}
use Rattle.std.specs.Borrow.{Bor}
use Rattle.std.specs.List.{AllByRecursion}
use Rattle.loglines.specs.declared.fault.LogFault.TheVariants as fault
use Rattle.loglines.specs.declared.fault.LogError.{LogError}
use Rattle.loglines.specs.declared.fault.LogError.TheVariants as error
use Rattle.loglines.specs.Spans.{Free}

-- the text of lines, each with its line feed
abbrev pub fed : List (List ℕ) → List ℕ
fed [] = []
fed (l ∷ ls) = l ++ (10 ∷ fed ls)

-- the input ends in a byte that is no line feed
pub record Unended (input : List ℕ) : Type 0 where
  pub some : 0 < length input
  pub last : slice_index_or input (length input - 1) 0 ≡ 10 → ⊥

-- no line has a line feed, and the lines, each with one, are the input, or the input and the line feed that its last line lacks
pub record Lines (input : List ℕ) (ls : List (List ℕ)) : Type 0 where
  pub feedless : AllByRecursion (Free 10) ls
  pub whole : (fed ls ≡ input) ⊎ ((fed ls ≡ input ++ (10 ∷ [])) × Unended input)

-- line is the first line of rest, and tail is what follows its line feed, or nothing where rest ends without one
pub record First (rest line tail : List ℕ) : Type 0 where
  pub feedless : Free 10 line
  pub whole : (rest ≡ line ++ (10 ∷ tail)) ⊎ ((rest ≡ line) × (tail ≡ []) × (0 < length line))

-- the bytes of borrowed lines
abbrev pub texts : List (Bor (List ℕ)) → List (List ℕ)
texts ls = map (λ l. l.now) ls

-- an input that is not cut: it is too long, or there is no memory for its lines
abbrev pub Uncut : List ℕ → LogError → Type 0
Uncut input (error.Refused fault.Long) = 32768 < length input
Uncut input (error.Refused fault.Size) = ⊥
Uncut input (error.Refused fault.Form) = ⊥
Uncut input error.NoMemory = length input ≤ 32768

-- an input is cut into lines in one way
abbrev pub OneCut : Type 0
OneCut = (input : List ℕ) (ls ms : List (List ℕ)) → Lines input ls → Lines input ms → ls ≡ ms
