-- What a word is, and how a line is cut at its next word.
use Rattle.std.specs.Prelude.{◌≡◌, ℕ, ◌<◌, ◌≤◌, ◌⊎◌, List, [], ◌∷◌, ◌++◌, length, get_or, codes, ◌≢◌, slice_index, slice_index_or}
use Rattle.std.specs.Int.{IsInRange}
use Rattle.loglines.specs.declared.token.Token.{Token}
use Rattle.loglines.specs.declared.token.Token.TheVariants as token
use Rattle.loglines.specs.Spans.{Stopped, parts}

-- the bytes that a token borrows from its line
abbrev pub bytes : Token → List ℕ
bytes (token.Letter s) = s.now
bytes (token.Digits s) = s.now
bytes (token.Dash s) = s.now

-- each byte is one of 0 to 9
abbrev pub AllDigits : List ℕ → Type 0
AllDigits s = (i : ℕ) → i < length s → IsInRange 48 57 (slice_index s i)

-- a number word: 1 to 19 digits, the first of them 0 only where it is the only one
pub record Numeral (s : List ℕ) : Type 0 where
  pub digits : AllDigits s
  pub some : 0 < length s
  pub fits : length s ≤ 19
  pub lean : get_or s 0 0 ≡ 48 → length s ≡ 1

-- a letter word: one capital letter
pub record Capital (s : List ℕ) : Type 0 where
  pub one : length s ≡ 1
  pub is : IsInRange 65 90 (slice_index s 0)

-- the word `-`
abbrev pub Hyphen : List ℕ → Type 0
Hyphen s = s ≡ codes "-"

abbrev pub IsWord : List ℕ → Type 0
IsWord s = Capital s ⊎ Numeral s ⊎ Hyphen s

-- a token's case says of which kind its bytes are
abbrev pub Kind : Token → Type 0
Kind (token.Letter s) = Capital s.now
Kind (token.Digits s) = Numeral s.now
Kind (token.Dash s) = Hyphen s.now

-- t is the word that the bytes s are
pub record Tells (s : List ℕ) (t : Token) : Type 0 where
  pub same : bytes t ≡ s
  pub kind : Kind t

-- the part of a line at a place: 0 is what stands before its first space
abbrev pub part_at : List ℕ → ℕ → List ℕ
part_at line place = slice_index_or (parts 32 line) place []

-- rest begins with one space and the word t, and tail is what follows them
pub record Cut (rest : List ℕ) (t : Token) (tail : List ℕ) : Type 0 where
  pub whole : rest ≡ 32 ∷ (bytes t ++ tail)
  pub kind : Kind t
  pub stop : Stopped 32 tail

-- rest begins with no word after one space
abbrev pub NoWord : List ℕ → Type 0
NoWord rest = (w tail : List ℕ) → IsWord w → Stopped 32 tail → rest ≢ 32 ∷ (w ++ tail)
