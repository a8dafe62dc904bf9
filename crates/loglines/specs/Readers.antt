-- What the readers of parts of a line answer: each is the inverse of a way to write a value.
use Rattle.std.specs.Prelude.{◌≡◌, ℕ, List, ◌++◌, Option, MatchOption, ◌≢◌}
use Rattle.loglines.specs.Spans.{Stopped}
use Rattle.loglines.specs.Text.{spaced}

-- the whole text is that of a valid x, or of none
abbrev pub Whole : {X : Type 0} → (X → List ℕ) → (X → Type 0) → List ℕ → Option X → Type 0
Whole f Valid s r = MatchOption r ((x : _) → Valid x → s ≢ f x) (λ x. Valid x × (s ≡ f x))

-- rest begins with one space and the word of a valid x, and tail is what follows them
pub record Front {X : Type 0} (f : X → List ℕ) (Valid : X → Type 0) (rest : List ℕ) (x : X) (tail : List ℕ) : Type 0 where
  pub valid : Valid x
  pub whole : rest ≡ spaced f x ++ tail
  pub stop : Stopped 32 tail

-- it begins so with none
abbrev pub NoFront : {X : Type 0} → (X → List ℕ) → (X → Type 0) → List ℕ → Type 0
NoFront f Valid rest = (x : _) (tail : List ℕ) → Front f Valid rest x tail → ⊥

-- two values, and the text of their words
abbrev pub Both : {X Y : Type 0} → (X → Type 0) → (Y → Type 0) → X × Y → Type 0
Both V W p = V p.0 × W p.1

abbrev pub two_words : {X Y : Type 0} → (X → List ℕ) → (Y → List ℕ) → X × Y → List ℕ
two_words f g p = spaced f p.0 ++ spaced g p.1
