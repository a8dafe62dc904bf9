-- Texts cut at a byte.
use Rattle.std.specs.Prelude.{◌≡◌, ℕ, ◌<◌, ◌≤◌, List, length, ◌==◌, ◌≢◌, slice_index}
use Rattle.std.specs.List.{slice_split}

-- the first stop of s stands at n, or s has none and n bytes
pub record Spans (stop : ℕ) (s : List ℕ) (n : ℕ) : Type 0 where
  pub within : n ≤ length s
  pub before : (k : ℕ) → k < n → slice_index s k ≢ stop
  pub stops : n < length s → slice_index s n ≡ stop

-- no byte of s is a stop
abbrev pub Free : ℕ → List ℕ → Type 0
Free stop s = (i : ℕ) → i < length s → slice_index s i ≢ stop

-- s is empty, or begins with a stop
abbrev pub Stopped : ℕ → List ℕ → Type 0
Stopped stop s = 0 < length s → slice_index s 0 ≡ stop

-- the parts of a text between its stops: one more than it has stops
abbrev pub parts : ℕ → List ℕ → List (List ℕ)
parts stop s = slice_split (λ b. b == stop) s
