-- The anti-Robinson pattern: in the table of marks in row order, marks never fall away from the diagonal.
use Rattle.std.specs.Prelude.{ℕ, ◌+◌, ◌<◌, ◌≤◌, Bool, cond, not, List, [], ◌∷◌, ◌++◌, length, nat_le, slice_index}
use Rattle.rules.specs.Units.{sum_over}

-- the units at three positions, in row order
pub record Triple : Type 0 where
  pub first : ℕ
  pub middle : ℕ
  pub last : ℕ

-- two units with each of some
abbrev pub triples_at : ℕ → ℕ → List ℕ → List Triple
triples_at u v [] = []
triples_at u v (w ∷ ws) = record { first = u; middle = v; last = w } ∷ triples_at u v ws

-- a unit with each two of some, in row order
abbrev pub triples_from : ℕ → List ℕ → List Triple
triples_from u [] = []
triples_from u (v ∷ vs) = triples_at u v vs ++ triples_from u vs

-- the units at each three positions u before v before w of a row
abbrev pub triples : List ℕ → List Triple
triples [] = []
triples (u ∷ us) = triples_from u us ++ triples us

-- 1 where a test holds, else 0
abbrev pub one_if : Bool → ℕ
one_if b = cond b 1 0

-- how many of the two comparisons of three positions hold: the first and middle, and the middle and last unit
-- have no greater mark than the first and last
abbrev pub kept_at : (ℕ → ℕ → ℕ) → Triple → ℕ
kept_at p t =
    one_if (nat_le (p t.first t.middle) (p t.first t.last))
    + one_if (nat_le (p t.middle t.last) (p t.first t.last))

-- and how many fail
abbrev pub broken_at : (ℕ → ℕ → ℕ) → Triple → ℕ
broken_at p t =
    one_if (not (nat_le (p t.first t.middle) (p t.first t.last)))
    + one_if (not (nat_le (p t.middle t.last) (p t.first t.last)))

-- how many comparisons of a row hold
abbrev pub kept : (ℕ → ℕ → ℕ) → List ℕ → ℕ
kept p o = sum_over (kept_at p) (triples o)

-- and how many fail
abbrev pub broken : (ℕ → ℕ → ℕ) → List ℕ → ℕ
broken p o = sum_over (broken_at p) (triples o)

-- all comparisons hold, by positions
abbrev pub AntiRobinson : (ℕ → ℕ → ℕ) → List ℕ → Type 0
AntiRobinson p o =
    (u v w : ℕ) → u < v → v < w → w < length o
    → (p (slice_index o u) (slice_index o v) ≤ p (slice_index o u) (slice_index o w))
    × (p (slice_index o v) (slice_index o w) ≤ p (slice_index o u) (slice_index o w))
