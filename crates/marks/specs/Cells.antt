-- Where the mark of two units lies among twenty rows of twenty cells, and what is read there.
use Rattle.std.specs.Prelude.{ℕ, ◌+◌, ◌-◌, ◌*◌, Bool, cond, not, ◌&&◌, List, ℤ, pos, neg_ℤ, ◌==◌, nat_le, slice_index}
use Rattle.rules.specs.Units.{label}

-- a sheet has 2 to 20 units
abbrev pub is_size : ℕ → Bool
is_size n = nat_le 2 n && nat_le n 20

-- the cell of a and b: rows and columns are counted from 0, labels from 1
abbrev pub place : ℕ → ℕ → ℕ
place a b = (a - 1) * 20 + (b - 1)

-- a and b are two of the labels 1 to n
abbrev pub pair : ℕ → ℕ → ℕ → Bool
pair n a b = label n a && (label n b && not (a == b))

-- the mark of a and b, 0 where they are not two labels
abbrev pub read : ℕ → List ℕ → ℕ → ℕ → ℕ
read n cells a b = cond (pair n a b) (slice_index cells (place a b)) 0

-- what the mark d adds to the displacement of a unit: nothing if it is the unit's own, else d with the sign of its side
abbrev pub added : ℕ → Bool → Bool → ℤ
added d own before = cond own (pos 0) (cond before (pos d) (neg_ℤ (pos d)))
