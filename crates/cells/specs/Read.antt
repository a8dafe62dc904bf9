-- What the cells of a sheet say.
use Rattle.std.specs.Prelude.{◌≡◌, ℕ, cond, slice_index_or}
use Rattle.rules.specs.declared.Mark.{Mark}
use Rattle.rules.specs.declared.Mark.TheVariants.{Gap}
use Rattle.rules.specs.Sheets.{value}
use Rattle.marks.specs.Cells.{pair}
use Rattle.cells.specs.declared.triangle.Triangle.{Triangle}
use Rattle.cells.specs.Places.{place}

-- the mark of two labels up to 20, a gap for what is no pair of them
abbrev pub mark_at : Triangle → ℕ → ℕ → Mark
mark_at t a b = cond (pair 20 a b) (slice_index_or t.cells (place a b) Gap) Gap

-- every pair is a gap
abbrev pub AllGaps : Triangle → Type 0
AllGaps t = (a b : ℕ) → mark_at t a b ≡ Gap

-- the mark as a number, a gap as 0
abbrev pub number_at : Triangle → ℕ → ℕ → ℕ
number_at t a b = value (mark_at t a b)
