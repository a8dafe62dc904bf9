-- What a sheet says: how many units it has, the mark of each pair, and which ties stand.
use Rattle.std.specs.Prelude.{ℕ, Bool, true, false, cond, ◌&&◌, ◌||◌, List, [], ◌∷◌, ◌++◌, map, ◌==◌}
use Rattle.rules.specs.declared.Mark.{Mark}
use Rattle.rules.specs.declared.Mark.TheVariants.{Gap, Number}

-- the contents of a sheet; `tied a b` says that a stands earlier than b
pub record Contents : Type 0 where
  pub units : ℕ
  pub mark : ℕ → ℕ → Mark
  pub tied : ℕ → ℕ → Bool

-- a new sheet: all pairs are gaps, and there is no tie
abbrev pub new_contents : ℕ → Contents
new_contents n = record { units = n; mark = λ a b. Gap; tied = λ a b. false }

-- a pair is the same in either direction
abbrev pub same_pair : ℕ → ℕ → ℕ → ℕ → Bool
same_pair a b x y = (a == x && b == y) || (a == y && b == x)

-- a tie only in its own
abbrev pub same_tie : ℕ → ℕ → ℕ → ℕ → Bool
same_tie a b x y = a == x && b == y

-- the pair of a and b gets a mark, and nothing else changes
abbrev pub with_mark : Contents → ℕ → ℕ → Mark → Contents
with_mark s a b m = record {
  units = s.units;
  mark = λ x y. cond (same_pair a b x y) m (s.mark x y);
  tied = s.tied;
}

-- the tie of a before b stands or does not, and nothing else changes
abbrev pub with_tie : Contents → ℕ → ℕ → Bool → Contents
with_tie s a b stands = record {
  units = s.units;
  mark = s.mark;
  tied = λ x y. cond (same_tie a b x y) stands (s.tied x y);
}

-- a mark is a gap
abbrev pub is_gap : Mark → Bool
is_gap Gap = true
is_gap (Number d) = false

-- the number of a mark; a gap has none, and is read as 0 where no gap is let through
abbrev pub value : Mark → ℕ
value Gap = 0
value (Number d) = d

-- the marks of a sheet without gaps, as numbers
abbrev pub numbers : Contents → ℕ → ℕ → ℕ
numbers s a b = value (s.mark a b)

-- a with each of some labels
abbrev pub pairs_with : ℕ → List ℕ → List (ℕ × ℕ)
pairs_with a bs = map (λ b. (a, b)) bs

-- the pairs of ascending labels, the lower label first, by the lower and then by the higher label
abbrev pub pairs_in : List ℕ → List (ℕ × ℕ)
pairs_in [] = []
pairs_in (a ∷ bs) = pairs_with a bs ++ pairs_in bs
