-- The worked examples: two sheets of three units, and what the calls answer and leave on them.
use Rattle.std.specs.Prelude.{◌≡◌, ℕ, Bool, true, false, List, [], ◌∷◌, replicate, ℤ, pos, negsuc}
use Rattle.rules.specs.Sheets.{Contents}
use Rattle.rules.specs.Yardsticks.{Merit, spread, gradient, target}
use Rattle.rules.specs.Moves.{interchange}
use Rattle.rules.specs.Calls.{Outcome, accepted, refused, number, number_of, RankAnswer, rank_outcome, rank_row_after, score_outcome, scale_outcome, scale_list_after, check_outcome, improve_outcome, improve_row_after}
use Rattle.rules.specs.Runs.{write, run}

-- sheet A: the marks 2, 7, 4 on the pairs (1, 2), (1, 3), (2, 3)
abbrev pub sheet_a : Contents
sheet_a = run 3 (write 2 3 4 ∷ write 1 3 7 ∷ write 1 2 2 ∷ [])

-- sheet B: the marks 0, 1, 2
abbrev pub sheet_b : Contents
sheet_b = run 3 (write 2 3 2 ∷ write 1 3 1 ∷ write 1 2 0 ∷ [])

-- a row or list of three places
abbrev pub three : {X : Type 0} → X → X → X → List X
three a b c = a ∷ b ∷ c ∷ []

-- Rank on tables of eight cells and a row of three places
abbrev pub ranked : Contents → Merit → ℕ → Outcome RankAnswer
ranked s y k = rank_outcome s y k (replicate 8 []) (replicate 8 0) (three 0 0 0)

-- it answers the total t, the count c and the order o, which it leaves in the row
abbrev pub Answers : Contents → Merit → ℕ → List ℤ → ℕ → List ℕ → Type 0
Answers s y k t c o =
    (ranked s y k ≡ accepted (record { total = t; count = c; order = o }))
    × (rank_row_after s y k (replicate 8 []) (replicate 8 0) (three 0 0 0) ≡ o)

-- Scale of the row 1 2 3 answers the displacements ds, which it leaves in its list, and a loss
abbrev pub Scaled : Contents → List ℤ → ℤ → Type 0
Scaled s ds l =
    (scale_outcome s (three 1 2 3) (replicate 3 (pos 0)) ≡ accepted (record { displaced = ds; loss = l }))
    × (scale_list_after s (three 1 2 3) (replicate 3 (pos 0)) ≡ ds)

-- Improve by interchange and spread of the row 1 3 2 answers the moves made, the total t and settled, and leaves o
abbrev pub ImprovesTo : Contents → ℕ → ℕ → ℤ → Bool → List ℕ → Type 0
ImprovesTo s limit made t settled o =
    (improve_outcome s interchange spread limit (three 1 3 2)
    ≡ accepted (record { made = made; total = t ∷ []; settled = settled; order = o }))
    × (improve_row_after s interchange spread limit (three 1 3 2) ≡ o)

-- the eight examples
abbrev pub examples : List (Type 0)
examples =
    (Answers sheet_a spread 1 (pos 206 ∷ []) 2 (three 1 2 3)
    × (Answers sheet_a spread 2 (pos 206 ∷ []) 2 (three 3 2 1)
    × ((ranked sheet_a spread 3 ≡ refused number) × (number_of number ≡ 10))))
    ∷ Scaled sheet_a (three (negsuc 8) (negsuc 1) (pos 11)) (pos 1)
    ∷ (Answers sheet_a gradient 1 (pos 2 ∷ pos 8 ∷ []) 2 (three 1 2 3)
    × (score_outcome sheet_a gradient (three 1 3 2) ≡ accepted (negsuc 1 ∷ negsuc 6 ∷ [])))
    ∷ (Answers sheet_a target 1 (pos 20 ∷ []) 2 (three 1 2 3)
    × (score_outcome sheet_a target (three 2 1 3) ≡ accepted (pos 17 ∷ [])))
    ∷ ((check_outcome sheet_a (three 1 2 3) ≡ accepted (2, 0))
    × (check_outcome sheet_a (three 1 3 2) ≡ accepted (0, 2)))
    ∷ (ImprovesTo sheet_a 2 2 (pos 206) true (three 3 2 1)
    × ImprovesTo sheet_a 1 1 (pos 182) false (three 3 1 2))
    ∷ (Answers sheet_b spread 1 (pos 14 ∷ []) 4 (three 1 2 3)
    × (Answers sheet_b spread 2 (pos 14 ∷ []) 4 (three 2 1 3)
    × (Answers sheet_b spread 3 (pos 14 ∷ []) 4 (three 3 1 2)
    × Answers sheet_b spread 4 (pos 14 ∷ []) 4 (three 3 2 1))))
    ∷ Scaled sheet_b (three (negsuc 0) (negsuc 1) (pos 3)) (pos 1)
    ∷ []

-- each of some facts holds
abbrev pub EachHolds : List (Type 0) → Type 0
EachHolds [] = Unit {0}
EachHolds (fact ∷ facts) = fact × EachHolds facts

-- the eight examples hold
abbrev pub WorkedExamples : Type 0
WorkedExamples = EachHolds examples
