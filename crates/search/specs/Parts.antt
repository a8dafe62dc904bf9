-- One set within another, and the first of the units that may come next.
use Rattle.std.specs.Prelude.{◌≡◌, ℕ, Bool, not, ◌||◌, List, [], ◌∷◌, Option, MatchOption}
use Rattle.std.specs.List.{list_all}
use Rattle.rules.specs.Units.{labels, has}

-- each of the labels 1 to n that is in B is in A
abbrev pub part_of : ℕ → ℕ → ℕ → Bool
part_of n B A = list_all (λ a. not (has B a) || has A a) (labels n)

-- the first of some units; none where there is none
abbrev pub FirstReady : List ℕ → Option ℕ → Type 0
FirstReady js r = MatchOption r (js ≡ []) (λ j. (rest : List ℕ) × (js ≡ j ∷ rest))
