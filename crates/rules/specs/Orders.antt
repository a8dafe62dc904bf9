-- Orders, the ties that they keep, label order, closed sets, and the ways to place what a set leaves.
use Rattle.std.specs.Prelude.{◌≡◌, ℕ, zero, suc, ◌<◌, Bool, true, false, cond, not, ◌&&◌, ◌||◌, List, [], ◌∷◌, map, length, filter, ◌==◌, nat_eq, nat_lt, slice_index}
use Rattle.std.specs.List.{flat_map, list_all}
use Rattle.rules.specs.Units.{label, labels, has, with_unit}

-- an order holds each label once
pub record Order (n : ℕ) (o : List ℕ) : Type 0 where
  pub as_many : length o ≡ n
  pub in_range : (i : ℕ) → i < n → label n (slice_index o i) ≡ true
  pub once : (i k : ℕ) → i < n → k < n → slice_index o i ≡ slice_index o k → i ≡ k

-- a stands before b
abbrev pub Before : List ℕ → ℕ → ℕ → Type 0
Before o a b = (i : ℕ) × ((k : ℕ) × ((i < k) × ((k < length o) × ((slice_index o i ≡ a) × (slice_index o k ≡ b)))))

-- it keeps the ties: a stands before b for every tie
abbrev pub Keeps : (ℕ → ℕ → Bool) → List ℕ → Type 0
Keeps tied o = (a b : ℕ) → tied a b ≡ true → Before o a b

-- whether no two of some things are the same by eq
abbrev pub is_distinct : {A : Type 0} → (A → A → Bool) → List A → Bool
is_distinct eq [] = true
is_distinct eq (x ∷ xs) = list_all (λ y. not (eq x y)) xs && is_distinct eq xs

-- the test of an order: as many as labels, each a label, and none twice
abbrev pub is_order : ℕ → List ℕ → Bool
is_order n o = length o == n && (list_all (label n) o && is_distinct nat_eq o)

-- the test of the ties: nothing that stands at b or later is tied before b
abbrev pub keeps : (ℕ → ℕ → Bool) → List ℕ → Bool
keeps tied [] = true
keeps tied (b ∷ o) = list_all (λ a. not (tied a b)) (b ∷ o) && keeps tied o

-- label order: compared at the first place where they differ, the smaller label comes first
abbrev pub earlier : List ℕ → List ℕ → Bool
earlier [] vs = false
earlier (u ∷ us) [] = false
earlier (u ∷ us) (v ∷ vs) = cond (nat_lt u v) true (cond (nat_lt v u) false (earlier us vs))

-- all that are tied before j are in A
abbrev pub follows : (ℕ → ℕ → Bool) → ℕ → ℕ → ℕ → Bool
follows tied n A j = list_all (λ a. not (tied a j) || has A a) (labels n)

-- a set is closed if, whenever it has b and a tie (a, b) stands, it has a
abbrev pub closed : (ℕ → ℕ → Bool) → ℕ → ℕ → Bool
closed tied n A = list_all (λ b. not (has A b) || follows tied n A b) (labels n)

-- j may come next after A: it is outside A, and all that are tied before it are in A
abbrev pub ready : (ℕ → ℕ → Bool) → ℕ → ℕ → ℕ → Bool
ready tied n A j = not (has A j) && follows tied n A j

-- the units that may come next after A, in label order
abbrev pub ready_units : (ℕ → ℕ → Bool) → ℕ → ℕ → List ℕ
ready_units tied n A = filter (ready tied n A) (labels n)

-- the tie-keeping ways to place k units after A, in label order
abbrev pub ways : (ℕ → ℕ → Bool) → ℕ → ℕ → ℕ → List (List ℕ)
ways tied n zero A = [] ∷ []
ways tied n (suc k) A = flat_map (λ j. map (λ o. j ∷ o) (ways tied n k (with_unit A j))) (ready_units tied n A)

-- the ties have a circle: there is no way to place all units
abbrev pub circular : (ℕ → ℕ → Bool) → ℕ → Bool
circular tied n = length (ways tied n n 0) == 0
