-- The search over sets: what is best after a set, by what is best after each unit that may come next.
use Rattle.std.specs.Prelude.{◌≡◌, ℕ, zero, suc, ◌-◌, ◌*◌, ◌^◌, ◌<◌, ◌≤◌, Bool, true, false, cond, ◌⊎◌, ◌↔◌, List, [], ◌∷◌, map, length, ℤ, ◌==◌, nat_lt, slice_index, slice_index_or}
use Rattle.std.specs.List.{flat_map}
use Rattle.rules.specs.Units.{label, has, with_unit, size, sum_over}
use Rattle.rules.specs.Yardsticks.{Merit, Lawful, Low, Symmetric, zeros}
use Rattle.rules.specs.Orders.{Order, Keeps, earlier, closed, ready, ready_units, ways, circular}
use Rattle.rules.specs.Ranking.{total, greatest, best, listed, total_cell, count_cell}

-- in which of the parts of a list the place k lies, and at which place of that part: each part has as many places as
-- `count` says, and parts are passed over while k is not in them
abbrev pub turn : (ℕ → ℕ) → List ℕ → ℕ → ℕ × ℕ
turn count [] k = (0, k)
turn count (j ∷ js) k = cond (nat_lt k (count j)) (j, k) (turn count js (k - count j))

module _ (y : Merit) (p : ℕ → ℕ → ℕ) (tied : ℕ → ℕ → Bool) (n : ℕ) where
  -- the best total after A with j next
  abbrev pub best_by : ℕ → ℕ → List ℤ
  best_by A j = y.plus (y.step p n A j) (best y p tied n (with_unit A j))

  -- the listed ways after A with j next: none if j misses the best
  abbrev pub listed_by : ℕ → ℕ → List (List ℕ)
  listed_by A j =
      cond (y.exceeds (best y p tied n A) (best_by A j)) [] (map (λ o. j ∷ o) (listed y p tied n (with_unit A j)))

  -- and their number
  abbrev pub count_by : ℕ → ℕ → ℕ
  count_by A j = cond (y.exceeds (best y p tied n A) (best_by A j)) 0 (length (listed y p tied n (with_unit A j)))

  -- the same read off the tables: the total that a step to j leads to
  abbrev pub led : ℕ → ℕ → List ℤ
  led A j = y.plus (y.step p n A j) (total_cell y p tied n (with_unit A j))

  -- and how many ways with j next reach the best
  abbrev pub led_count : ℕ → ℕ → ℕ
  led_count A j = cond (y.exceeds (total_cell y p tied n A) (led A j)) 0 (count_cell y p tied n (with_unit A j))

  -- the way listed at place k, from 0, found by walking the ready units in label order; m units are left
  abbrev pub walk : ℕ → ℕ → ℕ → List ℕ
  walk zero A k = []
  walk (suc m) A k =
      let w = turn (count_by A) (ready_units tied n A) k in w.0 ∷ walk m (with_unit A w.0) w.1

  -- best totals and listed ways of a set, by those of the sets with one unit more
  pub record Searches : Type 0 where
    -- after the full set nothing is left to place
    pub full : (A : ℕ) → size n A ≡ n → (best y p tied n A ≡ zeros y.caps) × (listed y p tied n A ≡ [] ∷ [])
    -- after another set some unit may come next, and a closed set stays closed
    pub some_next : (A : ℕ) → size n A < n → 0 < length (ready_units tied n A)
    pub closed_next : (A j : ℕ) → closed tied n A ≡ true → label n j ≡ true → ready tied n A j ≡ true
        → closed tied n (with_unit A j) ≡ true
    -- the best total, the listed ways and their number
    pub best_next : (A : ℕ) → A < 2 ^ n → size n A < n
        → best y p tied n A ≡ greatest y (map (best_by A) (ready_units tied n A))
    pub listed_next : (A : ℕ) → A < 2 ^ n → size n A < n
        → listed y p tied n A ≡ flat_map (listed_by A) (ready_units tied n A)
    pub count_next : (A : ℕ) → A < 2 ^ n → size n A < n
        → length (listed y p tied n A) ≡ sum_over (count_by A) (ready_units tied n A)
    -- the cells of a set that is not closed, of the full set, and of another closed set
    pub cells_none : (A : ℕ) → closed tied n A ≡ false
        → (total_cell y p tied n A ≡ zeros y.caps) × (count_cell y p tied n A ≡ 0)
    pub cells_full : (A : ℕ) → size n A ≡ n
        → (total_cell y p tied n A ≡ zeros y.caps) × (count_cell y p tied n A ≡ 1)
    pub cells_next : (A : ℕ) → A < 2 ^ n → size n A < n → closed tied n A ≡ true
        → (total_cell y p tied n A ≡ greatest y (map (led A) (ready_units tied n A)))
        × (count_cell y p tied n A ≡ sum_over (led_count A) (ready_units tied n A))
    -- a turn of the walk may read the tables
    pub turn_next : (A k : ℕ) → closed tied n A ≡ true
        → turn (count_by A) (ready_units tied n A) k ≡ turn (led_count A) (ready_units tied n A) k
    -- the listed way with a number is found by walking
    pub walked : (A k : ℕ) → A < 2 ^ n → k < length (listed y p tied n A)
        → slice_index_or (listed y p tied n A) k [] ≡ walk (n - size n A) A k

-- where the ties have no circle
abbrev pub Recurrence : Type 0
Recurrence =
    (y : Merit) → Lawful y → (p : ℕ → ℕ → ℕ) (tied : ℕ → ℕ → Bool) (n : ℕ) → 2 ≤ n → n ≤ 20 → Low p → Symmetric p
    → circular tied n ≡ false → Searches y p tied n

-- o is a tie-keeping way to place what A leaves: each label outside A once, and after all that are tied before it
pub record Placement (tied : ℕ → ℕ → Bool) (n A : ℕ) (o : List ℕ) : Type 0 where
  pub as_many : length o ≡ n - size n A
  pub outside : (i : ℕ) → i < length o → (label n (slice_index o i) ≡ true) × (has A (slice_index o i) ≡ false)
  pub once : (i k : ℕ) → i < length o → k < length o → slice_index o i ≡ slice_index o k → i ≡ k
  pub after : (k a : ℕ) → k < length o → label n a ≡ true → tied a (slice_index o k) ≡ true
      → (has A a ≡ true) ⊎ ((i : ℕ) × ((i < k) × (slice_index o i ≡ a)))

-- The best total after A is that of some such way, and none exceeds it; the listed ways are those that have it, once
-- each and in label order.
pub record Cell (y : Merit) (p : ℕ → ℕ → ℕ) (tied : ℕ → ℕ → Bool) (n A : ℕ) : Type 0 where
  pub some : 0 < length (listed y p tied n A)
  pub each : (i : ℕ) → i < length (listed y p tied n A)
      → Placement tied n A (slice_index_or (listed y p tied n A) i [])
      × (total y p n A (slice_index_or (listed y p tied n A) i []) ≡ best y p tied n A)
  pub all : (o : List ℕ) → Placement tied n A o → total y p n A o ≡ best y p tied n A
      → (i : ℕ) × ((i < length (listed y p tied n A)) × (slice_index_or (listed y p tied n A) i [] ≡ o))
  pub none_exceeds : (o : List ℕ) → Placement tied n A o → y.exceeds (total y p n A o) (best y p tied n A) ≡ false
  pub in_label_order : (i k : ℕ) → i < k → k < length (listed y p tied n A)
      → earlier (slice_index_or (listed y p tied n A) i []) (slice_index_or (listed y p tied n A) k []) ≡ true

-- what the best total and the listed ways of every set mean
abbrev pub CellsMean : Type 0
CellsMean =
    (y : Merit) → Lawful y → (p : ℕ → ℕ → ℕ) (tied : ℕ → ℕ → Bool) (n : ℕ) → 2 ≤ n → n ≤ 20 → Low p → Symmetric p
    → circular tied n ≡ false → (A : ℕ) → A < 2 ^ n → Cell y p tied n A

-- 1 · 2 · … · k
abbrev pub factorial : ℕ → ℕ
factorial zero = 1
factorial (suc k) = suc k * factorial k

-- there are at most as many ways as the factorial of how many units are left, and 20! fits 64 bits
abbrev pub FewWays : Type 0
FewWays =
    ((tied : ℕ → ℕ → Bool) (n A : ℕ) → length (ways tied n (n - size n A) A) ≤ factorial (n - size n A))
    × ((k : ℕ) → k ≤ 20 → factorial k < 2 ^ 64)

-- the first of some units is placed; where there is none, the set stays
abbrev pub first_placed : ℕ → List ℕ → ℕ
first_placed A [] = A
first_placed A (j ∷ js) = with_unit A j

-- the first ready unit is placed, m times
abbrev pub grown : (ℕ → ℕ → Bool) → ℕ → ℕ → ℕ → ℕ
grown tied n zero A = A
grown tied n (suc m) A = grown tied n m (first_placed A (ready_units tied n A))

-- placing ready units one after another does not get stuck before all are placed
abbrev pub placeable : (ℕ → ℕ → Bool) → ℕ → Bool
placeable tied n = size n (grown tied n n 0) == n

-- ties stand between labels only
abbrev pub OnLabels : (ℕ → ℕ → Bool) → ℕ → Type 0
OnLabels tied n = (a b : ℕ) → tied a b ≡ true → (label n a ≡ true) × (label n b ≡ true)

-- some order keeps the ties exactly if there is a way to place all units, and exactly if placing does not get stuck
abbrev pub NoCircle : Type 0
NoCircle =
    (tied : ℕ → ℕ → Bool) (n : ℕ) → OnLabels tied n
    → (((o : List ℕ) × (Order n o × Keeps tied o)) ↔ (circular tied n ≡ false))
    × (((o : List ℕ) × (Order n o × Keeps tied o)) ↔ (placeable tied n ≡ true))
