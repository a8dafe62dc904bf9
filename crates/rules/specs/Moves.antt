-- Kinds of move, and improving an order by them.
use Rattle.std.specs.Prelude.{ℕ, zero, suc, ◌-◌, ◌^◌, ◌<◌, ◌≤◌, Bool, cond, not, ◌&&◌, List, [], ◌∷◌, ◌++◌, map, length, get_or, take, drop, filter, ◌==◌, nat_lt, slice_index, slice_index_or, slice_set}
use Rattle.std.specs.List.{range_with_len, flat_map}
use Rattle.rules.specs.Yardsticks.{Merit}
use Rattle.rules.specs.Orders.{Order, keeps}
use Rattle.rules.specs.Ranking.{total}

-- A kind of move: how many moves there are for n units, and what the move with a number from 1 makes of an order.
pub record Moves : Type 0 where
  pub many : ℕ → ℕ
  pub moved : ℕ → ℕ → List ℕ → List ℕ

-- What a kind of move owes: its moves are counted in 32 bits, and each turns an order into an order.
pub record LawfulMoves (k : Moves) : Type 0 where
  pub few : (n : ℕ) → 2 ≤ n → n ≤ 20 → k.many n < 2 ^ 32
  pub order_again : (n i : ℕ) (o : List ℕ) → 1 ≤ i → i ≤ k.many n → Order n o → Order n (k.moved n i o)

-- the pairs (u, v) of places from 0 that pass a test, by u and then by v
abbrev pub chosen : (ℕ → ℕ → Bool) → ℕ → List (ℕ × ℕ)
chosen test n = flat_map (λ u. map (λ v. (u, v)) (filter (test u) (range_with_len 0 n))) (range_with_len 0 n)

-- the kind of move that does something to the places of each chosen pair
abbrev pub by_places : (ℕ → ℕ → Bool) → (ℕ → ℕ → List ℕ → List ℕ) → Moves
by_places test act = record {
  many = λ n. length (chosen test n);
  moved = λ n i o. let q = get_or (chosen test n) (i - 1) (0, 0) in act q.0 q.1 o;
}

-- the units at places u and v change places
abbrev pub swapped : ℕ → ℕ → List ℕ → List ℕ
swapped u v o = slice_set (slice_set o u (slice_index o v)) v (slice_index o u)

-- the row without its place u
abbrev pub without : ℕ → List ℕ → List ℕ
without u o = take u o ++ drop (suc u) o

-- the unit at place u is taken out and put at place v
abbrev pub inserted : ℕ → ℕ → List ℕ → List ℕ
inserted u v o = take v (without u o) ++ (slice_index o u ∷ drop v (without u o))

-- interchange swaps places u < v
abbrev pub interchange : Moves
interchange = by_places nat_lt swapped

-- insertion puts the unit at place u at place v ≠ u
abbrev pub insertion : Moves
insertion = by_places (λ u v. not (u == v)) inserted

-- how many moves were made, and the row that they left
pub record Improved : Type 0 where
  pub made : ℕ
  pub row : List ℕ

module _ (k : Moves) (y : Merit) (p : ℕ → ℕ → ℕ) (tied : ℕ → ℕ → Bool) (n : ℕ) where
  -- the order keeps the ties and has a greater total than the row
  abbrev pub better : List ℕ → List ℕ → Bool
  better row o = keeps tied o && y.exceeds (total y p n 0 o) (total y p n 0 row)

  -- the better orders that the moves give, in their numbering from 1
  abbrev pub improving : List ℕ → List (List ℕ)
  improving row = filter (better row) (map (λ i. k.moved n i row) (range_with_len 1 (k.many n)))

  -- no move gives a better order
  abbrev pub settled : List ℕ → Bool
  settled row = length (improving row) == 0

  -- the first improving move is made, again and again, until there is none or the limit is reached
  abbrev pub improved : ℕ → List ℕ → Improved
  improved zero row = record { made = 0; row = row }
  improved (suc limit) row =
      cond (settled row)
      (record { made = 0; row = row })
      (let next = improved limit (slice_index_or (improving row) 0 []) in record { made = suc next.made; row = next.row })
