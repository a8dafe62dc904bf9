-- What the tests mean, which yardsticks and kinds of move are lawful, and the theorems on lines and patterns.
use Rattle.std.specs.Prelude.{◌≡◌, ℕ, ◌+◌, ◌-◌, ◌*◌, ◌/◌, ◌<◌, ◌≤◌, Bool, true, false, ◌↔◌, List}
use Rattle.rules.specs.Yardsticks.{Symmetric}
use Rattle.rules.specs.Yardsticks.{Merit, Lawful, above, spread, gradient, target}
use Rattle.rules.specs.Orders.{Order, Keeps, is_order, keeps}
use Rattle.rules.specs.Ranking.{total}
use Rattle.rules.specs.Scaling.{Fraction, Placing, AtMost, misfits, placed_at, displacements, loss}
use Rattle.rules.specs.Pattern.{AntiRobinson, kept, broken}
use Rattle.rules.specs.Moves.{Moves, LawfulMoves, interchange, insertion, improved, settled}
use Rattle.rules.specs.Calls.{is_accepted, open_outcome}
use Rattle.rules.specs.Recurrence.{OnLabels}

-- Open is accepted from 2 to 20 units
abbrev pub Opens : Type 0
Opens = (n : ℕ) → (is_accepted (open_outcome n) ≡ true) ↔ ((2 ≤ n) × (n ≤ 20))

-- the tests of a row say that it is an order, and that it keeps the ties
pub record RowTestsMean : Type 0 where
  pub order : (n : ℕ) (o : List ℕ) → (is_order n o ≡ true) ↔ Order n o
  pub ties : (tied : ℕ → ℕ → Bool) (n : ℕ) → OnLabels tied n → (o : List ℕ) → Order n o
      → (keeps tied o ≡ true) ↔ Keeps tied o

-- the three yardsticks keep the laws
abbrev pub YardsticksLawful : Type 0
YardsticksLawful = Lawful spread × (Lawful gradient × Lawful target)

-- and so do the two kinds of move
abbrev pub MovesLawful : Type 0
MovesLawful = LawfulMoves interchange × LawfulMoves insertion

module _ (k : Moves) (y : Merit) (p : ℕ → ℕ → ℕ) (tied : ℕ → ℕ → Bool) (n limit : ℕ) (row : List ℕ) where
  -- What improving leaves of an order that keeps the ties: such an order again, after at most `limit` moves, and after
  -- fewer only if it is settled. Settled means that no move gives a tie-keeping order of greater total.
  pub record Improves : Type 0 where
    pub order : Order n (improved k y p tied n limit row).row
    pub ties : keeps tied (improved k y p tied n limit row).row ≡ true
    pub limited : (improved k y p tied n limit row).made ≤ limit
    pub stops : (improved k y p tied n limit row).made < limit
        → settled k y p tied n (improved k y p tied n limit row).row ≡ true
    pub settles : (settled k y p tied n row ≡ true)
        ↔ ((i : ℕ) → 1 ≤ i → i ≤ k.many n → keeps tied (k.moved n i row) ≡ true
        → y.exceeds (total y p n 0 (k.moved n i row)) (total y p n 0 row) ≡ false)

-- for every lawful kind of move
abbrev pub Improving : Type 0
Improving =
    (k : Moves) → LawfulMoves k → (y : Merit) (p : ℕ → ℕ → ℕ) (tied : ℕ → ℕ → Bool) (n limit : ℕ) (row : List ℕ)
    → Order n row → keeps tied row ≡ true → Improves k y p tied n limit row

-- where no order has a greater spread than o, no placing at fractions misfits less than o at its coordinates
abbrev pub Line : Type 0
Line =
    (n : ℕ) → 2 ≤ n → (p : ℕ → ℕ → ℕ) → Symmetric p → (o : List ℕ) → Order n o
    → ((q : List ℕ) → Order n q → above (total spread p n 0 q) (total spread p n 0 o) ≡ false)
    → (x : ℕ → Fraction) → Placing n x
    → AtMost (misfits p n (placed_at n o (displacements p n 0 o))) (misfits p n x)

-- at its coordinates an order misfits by at most its loss over n, and by just that where no order has a greater spread
abbrev pub Loss : Type 0
Loss =
    (n : ℕ) → 2 ≤ n → (p : ℕ → ℕ → ℕ) → Symmetric p → (o : List ℕ) → Order n o
    → AtMost (misfits p n (placed_at n o (displacements p n 0 o))) (record { over = loss p n o; under = n })
    × (((q : List ℕ) → Order n q → above (total spread p n 0 q) (total spread p n 0 o) ≡ false)
    → AtMost (record { over = loss p n o; under = n }) (misfits p n (placed_at n o (displacements p n 0 o))))

-- where some order is anti-Robinson, no order has a greater gradient than q exactly if q is anti-Robinson
abbrev pub Pattern : Type 0
Pattern =
    (n : ℕ) (p : ℕ → ℕ → ℕ) → Symmetric p → (o : List ℕ) → Order n o → AntiRobinson p o
    → (q : List ℕ) → Order n q
    → ((r : List ℕ) → Order n r → above (total gradient p n 0 r) (total gradient p n 0 q) ≡ false) ↔ AntiRobinson p q

-- the same among the orders that keep the ties
abbrev pub TiedPattern : Type 0
TiedPattern =
    (n : ℕ) (p : ℕ → ℕ → ℕ) → Symmetric p → (tied : ℕ → ℕ → Bool)
    → (o : List ℕ) → Order n o → Keeps tied o → AntiRobinson p o
    → (q : List ℕ) → Order n q → Keeps tied q
    → ((r : List ℕ) → Order n r → Keeps tied r → above (total gradient p n 0 r) (total gradient p n 0 q) ≡ false)
    ↔ AntiRobinson p q

-- each comparison of an order is kept or broken: n(n-1)(n-2)/3 in all
abbrev pub Comparisons : Type 0
Comparisons =
    (n : ℕ) (p : ℕ → ℕ → ℕ) (o : List ℕ) → Order n o
    → (3 * (kept p o + broken p o) ≡ n * (n - 1) * (n - 2)) × (kept p o + broken p o ≡ n * (n - 1) * (n - 2) / 3)

-- an order is anti-Robinson exactly if it breaks no comparison
abbrev pub Unbroken : Type 0
Unbroken = (p : ℕ → ℕ → ℕ) (o : List ℕ) → AntiRobinson p o ↔ (broken p o ≡ 0)
