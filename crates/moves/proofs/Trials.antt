-- A try of a move on a row of any length: what it leaves, and that taking it back leaves the row as it was.
use Rattle.std.proofs.Common.{◌≡◌, ℕ, ◌+◌, ◌<◌, ◌≤◌, Bool, false, cond, List, ◌++◌, length, take, drop, sym, ap, ◌∙◌, subst, arith, length-append, take-append-drop}
use Rattle.std.proofs.lemmas.List.{take_at, drop_at}
use Rattle.rules.specs.Orders.{Order}
use Rattle.rules.specs.Moves.{Moves, LawfulMoves}
use Rattle.marks.specs.declared.marks.Marks.{Marks}
use Rattle.marks.specs.Numbers.{units_of}
use Rattle.yardsticks.specs.Totals.{order_of}

module _ (k : Moves) (m : Marks) where
  abbrev n : ℕ
  n = units_of m

  -- the order that the move with a number from 0 gives
  abbrev pub given : List ℕ → ℕ → List ℕ
  given o i = k.moved n (i + 1) o

  -- What a trial leaves in a row: the order that a move gives, and the rest of the row as it was.
  pub record Tried (row after : List ℕ) (i : ℕ) : Type 0 where
    pub is : order_of m after ≡ given (order_of m row) i
    pub order : Order n (order_of m after)
    pub past : drop n after ≡ drop n row
    pub room : n ≤ length after

  pub tried : LawfulMoves k → (row after : List ℕ) (i : ℕ) → Order n (order_of m row) → i < k.many n
      → after ≡ given (order_of m row) i ++ drop n row → Tried row after i
  tried law row after i o l e =
      let again = law.order_again n (i + 1) (order_of m row) (omega arith) (omega arith) o in
      let is : order_of m after ≡ given (order_of m row) i = ap (take n) e ∙ take_at (given (order_of m row) i) (drop n row) n again.as_many in
      record {
        is = is;
        order = subst (Order n) (sym is) again;
        past = ap (drop n) e ∙ drop_at (given (order_of m row) i) (drop n row) n again.as_many;
        room = omega (arith, ap length e, length-append (given (order_of m row) i) (drop n row), again.as_many);
      }

  -- the move is taken back: the copy of the order, and the rest of the row
  pub put_back : {row after before saved back : List ℕ} {i held units : ℕ} {kept : Bool} → Tried row after i → kept ≡ false → held ≡ units
      → units ≡ n → before ≡ saved → take units saved ≡ take units row
      → back ≡ cond kept after (take held before ++ drop held after) → back ≡ row
  put_back {row = row} {after = after} {before = before} {saved = saved} {units = units} w k h e b s is =
      is ∙ (λ x. cond (k x) after (take (h x) (b x) ++ drop (h x) after)) ∙ (λ x. s x ++ drop (e x) after)
      ∙ (λ x. take (e x) row ++ w.past x) ∙ take-append-drop n row
