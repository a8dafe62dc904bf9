-- The listed order with a number, written unit by unit.
use Rattle.std.proofs.Common.{◌≡◌, ℕ, suc, ◌+◌, ◌-◌, ◌^◌, ◌<◌, ◌≤◌, true, false, List, [], ◌∷◌, ◌++◌, length, take, set, sym, ap, ◌∙◌, subst, subst₂, append_assoc, append-nil, add-one, arith, take-suc-set, take_all}
use Rattle.std.proofs.lemmas.Nat.{pow_pos}
use Rattle.std.proofs.lemmas.Bool.{cond_both, cond-true}
use Rattle.rules.specs.Units.{label, has, with_unit, size}
use Rattle.rules.specs.Orders.{ready, ready_units, closed}
use Rattle.rules.specs.Yardsticks.{Merit, Lawful}
use Rattle.rules.specs.Ranking.{listed, total_cell}
use Rattle.rules.specs.Recurrence.{Searches, walk, led, led_count}
use Rattle.rules.proofs.Sets.{size_none, size_with, with_below, label_high}
use Rattle.rules.proofs.Members.{In}
use Rattle.rules.proofs.Ways.{ready_in, ready_out}
use Rattle.rules.proofs.Closed.{closed_none, closed_with}
use Rattle.rules.proofs.Recurrence.{recurrence}
use Rattle.marks.specs.declared.marks.Marks.{Marks}
use Rattle.marks.specs.declared.ties.Ties.{Ties}
use Rattle.marks.specs.Numbers.{units_of, numbers_of}
use Rattle.marks.specs.Tied.{tied_of}
use Rattle.marks.proofs.Laws.{least, most, low, symmetric}
use Rattle.search.specs.Above.{Sound}
use Rattle.search.specs.Listing.{ways_count, next_turn, listed_order}
use Rattle.search.proofs.Turns.{turn_in}
use Rattle.search.proofs.Placing.{put, put_is}

-- i units are written, which make the set A; the rest is the way with the number k after A
pub record Walked (y : Merit) (m : Marks) (t : Ties) (which i A k : ℕ) (row : List ℕ) : Type 0 where
  pub below : A < 2 ^ units_of m
  pub is_closed : closed (tied_of t) (units_of m) A ≡ true
  pub placed : size (units_of m) A ≡ i
  pub left : k < ways_count y m t A
  pub so_far : take i row ++ walk y (numbers_of m) (tied_of t) (units_of m) (units_of m - i) A k ≡ listed_order y m t which

module _ {y : Merit} {m : Marks} {t : Ties} (law : Lawful y) (sound : Sound m t) where
  searches : Searches y (numbers_of m) (tied_of t) (units_of m)
  searches = recurrence y law (numbers_of m) (tied_of t) (units_of m) (least m) (most m) (low m) (symmetric m) sound.straight

  abbrev walk_on : ℕ → ℕ → ℕ → List ℕ
  walk_on i A k = walk y (numbers_of m) (tied_of t) (units_of m) i A k

  count_is : (A : ℕ) → closed (tied_of t) (units_of m) A ≡ true → ways_count y m t A ≡ length (listed y (numbers_of m) (tied_of t) (units_of m) A)
  count_is A c = cond-true (closed (tied_of t) (units_of m) A) (length (listed y (numbers_of m) (tied_of t) (units_of m) A)) 0 c

  -- no unit is written yet
  pub none_yet : {which : ℕ} {row : List ℕ} → which < ways_count y m t 0 → Walked y m t which 0 0 which row
  none_yet {which} h = record {
    below = pow_pos (units_of m);
    is_closed = c;
    placed = size_none (units_of m);
    left = h;
    so_far =
        let e : units_of m - 0 ≡ units_of m - size (units_of m) 0 = omega (arith, size_none (units_of m)) in
        ap (λ (q : ℕ). walk_on q 0 which) e ∙ sym (searches.walked 0 which (pow_pos (units_of m)) (subst (λ (q : ℕ). which < q) (count_is 0 c) h));
  }
    where
      c : closed (tied_of t) (units_of m) 0 ≡ true
      c = closed_none (tied_of t) (units_of m)

  module _ {which i A k : ℕ} {row : List ℕ} (w : Walked y m t which i A k row) (lt : i < units_of m) where
    abbrev turned : ℕ × ℕ
    turned = next_turn y m t A k

    abbrev next : ℕ
    next = turned.0

    found : In next (ready_units (tied_of t) (units_of m) A) × (turned.1 < led_count y (numbers_of m) (tied_of t) (units_of m) A next)
    found =
        turn_in (led_count y (numbers_of m) (tied_of t) (units_of m) A) (ready_units (tied_of t) (units_of m) A) k
        (subst (λ (q : ℕ). k < q) (searches.cells_next A w.below (omega (arith, w.placed)) w.is_closed).1 w.left)

    is_label : label (units_of m) next ≡ true
    is_label = (ready_in (tied_of t) (units_of m) A next found.0).0

    is_ready : ready (tied_of t) (units_of m) A next ≡ true
    is_ready = (ready_in (tied_of t) (units_of m) A next found.0).1

    outside : has A next ≡ false
    outside = ready_out (tied_of t) (units_of m) A next is_ready

    -- the next unit is a label
    pub next_low : next ≤ 20
    next_low = omega (arith, label_high (units_of m) next is_label, most m)

    put_to : {r : ℕ} → r ≡ put A next → with_unit A next ≡ r
    put_to e = sym (e ∙ put_is (units_of m) A next (most m) is_label outside)

    next_left : turned.1 < ways_count y m t (with_unit A next)
    next_left =
        let c = found.1 in
        cond_both (y.exceeds (total_cell y (numbers_of m) (tied_of t) (units_of m) A) (led y (numbers_of m) (tied_of t) (units_of m) A next))
        0 (ways_count y m t (with_unit A next)) (λ (q : ℕ). turned.1 < q → turned.1 < ways_count y m t (with_unit A next))
        (λ _ h. absurd (omega arith)) (λ _ h. h) c

    one_more : i < length row → Walked y m t which (suc i) (with_unit A next) turned.1 (set row i next)
    one_more l = record {
      below = with_below (units_of m) A next is_label w.below outside;
      is_closed = closed_with (tied_of t) (units_of m) A next w.is_closed is_label is_ready;
      placed = size_with (units_of m) A next is_label outside ∙ ap suc w.placed;
      left = next_left;
      so_far =
          ap (λ (r : List ℕ). r ++ walk_on (units_of m - suc i) (with_unit A next) turned.1) (take-suc-set row i next l)
          ∙ (append_assoc (take i row) (next ∷ []) (walk_on (units_of m - suc i) (with_unit A next) turned.1)
          ∙ (ap (λ (r : List ℕ). take i row ++ r) (sym step) ∙ w.so_far));
    }
      where
        step : walk_on (units_of m - i) A k ≡ next ∷ walk_on (units_of m - suc i) (with_unit A next) turned.1
        step =
            let e : units_of m - i ≡ suc (units_of m - suc i) = omega arith in
            ap (λ (q : ℕ). walk_on q A k) e
            ∙ ap (λ (v : ℕ × ℕ). v.0 ∷ walk_on (units_of m - suc i) (with_unit A v.0) v.1) (searches.turn_next A k w.is_closed)

    -- as the code has it
    pub step_on : {v : ℕ × ℕ} {r : ℕ} → i < length row → v ≡ turned → r ≡ put A v.0 → Walked y m t which (i + 1) r v.1 (set row i v.0)
    step_on {v} {r} l e f =
        let q : put A v.0 ≡ put A next = ap (λ (z : ℕ × ℕ). put A z.0) e in
        rw add-one (subst₂ (λ (z : ℕ × ℕ) (B : ℕ). Walked y m t which (suc i) B z.1 (set row i z.0)) (sym e) (put_to (f ∙ q)) (one_more l))

  -- all units are written
  pub all_written : {which i A k : ℕ} {row : List ℕ} → Walked y m t which i A k row → i ≡ units_of m → length row ≡ units_of m
      → row ≡ listed_order y m t which
  all_written {which} {i} {A} {k} {row} w e l =
      let z : units_of m - i ≡ 0 = omega arith in
      sym (take_all i row (omega arith)) ∙ sym (append-nil (take i row)) ∙ ap (λ (q : ℕ). take i row ++ walk_on q A k) (sym z) ∙ w.so_far
