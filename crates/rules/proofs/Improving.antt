-- What improving leaves of an order that keeps the ties, what settled means, and that by spread or target each move
-- gains at least one.
use Rattle.std.proofs.Common.{◌≡◌, ℕ, zero, suc, ◌<◌, ◌≤◌, Bool, true, false, ◌⊎◌, List, [], ◌∷◌, ◌++◌, map, length, get_or, take, ℤ, pos, ◌+ℤ◌, ◌*ℤ◌, ◌≤ℤ◌, sym, refl, ap, ◌∙◌, subst, inl, inr, arith}
use Rattle.std.specs.List.{range_with_len}
use Rattle.std.proofs.lemmas.Int.{ints}
use Rattle.std.proofs.lemmas.Bool.{both_ways, and_parts, and_from, eqb-true, eqb-false, cond_both}
use Rattle.rules.specs.Units.{with_unit, size, displacement}
use Rattle.rules.specs.Sheets.{Contents}
use Rattle.rules.specs.Yardsticks.{Merit, add_each, above, spread, target, places}
use Rattle.rules.specs.Orders.{Order, keeps}
use Rattle.rules.specs.Ranking.{total}
use Rattle.rules.specs.Moves.{Moves, Improved, better, improving, settled, improved}
use Rattle.rules.specs.Calls.{accepted, row_tests, against_test, ImproveAnswer, improve_answer, improve_outcome}
use Rattle.rules.specs.Runs.{Call, run, first, marks_now}
use Rattle.rules.specs.Theorems.{Improving}
use Rattle.rules.proofs.Tests.{refuted, forced}
use Rattle.rules.proofs.Members.{in_at, at_in, in_map, map_in, in_filter, filter_in, in_counting, counting_in}
use Rattle.rules.proofs.Deciding.{answered}
use Rattle.rules.proofs.Histories.{said, run_is}

module _ (k : Moves) (y : Merit) (p : ℕ → ℕ → ℕ) (tied : ℕ → ℕ → Bool) (n : ℕ) where
  abbrev done_by : ℕ → List ℕ → Improved
  done_by limit row = improved k y p tied n limit row

  abbrev still : List ℕ → Bool
  still row = settled k y p tied n row

  -- the total of an order is greater than that of the row
  abbrev gains_on : List ℕ → List ℕ → Bool
  gains_on row o = y.exceeds (total y p n 0 o) (total y p n 0 row)

  -- the first improving order is that of some move, keeps the ties and has a greater total
  abbrev next : List ℕ → List ℕ
  next row = get_or (improving k y p tied n row) 0 []

  record Next (row : List ℕ) : Type 0 where
    move : ℕ
    low : 1 ≤ move
    high : move ≤ k.many n
    is : next row ≡ k.moved n move row
    ties : keeps tied (next row) ≡ true
    gain : gains_on row (next row) ≡ true

  next_is : (row : List ℕ) → still row ≡ false → Next row
  next_is row s =
      let ne = eqb-false (length (improving k y p tied n row)) 0 s in
      let w = filter_in (better k y p tied n row) (next row) (map (λ i. k.moved n i row) (range_with_len 1 (k.many n)))
      (in_at (improving k y p tied n row) 0 [] (omega arith)) in
      let v = map_in (λ i. k.moved n i row) (next row) (range_with_len 1 (k.many n)) w.0 in
      let c = counting_in 1 (k.many n) v.0 v.1.0 in
      let b = and_parts (keeps tied (next row)) (gains_on row (next row)) w.1 in
      record { move = v.0; low = c.0; high = omega (arith, c.1); is = v.1.1; ties = b.0; gain = b.1 }

  -- what each move that is made keeps, the row left has
  improved_has : (P : List ℕ → Improved → Type 0) → ((row : List ℕ) → P row (record { made = 0; row = row }))
      → ((row : List ℕ) (d : Improved) → Next row → P (next row) d → P row (record { made = suc d.made; row = d.row }))
      → (limit : ℕ) (row : List ℕ) → P row (done_by limit row)
  improved_has P stop go zero row = stop row
  improved_has P stop go (suc limit) row =
      let d = done_by limit (next row) in
      cond_both (still row) (record { made = 0; row = row }) (record { made = suc d.made; row = d.row }) (P row)
      (λ _. stop row) (λ e. go row d (next_is row e) (improved_has P stop go limit (next row)))

  -- never more moves than the limit, and fewer only if the row is settled
  improved_steps : (limit : ℕ) (row : List ℕ)
      → ((done_by limit row).made ≤ limit) × ((done_by limit row).made < limit → still (done_by limit row).row ≡ true)
  improved_steps zero row = (omega arith, λ l. absurd (omega arith))
  improved_steps (suc limit) row =
      let d : Improved = done_by limit (next row) in
      let r = improved_steps limit (next row) in
      cond_both {A = Improved} (still row) (record { made = 0; row = row }) (record { made = suc d.made; row = d.row })
      (λ e. (e.made ≤ suc limit) × (e.made < suc limit → still e.row ≡ true))
      (λ e. (omega arith, λ l. e)) (λ e. (omega (arith, r.0), λ l. r.1 (omega arith)))

  -- settled: no move gives a better order
  abbrev NoneBetter : List ℕ → Type 0
  NoneBetter row = (i : ℕ) → 1 ≤ i → i ≤ k.many n → keeps tied (k.moved n i row) ≡ true → gains_on row (k.moved n i row) ≡ false

  settled_means : (row : List ℕ) → still row ≡ true → NoneBetter row
  settled_means row s i l m h = refuted (gains_on row (k.moved n i row)) (λ e.
      let o : List ℕ = k.moved n i row in
      let w = at_in o (improving k y p tied n row) []
      (in_filter (better k y p tied n row) o (map (λ j. k.moved n j row) (range_with_len 1 (k.many n)))
      (in_map (λ j. k.moved n j row) i (range_with_len 1 (k.many n)) (in_counting 1 (k.many n) i l (omega arith)))
      (and_from (keeps tied o) (gains_on row o) h e)) in
      omega (arith, w.1.0, eqb-true (length (improving k y p tied n row)) 0 s))

  means_settled : (row : List ℕ) → NoneBetter row → still row ≡ true
  means_settled row h = forced (still row) (λ e.
      let w = next_is row e in
      both_ways (gains_on row (next row)) (rw w.is (h w.move w.low w.high (rw w.is at w.ties))) w.gain)

pub improving_stands : Improving
improving_stands k law y p tied n limit row ord keep =
    let fine = improved_has k y p tied n (λ o d. Order n o × (keeps tied o ≡ true) → Order n d.row × (keeps tied d.row ≡ true))
    (λ o h. h)
    (λ o d w f h. f (subst (Order n) (sym w.is) (law.order_again n w.move o w.low w.high h.0), w.ties))
    limit row (ord, keep) in
    record {
      order = fine.0;
      ties = fine.1;
      limited = (improved_steps k y p tied n limit row).0;
      stops = (improved_steps k y p tied n limit row).1;
      settles = (settled_means k y p tied n row, means_settled k y p tied n row);
    }

-- yardsticks with one number
module _ (cap : ℕ) (number : (ℕ → ℕ → ℕ) → ℕ → ℕ → ℕ → ℤ) where
  abbrev single : Merit
  single = record {
    caps = cap ∷ [];
    plus = add_each;
    exceeds = above;
    step = λ p n A j. number p n A j ∷ [];
  }

  one_number : (p : ℕ → ℕ → ℕ) (n A : ℕ) (o : List ℕ) → total single p n A o ≡ first (total single p n A o) ∷ []
  one_number p n A [] = refl
  one_number p n A (j ∷ o) =
      let e = one_number p n (with_unit A j) o in
      subst (λ (u : List ℤ). add_each (number p n A j ∷ []) u ≡ first (add_each (number p n A j ∷ []) u) ∷ []) (sym e) refl

  above_one : (a b : ℤ) → above (a ∷ []) (b ∷ []) ≡ true → (pos 1 +ℤ b) ≤ℤ a
  above_one a b h = grind (arith, ints)

  module _ (k : Moves) (p : ℕ → ℕ → ℕ) (tied : ℕ → ℕ → Bool) (n : ℕ) where
    abbrev score : List ℕ → ℤ
    score o = first (total single p n 0 o)

    move_gain : (row : List ℕ) → Next k single p tied n row → (pos 1 +ℤ score row) ≤ℤ score (next k single p tied n row)
    move_gain row w =
        let o : List ℕ = next k single p tied n row in
        above_one (score o) (score row)
        (subst (λ (u : List ℤ). above (score o ∷ []) u ≡ true) (one_number p n 0 row)
        (subst (λ (u : List ℤ). above u (total single p n 0 row) ≡ true) (one_number p n 0 o) w.gain))

    gained : (limit : ℕ) (row : List ℕ) → (pos (improved k single p tied n limit row).made +ℤ score row) ≤ℤ score (improved k single p tied n limit row).row
    gained = improved_has k single p tied n (λ row d. (pos d.made +ℤ score row) ≤ℤ score d.row)
        (λ row. omega (arith, ints)) (λ row d w h. omega (arith, ints, move_gain row w))

  -- what an Improve answers
  single_gains : (n : ℕ) (calls : List Call) (k : Moves) (limit : ℕ) (row : List ℕ) (r : ImproveAnswer)
      → improve_outcome (run n calls) k single limit row ≡ accepted r
      → (pos r.made +ℤ first (total single (marks_now n calls) n 0 (take n row))) ≤ℤ first r.total
  single_gains n calls k limit row r e =
      subst (λ (w : ImproveAnswer). (pos w.made +ℤ first (total single (marks_now n calls) n 0 (take n row))) ≤ℤ first w.total)
      (answered (row_tests (said n calls) row ++ (against_test (said n calls) row ∷ [])) (improve_answer (said n calls) k single limit row) r
      (ap (λ (s : Contents). improve_outcome s k single limit row) (sym (run_is n calls)) ∙ e)).1
      (gained k (marks_now n calls) (said n calls).tied n limit (take n row))

pub gains_hold : (n : ℕ) (calls : List Call) (y : Merit) → (y ≡ spread) ⊎ (y ≡ target) → (k : Moves) (limit : ℕ) (row : List ℕ) (r : ImproveAnswer)
    → improve_outcome (run n calls) k y limit row ≡ accepted r
    → (pos r.made +ℤ first (total y (marks_now n calls) n 0 (take n row))) ≤ℤ first r.total
gains_hold n calls y which k limit row r = elim which [ inl e ↦ subst Gains (sym e) by_spread | inr e ↦ subst Gains (sym e) by_target ]
  where
    Gains : Merit → Type 0
    Gains m =
        improve_outcome (run n calls) k m limit row ≡ accepted r
        → (pos r.made +ℤ first (total m (marks_now n calls) n 0 (take n row))) ≤ℤ first r.total

    by_spread : Gains spread
    by_spread = single_gains 36100000000 (λ p m A j. displacement p m A j *ℤ displacement p m A j) n calls k limit row r

    by_target : Gains target
    by_target = single_gains 3610000 (λ p m A j. displacement p m A j *ℤ pos (get_or places (size m A) 0)) n calls k limit row r
