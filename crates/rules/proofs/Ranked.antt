-- Accepted Ranks answer exactly the tie-keeping orders of greatest total, once each and in label order; and when a Rank
-- is accepted.
use Rattle.std.proofs.Common.{◌≡◌, ℕ, suc, ◌-◌, ◌^◌, ◌<◌, ◌≤◌, Bool, true, false, ◌||◌, eqb, ltb, List, [], ◌∷◌, ◌++◌, map, length, get_or, take, replicate, ℤ, None, sym, refl, ap, ◌∙◌, subst, inl, inr, arith}
use native.Mathlib.Nat.{one-le-pow}
use lib.ListN.{length-replicate}
use Rattle.std.proofs.ByRecursion.{All-append}
use Rattle.std.proofs.lemmas.Bool.{both_ways, or_parts, ltb-false, eqb-false, cases_order}
use Rattle.std.proofs.lemmas.Bool.Decides.{nat_tests}
use Rattle.rules.specs.declared.Mark.{Mark}
use Rattle.rules.specs.declared.Mark.TheVariants.{Gap, Number}
use Rattle.rules.specs.Units.{label, labels, size}
use Rattle.rules.specs.Sheets.{Contents, is_gap, pairs_with, pairs_in}
use Rattle.rules.specs.Yardsticks.{Merit, Lawful, Low, Symmetric}
use Rattle.rules.specs.Orders.{Order, Keeps, circular}
use Rattle.rules.specs.Ranking.{total, best, listed}
use Rattle.rules.specs.Pattern.{kept, broken}
use Rattle.rules.specs.Calls.{Refusal, accepted, circle, short, row_tests, against_test, scale_answer, improve_answer, gap_test, gap_tests, RankAnswer, rank_short, rank_tests, number_test, rank_answer, rank_outcome}
use Rattle.rules.specs.Recurrence.{OnLabels, Placement, Cell}
use Rattle.rules.specs.Runs.{Call, write, blank, tie, untie, rank, score, scale, check, improve, refusal, asks, run, last_mark, last_tie, marks_now, NoGap, Listing, Ranks, Answered, Ranked}
use Rattle.rules.proofs.Deciding.{NoneHolds, none_parts, not_refused, decided, answered}
use Rattle.rules.proofs.Histories.{said, run_is, last_mark_sym, marks_low, marks_sym, ties_on_labels}
use Rattle.rules.proofs.Sets.{size_none}
use Rattle.rules.proofs.Members.{In, in_left, in_right, in_parts, in_map, map_in, Ascending, labels_ascend}
use Rattle.rules.proofs.Ways.{label_in, in_label, way_order, way_keeps, order_way}
use Rattle.rules.proofs.Cells.{way_placement, placement_way, cells_mean}
use Rattle.rules.proofs.Closed.{no_circle}
use Rattle.rules.proofs.Totals.{Good, total_good}

module _ (y : Merit) (law : Lawful y) (p : ℕ → ℕ → ℕ) (tied : ℕ → ℕ → Bool) (n : ℕ) (two : 2 ≤ n) (twenty : n ≤ 20)
    (low : Low p) (sm : Symmetric p) (proper : OnLabels tied n) where
  all_units : n - size n 0 ≡ n
  all_units = omega (arith, size_none n)

  pub listing : circular tied n ≡ false → Listing n p tied y (best y p tied n 0) (listed y p tied n 0)
  listing h = record {
    some = cell.some;
    listed = λ i l.
        let w = cell.each i l in
        let v = placement_way tied n 0 (get_or (listed y p tied n 0) i []) w.0 in
        let m = w.0.as_many ∙ all_units in
        (way_order tied n proper (get_or (listed y p tied n 0) i []) m v, (way_keeps tied n proper (get_or (listed y p tied n 0) i []) m v, w.1));
    all = λ o ord keep e. cell.all o (placed o ord keep) e;
    none_exceeds = λ o ord keep. cell.none_exceeds o (placed o ord keep);
    in_label_order = cell.in_label_order;
  }
    where
      cell : Cell y p tied n 0
      cell = cells_mean y law p tied n two twenty low sm h 0 (one-le-pow n 2 (omega arith))

      placed : (o : List ℕ) → Order n o → Keeps tied o → Placement tied n 0 o
      placed o ord keep = way_placement tied n 0 o (ord.as_many ∙ sym all_units) (order_way tied n proper o ord keep)

-- the pairs of an ascending list
abbrev Both : List ℕ → ℕ × ℕ → Type 0
Both xs q = In q.0 xs × (In q.1 xs × (q.0 < q.1))

in_pairs : (xs : List ℕ) → Ascending (λ a b. a < b) xs → (q : ℕ × ℕ) → In q (pairs_in xs) → Both xs q
in_pairs [] h q i = absurd i
in_pairs (a ∷ xs) h q i = elim (in_parts q (pairs_with a xs) (pairs_in xs) i) [
  | inl k ↦ (
      let w = map_in (λ b. (a, b)) q xs k in
      subst (Both (a ∷ xs)) (sym w.1.1) (inl refl, (inr w.1.0, h.0 w.0 w.1.0)))
  | inr k ↦ (let w = in_pairs xs h.1 q k in (inr w.0, (inr w.1.0, w.1.1)))
]

pairs_in_in : (xs : List ℕ) → Ascending (λ a b. a < b) xs → (a b : ℕ) → In a xs → In b xs → a < b → In (a, b) (pairs_in xs)
pairs_in_in [] h a b i k l = absurd i
pairs_in_in (x ∷ xs) h a b (inl e) (inl f) l = absurd (omega arith)
pairs_in_in (x ∷ xs) h a b (inl e) (inr k) l =
    in_left (a, b) (pairs_with x xs) (pairs_in xs) (subst (λ (z : ℕ). In (z, b) (pairs_with x xs)) (sym e) (in_map (λ z. (x, z)) b xs k))
pairs_in_in (x ∷ xs) h a b (inr i) (inl f) l = let q = h.0 a i in absurd (omega arith)
pairs_in_in (x ∷ xs) h a b (inr i) (inr k) l = in_right (a, b) (pairs_with x xs) (pairs_in xs) (pairs_in_in xs h.1 a b i k l)

no_gap_in : (s : Contents) (qs : List (ℕ × ℕ)) → ((q : ℕ × ℕ) → In q qs → is_gap (s.mark q.0 q.1) ≡ false)
    → NoneHolds (map (gap_test s) qs)
no_gap_in s [] h = tt
no_gap_in s (q ∷ qs) h = (h q (inl refl), no_gap_in s qs (λ r i. h r (inr i)))

in_no_gap : (s : Contents) (qs : List (ℕ × ℕ)) → NoneHolds (map (gap_test s) qs)
    → (q : ℕ × ℕ) → In q qs → is_gap (s.mark q.0 q.1) ≡ false
in_no_gap s [] h q i = absurd i
in_no_gap s (r ∷ qs) h q (inl z) = ap (λ (w : ℕ × ℕ). is_gap (s.mark w.0 w.1)) z ∙ h.0
in_no_gap s (r ∷ qs) h q (inr i) = in_no_gap s qs h.1 q i

module _ (n : ℕ) (calls : List Call) where
  -- the marks and ties that stand
  abbrev p : ℕ → ℕ → ℕ
  p = marks_now n calls

  abbrev tied : ℕ → ℕ → Bool
  tied = last_tie n calls

  abbrev sum : Merit → List ℕ → List ℤ
  sum y o = total y p n 0 o

  abbrev now : Contents
  now = said n calls

  gap_false : (m : Mark) → is_gap m ≡ false → (d : ℕ) × (m ≡ Number d)
  gap_false Gap h = absurd (both_ways true h refl)
  gap_false (Number d) h = (d, refl)

  -- the gap tests pass exactly if no pair is a gap
  gaps_pass : NoGap n calls → NoneHolds (gap_tests now)
  gaps_pass h =
      no_gap_in now (pairs_in (labels n)) (λ q i.
      let w = in_pairs (labels n) (labels_ascend n) q i in
      ap is_gap (h q.0 q.1 (in_label n q.0 w.0) (in_label n q.1 w.1.0) (λ e. omega (arith, w.1.1))).1)

  pass_gaps : NoneHolds (gap_tests now) → NoGap n calls
  pass_gaps h a b la lb ne = elim (cases_order a b) [
    | inl e ↦ absurd (ne e)
    | inr (inl l) ↦ gap_false (last_mark n calls a b) (up a b la lb l)
    | inr (inr l) ↦ gap_false (last_mark n calls a b) (ap is_gap (last_mark_sym n calls a b) ∙ up b a lb la l)
  ]
    where
      up : (x z : ℕ) → label n x ≡ true → label n z ≡ true → x < z → is_gap (last_mark n calls x z) ≡ false
      up x z lx lz l =
          in_no_gap now (pairs_in (labels n)) h (x, z) (pairs_in_in (labels n) (labels_ascend n) x z (label_in n x lx) (label_in n z lz) l)

  -- a call that answers from the marks passes the gap tests
  gaps_passed : (c : Call) → asks c ≡ true → refusal now c ≡ None → NoneHolds (gap_tests now)
  gaps_passed (write a b d) h e = absurd (both_ways false refl h)
  gaps_passed (blank a b) h e = absurd (both_ways false refl h)
  gaps_passed (tie a b) h e = absurd (both_ways false refl h)
  gaps_passed (untie a b) h e = absurd (both_ways false refl h)
  gaps_passed (rank y k totals counts row) h e =
      let w = not_refused (rank_tests now totals counts row ++ (number_test now y k ∷ [])) (rank_answer now y k) e in
      (none_parts (gap_tests now) ((circular tied n, circle) ∷ [])
      (none_parts (rank_tests now totals counts row) (number_test now y k ∷ []) w).0.1).0
  gaps_passed (score y row) h e =
      (none_parts (row_tests now row) (against_test now row ∷ [])
      (not_refused (row_tests now row ++ (against_test now row ∷ [])) (sum y (take n row)) e)).0.1.1
  gaps_passed (scale row list) h e =
      (not_refused ((ltb (length list) n, short) ∷ row_tests now row) (scale_answer now row) e).1.1.1
  gaps_passed (check row) h e =
      (not_refused (row_tests now row) (kept p (take n row), broken p (take n row)) e).1.1
  gaps_passed (improve k y limit row) h e =
      (none_parts (row_tests now row) (against_test now row ∷ [])
      (not_refused (row_tests now row ++ (against_test now row ∷ [])) (improve_answer now k y limit row) e)).0.1.1

  pub measured : (c : Call) → asks c ≡ true → refusal (run n calls) c ≡ None → NoGap n calls
  measured c h e = pass_gaps (gaps_passed c h (ap (λ (s : Contents). refusal s c) (sym (run_is n calls)) ∙ e))

  module _ (y : Merit) where
    abbrev best_now : List ℤ
    best_now = best y p tied n 0

    abbrev listed_now : List (List ℕ)
    listed_now = listed y p tied n 0

    -- what passes where a Rank is accepted
    record Passed (k : ℕ) (r : RankAnswer) (totals : List (List ℤ)) (counts row : List ℕ) : Type 0 where
      long : rank_short now totals counts row ≡ false
      full : NoGap n calls
      straight : circular tied n ≡ false
      low : 1 ≤ k
      high : k ≤ length listed_now
      answer : rank_answer now y k ≡ r

    passed : (k : ℕ) (r : RankAnswer) (w : Ranks n calls y k r) → Passed k r w.totals w.counts w.row
    passed k r w =
        let tests : List (Bool × Refusal) = rank_tests now w.totals w.counts w.row in
        let h = answered (tests ++ (number_test now y k ∷ [])) (rank_answer now y k) r
        (ap (λ (s : Contents). rank_outcome s y k w.totals w.counts w.row) (sym (run_is n calls)) ∙ w.outcome) in
        let v = none_parts tests (number_test now y k ∷ []) h.0 in
        let u = none_parts (gap_tests now) ((circular tied n, circle) ∷ []) v.0.1 in
        let t = or_parts (eqb k 0) (ltb (length listed_now) k) v.1.0 in
        let ne = eqb-false k 0 t.0 in
        record {
          long = v.0.0;
          full = pass_gaps u.0;
          straight = u.1.0;
          low = omega arith;
          high = ltb-false (length listed_now) k t.1;
          answer = h.1;
        }

    numbered : {k : ℕ} → 1 ≤ k → k ≤ length listed_now → (eqb k 0 || ltb (length listed_now) k) ≡ false
    numbered l h = grind (arith, nat_tests)

    given : (k : ℕ) (r : RankAnswer) (totals : List (List ℤ)) (counts row : List ℕ) → Passed k r totals counts row → Ranks n calls y k r
    given k r totals counts row h = record {
      totals = totals;
      counts = counts;
      row = row;
      outcome =
          ap (λ (s : Contents). rank_outcome s y k totals counts row) (run_is n calls)
          ∙ (decided (rank_tests now totals counts row ++ (number_test now y k ∷ [])) (rank_answer now y k)
          (All-append (λ t. t.0 ≡ false) (rank_tests now totals counts row) (number_test now y k ∷ [])
          (h.long, All-append (λ t. t.0 ≡ false) (gap_tests now) ((circular tied n, circle) ∷ []) (gaps_pass h.full) (h.straight, tt))
          (numbered h.low h.high, tt))
          ∙ ap accepted h.answer);
    }

    -- tables and a row that are long enough
    long_enough : rank_short now (replicate (2 ^ n) []) (replicate (2 ^ n) 0) (replicate n 0) ≡ false
    long_enough = simp length-replicate (grind (arith, nat_tests))

    module _ (two : 2 ≤ n) (twenty : n ≤ 20) (law : Lawful y) where
      listing_now : circular tied n ≡ false → Listing n p tied y best_now listed_now
      listing_now = listing y law p tied n two twenty (marks_low n calls) (marks_sym n calls) (ties_on_labels n calls)

      pub ranked : (k : ℕ) (r : RankAnswer) → Ranks n calls y k r → Ranked n calls y r.total
      ranked k r w =
          let h = passed k r w in
          let t = ap (λ (a : RankAnswer). a.total) h.answer in
          record {
            orders = listed_now;
            listing = subst (λ (u : List ℤ). Listing n p tied y u listed_now) t (listing_now h.straight);
            answers = λ i q v.
                let g = passed i q v in
                record {
                  total = sym (ap (λ (a : RankAnswer). a.total) g.answer) ∙ t;
                  count = sym (ap (λ (a : RankAnswer). a.count) g.answer);
                  low = g.low;
                  high = g.high;
                  order = sym (ap (λ (a : RankAnswer). a.order) g.answer);
                };
            each = λ i l m. (
              rank_answer now y i,
              given i (rank_answer now y i) w.totals w.counts w.row
                  (record { long = h.long; full = h.full; straight = h.straight; low = l; high = m; answer = refl }),
            );
          }

      -- the orders that are answered: the tie-keeping ones that no tie-keeping one exceeds
      abbrev pub Top : List ℕ → Type 0
      Top q = Order n q × (Keeps tied q × ((o : List ℕ) → Order n o → Keeps tied o
          → y.exceeds (sum y o) (sum y q) ≡ false))

      pub answered_top : (q : List ℕ) → Answered n calls y q → Top q
      answered_top q w =
          let h = ranked w.number w.answer w.ranks in
          let a = h.answers w.number w.answer w.ranks in
          let v = h.listing.listed (w.number - 1) (omega (arith, a.low, a.high)) in
          subst Top (sym a.order ∙ w.order) (
            v.0,
            (
              v.1.0,
              (λ o ord keep.
                  subst (λ (t : List ℤ). y.exceeds (sum y o) t ≡ false) (sym v.1.1) (h.listing.none_exceeds o ord keep)),
            ),
          )

      pub top_answered : NoGap n calls → (q : List ℕ) → Top q → Answered n calls y q
      top_answered full q t = record {
        number = suc at.0;
        answer = rank_answer now y (suc at.0);
        ranks = given (suc at.0) (rank_answer now y (suc at.0)) (replicate (2 ^ n) []) (replicate (2 ^ n) 0) (replicate n 0)
            (record { long = long_enough; full = full; straight = straight; low = omega arith; high = omega (arith, at.1.0); answer = refl });
        order = answers;
      }
        where
          straight : circular tied n ≡ false
          straight = (no_circle tied n (ties_on_labels n calls)).0.0 (q, (t.0, t.1.0))

          lst : Listing n p tied y best_now listed_now
          lst = listing_now straight

          good : (o : List ℕ) → Order n o → Keeps tied o → Good y law (sum y o)
          good o ord keep =
              total_good y law p tied n two twenty (marks_low n calls) (marks_sym n calls) 0 o
              (order_way tied n (ties_on_labels n calls) o ord keep) (one-le-pow n 2 (omega arith)) (omega (arith, ord.as_many))

          reaches : sum y q ≡ best_now
          reaches =
              let f = lst.listed 0 lst.some in
              let o : List ℕ = get_or listed_now 0 [] in
              law.compared (sum y q) best_now (good q t.0 t.1.0)
              (subst (Good y law) f.1.1 (good o f.0 f.1.0))
              (lst.none_exceeds q t.0 t.1.0)
              (subst (λ (u : List ℤ). y.exceeds u (sum y q) ≡ false) f.1.1 (t.1.1 o f.0 f.1.0))

          at : (i : ℕ) × ((i < length listed_now) × (get_or listed_now i [] ≡ q))
          at = lst.all q t.0 t.1.0 reaches

          answers : get_or listed_now (suc at.0 - 1) [] ≡ q
          answers = let e : suc at.0 - 1 ≡ at.0 = omega arith in ap (λ (i : ℕ). get_or listed_now i []) e ∙ at.1.1
