-- The first gap, found pair by pair.
use Rattle.std.proofs.Common.{◌≡◌, ℕ, zero, suc, ◌+◌, ◌-◌, ◌<◌, ◌≤◌, Bool, true, false, cond, List, [], ◌++◌, map, drop, Option, Some, None, sym, ap, ◌∙◌, add-one, inl, inr, arith}
use Rattle.std.proofs.lemmas.Bool.{cases_lt}
use Rattle.std.proofs.lemmas.Bool.Decides.{nat_tests}
use Rattle.std.proofs.lemmas.List.{map-append, at_drop_all}
use Rattle.rules.specs.Units.{labels}
use Rattle.rules.specs.Sheets.{is_gap, pairs_with, pairs_in}
use Rattle.rules.specs.Calls.{Outcome, Refusal, accepted, refused, gap, decide, gap_test}
use Rattle.rules.proofs.Deciding.{decide_past, decide_stop}
use Rattle.rules.proofs.Labels.{labels_length, labels_from}
use Rattle.marks.specs.Cells.{pair}
use Rattle.cells.specs.declared.triangle.Triangle.{Triangle}
use Rattle.cells.specs.Read.{mark_at}
use Rattle.cells.specs.Gaps.{untied_sheet, gap_outcome, row_outcome, row_decided, pairs_decided}
use Rattle.cells.proofs.Ranges.{First, FirstSome}

-- what each step keeps, all steps keep
kept : {X : Type 0} (D : ℕ → X) (i j : ℕ) → i ≤ j → ((k : ℕ) → i ≤ k → k < j → D k ≡ D (k + 1)) → D i ≡ D j
kept D i zero l h = ap D (omega arith)
kept D i (suc j) l h = elim (cases_lt j i) [
  | inl m ↦ ap D (omega arith)
  | inr m ↦ kept D i j m (λ k x y. h k x (omega arith)) ∙ h j m (omega arith) ∙ ap D (add-one j)
]

-- no label is left
none_left : (n i : ℕ) → n ≤ i → drop i (labels n) ≡ []
none_left n i l = at_drop_all (λ js. js) (labels n) i (omega (arith, labels_length n))

module _ (n : ℕ) (t : Triangle) where
  -- the outcome of the tests of some pairs
  abbrev tested : List (ℕ × ℕ) → Outcome (Unit {0})
  tested qs = decide (map (gap_test (untied_sheet n t)) qs) tt

  row_end : (a i : ℕ) → n ≤ i → row_decided n t a i ≡ accepted tt
  row_end a i l = ap (λ js. tested (pairs_with a js)) (none_left n i l)

  module _ (a : ℕ) (low : 1 ≤ a) where
    -- one test, and then those of the later labels
    abbrev after : ℕ → Bool → Outcome (Unit {0})
    after i is = cond is (refused (gap a (i + 1))) (row_decided n t a (i + 1))

    row_next : (i : ℕ) → a ≤ i → i < n → row_decided n t a i ≡ after i (is_gap (mark_at t a (i + 1)))
    row_next i l h =
        let p : pair n a (i + 1) ≡ true = grind (arith, nat_tests) in
        let same_mark : (untied_sheet n t).mark a (i + 1) ≡ mark_at t a (i + 1) = rw p in
        ap (λ js. tested (pairs_with a js)) (labels_from n i h) ∙ ap (λ m. after i (is_gap m)) same_mark

    row_to : (j : ℕ) → a ≤ j → j ≤ n → ((k : ℕ) → a + 1 ≤ k → k < j + 1 → is_gap (mark_at t a k) ≡ false) → row_decided n t a a ≡ row_decided n t a j
    row_to j l m numbers = kept (row_decided n t a) a j l (λ k x y.
        row_next k x (omega arith) ∙ ap (after k) (numbers (k + 1) (omega arith) (omega arith)))

    -- the tests of a row stop at its first gap
    pub row_first : a ≤ n → (r : Option ℕ) → First (λ b. is_gap (mark_at t a b)) (a + 1) (n + 1) r → row_outcome a r ≡ row_decided n t a a
    row_first l None h = sym (row_to n l (omega arith) h ∙ row_end a n (omega arith))
    row_first l (Some b) h =
        let i : ℕ = b - 1 in
        let e : i + 1 ≡ b = omega arith in
        let test : is_gap (mark_at t a (i + 1)) ≡ true = ap (λ c. is_gap (mark_at t a c)) e ∙ h.2 in
        sym (row_to i (omega arith) (omega arith) (λ k x y. h.3 k x (omega arith))
        ∙ row_next i (omega arith) (omega arith) ∙ ap (after i) test ∙ ap (λ c. refused (gap a c)) e)

  module _ (i : ℕ) (h : i < n) where
    -- the tests of the row of i + 1, and those of the later rows
    abbrev row : List (Bool × Refusal)
    row = map (gap_test (untied_sheet n t)) (pairs_with (i + 1) (drop (i + 1) (labels n)))

    abbrev later : List (Bool × Refusal)
    later = map (gap_test (untied_sheet n t)) (pairs_in (drop (i + 1) (labels n)))

    parts : pairs_decided n t i ≡ decide (row ++ later) tt
    parts =
        ap (λ js. tested (pairs_in js)) (labels_from n i h) ∙ ap (λ ts. decide ts tt)
        (map-append (gap_test (untied_sheet n t)) (pairs_with (i + 1) (drop (i + 1) (labels n))) (pairs_in (drop (i + 1) (labels n))))

    pairs_past : row_decided n t (i + 1) (i + 1) ≡ accepted tt → pairs_decided n t i ≡ pairs_decided n t (i + 1)
    pairs_past e = parts ∙ decide_past row later tt e

    pairs_stop : (q : ℕ × ℕ) → row_decided n t (i + 1) (i + 1) ≡ refused (gap q.0 q.1) → pairs_decided n t i ≡ refused (gap q.0 q.1)
    pairs_stop q e = parts ∙ decide_stop row later tt (gap q.0 q.1) e

  -- no label comes after the last
  pairs_end : (i : ℕ) → n ≤ i + 1 → pairs_decided n t i ≡ accepted tt
  pairs_end i l = elim (cases_lt i n) [
    | inl h ↦ pairs_past i h (row_end (i + 1) (i + 1) l) ∙ ap (λ js. tested (pairs_in js)) (none_left n (i + 1) l)
    | inr h ↦ ap (λ js. tested (pairs_in js)) (none_left n i h)
  ]

  pairs_to : (j : ℕ) → j ≤ n → ((k : ℕ) → 1 ≤ k → k < j + 1 → accepted tt ≡ row_decided n t k k) → pairs_decided n t 0 ≡ pairs_decided n t j
  pairs_to j l full = kept (pairs_decided n t) 0 j (omega arith) (λ k x y.
      pairs_past k (omega arith) (sym (full (k + 1) (omega arith) (omega arith))))

  -- the tests of all pairs stop at the first gap of the first row that has one
  pub pairs_first : (r : Option (ℕ × ℕ)) → FirstSome (λ a r. gap_outcome r ≡ row_decided n t a a) 1 n r → gap_outcome r ≡ pairs_decided n t 0
  pairs_first None h = sym (pairs_to (n - 1) (omega arith) (λ k x y. h k x (omega arith)) ∙ pairs_end (n - 1) (omega arith))
  pairs_first (Some q) h =
      let i : ℕ = h.0 - 1 in
      let e : h.0 ≡ i + 1 = omega arith in
      sym (pairs_to i (omega arith) (λ k x y. h.4 k x (omega arith))
      ∙ pairs_stop i (omega arith) q (ap (λ a. row_decided n t a a) (sym e) ∙ sym h.3))
