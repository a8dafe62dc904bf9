-- What Rank answers and leaves, from what the search finds.
use Rattle.std.proofs.Common.{◌≡◌, ℕ, ◌-◌, ◌^◌, ◌<◌, ◌≤◌, Bool, true, false, cond, ◌||◌, eqb, ltb, List, [], ◌∷◌, ◌++◌, map, length, get_or, take, drop, ℤ, Some, None, sym, refl, ap, ◌∙◌, subst, arith}
use lib.Seq.{take-append_seam}
use Rattle.std.proofs.lemmas.Bool.{eq-eqb}
use Rattle.std.proofs.lemmas.List.{length-map, map-id, get_or_default}
use Rattle.std.proofs.lemmas.Bool.Decides.{nat_tests}
use Rattle.rules.specs.Units.{size}
use Rattle.rules.specs.Sheets.{Contents, numbers}
use Rattle.rules.specs.Yardsticks.{Merit}
use Rattle.rules.specs.Orders.{circular}
use Rattle.rules.specs.Ranking.{best, listed, total_cell, count_cell, filled}
use Rattle.rules.specs.Calls.{Refusal, accepted, refused, is_accepted, short, circle, number, decide, written, gap_tests, RankAnswer, rank_short, rank_tests, rank_listed, rank_answer, number_test, rank_outcome}
use Rattle.rules.proofs.Deciding.{decide_past, decide_stop}
use Rattle.rules.proofs.Sets.{size_none}
use Rattle.rules.proofs.Members.{in_at, filter_in}
use Rattle.rules.proofs.Ways.{in_ways}
use Rattle.marks.specs.declared.marks.Marks.{Marks}
use Rattle.marks.specs.Numbers.{units_of}
use Rattle.marks.specs.Tied.{tied_units, tied_of}
use Rattle.search.specs.declared.best.SearchFault.{SearchFault}
use Rattle.search.specs.declared.best.SearchFault.TheVariants.{Units, Short, Circle, Number}
use Rattle.search.specs.Best.{Lent, Refilled, Found, numbered, first_fault}
use Rattle.search.specs.Best as search
use Rattle.sheet.specs.declared.sheet.Sheet.{Sheet}
use Rattle.sheet.specs.Contents.{contents}
use Rattle.sheet.specs.Faults.{answer_refusal}
use Rattle.sheet.specs.Raised.{searching}
use Rattle.sheet.specs.Measured.{MarksOf}
use Rattle.sheet.specs.Answers.{Ranks, in_numbers}
use Rattle.sheet.proofs.Measuring.{same_numbers}
use Rattle.sheet.proofs.Tables.{table_is}

module _ (s : Contents) (y : Merit) (k : ℕ) (b : Lent (List ℤ)) where
  -- what is tested before the tables are filled
  abbrev tests : List (Bool × Refusal)
  tests = rank_tests s b.totals b.counts b.row

  -- a refusal by one of these tests leaves all as it was
  pub stopped : (r : Refusal) → decide tests (tt {0}) ≡ refused r → Ranks s y k b (refused r) b
  stopped r e = record {
    answer = answer;
    totals = sym (ap (λ t. cond t (filled (total_cell y (numbers s) s.tied s.units) (2 ^ s.units) b.totals) b.totals) none);
    counts = sym (ap (λ t. cond t (filled (count_cell y (numbers s) s.tied s.units) (2 ^ s.units) b.counts) b.counts) none);
    row = ap (λ o. written o (λ (v : RankAnswer). v.order) s.units b.row) answer;
  }
    where
      answer : refused r ≡ rank_outcome s y k b.totals b.counts b.row
      answer = sym (decide_stop tests (number_test s y k ∷ []) (rank_answer s y k) r e)

      none : is_accepted (decide tests (tt {0})) ≡ false
      none = ap is_accepted e

  -- the tests in turn
  pub short_first : rank_short s b.totals b.counts b.row ≡ true → decide tests (tt {0}) ≡ refused short
  short_first e = ap (λ t. cond t (refused short) (decide (gap_tests s ++ ((circular s.tied s.units, circle) ∷ [])) (tt {0}))) e

  module _ (room : rank_short s b.totals b.counts b.row ≡ false) where
    past_room : decide tests (tt {0}) ≡ decide (gap_tests s ++ ((circular s.tied s.units, circle) ∷ [])) (tt {0})
    past_room = ap (λ t. cond t (refused short) (decide (gap_tests s ++ ((circular s.tied s.units, circle) ∷ [])) (tt {0}))) room

    pub gap_next : (r : Refusal) → decide (gap_tests s) (tt {0}) ≡ refused r → decide tests (tt {0}) ≡ refused r
    gap_next r e = past_room ∙ decide_stop (gap_tests s) ((circular s.tied s.units, circle) ∷ []) (tt {0}) r e

    module _ (full : decide (gap_tests s) (tt {0}) ≡ accepted tt) where
      past_gaps : decide tests (tt {0}) ≡ cond (circular s.tied s.units) (refused circle) (accepted tt)
      past_gaps = past_room ∙ decide_past (gap_tests s) ((circular s.tied s.units, circle) ∷ []) (tt {0}) full

      pub circle_next : circular s.tied s.units ≡ true → decide tests (tt {0}) ≡ refused circle
      circle_next e = past_gaps ∙ ap (λ t. cond t (refused circle) (accepted tt)) e

      pub all_pass_next : circular s.tied s.units ≡ false → decide tests (tt {0}) ≡ accepted tt
      all_pass_next e = past_gaps ∙ ap (λ t. cond t (refused circle) (accepted tt)) e

  -- the tables are filled where these tests pass
  module _ (a : Lent (List ℤ)) (e : decide tests (tt {0}) ≡ accepted tt)
      (totals : a.totals ≡ filled (total_cell y (numbers s) s.tied s.units) (2 ^ s.units) b.totals)
      (counts : a.counts ≡ filled (count_cell y (numbers s) s.tied s.units) (2 ^ s.units) b.counts) where
    fills : is_accepted (decide tests (tt {0})) ≡ true
    fills = ap is_accepted e

    pub totals_after : a.totals ≡ cond (is_accepted (decide tests (tt {0}))) (filled (total_cell y (numbers s) s.tied s.units) (2 ^ s.units) b.totals) b.totals
    totals_after = totals ∙ sym (ap (λ t. cond t (filled (total_cell y (numbers s) s.tied s.units) (2 ^ s.units) b.totals) b.totals) fills)

    pub counts_after : a.counts ≡ cond (is_accepted (decide tests (tt {0}))) (filled (count_cell y (numbers s) s.tied s.units) (2 ^ s.units) b.counts) b.counts
    counts_after = counts ∙ sym (ap (λ t. cond t (filled (count_cell y (numbers s) s.tied s.units) (2 ^ s.units) b.counts) b.counts) fills)

    last_test : rank_outcome s y k b.totals b.counts b.row ≡ cond (number_test s y k).0 (refused number) (accepted (rank_answer s y k))
    last_test = decide_past tests (number_test s y k ∷ []) (rank_answer s y k) e

    -- no best order has the number
    pub unnumbered : (number_test s y k).0 ≡ true → a.row ≡ b.row → Ranks s y k b (refused number) a
    unnumbered none same = record {
      answer = answer;
      totals = totals_after;
      counts = counts_after;
      row = same ∙ ap (λ o. written o (λ (v : RankAnswer). v.order) s.units b.row) answer;
    }
      where
        answer : refused number ≡ rank_outcome s y k b.totals b.counts b.row
        answer = sym (last_test ∙ ap (λ t. cond t (refused number) (accepted (rank_answer s y k))) none)

    -- the order with the number is found
    pub found : (v : RankAnswer) → (number_test s y k).0 ≡ false → v ≡ rank_answer s y k
        → a.row ≡ (rank_answer s y k).order ++ drop s.units b.row → Ranks s y k b (accepted v) a
    found v some same row = record {
      answer = ap accepted same ∙ answer;
      totals = totals_after;
      counts = counts_after;
      row = row ∙ ap (λ o. written o (λ (v : RankAnswer). v.order) s.units b.row) answer;
    }
      where
        answer : accepted (rank_answer s y k) ≡ rank_outcome s y k b.totals b.counts b.row
        answer = sym (last_test ∙ ap (λ t. cond t (refused number) (accepted (rank_answer s y k))) some)

-- the order with a number from 1 to the count has a place for each unit
order_length : (s : Contents) (y : Merit) (k : ℕ) → 1 ≤ k → k ≤ length (rank_listed s y) → length (rank_answer s y k).order ≡ s.units
order_length s y k low high =
    let l : k - 1 < length (rank_listed s y) = omega arith in
    let i = in_at (rank_listed s y) (k - 1) [] l in
    let e : s.units - size s.units 0 ≡ s.units = omega (arith, size_none s.units) in
    let w = filter_in (λ o. _) (rank_answer s y k).order _ i in
    (in_ways s.tied s.units _ 0 (rank_answer s y k).order w.0).0 ∙ e

-- which fault the search finds where the units agree and there is room
module _ (same little circ num : Bool) (yes : same ≡ true) (room : little ≡ false) where
  then : first_fault same little circ num ≡ cond circ (Some Circle) (cond num None (Some Number))
  then = λ i. first_fault (yes i) (room i) circ num

  pub no_fault : first_fault same little circ num ≡ None → (circ ≡ false) × (num ≡ true)
  no_fault e = go circ num (sym then ∙ e)
    where
      go : (c n : Bool) → cond c (Some Circle) (cond n None (Some Number)) ≡ None → (c ≡ false) × (n ≡ true)
      go true n h = absurd (let z : ◌≡◌ {A = ℕ} 0 1 = cc in omega arith)
      go false true h = (refl, refl)
      go false false h = absurd (let z : ◌≡◌ {A = ℕ} 0 1 = cc in omega arith)

  pub number_fault : first_fault same little circ num ≡ Some Number → (circ ≡ false) × (num ≡ false)
  number_fault e = go circ num (sym then ∙ e)
    where
      go : (c n : Bool) → cond c (Some Circle) (cond n None (Some Number)) ≡ Some Number → (c ≡ false) × (n ≡ false)
      go true n h = absurd (let q : Circle ≡ Number = cc in let z : ◌≡◌ {A = ℕ} 0 1 = cc in omega arith)
      go false true h = absurd (let z : ◌≡◌ {A = ℕ} 0 1 = cc in omega arith)
      go false false h = (refl, refl)

  pub circle_fault : (f : SearchFault) → (f ≡ Number → ⊥) → first_fault same little circ num ≡ Some f → (circ ≡ true) × (f ≡ Circle)
  circle_fault f ne e = go circ num (sym then ∙ e)
    where
      go : (c n : Bool) → cond c (Some Circle) (cond n None (Some Number)) ≡ Some f → (c ≡ true) × (f ≡ Circle)
      go true n h = (refl, cc)
      go false true h = absurd (let z : ◌≡◌ {A = ℕ} 0 1 = cc in omega arith)
      go false false h = absurd (ne (cc))

-- no best order has the number k
pub untold : (count k : ℕ) → numbered count k ≡ false → (eqb k 0 || ltb count k) ≡ true
untold count k e = grind (arith, nat_tests)

pub told : (count k : ℕ) → numbered count k ≡ true → ((eqb k 0 || ltb count k) ≡ false) × ((1 ≤ k) × (k ≤ count))
told count k e = (grind (arith, nat_tests), (grind (arith, nat_tests), grind (arith, nat_tests)))

-- the search on the marks and ties of a sheet
module _ {T : Type 0} (numbers_in : T → List ℤ) (y : Merit) (s : Sheet) (k : ℕ) (b : Lent T) where
  abbrev n : ℕ
  n = s.units.count

  -- too little room, said of the tables as numbers
  room_same : rank_short (contents s) (map numbers_in b.totals) b.counts b.row ≡ search.short n (length b.totals) (length b.counts) (length b.row)
  room_same = ap (λ (l : ℕ). ltb l (2 ^ n) || (ltb (length b.counts) (2 ^ n) || ltb (length b.row) n)) (length-map b.totals numbers_in)

  pub lacking : true ≡ (ltb 20 n || search.short n (length b.totals) (length b.counts) (length b.row))
      → rank_short (contents s) (map numbers_in b.totals) b.counts b.row ≡ true
  lacking e = room_same ∙ past_limit (search.short n (length b.totals) (length b.counts) (length b.row)) (sym e)
    where
      past_limit : (t : Bool) → (ltb 20 n || t) ≡ true → t ≡ true
      past_limit t h = let m : n ≤ 20 = s.units.most in grind (arith, nat_tests)

  pub enough : false ≡ (ltb 20 n || search.short n (length b.totals) (length b.counts) (length b.row))
      → search.short n (length b.totals) (length b.counts) (length b.row) ≡ false
  enough e = past_limit (search.short n (length b.totals) (length b.counts) (length b.row)) (sym e)
    where
      past_limit : (t : Bool) → (ltb 20 n || t) ≡ false → t ≡ false
      past_limit t h = grind (arith, nat_tests)

  module _ (room : search.short n (length b.totals) (length b.counts) (length b.row) ≡ false) where
    pub has_room : rank_short (contents s) (map numbers_in b.totals) b.counts b.row ≡ false
    has_room = room_same ∙ room

    pub totals_room : 2 ^ n ≤ length b.totals
    totals_room = let l = 2 ^ n in grind (arith, nat_tests)

    pub counts_room : 2 ^ n ≤ length b.counts
    counts_room = let l = 2 ^ n in grind (arith, nat_tests)

  module _ (m : Marks) (of : MarksOf s m) (a : Lent T) where
    power : 2 ^ units_of m ≡ 2 ^ n
    power = ap (λ (q : ℕ). 2 ^ q) of.size

    pub totals_filled : Refilled numbers_in y m s.ties b a → 2 ^ n ≤ length a.totals
        → map numbers_in a.totals ≡ filled (total_cell y (numbers (contents s)) (tied_of s.ties) n) (2 ^ n) (map numbers_in b.totals)
    totals_filled r l = table_is numbers_in (total_cell y (numbers (contents s)) (tied_of s.ties) n) (2 ^ n) a.totals b.totals l
        (λ A d h. r.filled.total A d (omega (arith, power)) ∙ (λ i. total_cell y (same_numbers s m of i) (tied_of s.ties) (of.size i) A))
        (subst (λ (q : ℕ). drop q a.totals ≡ drop q b.totals) power r.totals_past)

    pub counts_filled : Refilled numbers_in y m s.ties b a → 2 ^ n ≤ length a.counts
        → a.counts ≡ filled (count_cell y (numbers (contents s)) (tied_of s.ties) n) (2 ^ n) b.counts
    counts_filled r l =
        sym (map-id a.counts)
        ∙ table_is (λ x. x) (count_cell y (numbers (contents s)) (tied_of s.ties) n) (2 ^ n) a.counts b.counts l
        (λ A d h.
        let k : A < length a.counts = omega arith in
        get_or_default a.counts A d 0 k ∙ r.filled.count A (omega (arith, power))
        ∙ (λ i. count_cell y (same_numbers s m of i) (tied_of s.ties) (of.size i) A))
        (subst (λ (q : ℕ). drop q a.counts ≡ drop q b.counts) power r.counts_past)
        ∙ ap (filled (count_cell y (numbers (contents s)) (tied_of s.ties) n) (2 ^ n)) (map-id b.counts)

    -- the ties of a sheet are those of its units
    agree : eqb (tied_units s.ties) (units_of m) ≡ true
    agree = eq-eqb (tied_units s.ties) (units_of m) (s.same ∙ sym of.size)

    pub count_same : search.best_count numbers_in y m s.ties ≡ length (rank_listed (contents s) y)
    count_same = λ i. length (listed y (same_numbers s m of i) (tied_of s.ties) (of.size i) 0)

    pub circle_same : circular (tied_of s.ties) (units_of m) ≡ circular (tied_of s.ties) n
    circle_same = λ i. circular (tied_of s.ties) (of.size i)

    module _ (room : search.short n (length b.totals) (length b.counts) (length b.row) ≡ false)
        (full : decide (gap_tests (contents s)) (tt {0}) ≡ accepted tt) where
      room_there : search.short (units_of m) (length b.totals) (length b.counts) (length b.row) ≡ false
      room_there = (λ i. search.short (of.size i) (length b.totals) (length b.counts) (length b.row)) ∙ room

      -- a circle
      ranked_circle : search.fault numbers_in y m s.ties k b ≡ Some Circle → a ≡ b
          → Ranks (contents s) y k (in_numbers numbers_in b) (refused circle) (in_numbers numbers_in a)
      ranked_circle e same =
          let w = circle_fault _ _ _ _ agree room_there Circle (λ q. let z : ◌≡◌ {A = ℕ} 0 1 = cc in omega arith) e in
          subst (λ (q : Lent T). Ranks (contents s) y k (in_numbers numbers_in b) (refused circle) (in_numbers numbers_in q))
          (sym same)
          (stopped (contents s) y k (in_numbers numbers_in b) circle
          (circle_next (contents s) y k (in_numbers numbers_in b) (has_room room) full (sym circle_same ∙ w.0)))

      -- no other fault
      other : (f : SearchFault) → (f ≡ Number → ⊥) → search.fault numbers_in y m s.ties k b ≡ Some f → (f ≡ Circle → ⊥) → ⊥
      other f ne e apart = apart (circle_fault _ _ (circular (tied_of s.ties) (units_of m)) (numbered (search.best_count numbers_in y m s.ties) k) agree room_there f ne e).1

      -- the tables are filled
      module _ (tables : Refilled numbers_in y m s.ties b a) (lt : 2 ^ n ≤ length a.totals) (lc : 2 ^ n ≤ length a.counts) where
        passed : circular (tied_of s.ties) (units_of m) ≡ false → decide (rank_tests (contents s) (map numbers_in b.totals) b.counts b.row) (tt {0}) ≡ accepted tt
        passed e = all_pass_next (contents s) y k (in_numbers numbers_in b) (has_room room) full (sym circle_same ∙ e)

        pub ranked_number : search.fault numbers_in y m s.ties k b ≡ Some Number → a.row ≡ b.row
            → Ranks (contents s) y k (in_numbers numbers_in b) (refused number) (in_numbers numbers_in a)
        ranked_number e same =
            let w = number_fault _ _ _ _ agree room_there e in
            unnumbered (contents s) y k (in_numbers numbers_in b) (in_numbers numbers_in a) (passed w.0) (totals_filled tables lt) (counts_filled tables lc)
            (untold (length (rank_listed (contents s) y)) k (sym (λ i. numbered (count_same i) k) ∙ w.1)) same

      pub ranked_found : (v : T × ℕ) → Found numbers_in y m s.ties k b a v → 2 ^ n ≤ length a.totals → 2 ^ n ≤ length a.counts
          → Ranks (contents s) y k (in_numbers numbers_in b) (accepted (record { total = numbers_in v.0; count = v.1; order = take n a.row })) (in_numbers numbers_in a)
      ranked_found v h lt lc =
          let w = no_fault _ _ _ _ agree room_there h.no_fault in
          let q = told (length (rank_listed (contents s) y)) k (sym (λ i. numbered (count_same i) k) ∙ w.1) in
          let row : a.row ≡ (rank_answer (contents s) y k).order ++ drop n b.row =
          h.order ∙ (λ i. get_or (listed y (same_numbers s m of i) (tied_of s.ties) (of.size i) 0) (k - 1) [] ++ drop (of.size i) b.row) in
          let order : take n a.row ≡ (rank_answer (contents s) y k).order =
          ap (take n) row
          ∙ ap (λ (z : ℕ). take z ((rank_answer (contents s) y k).order ++ drop n b.row)) (sym (order_length (contents s) y k q.1.0 q.1.1))
          ∙ take-append_seam (rank_answer (contents s) y k).order (drop n b.row) in
          let total : numbers_in v.0 ≡ best y (numbers (contents s)) (tied_of s.ties) n 0 =
          h.greatest ∙ (λ i. best y (same_numbers s m of i) (tied_of s.ties) (of.size i) 0) in
          found (contents s) y k (in_numbers numbers_in b) (in_numbers numbers_in a) (passed h.tables lt lc w.0) (totals_filled h.tables lt) (counts_filled h.tables lc)
          (record { total = numbers_in v.0; count = v.1; order = take n a.row }) q.0
          (λ i. record { total = total i; count = (h.counted ∙ count_same) i; order = order i }) row

      -- any fault of the search
      pub ranked_fault : (f : SearchFault) → search.fault numbers_in y m s.ties k b ≡ Some f → search.Left numbers_in y m s.ties b a f
          → 2 ^ n ≤ length a.totals → 2 ^ n ≤ length a.counts
          → Ranks (contents s) y k (in_numbers numbers_in b) (refused (answer_refusal (searching f))) (in_numbers numbers_in a)
      ranked_fault Units e left lt lc = absurd (other Units (λ q. let z : ◌≡◌ {A = ℕ} 0 1 = cc in omega arith) e (λ q. let z : ◌≡◌ {A = ℕ} 0 1 = cc in omega arith))
      ranked_fault Short e left lt lc = absurd (other Short (λ q. let z : ◌≡◌ {A = ℕ} 0 1 = cc in omega arith) e (λ q. let z : ◌≡◌ {A = ℕ} 0 1 = cc in omega arith))
      ranked_fault Circle e left lt lc = ranked_circle e left
      ranked_fault Number e left lt lc = ranked_number left.0 lt lc e left.1
