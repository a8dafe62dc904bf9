-- The search over sets: what is best after a set, by what is best after each unit that may come next, and the same in
-- the cells of the tables.
use Rattle.std.proofs.Common.{◌≡◌, ℕ, zero, suc, ◌+◌, ◌-◌, ◌^◌, ◌<◌, ◌≤◌, Bool, true, false, cond, not, List, [], ◌∷◌, map, length, get_or, ℤ, filter, sym, refl, ap, ◌∙◌, subst, arith}
use mathlib.Core.Path.{fun_ext}
use lib.ListN.{length-map}
use Rattle.std.specs.List.{flat_map}
use Rattle.std.proofs.lemmas.Bool.{both_ways, cond-true, cond-false}
use Rattle.rules.specs.Units.{has, with_unit, size, sum_over}
use Rattle.rules.specs.Yardsticks.{Merit, Lawful, Within, Low, Symmetric, zeros}
use Rattle.rules.specs.Orders.{ready_units, closed, ways}
use Rattle.rules.specs.Ranking.{total, greatest, rest, best, listed, total_cell, count_cell}
use Rattle.rules.specs.Recurrence.{turn, best_by, listed_by, count_by, walk, led, led_count, Searches, Recurrence}
use Rattle.rules.proofs.Tests.{forced}
use Rattle.rules.proofs.Sets.{label_low, label_high, with_below, many_full, many_low, size_many, size_with}
use Rattle.rules.proofs.Members.{In, at_in, in_map, map_in, in_concat, concat_in}
use Rattle.rules.proofs.Lists.{filter_same, filter_none, filter_map, filter_concat, concat_same, length_concat, map_same, sum_same, get_or_mapped, Lies, turn_lies, turn_same}
use Rattle.rules.proofs.Ways.{ready_out, ready_in, in_ways}
use Rattle.rules.proofs.Closed.{HasWay, closed_from, closed_with, rest_some, some_next, ways_circle}
use Rattle.rules.proofs.Totals.{within_more, within_zeros, Good, not_exceeds_trans, GoodOn, top_of, top_not_exceeded, top_reached, top_is, step_is_within, total_within}

module _ (y : Merit) (law : Lawful y) (p : ℕ → ℕ → ℕ) (tied : ℕ → ℕ → Bool) (n : ℕ) (two : 2 ≤ n) (twenty : n ≤ 20)
    (low : Low p) (sm : Symmetric p) (straight : HasWay tied n) where
  -- names for this file: the units that may come next after a set, the ways to go on, their totals, the greatest of
  -- these, the ways that reach it, the best total and the ways by one next unit, and the cells
  abbrev readies : ℕ → List ℕ
  readies A = ready_units tied n A

  abbrev ends : ℕ → List (List ℕ)
  ends A = rest y p tied n A

  abbrev sum : ℕ → List ℕ → List ℤ
  sum A o = total y p n A o

  abbrev most : ℕ → List ℤ
  most A = best y p tied n A

  abbrev best_ends : ℕ → List (List ℕ)
  best_ends A = listed y p tied n A

  abbrev by : ℕ → ℕ → List ℤ
  by A j = best_by y p tied n A j

  abbrev total_at : ℕ → List ℤ
  total_at A = total_cell y p tied n A

  abbrev count_at : ℕ → ℕ
  count_at A = count_cell y p tied n A

  readies_out : (A j : ℕ) → In j (readies A) → has A j ≡ false
  readies_out A j i = ready_out tied n A j (ready_in tied n A j i).1

  size_next : (A j : ℕ) → In j (readies A) → size n (with_unit A j) ≡ suc (size n A)
  size_next A j i = size_with n A j (ready_in tied n A j i).0 (readies_out A j i)

  below_with : (A j : ℕ) → A < 2 ^ n → In j (readies A) → with_unit A j < 2 ^ n
  below_with A j a i = with_below n A j (ready_in tied n A j i).0 a (readies_out A j i)

  -- the ways after a set that is not full
  rest_is : (A : ℕ) → size n A < n → ends A ≡ flat_map (λ j. map (λ o. j ∷ o) (ends (with_unit A j))) (readies A)
  rest_is A h =
      let one : n - size n A ≡ suc (n - suc (size n A)) = omega arith in
      ap (λ (k : ℕ). ways tied n k A) one
      ∙ concat_same (λ j. map (λ o. j ∷ o) (ways tied n (n - suc (size n A)) (with_unit A j)))
      (λ j. map (λ o. j ∷ o) (ends (with_unit A j))) (readies A)
      (λ j i. ap (λ (k : ℕ). map (λ o. j ∷ o) (ways tied n (n - k) (with_unit A j))) (sym (size_next A j i)))

  rest_full : (A : ℕ) → size n A ≡ n → ends A ≡ [] ∷ []
  rest_full A h = let none : n - size n A ≡ 0 = omega arith in ap (λ (k : ℕ). ways tied n k A) none

  rest_in : (A j : ℕ) (o : List ℕ) → size n A < n → In j (readies A) → In o (ends (with_unit A j)) → In (j ∷ o) (ends A)
  rest_in A j o h i k =
      subst (λ (xs : List (List ℕ)). In (j ∷ o) xs) (sym (rest_is A h))
      (in_concat (λ j. map (λ o. j ∷ o) (ends (with_unit A j))) j (j ∷ o) (readies A) i (in_map (λ o. j ∷ o) o (ends (with_unit A j)) k))

  in_rest : (A : ℕ) (q : List ℕ) → size n A < n → In q (ends A) → (j : ℕ) × (In j (readies A) × ((o : List ℕ) × (In o (ends (with_unit A j)) × (q ≡ j ∷ o))))
  in_rest A q h k =
      let w = concat_in (λ j. map (λ o. j ∷ o) (ends (with_unit A j))) q (readies A) (subst (λ (xs : List (List ℕ)). In q xs) (rest_is A h) k) in
      (w.0, (w.1.0, map_in (λ o. w.0 ∷ o) q (ends (with_unit A w.0)) w.1.1))

  -- totals after a set
  total_20 : (A : ℕ) → A < 2 ^ n → (o : List ℕ) → In o (ends A) → Within 20 y.caps (sum A o)
  total_20 A a o i =
      let w = in_ways tied n (n - size n A) A o i in
      within_more (length o) 20 y.caps (sum A o) (omega (arith, w.0)) (total_within y law p tied n two twenty low sm A o w.1 a (omega (arith, w.0)))

  good_20 : (u : List ℤ) → Within 20 y.caps u → Good y law u
  good_20 u h = within_more 20 21 y.caps u (omega arith) h

  pub rest_good : (A : ℕ) → A < 2 ^ n → GoodOn y law (sum A) (ends A)
  rest_good A a o i = good_20 (sum A o) (total_20 A a o i)

  -- some way reacheses the best, and none exceeds it
  pub best_reached : (A : ℕ) → A < 2 ^ n → (o : List ℕ) × (In o (ends A) × (sum A o ≡ most A))
  best_reached A a = let w = rest_some tied n straight A in top_reached y law (sum A) (ends A) (rest_good A a) w.0 w.1

  pub best_not_exceeded : (A : ℕ) → A < 2 ^ n → (o : List ℕ) → In o (ends A) → y.exceeds (sum A o) (most A) ≡ false
  best_not_exceeded A a o i = top_not_exceeded y law (sum A) (ends A) (rest_good A a) o i

  pub best_20 : (A : ℕ) → A < 2 ^ n → Within 20 y.caps (most A)
  best_20 A a = let w = best_reached A a in subst (λ (u : List ℤ). Within 20 y.caps u) w.1.1 (total_20 A a w.0 w.1.0)

  pub best_good : (A : ℕ) → A < 2 ^ n → Good y law (most A)
  best_good A a = good_20 (most A) (best_20 A a)

  step_1 : (A j : ℕ) → A < 2 ^ n → In j (readies A) → Within 1 y.caps (y.step p n A j)
  step_1 A j a i = step_is_within y law p tied n two twenty low sm A j a (ready_in tied n A j i).0 (readies_out A j i)

  -- the same step before two totals changes nothing
  same_step : (s u v : List ℤ) → Within 1 y.caps s → Within 20 y.caps u → Within 20 y.caps v → y.exceeds (y.plus s u) (y.plus s v) ≡ y.exceeds u v
  same_step s u v hs hu hv =
      (λ i. y.exceeds (turn u hu i) (turn v hv i))
      ∙ law.after_adding u v s (good_20 u hu) (good_20 v hv) gs (law.adds_caps 20 1 u s (omega arith) hu hs) (law.adds_caps 20 1 v s (omega arith) hv hs)
    where
      gs : Good y law s
      gs = within_more 1 21 y.caps s (omega arith) hs

      turn : (w : List ℤ) → Within 20 y.caps w → y.plus s w ≡ y.plus w s
      turn w hw = law.plus_comm s w gs (good_20 w hw) (law.adds_caps 1 20 s w (omega arith) hs hw) (law.adds_caps 20 1 w s (omega arith) hw hs)

  pub by_good : (A : ℕ) → A < 2 ^ n → GoodOn y law (by A) (readies A)
  by_good A a j i = law.adds_caps 1 20 (y.step p n A j) (most (with_unit A j)) (omega arith) (step_1 A j a i) (best_20 (with_unit A j) (below_with A j a i))

  by_tops : (A j : ℕ) (o : List ℕ) → A < 2 ^ n → In j (readies A) → In o (ends (with_unit A j)) → y.exceeds (sum A (j ∷ o)) (by A j) ≡ false
  by_tops A j o a i k =
      same_step (y.step p n A j) (sum (with_unit A j) o) (most (with_unit A j)) (step_1 A j a i)
      (total_20 (with_unit A j) (below_with A j a i) o k) (best_20 (with_unit A j) (below_with A j a i))
      ∙ best_not_exceeded (with_unit A j) (below_with A j a i) o k

  -- the best after a set is the greatest over what may come next
  pub best_is : (A : ℕ) → A < 2 ^ n → size n A < n → most A ≡ greatest y (map (by A) (readies A))
  best_is A a h =
      let one = some_next tied n straight A h in
      let t = top_reached y law (by A) (readies A) (by_good A a) one.0 one.1 in
      let b = best_reached (with_unit A t.0) (below_with A t.0 a t.1.0) in
      let r : List ℕ = t.0 ∷ b.0 in
      let i = rest_in A t.0 b.0 h t.1.0 b.1.0 in
      let e : sum A r ≡ top_of y law (by A) (readies A) = ap (y.plus (y.step p n A t.0)) b.1.1 ∙ t.1.1 in
      top_is y law (sum A) (ends A) (rest_good A a) r i
      (λ q k. let w = in_rest A q h k in
      rw (e, w.1.1.1.1) (not_exceeds_trans y law (sum A (w.0 ∷ w.1.1.0)) (by A w.0) (top_of y law (by A) (readies A))
      (rest_good A a (w.0 ∷ w.1.1.0) (rest_in A w.0 w.1.1.0 h w.1.0 w.1.1.1.0))
      (by_good A a w.0 w.1.0) (subst (Good y law) e (rest_good A a r i))
      (by_tops A w.0 w.1.1.0 a w.1.0 w.1.1.1.0)
      (top_not_exceeded y law (by A) (readies A) (by_good A a) w.0 w.1.0)))
      ∙ e

  pub best_full : (A : ℕ) → size n A ≡ n → most A ≡ zeros y.caps
  best_full A h = ap (λ (R : List (List ℕ)). greatest y (map (sum A) R)) (rest_full A h)

  -- no way to go on exceeds the best
  pub by_not_exceeds : (A j : ℕ) → A < 2 ^ n → size n A < n → In j (readies A) → y.exceeds (by A j) (most A) ≡ false
  by_not_exceeds A j a h i =
      ap (λ (u : List ℤ). y.exceeds (by A j) u) (best_is A a h) ∙ top_not_exceeded y law (by A) (readies A) (by_good A a) j i

  abbrev next_listed : ℕ → ℕ → List (List ℕ)
  next_listed A j = listed_by y p tied n A j

  -- the listed rows after a set: for each unit that may come next and reacheses the best, those listed with it next
  pub listed_is : (A : ℕ) → A < 2 ^ n → size n A < n → best_ends A ≡ flat_map (next_listed A) (readies A)
  listed_is A a h =
      ap (filter reaches) (rest_is A h)
      ∙ (filter_concat reaches (λ j. map (λ o. j ∷ o) (ends (with_unit A j))) (readies A)
      ∙ concat_same (λ j. filter reaches (map (λ o. j ∷ o) (ends (with_unit A j)))) (next_listed A) (readies A)
      (λ j i. filter_map reaches (λ o. j ∷ o) (ends (with_unit A j)) ∙ go j i (y.exceeds (most A) (by A j)) refl))
    where
      reaches : List ℕ → Bool
      reaches o = not (y.exceeds (most A) (sum A o))

      go : (j : ℕ) → In j (readies A) → (b : Bool) → y.exceeds (most A) (by A j) ≡ b
          → map (λ o. j ∷ o) (filter (λ o. reaches (j ∷ o)) (ends (with_unit A j))) ≡ cond b [] (map (λ o. j ∷ o) (best_ends (with_unit A j)))
      go j i true e =
          ap (map (λ o. j ∷ o)) (filter_none (λ o. reaches (j ∷ o)) (ends (with_unit A j)) (λ o k.
          ap not (forced (y.exceeds (most A) (sum A (j ∷ o))) (λ q.
          both_ways (y.exceeds (most A) (by A j))
          (not_exceeds_trans y law (most A) (sum A (j ∷ o)) (by A j) (best_good A a)
          (rest_good A a (j ∷ o) (rest_in A j o h i k)) (by_good A a j i) q (by_tops A j o a i k)) e))))
      go j i false e =
          let is = law.compared (most A) (by A j) (best_good A a) (by_good A a j i) e (by_not_exceeds A j a h i) in
          let b = below_with A j a i in
          ap (map (λ o. j ∷ o)) (filter_same (λ o. reaches (j ∷ o))
          (λ o. not (y.exceeds (most (with_unit A j)) (sum (with_unit A j) o))) (ends (with_unit A j))
          (λ o k. ap not (ap (λ (u : List ℤ). y.exceeds u (sum A (j ∷ o))) is
          ∙ same_step (y.step p n A j) (most (with_unit A j)) (sum (with_unit A j) o) (step_1 A j a i)
          (best_20 (with_unit A j) b) (total_20 (with_unit A j) b o k))))

  pub listed_full : (A : ℕ) → size n A ≡ n → best_ends A ≡ [] ∷ []
  listed_full A h =
      ap (λ (R : List (List ℕ)). filter (λ o. not (y.exceeds (greatest y (map (sum A) R)) (sum A o))) R) (rest_full A h)
      ∙ ap (λ (b : Bool). cond (not b) ([] ∷ []) []) (law.never_itself (zeros y.caps) (within_zeros 21 y.caps))

  -- how many
  abbrev next_count : ℕ → ℕ → ℕ
  next_count A j = count_by y p tied n A j

  next_length : (A j : ℕ) → length (next_listed A j) ≡ next_count A j
  next_length A j = go (y.exceeds (most A) (by A j))
    where
      go : (b : Bool) → length (cond b [] (map (λ o. j ∷ o) (best_ends (with_unit A j)))) ≡ cond b 0 (length (best_ends (with_unit A j)))
      go true = refl
      go false = length-map (best_ends (with_unit A j)) (λ o. j ∷ o)

  pub count_is : (A : ℕ) → A < 2 ^ n → size n A < n → length (best_ends A) ≡ sum_over (next_count A) (readies A)
  count_is A a h = ap length (listed_is A a h) ∙ (length_concat (next_listed A) (readies A) ∙ sum_same (λ j. length (next_listed A j)) (next_count A) (readies A) (λ j i. next_length A j))

  pub count_full : (A : ℕ) → size n A ≡ n → length (best_ends A) ≡ 1
  count_full A h = ap length (listed_full A h)

  -- which unit comes next in the way listed at place k, from 0, and at which place its rest is listed
  abbrev turn_to : ℕ → ℕ → ℕ × ℕ
  turn_to A k = turn (next_count A) (readies A) k

  abbrev GoesOn : ℕ → ℕ → ℕ × ℕ → Type 0
  GoesOn A k w =
      In w.0 (readies A) × ((w.1 < length (best_ends (with_unit A w.0)))
      × (get_or (best_ends A) k [] ≡ w.0 ∷ get_or (best_ends (with_unit A w.0)) w.1 []))

  row_next : (A k : ℕ) → A < 2 ^ n → size n A < n → k < length (best_ends A) → GoesOn A k (turn_to A k)
  row_next A k a h l =
      subst (λ (c : ℕ → ℕ). GoesOn A k (turn c (readies A) k)) (fun_ext (next_length A))
      (found (turn (λ j. length (next_listed A j)) (readies A) k)
      (turn_lies (next_listed A) [] (readies A) k (subst (λ (R : List (List ℕ)). k < length R) (listed_is A a h) l)))
    where
      found : (w : ℕ × ℕ) → Lies (next_listed A) (readies A) k [] w → GoesOn A k w
      found w v = go (y.exceeds (most A) (by A w.0)) v.1.0 v.1.1
        where
          later : List (List ℕ)
          later = best_ends (with_unit A w.0)

          go : (b : Bool) → w.1 < length (cond b [] (map (λ o. w.0 ∷ o) later))
              → get_or (flat_map (next_listed A) (readies A)) k [] ≡ get_or (cond b [] (map (λ o. w.0 ∷ o) later)) w.1 [] → GoesOn A k w
          go true m q = absurd (omega arith)
          go false m q =
              let m' : w.1 < length later = omega (arith, length-map later (λ o. w.0 ∷ o)) in
              (v.0, (m', ap (λ (R : List (List ℕ)). get_or R k []) (listed_is A a h) ∙ (q ∙ get_or_mapped (λ o. w.0 ∷ o) later w.1 [] [] m')))

  -- the whole way, m units of it
  walk_is : (m A k : ℕ) → A < 2 ^ n → size n A + m ≡ n → k < length (best_ends A)
      → get_or (best_ends A) k [] ≡ walk y p tied n m A k
  walk_is zero A k a e l =
      let f : size n A ≡ n = omega arith in
      let z : k ≡ 0 = omega (arith, count_full A f) in
      (λ i. get_or (listed_full A f i) (z i) [])
  walk_is (suc m) A k a e l =
      let w = row_next A k a (omega arith) l in
      let j : ℕ = (turn_to A k).0 in
      w.1.1 ∙ ap (λ (r : List ℕ). j ∷ r)
      (walk_is m (with_unit A j) (turn_to A k).1 (below_with A j a w.0) (omega (arith, size_next A j w.0)) w.1.0)

  -- The same in cells: the cell of a closed set by the cells of the closed sets with one unit more.
  cell_best : (A : ℕ) → closed tied n A ≡ true → total_at A ≡ most A
  cell_best A c = cond-true (closed tied n A) (most A) (zeros y.caps) c

  cell_count : (A : ℕ) → closed tied n A ≡ true → count_at A ≡ length (best_ends A)
  cell_count A c = cond-true (closed tied n A) (length (best_ends A)) 0 c

  closed_next : (A j : ℕ) → closed tied n A ≡ true → In j (readies A) → closed tied n (with_unit A j) ≡ true
  closed_next A j c i = let w = ready_in tied n A j i in closed_with tied n A j c w.0 w.1

  led_is : (A j : ℕ) → closed tied n A ≡ true → In j (readies A) → led y p tied n A j ≡ by A j
  led_is A j c i = ap (y.plus (y.step p n A j)) (cell_best (with_unit A j) (closed_next A j c i))

  pub led_good : (A : ℕ) → A < 2 ^ n → closed tied n A ≡ true → GoodOn y law (led y p tied n A) (readies A)
  led_good A a c j i = rw (led_is A j c i) (by_good A a j i)

  led_count_is : (A j : ℕ) → closed tied n A ≡ true → In j (readies A) → next_count A j ≡ led_count y p tied n A j
  led_count_is A j c i =
      let e = sym (cell_best A c) in
      let f = sym (led_is A j c i) in
      let g = sym (cell_count (with_unit A j) (closed_next A j c i)) in
      λ t. cond (y.exceeds (e t) (f t)) 0 (g t)

  closed_full : (A : ℕ) → size n A ≡ n → closed tied n A ≡ true
  closed_full A h =
      closed_from tied n A (λ a b la lb hb t. many_full n A (sym (size_many n A) ∙ h) a (label_low n a la) (label_high n a la))

  searches : Searches y p tied n
  searches = record {
    full = λ A e. (best_full A e, listed_full A e);
    some_next = λ A l. let w = some_next tied n straight A l in let v = at_in w.0 (readies A) 0 w.1 in omega (arith, v.1.0);
    closed_next = closed_with tied n;
    best_next = best_is;
    listed_next = listed_is;
    count_next = count_is;
    cells_none = λ A c. (cond-false (closed tied n A) (most A) (zeros y.caps) c, cond-false (closed tied n A) (length (best_ends A)) 0 c);
    cells_full = λ A e. let c = closed_full A e in (cell_best A c ∙ best_full A e, cell_count A c ∙ count_full A e);
    cells_next = λ A a h c. (
      cell_best A c ∙ (best_is A a h ∙ ap (greatest y) (map_same (by A) (led y p tied n A) (readies A) (λ j i. sym (led_is A j c i)))),
      cell_count A c ∙ (count_is A a h ∙ sum_same (next_count A) (led_count y p tied n A) (readies A) (λ j i. led_count_is A j c i)),
    );
    turn_next = λ A k c. turn_same (next_count A) (led_count y p tied n A) (readies A) (λ j i. led_count_is A j c i) k;
    walked = λ A k a l. walk_is (n - size n A) A k a (omega (arith, size_many n A, many_low n A)) l;
  }

pub recurrence : Recurrence
recurrence y law p tied n two twenty low sm h = searches y law p tied n two twenty low sm (ways_circle tied n h)
