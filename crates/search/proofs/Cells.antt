-- One cell of the tables: the greatest total and its count, one unit after another, from the cells of larger sets.
use Rattle.std.proofs.Common.{◌≡◌, ℕ, ◌+◌, ◌-◌, ◌^◌, ◌<◌, ◌≤◌, Bool, true, false, cond, List, [], ◌∷◌, ◌++◌, map, length, get_or, ℤ, filter, Option, Some, None, MatchOption, IfSome, sym, refl, ap, ◌∙◌, subst, subst₂, inl, inr, add-one, arith}
use Rattle.std.specs.Option.{unwrap_or}
use Rattle.std.proofs.lemmas.Bool.{cases_eq, cond-true}
use Rattle.rules.specs.Units.{label, labels, has, with_unit, size, sum_over}
use Rattle.rules.specs.Yardsticks.{Merit, Lawful, Within, Low, Symmetric, zeros}
use Rattle.rules.specs.Orders.{ready, ready_units, closed, circular}
use Rattle.rules.specs.Ranking.{best, listed, greatest, total_cell, count_cell}
use Rattle.rules.specs.Recurrence.{led, Searches}
use Rattle.rules.proofs.Sets.{label_from, label_low, label_high, with_below, with_above, size_many, many_low, size_with}
use Rattle.rules.proofs.Members.{In, in_right, filter_in, labels_in}
use Rattle.rules.proofs.Lists.{sum_append}
use Rattle.rules.proofs.Ways.{ready_out, ready_in, in_ready}
use Rattle.rules.proofs.Closed.{ways_circle, closed_with}
use Rattle.rules.proofs.Totals.{GoodOn, top_of, within_more, step_is_within}
use Rattle.rules.proofs.Tally.{filter_labels, tally, tally_first, push_more, push_less, push_equal}
use Rattle.rules.proofs.Counts.{counts_few, factorial_fits}
use Rattle.rules.proofs.Recurrence.{recurrence, best_good, led_good}
use Rattle.marks.specs.declared.marks.Marks.{Marks}
use Rattle.marks.specs.declared.ties.Ties.{Ties}
use Rattle.marks.specs.Numbers.{units_of, numbers_of}
use Rattle.marks.specs.Tied.{tied_of}
use Rattle.marks.proofs.Laws.{least, most, symmetric, low as marks_low}
use Rattle.search.specs.Above.{FilledFrom, Sound, CellOf, Led, better}
use Rattle.search.proofs.Placing.{put, put_is}

append_none : {X : Type 0} (xs : List X) → xs ++ [] ≡ xs
append_none [] = refl
append_none (x ∷ xs) = ap (λ ys. x ∷ ys) (append_none xs)

-- a sum of numbers that are not greater
sum_low : (f g : ℕ → ℕ) (xs : List ℕ) → ((x : ℕ) → f x ≤ g x) → sum_over f xs ≤ sum_over g xs
sum_low f g [] h = omega arith
sum_low f g (x ∷ xs) h = omega (arith, h x, sum_low f g xs h)

-- a number that is counted or not
at_most : (b : Bool) (c : ℕ) → cond b 0 c ≤ c
at_most b c = grind arith

cond_low : (b : Bool) (c : ℕ) → cond b c 0 ≤ c
cond_low b c = grind arith

-- some of the units xs: t is the greatest of what they lead to, and c how many reach it
pub record Reached (y : Merit) (f : ℕ → List ℤ) (by : ℕ → ℕ) (xs : List ℕ) (t : List ℤ) (c : ℕ) : Type 0 where
  pub one : (z : ℕ) × In z xs
  pub most : t ≡ greatest y (map f xs)
  pub count : c ≡ sum_over (λ x. cond (y.exceeds (greatest y (map f xs)) (f x)) 0 (by x)) xs

moved : {y : Merit} {f : ℕ → List ℤ} {by : ℕ → ℕ} {xs : List ℕ} {t t' : List ℤ} {c c' : ℕ} → t' ≡ t → c' ≡ c → Reached y f by xs t c → Reached y f by xs t' c'
moved {y} {f} {by} {xs} q r h = subst₂ (λ (u : List ℤ) (k : ℕ). Reached y f by xs u k) (sym q) (sym r) h

-- what a loop over units has found: nothing where there is none, or else the greatest and the count
abbrev pub Sofar : {T : Type 0} → (T → List ℤ) → (y : Merit) → (ℕ → List ℤ) → (ℕ → ℕ) → List ℕ → Option (T × ℕ) → Type 0
Sofar numbers y f by xs found = MatchOption found (xs ≡ []) (λ v. Reached y f by xs (numbers v.0) v.1)

-- the same of the ready units up to i, by the cells of the sets with one of them more
abbrev pub Found : {T : Type 0} → (T → List ℤ) → Merit → Marks → Ties → ℕ → ℕ → Option (T × ℕ) → Type 0
Found numbers y m ts A i found =
    Sofar numbers y (led y (numbers_of m) (tied_of ts) (units_of m) A) (λ j. count_cell y (numbers_of m) (tied_of ts) (units_of m) (with_unit A j))
    (filter (ready (tied_of ts) (units_of m) A) (labels i)) found

-- a closed set, of which the tables hold a cell
pub record Here (y : Merit) (m : Marks) (ts : Ties) (A : ℕ) : Type 0 where
  pub law : Lawful y
  pub sound : Sound m ts
  pub below : A < 2 ^ units_of m
  pub shut : closed (tied_of ts) (units_of m) A ≡ true

-- a unit that may come next
pub record Next (m : Marks) (ts : Ties) (A j : ℕ) : Type 0 where
  pub unit : label (units_of m) j ≡ true
  pub free : ready (tied_of ts) (units_of m) A j ≡ true

module _ {y : Merit} {m : Marks} {ts : Ties} {A : ℕ} (h : Here y m ts A) where
  -- names for this file: the marks, the ties, how many units there are, and what is known of them
  abbrev p : ℕ → ℕ → ℕ
  p = numbers_of m

  abbrev tied : ℕ → ℕ → Bool
  tied = tied_of ts

  abbrev n : ℕ
  n = units_of m

  law : Lawful y
  law = h.law

  two : 2 ≤ n
  two = least m

  twenty : n ≤ 20
  twenty = most m

  low : Low p
  low = marks_low m

  sm : Symmetric p
  sm = symmetric m

  straight : circular tied n ≡ false
  straight = h.sound.straight

  a : A < 2 ^ n
  a = h.below

  shut : closed tied n A ≡ true
  shut = h.shut

  rule : Searches y p tied n
  rule = recurrence y law p tied n two twenty low sm straight

  -- the ready units up to i, what a step to one leads to, and in how many ways
  abbrev some : ℕ → List ℕ
  some i = filter (ready tied n A) (labels i)

  abbrev via : ℕ → List ℤ
  via j = led y p tied n A j

  abbrev by : ℕ → ℕ
  by j = count_cell y p tied n (with_unit A j)

  some_in : (i : ℕ) → i ≤ n → (j : ℕ) → In j (some i) → In j (ready_units tied n A)
  some_in i l j h =
      let w = filter_in (ready tied n A) j (labels i) h in
      let b = labels_in i j w.0 in
      in_ready tied n A j (label_from n j b.0 (omega (arith, b.1))) w.1

  good : (i : ℕ) → i ≤ n → GoodOn y law via (some i)
  good i l j h = led_good y law p tied n two twenty low sm (ways_circle tied n straight) A a shut j (some_in i l j h)

  more : (i : ℕ) → some (i + 1) ≡ some i ++ cond (ready tied n A (i + 1)) ((i + 1) ∷ []) []
  more i = rw (add-one i) (filter_labels (ready tied n A) i)

  taken : (i : ℕ) → ready tied n A (i + 1) ≡ true → some (i + 1) ≡ some i ++ ((i + 1) ∷ [])
  taken i r = more i ∙ ap (λ (b : Bool). some i ++ cond b ((i + 1) ∷ []) []) r

  passed : (i : ℕ) → ready tied n A (i + 1) ≡ false → some (i + 1) ≡ some i
  passed i r = more i ∙ ap (λ (b : Bool). some i ++ cond b ((i + 1) ∷ []) []) r ∙ append_none (some i)

  -- a set with a ready unit is not full
  not_full : (j : ℕ) → label n j ≡ true → ready tied n A j ≡ true → size n A < n
  not_full j l r = omega (arith, size_with n A j l (ready_out tied n A j r), size_many n (with_unit A j), many_low n (with_unit A j))

  module _ (i : ℕ) (l : i < n) (r : ready tied n A (i + 1) ≡ true) where
    last : In (i + 1) (some i ++ ((i + 1) ∷ []))
    last = in_right (i + 1) (some i) ((i + 1) ∷ []) (inl refl)

    good_more : GoodOn y law via (some i ++ ((i + 1) ∷ []))
    good_more = subst (λ (xs : List ℕ). GoodOn y law via xs) (taken i r) (good (i + 1) (omega arith))

    with_last : (u : List ℤ) (c : ℕ) → u ≡ top_of y law via (some i ++ ((i + 1) ∷ [])) → c ≡ tally y law via by (some i ++ ((i + 1) ∷ []))
        → Reached y via by (some (i + 1)) u c
    with_last u c e f = subst (λ (xs : List ℕ). Reached y via by xs u c) (sym (taken i r)) (record { one = (i + 1, last); most = e; count = f })

    -- the first that is found
    first : some i ≡ [] → Reached y via by (some (i + 1)) (via (i + 1)) (by (i + 1))
    first none =
        with_last (via (i + 1)) (by (i + 1)) (ap (λ (xs : List ℕ). top_of y law via (xs ++ ((i + 1) ∷ []))) (sym none))
        (sym (tally_first y law via by (i + 1) (good_more (i + 1) last)) ∙ ap (λ (xs : List ℕ). tally y law via by (xs ++ ((i + 1) ∷ []))) (sym none))

    module _ {t : List ℤ} {c : ℕ} (s : Reached y via by (some i) t c) where
      above : y.exceeds (via (i + 1)) t ≡ true → Reached y via by (some (i + 1)) (via (i + 1)) (by (i + 1))
      above h =
          let w = push_more y law via by s.one.0 (some i) (i + 1) s.one.1 good_more (ap (λ (u : List ℤ). y.exceeds (via (i + 1)) u) (sym s.most) ∙ h) in
          with_last (via (i + 1)) (by (i + 1)) (sym w.0) (sym w.1)

      level : y.exceeds (via (i + 1)) t ≡ false → y.exceeds t (via (i + 1)) ≡ false → Reached y via by (some (i + 1)) t (c + by (i + 1))
      level h k =
          let w = push_equal y law via by s.one.0 (some i) (i + 1) s.one.1 good_more (ap (λ (u : List ℤ). y.exceeds (via (i + 1)) u) (sym s.most) ∙ h)
          (ap (λ (u : List ℤ). y.exceeds u (via (i + 1))) (sym s.most) ∙ k) in
          with_last t (c + by (i + 1)) (s.most ∙ sym w.0) (ap (λ (q : ℕ). q + by (i + 1)) s.count ∙ sym w.1)

      below : y.exceeds (via (i + 1)) t ≡ false → y.exceeds t (via (i + 1)) ≡ true → Reached y via by (some (i + 1)) t c
      below h k =
          let w = push_less y law via by s.one.0 (some i) (i + 1) s.one.1 good_more (ap (λ (u : List ℤ). y.exceeds (via (i + 1)) u) (sym s.most) ∙ h)
          (ap (λ (u : List ℤ). y.exceeds u (via (i + 1))) (sym s.most) ∙ k) in
          with_last t c (s.most ∙ sym w.0) (s.count ∙ sym w.1)

      -- the count of equal totals fits 64 bits
      fits : c + by (i + 1) < 2 ^ 64
      fits =
          let few = counts_few tied n y p A (i + 1) (omega arith) (not_full (i + 1) (label_from n (i + 1) (omega arith) (omega arith)) r) in
          let all = factorial_fits (n - size n A) (omega (arith, twenty)) in
          let listed_low = sum_low by (λ j. length (listed y p tied n (with_unit A j))) (some (i + 1))
          (λ j. cond_low (closed tied n (with_unit A j)) (length (listed y p tied n (with_unit A j)))) in
          let tally_low = sum_low (λ x. cond (y.exceeds (top_of y law via (some i)) (via x)) 0 (by x)) by (some i)
          (λ x. at_most (y.exceeds (top_of y law via (some i)) (via x)) (by x)) in
          omega (arith, s.count, ap (sum_over by) (taken i r), sum_append by (some i) ((i + 1) ∷ []))

  module _ {T : Type 0} (numbers : T → List ℤ) where
    abbrev So : ℕ → Option (T × ℕ) → Type 0
    So i found = Sofar numbers y (led y p tied n A) (λ j. count_cell y p tied n (with_unit A j)) (some i) found

    module _ (i : ℕ) (l : i < n) where
      -- a unit that is not ready changes nothing
      pub skip : (found : Option (T × ℕ)) → ready tied n A (i + 1) ≡ false → So i found → So (i + 1) found
      skip found r s = subst (λ (xs : List ℕ). Sofar numbers y (led y p tied n A) (λ j. count_cell y p tied n (with_unit A j)) xs found) (sym (passed i r)) s

      module _ (w : T × ℕ) (v : Led numbers y m ts A (i + 1) w) where
        -- one that is ready leaves the better
        pub take_in : (found : Option (T × ℕ)) → So i found → So (i + 1) (Some (better (λ s t. y.exceeds (numbers s) (numbers t)) found w))
        take_in None s = moved v.total v.count (first i l v.free s)
        take_in (Some b) s = go (y.exceeds (numbers w.0) (numbers b.0)) (y.exceeds (numbers b.0) (numbers w.0)) refl refl
          where
            over : {q : Bool} → y.exceeds (numbers w.0) (numbers b.0) ≡ q → y.exceeds (via (i + 1)) (numbers b.0) ≡ q
            over h = ap (λ (u : List ℤ). y.exceeds u (numbers b.0)) (sym v.total) ∙ h

            under : {q : Bool} → y.exceeds (numbers b.0) (numbers w.0) ≡ q → y.exceeds (numbers b.0) (via (i + 1)) ≡ q
            under h = ap (λ (u : List ℤ). y.exceeds (numbers b.0) u) (sym v.total) ∙ h

            go : (p q : Bool) → y.exceeds (numbers w.0) (numbers b.0) ≡ p → y.exceeds (numbers b.0) (numbers w.0) ≡ q
                → So (i + 1) (Some (cond p w (b.0, cond q b.1 (b.1 + w.1))))
            go true q h k = moved v.total v.count (above i l v.free s (over h))
            go false true h k = below i l v.free s (over h) (under k)
            go false false h k = moved refl (ap (λ (q : ℕ). b.1 + q) v.count) (level i l v.free s (over h) (under k))

        pub room : (found : Option (T × ℕ)) → So i found → IfSome found (λ b. b.1 + w.1 < 2 ^ 64)
        room None s = tt
        room (Some b) s = omega (arith, fits i l v.free s, v.count)

    -- the same with the label u, as the loop has it
    module _ (u : ℕ) (l : label n u ≡ true) where
      before : u - 1 < n
      before = omega (arith, label_low n u l, label_high n u l)

      is_next : u - 1 + 1 ≡ u
      is_next = omega (arith, label_low n u l)

      is_last : u - 1 + 1 ≡ u + 1 - 1
      is_last = omega (arith, label_low n u l)

      next_led : (w : T × ℕ) → Led numbers y m ts A u w → Led numbers y m ts A (u - 1 + 1) w
      next_led w v = subst (λ (j : ℕ). Led numbers y m ts A j w) (sym is_next) v

      module _ (found : Option (T × ℕ)) (s : So (u - 1) found) where
        pub has_room : (w : T × ℕ) → Led numbers y m ts A u w → IfSome found (λ b. b.1 + w.1 < 2 ^ 64)
        has_room w v = room (u - 1) before w (next_led w v) found s

        pub taken_in : (w : T × ℕ) → Led numbers y m ts A u w → (r : T × ℕ) (f : Option (T × ℕ))
            → r ≡ better (λ s t. y.exceeds (numbers s) (numbers t)) found w → f ≡ Some r → So (u + 1 - 1) f
        taken_in w v r f e q =
            subst₂ (λ (i : ℕ) (o : Option (T × ℕ)). So i o) is_last (ap Some (sym e) ∙ sym q) (take_in (u - 1) before w (next_led w v) found s)

        pub passed_over : (f : Option (T × ℕ)) → ready tied n A u ≡ false → f ≡ found → So (u + 1 - 1) f
        passed_over f r q =
            subst₂ (λ (i : ℕ) (o : Option (T × ℕ)). So i o) is_last (sym q) (skip (u - 1) before found (ap (ready tied n A) is_next ∙ r) s)

    -- after all units
    all_found : (z : T) → numbers z ≡ zeros y.caps → (found : Option (T × ℕ)) → So n found → CellOf numbers y m ts A (unwrap_or found (z, 1))
    all_found z e (Some v) s =
        let w = ready_in tied n A s.one.0 s.one.1 in
        let r = rule.cells_next A a (not_full s.one.0 w.0 w.1) shut in
        record {
          total = s.most ∙ sym r.0;
          count = s.count ∙ ap (λ (u : List ℤ). sum_over (λ x. cond (y.exceeds u (via x)) 0 (by x)) (ready_units tied n A)) (sym r.0) ∙ sym r.1;
        }
    all_found z e None s =
        let none : length (ready_units tied n A) ≡ 0 = ap length s in
        let k : size n A ≡ n = elim (cases_eq (size n A) n) [
          | inl q ↦ q
          | inr ne ↦ absurd (omega (arith, rule.some_next A (omega (arith, size_many n A, many_low n A))))
        ] in
        let r = rule.cells_full A k in
        record { total = e ∙ sym r.0; count = sym r.1 }

    -- the same, as the loop ends
    pub ended : (i : ℕ) → i ≡ n → (found f : Option (T × ℕ)) → So i found → f ≡ found → (z : T) → numbers z ≡ zeros y.caps
        → (r : T × ℕ) → r ≡ unwrap_or f (z, 1) → CellOf numbers y m ts A r
    ended i at_end found f s same z e r q =
        subst (λ (v : T × ℕ). CellOf numbers y m ts A v) (sym q) (all_found z e f (subst₂ (λ (k : ℕ) (o : Option (T × ℕ)). So k o) at_end (sym same) s))

  -- one ready unit
  module _ {j : ℕ} (next_is : Next m ts A j) where
    l : label n j ≡ true
    l = next_is.unit

    r : ready tied n A j ≡ true
    r = next_is.free

    pub out : has A j ≡ false
    out = ready_out tied n A j r

    pub next_below : with_unit A j < 2 ^ n
    next_below = with_below n A j l a out

    step_near : Within 1 y.caps (y.step p n A j)
    step_near = step_is_within y law p tied n two twenty low sm A j a l out

    -- what is added, and the sum, lie near enough to zero
    pub near : Within 21 y.caps (y.step p n A j) × (Within 21 y.caps (total_cell y p tied n (with_unit A j)) × Within 21 y.caps (via j))
    near = (
      within_more 1 21 y.caps (y.step p n A j) (omega arith) step_near,
      (
        subst (λ (u : List ℤ). Within 21 y.caps u)
            (sym (cond-true (closed tied n (with_unit A j)) (best y p tied n (with_unit A j)) (zeros y.caps) (closed_with tied n A j shut l r)))
            (best_good y law p tied n two twenty low sm (ways_circle tied n straight) (with_unit A j) next_below),
        led_good y law p tied n two twenty low sm (ways_circle tied n straight) A a shut j (in_ready tied n A j l r),
      ),
    )

    module _ {T : Type 0} {numbers : T → List ℤ} {totals : List T} {counts : List ℕ} (above : FilledFrom numbers y p tied n (A + 1) totals counts)
        {next : ℕ} (put_to : next ≡ put A j) where
      e : next ≡ with_unit A j
      e = put_to ∙ put_is n A j twenty l out

      pub in_room : {T : Type 0} (a : List T) → 2 ^ n ≤ length a → next < length a
      in_room a k = omega (arith, e, next_below, k)

      pub read_total : {x : T} → x ≡ get_or totals next x → numbers x ≡ total_cell y p tied n (with_unit A j)
      read_total {x} q =
          ap numbers (q ∙ ap (λ (k : ℕ). get_or totals k x) e) ∙ above.total (with_unit A j) x (omega (arith, with_above A j)) next_below

      pub read_count : get_or counts next 0 ≡ by j
      read_count = ap (λ (k : ℕ). get_or counts k 0) e ∙ above.count (with_unit A j) (omega (arith, with_above A j)) next_below

      -- the sum of the step and what was read is what the step leads to
      pub told : {x u v : T} → x ≡ get_or totals next x → numbers u ≡ y.step p n A j → numbers v ≡ y.plus (numbers u) (numbers x)
          → numbers v ≡ via j
      told q s w = w ∙ (λ k. y.plus (s k) (read_total q k))
