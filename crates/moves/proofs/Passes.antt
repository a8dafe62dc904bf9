-- Passes over the moves: what holds before each pass and in it, and how it ends.
use Rattle.std.proofs.Common.{◌≡◌, ℕ, zero, suc, ◌+◌, ◌-◌, ◌<◌, ◌≤◌, Bool, true, false, eqb, List, [], ◌∷◌, ◌++◌, map, length, get_or, take, ℤ, filter, sym, refl, ap, ◌∙◌, subst, ⊎_elim, arith, append-nil}
use Rattle.std.specs.List.{range_with_len}
use Rattle.std.proofs.lemmas.List.{take_all, drop_all}
use Rattle.std.proofs.lemmas.Bool.{cond-true, cond-false, ne_eqb, and_parts, cases_lt}
use Rattle.rules.specs.Orders.{Order, is_order, keeps}
use Rattle.rules.specs.Yardsticks.{Merit}
use Rattle.rules.specs.Moves.{Moves, LawfulMoves, Improved, better, improving}
use Rattle.rules.proofs.Rows.{means_is_order}
use Rattle.marks.specs.declared.marks.Marks.{Marks}
use Rattle.marks.specs.declared.ties.Ties.{Ties}
use Rattle.marks.specs.Numbers.{units_of, numbers_of}
use Rattle.marks.specs.Tied.{tied_of}
use Rattle.yardsticks.specs.Totals.{order_of, total_of}
use Rattle.moves.specs.Trials.{passes}
use Rattle.moves.specs.Improving.{settled_at, improved_by, Startable, Reached}

-- what a filter keeps of f a, f (a + 1) .. starts with the first that passes
module _ {X : Type 0} (p : X → Bool) (f : ℕ → X) where
  none_kept : (c a : ℕ) → ((j : ℕ) → a ≤ j → j < a + c → p (f j) ≡ false) → filter p (map f (range_with_len a c)) ≡ []
  none_kept zero a h = refl
  none_kept (suc c) a h =
      cond-false (p (f a)) _ _ (h a (omega arith) (omega arith)) ∙ none_kept c (a + 1) (λ j l b. h j (omega arith) (omega arith))

  first_kept : (c a i : ℕ) → a ≤ i → i < a + c → ((j : ℕ) → a ≤ j → j < i → p (f j) ≡ false) → p (f i) ≡ true
      → (more : List X) × (filter p (map f (range_with_len a c)) ≡ f i ∷ more)
  first_kept zero a i l b h e = absurd (omega arith)
  first_kept (suc c) a i l b h e = ⊎_elim (later (first_kept c (a + 1) i)) here (cases_lt a i)
    where
      rest : List X
      rest = filter p (map f (range_with_len (a + 1) c))

      here : i ≤ a → (more : List X) × (filter p (map f (range_with_len a (suc c))) ≡ f i ∷ more)
      here q =
          let s : i ≡ a = omega arith in
          (rest, cond-true (p (f a)) (f a ∷ rest) rest (subst (λ (x : ℕ). p (f x) ≡ true) s e) ∙ ap (λ (x : ℕ). f x ∷ rest) (sym s))

      later : (a + 1 ≤ i → i < a + 1 + c → ((j : ℕ) → a + 1 ≤ j → j < i → p (f j) ≡ false) → p (f i) ≡ true
          → (more : List X) × (rest ≡ f i ∷ more))
          → a < i → (more : List X) × (filter p (map f (range_with_len a (suc c))) ≡ f i ∷ more)
      later rec q =
          let r = rec (omega arith) (omega arith) (λ j g k. h j (omega arith) k) e in
          (r.0, cond-false (p (f a)) (f a ∷ rest) rest (h a (omega arith) q) ∙ r.1)

module _ (k : Moves) (y : Merit) (m : Marks) (t : Ties) where
  abbrev n : ℕ
  n = units_of m

  -- none of the moves below i gives a better order
  abbrev pub NoneBelow : List ℤ → List ℕ → ℕ → Type 0
  NoneBelow u o i = (j : ℕ) → 1 ≤ j → j < i → passes y m t u (k.moved n j o) ≡ false

  -- Before a pass: a tie-keeping order with its total, and what is left to do from it comes to the same as all from the
  -- order at the start.
  pub record Sofar (limit : ℕ) (from o : List ℕ) (made : ℕ) (u : List ℤ) : Type 0 where
    pub within : made ≤ limit
    pub order : Order n o
    pub ties : keeps (tied_of t) o ≡ true
    pub total : u ≡ total_of y m o
    pub moves : made + (improved_by k y m t (limit - made) o).made ≡ (improved_by k y m t limit from).made
    pub ends : (improved_by k y m t (limit - made) o).row ≡ (improved_by k y m t limit from).row

  -- In a pass over some moves, which are all: none was made in it yet, and none of those below i gives a better order.
  pub record Scan (limit : ℕ) (from o : List ℕ) (had made : ℕ) (u : List ℤ) (many i : ℕ) : Type 0 where
    pub all : many ≡ k.many n
    pub same_made : made ≡ had
    pub so : Sofar limit from o made u
    pub none : NoneBelow u o i

  -- In a pass, where the move i was made on trial.
  pub record Turn (limit : ℕ) (from o after : List ℕ) (had made : ℕ) (u : List ℤ) (many i : ℕ) : Type 0 where
    pub scan : Scan limit from o had made u many i
    pub least : 1 ≤ i
    pub most : i ≤ k.many n
    pub is : after ≡ k.moved n i o
    pub order : Order n after

  -- an order is as many of itself as there are units
  pub whole : (o : List ℕ) → length o ≡ n → order_of m o ≡ o
  whole o e = take_all n o (omega arith)

  pub starts : {T : Type 0} (numbers : T → List ℤ) (limit : ℕ) (start : T) (o : List ℕ) → Startable k y m t numbers start o → length o ≡ n
      → Sofar limit o o 0 (numbers start)
  starts numbers limit start o s e =
      let w = whole o e in
      let all : limit - 0 ≡ limit = omega arith in
      record {
        within = omega arith;
        order = subst (Order n) w s.order;
        ties = subst (λ (q : List ℕ). keeps (tied_of t) q ≡ true) w s.ties;
        total = s.total ∙ ap (total_of y m) w;
        moves = omega (arith, ap (λ (l : ℕ). (improved_by k y m t l o).made) all);
        ends = ap (λ (l : ℕ). (improved_by k y m t l o).row) all;
      }

  pub turn : LawfulMoves k → {limit : ℕ} {from o after : List ℕ} {had made many i : ℕ} {u : List ℤ} → Scan limit from o had made u many i
      → 1 ≤ i → i ≤ many → after ≡ k.moved (length o) i o → Turn limit from o after had made u many i
  turn law {o = o} {after = after} {i = i} s l b moved =
      let is : after ≡ k.moved n i o = moved ∙ ap (λ (x : ℕ). k.moved x i o) s.so.order.as_many in
      let most : i ≤ k.many n = omega (arith, s.all) in
      record { scan = s; least = l; most = most; is = is; order = subst (Order n) (sym is) (law.order_again n i o l most s.so.order) }

  module _ {limit : ℕ} {from o : List ℕ} {made : ℕ} {u : List ℤ} (so : Sofar limit from o made u) where
    -- the test of a trial is the rulebook's
    same : (b : Bool) (q : List ℕ) → passes y m t u q ≡ b → better k y (numbers_of m) (tied_of t) n o q ≡ b
    same b q e = subst (λ (w : List ℤ). passes y m t w q ≡ b) so.total e

    -- no move gives a better order
    none_better : {i : ℕ} → NoneBelow u o i → k.many n < i → settled_at k y m t o ≡ true
    none_better none l =
        ap (λ (q : List (List ℕ)). eqb (length q) 0)
        (none_kept (better k y (numbers_of m) (tied_of t) n o) (λ j. k.moved n j o) (k.many n) 1 (λ j a b. same false (k.moved n j o) (none j a (omega arith))))

    -- what is answered where nothing is left to do
    answered : {T : Type 0} (numbers : T → List ℤ) (best : T) → numbers best ≡ u → length from ≡ n → (s : Bool) → s ≡ settled_at k y m t o
        → improved_by k y m t (limit - made) o ≡ record { made = 0; row = o }
        → Reached k y m t numbers limit from o (record { made = made; total = best; settled = s })
    answered numbers best is long s e stop =
        let w = sym (whole from long) in
        let end : o ≡ (improved_by k y m t limit (order_of m from)).row =
        ap (λ (d : Improved). d.row) (sym stop) ∙ so.ends ∙ ap (λ (q : List ℕ). (improved_by k y m t limit q).row) w in
        record {
          made = omega (arith, so.moves, ap (λ (d : Improved). d.made) stop, ap (λ (q : List ℕ). (improved_by k y m t limit q).made) w);
          total = is ∙ so.total ∙ ap (total_of y m) end;
          settled = e ∙ ap (settled_at k y m t) end;
          order = end ∙ sym (append-nil _) ∙ ap (λ (l : List ℕ). (improved_by k y m t limit (order_of m from)).row ++ l) (sym (drop_all n from (omega arith)));
        }

  -- a settled order stays, whatever the limit
  stays : (limit : ℕ) (o : List ℕ) → settled_at k y m t o ≡ true → improved_by k y m t limit o ≡ record { made = 0; row = o }
  stays zero o s = refl
  stays (suc limit) o s = cond-true (settled_at k y m t o) _ _ s

  -- otherwise the first better order follows
  goes : (limit : ℕ) (o next : List ℕ) → settled_at k y m t o ≡ false → get_or (improving k y (numbers_of m) (tied_of t) n o) 0 [] ≡ next
      → improved_by k y m t (suc limit) o
      ≡ record { made = suc (improved_by k y m t limit next).made; row = (improved_by k y m t limit next).row }
  goes limit o next s e =
      cond-false (settled_at k y m t o) _ _ s
      ∙ ap (λ (q : List ℕ). let d = improved_by k y m t limit q in record { made = suc d.made; row = d.row }) e

  -- no move gives a better order
  pub ends_settled : {T : Type 0} (numbers : T → List ℤ) (best : T) {limit : ℕ} {from o : List ℕ} {had made many i : ℕ} → length from ≡ n
      → Scan limit from o had made (numbers best) many i → many < i
      → Reached k y m t numbers limit from o (record { made = made; total = best; settled = true })
  ends_settled numbers best {limit = limit} {o = o} {made = made} long w l =
      let s = none_better w.so w.none (omega (arith, w.all, l)) in
      answered w.so numbers best refl long true (sym s) (stays (limit - made) o s)

  module _ {limit : ℕ} {from o after : List ℕ} {had made many : ℕ} {u : List ℤ} {i : ℕ} (w : Turn limit from o after had made u many i) where
    -- the order on trial
    on_trial : (b : Bool) → passes y m t u (order_of m after) ≡ b → passes y m t u (k.moved n i o) ≡ b
    on_trial b e = subst (λ (q : List ℕ). passes y m t u q ≡ b) (whole after w.order.as_many ∙ w.is) e

    pub is_tried : is_order n (order_of m after) ≡ true
    is_tried = ap (is_order n) (whole after w.order.as_many) ∙ means_is_order n after w.order

    -- the move is taken back
    pub put_back : (saved back : List ℕ) → take (length o) saved ≡ o → back ≡ take (length after) saved → back ≡ o
    put_back saved back s e =
        let l : length after ≡ length o = omega (arith, w.order.as_many, w.scan.so.order.as_many) in
        e ∙ ap (λ (x : ℕ). take x saved) l ∙ s

    -- it does not give a better order
    pub scanned_more : passes y m t u (order_of m after) ≡ false → (back : List ℕ) → back ≡ o → Scan limit from back had made u many (i + 1)
    scanned_more fails back e =
        subst (λ (q : List ℕ). Scan limit from q had made u many (i + 1)) (sym e) (record {
          all = w.scan.all;
          same_made = w.scan.same_made;
          so = w.scan.so;
          none = λ j l b. ⊎_elim (w.scan.none j l) (λ q. let s : i ≡ j = omega arith in subst (λ (x : ℕ). passes y m t u (k.moved n x o) ≡ false) s (on_trial false fails)) (cases_lt j i);
        })

    module _ (holds : passes y m t u (order_of m after) ≡ true) where
      -- it does, and it is the first
      first_better : (more : List (List ℕ)) × (improving k y (numbers_of m) (tied_of t) n o ≡ k.moved n i o ∷ more)
      first_better =
          first_kept (better k y (numbers_of m) (tied_of t) n o) (λ j. k.moved n j o) (k.many n) 1 i w.least (omega (arith, w.most))
          (λ j l b. same w.scan.so false (k.moved n j o) (w.scan.none j l b)) (same w.scan.so true (k.moved n i o) (on_trial true holds))

      unsettled : settled_at k y m t o ≡ false
      unsettled =
          ne_eqb (length (improving k y (numbers_of m) (tied_of t) n o)) 0
          (λ e. let z = ap length first_better.1 in omega (arith, z, e))

      -- it is kept
      pub goes_on : (v : List ℤ) → v ≡ total_of y m (order_of m after) → made < limit → (back : List ℕ) → back ≡ after → Sofar limit from back (made + 1) v
      goes_on v e less back b =
          let so = w.scan.so in
          let left : limit - made ≡ suc (limit - (made + 1)) = omega arith in
          let next : get_or (improving k y (numbers_of m) (tied_of t) n o) 0 [] ≡ after =
          ap (λ (q : List (List ℕ)). get_or q 0 []) first_better.1 ∙ sym w.is in
          let on : improved_by k y m t (limit - made) o ≡ _ =
          ap (λ (q : ℕ). improved_by k y m t q o) left ∙ goes (limit - (made + 1)) o after unsettled next in
          let all = whole after w.order.as_many in
          subst (λ (r : List ℕ). Sofar limit from r (made + 1) v) (sym b) (record {
            within = omega arith;
            order = w.order;
            ties = subst (λ (q : List ℕ). keeps (tied_of t) q ≡ true) all (and_parts (keeps (tied_of t) (order_of m after)) _ holds).0;
            total = e ∙ ap (total_of y m) all;
            moves = omega (arith, so.moves, ap (λ (d : Improved). d.made) on);
            ends = ap (λ (d : Improved). d.row) (sym on) ∙ so.ends;
          })

      -- the limit is reached, and it is taken back
      pub ends_limited : {T : Type 0} (numbers : T → List ℤ) (best : T) → numbers best ≡ u → length from ≡ n → made ≡ limit → (back : List ℕ) → back ≡ o
          → Reached k y m t numbers limit from back (record { made = made; total = best; settled = false })
      ends_limited numbers best is long full back b =
          let z : limit - made ≡ 0 = omega arith in
          subst (λ (q : List ℕ). Reached k y m t numbers limit from q (record { made = made; total = best; settled = false })) (sym b)
          (answered w.scan.so numbers best is long false (sym unsettled) (ap (λ (q : ℕ). improved_by k y m t q o) z))
