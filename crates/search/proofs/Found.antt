-- What the first cells of filled tables say, and what a call answers.
use Rattle.std.proofs.Common.{rules, ◌≡◌, ℕ, ◌-◌, ◌^◌, ◌≤◌, Bool, true, false, cond, not, leb, ◌==◌, List, ◌++◌, length, drop, get_or, ℤ, Some, None, Ok, Err, Result, sym, refl, ap, ◌∙◌, subst, arith}
use Rattle.std.proofs.lemmas.Nat.{pow_pos}
use Rattle.std.proofs.lemmas.Bool.{cond-true, not-false, eq-eqb, and_parts, leb-true}
use Rattle.std.proofs.lemmas.Bool.Decides.{nat_tests}
use Rattle.rules.specs.Orders.{closed, circular}
use Rattle.rules.specs.Yardsticks.{Merit, zeros}
use Rattle.rules.specs.Ranking.{best, listed}
use Rattle.rules.proofs.Closed.{closed_none}
use Rattle.marks.specs.declared.marks.Marks.{Marks}
use Rattle.marks.specs.declared.ties.Ties.{Ties}
use Rattle.marks.specs.Numbers.{units_of, numbers_of}
use Rattle.marks.specs.Tied.{tied_units, tied_of}
use Rattle.search.specs.declared.best.SearchFault.{SearchFault}
use Rattle.search.specs.declared.best.SearchFault.TheVariants.{Units, Short, Circle, Number}
use Rattle.search.specs.Tables.{Filled}
use Rattle.search.specs.Above.{Sound, Room}
use Rattle.search.specs.Listing.{ways_count, listed_order}
use Rattle.search.specs.Best.{short, numbered, first_fault, Lent, best_count, fault, Refilled, Left, Searches}

module _ {T : Type 0} (numbers : T → List ℤ) (y : Merit) (p : ℕ → ℕ → ℕ) (tied : ℕ → ℕ → Bool) (n : ℕ) (totals : List T) (counts : List ℕ)
    (s : Filled numbers y p tied n totals counts) where
  pub first_total : (v : T) → v ≡ get_or totals 0 v → numbers v ≡ best y p tied n 0
  first_total v e =
      ap numbers e ∙ s.total 0 v (pow_pos n) ∙ cond-true (closed tied n 0) (best y p tied n 0) (zeros y.caps) (closed_none tied n)

  pub first_count : get_or counts 0 0 ≡ length (listed y p tied n 0)
  first_count =
      s.count 0 (pow_pos n) ∙ cond-true (closed tied n 0) (length (listed y p tied n 0)) 0 (closed_none tied n)

-- what is not short has room
has_room : (n a b r : ℕ) → short n a b r ≡ false → (2 ^ n ≤ a) × ((2 ^ n ≤ b) × (n ≤ r))
has_room n a b r e = grind (arith, nat_tests)

-- a number lies from 1 to the count
in_range : (count k : ℕ) → true ≡ numbered count k → (1 ≤ k) × (k ≤ count)
in_range count k e =
    let w = and_parts (leb 1 k) (leb k count) (sym e) in
    (leb-true 1 k w.0, leb-true k count w.1)

-- a fault that leaves the number open is not that of the number
not_number : (same little circle : Bool) → first_fault same little circle true ≡ Some Number → ⊥
not_number true true circle e = search rules
not_number true false true e = search rules
not_number true false false e = search rules
not_number false little circle e = search rules

-- the same units and enough room, but a circle
pub circle_first : (m : Marks) (t : Ties) (totals counts row : ℕ) → tied_units t ≡ units_of m → short (units_of m) totals counts row ≡ false
    → false ≡ not (circular (tied_of t) (tied_units t)) → (number : Bool)
    → first_fault (tied_units t == units_of m) (short (units_of m) totals counts row) (circular (tied_of t) (units_of m)) number ≡ Some Circle
circle_first m t totals counts row same enough q number =
    let circle : circular (tied_of t) (units_of m) ≡ true =
    subst (λ (n : ℕ). circular (tied_of t) n ≡ true) same (not-false (circular (tied_of t) (tied_units t)) (sym q)) in
    λ i. first_fault (eq-eqb (tied_units t) (units_of m) same i) (enough i) (circle i) number

module _ {T : Type 0} (numbers : T → List ℤ) (y : Merit) (k : ℕ) where
  -- a refusal before anything is written
  pub refused : (m : Marks) (t : Ties) (s : Lent T) (f : SearchFault)
      → ((number : Bool) → first_fault (tied_units t == units_of m) (short (units_of m) (length s.totals) (length s.counts) (length s.row))
      (circular (tied_of t) (units_of m)) number ≡ Some f)
      → (r : Result (T × ℕ) SearchFault) → r ≡ Err f → Searches numbers y m t k s s r
  refused m t s f h r e =
      subst (λ (q : Result (T × ℕ) SearchFault). Searches numbers y m t k s s q) (sym e) (h (numbered (best_count numbers y m t) k), left f h)
    where
      left : (f : SearchFault)
          → ((number : Bool) → first_fault (tied_units t == units_of m) (short (units_of m) (length s.totals) (length s.counts) (length s.row))
          (circular (tied_of t) (units_of m)) number ≡ Some f) → Left numbers y m t s s f
      left Units h = refl
      left Short h = refl
      left Circle h = refl
      left Number h = absurd (not_number _ _ _ (h true))

  module _ {m : Marks} {t : Ties} (sound : Sound m t) (s : Lent T) (enough : short (units_of m) (length s.totals) (length s.counts) (length s.row) ≡ false) where
    pub room : Room (units_of m) s.totals s.counts
    room = let w = has_room (units_of m) (length s.totals) (length s.counts) (length s.row) enough in record { for_totals = w.0; for_counts = w.1.0 }

    pub places : units_of m ≤ length s.row
    places = (has_room (units_of m) (length s.totals) (length s.counts) (length s.row) enough).1.1

    -- only the number can be wrong
    number_left : (c : ℕ) (b : Bool) → c ≡ best_count numbers y m t → b ≡ numbered c k → fault numbers y m t k s ≡ cond b None (Some Number)
    number_left c b e f =
        let h : numbered (best_count numbers y m t) k ≡ b = ap (λ (n : ℕ). numbered n k) (sym e) ∙ sym f in
        λ i. first_fault (eq-eqb (tied_units t) (units_of m) sound.same i) (enough i) (sound.straight i) (h i)

    module _ (e : Lent T) (tables : Refilled numbers y m t s e) where
      counted : get_or e.counts 0 0 ≡ best_count numbers y m t
      counted = first_count numbers y (numbers_of m) (tied_of t) (units_of m) e.totals e.counts tables.filled

      pub no_number : false ≡ numbered (get_or e.counts 0 0) k → e.row ≡ s.row → Searches numbers y m t k s e (Err Number)
      no_number f r = (number_left (get_or e.counts 0 0) false counted f, (tables, r))

      pub numbers_an_order : true ≡ numbered (get_or e.counts 0 0) k → (1 ≤ k) × (k ≤ ways_count y m t 0)
      numbers_an_order f = let w = in_range (get_or e.counts 0 0) k f in (w.0, omega (arith, w.1, tables.filled.count 0 (pow_pos (units_of m))))

      pub answered : true ≡ numbered (get_or e.counts 0 0) k → (v : T) → v ≡ get_or e.totals 0 v
          → e.row ≡ listed_order y m t (k - 1) ++ drop (units_of m) s.row → Searches numbers y m t k s e (Ok (v, get_or e.counts 0 0))
      answered f v q r = record {
        no_fault = number_left (get_or e.counts 0 0) true counted f;
        greatest = first_total numbers y (numbers_of m) (tied_of t) (units_of m) e.totals e.counts tables.filled v q;
        counted = counted;
        tables = tables;
        order = r;
      }

-- the first two tests are passed, and there is a circle
pub circle_left : {T : Type 0} (numbers : T → List ℤ) (y : Merit) (m : Marks) (t : Ties) (k : ℕ) (s : Lent T) (u v : ℕ)
    → u ≡ tied_units t → v ≡ units_of m → u ≡ v → false ≡ short v (length s.totals) (length s.counts) (length s.row)
    → false ≡ not (circular (tied_of t) (tied_units t)) → fault numbers y m t k s ≡ Some Circle
circle_left numbers y m t k s u v e f g h q =
    let same : tied_units t ≡ units_of m = sym e ∙ g ∙ f in
    let enough : short (units_of m) (length s.totals) (length s.counts) (length s.row) ≡ false =
    ap (λ (n : ℕ). short n (length s.totals) (length s.counts) (length s.row)) (sym f) ∙ sym h in
    let circle : circular (tied_of t) (units_of m) ≡ true =
    subst (λ (n : ℕ). circular (tied_of t) n ≡ true) same (not-false (circular (tied_of t) (tied_units t)) (sym q)) in
    λ i. first_fault (eq-eqb (tied_units t) (units_of m) same i) (enough i) (circle i) (numbered (best_count numbers y m t) k)
