-- The numbers of the cells, copied row by row.
use Rattle.std.proofs.Common.{◌≡◌, ℕ, ◌+◌, ◌<◌, ◌≤◌, min, max, true, false, cond, ◌&&◌, leb, ◌≢◌, get_or, sym, refl, ap, ◌∙◌, inl, inr, arith, Result, is_ok}
use Rattle.std.proofs.lemmas.Bool.{cases_Bool, cases_order, cases_eq}
use Rattle.std.proofs.lemmas.Bool.Decides.{nat_tests}
use Rattle.rules.specs.declared.Mark.{Mark}
use Rattle.rules.specs.declared.Mark.TheVariants.{Gap}
use Rattle.rules.specs.Sheets.{same_pair}
use Rattle.marks.specs.declared.marks.Marks.{Marks}
use Rattle.marks.specs.declared.faults.MarkFault.{MarkFault}
use Rattle.marks.specs.Cells.{pair}
use Rattle.marks.specs.Numbers.{units_of, numbers_of, Put}
use Rattle.marks.proofs.Cells.{two}
use Rattle.marks.proofs.Laws.{symmetric}
use Rattle.cells.specs.declared.triangle.Triangle.{Triangle}
use Rattle.cells.specs.Places.{place}
use Rattle.cells.specs.Read.{mark_at}
use Rattle.cells.specs.Gaps.{low_value, RowCopied, AsNumbers}

-- the pairs of a and the labels from a on to below b are copied
pub record RowSoFar (t : Triangle) (a b : ℕ) (m k : Marks) : Type 0 where
  pub size : units_of k ≡ units_of m
  pub here : (y : ℕ) → a < y → y < b → numbers_of k a y ≡ low_value (mark_at t a y)
  pub others : (x y : ℕ) → x < y → x ≢ a → numbers_of k x y ≡ numbers_of m x y

-- one pair more
pub row_more : {t : Triangle} {a b d : ℕ} {v : Mark} {m k l : Marks} {r : Result (Unit {0}) MarkFault} → RowSoFar t a b m k → Put k a b d r l
    → v ≡ mark_at t a b → d ≡ low_value v → d ≤ 10000 → 1 ≤ a → a < b → b ≤ units_of m → RowSoFar t a (b + 1) m l
row_more {t} {a} {b} {d} {v} {m} {k} {l} {r} s p read is_low low la lb hb = record {
  size = p.size ∙ s.size;
  here = λ y g q. elim (cases_eq y b) [
    | inl z ↦ (
        let is : same_pair a b a y ≡ true = grind (arith, nat_tests) in
        p.marks a y ∙ (λ j. cond (done j && is j) d (numbers_of k a y)) ∙ is_low ∙ ap low_value read ∙ ap (λ (w : ℕ). low_value (mark_at t a w)) (sym z))
    | inr ne ↦ (
        let is : same_pair a b a y ≡ false = grind (arith, nat_tests) in
        p.marks a y ∙ (λ j. cond (done j && is j) d (numbers_of k a y)) ∙ s.here y g (omega arith))
  ];
  others = λ x y g ne.
      let is : same_pair a b x y ≡ false = grind (arith, nat_tests) in
      p.marks x y ∙ (λ j. cond (done j && is j) d (numbers_of k x y)) ∙ s.others x y g ne;
}
  where
    done : is_ok r ≡ true
    done =
        let q : units_of k ≡ units_of m = s.size in
        let labels : pair (units_of k) a b ≡ true = grind (arith, nat_tests) in
        let few : leb d 10000 ≡ true = grind (arith, nat_tests) in
        rw (p.answered, labels, few) refl

-- the whole row
pub row_whole : {t : Triangle} {a b : ℕ} {m k : Marks} → RowSoFar t a b m k → units_of m < b → RowCopied t a m k
row_whole s l = record { size = s.size; here = λ y g q. s.here y g (omega arith); others = s.others }

-- the pairs whose lower label is below a are copied
pub record SoFar (t : Triangle) (n a : ℕ) (m : Marks) : Type 0 where
  pub size : units_of m ≡ n
  pub here : (x y : ℕ) → 1 ≤ x → x < y → y ≤ n → x < a → numbers_of m x y ≡ low_value (mark_at t x y)

-- one row more
pub more : {t : Triangle} {n a : ℕ} {m k : Marks} → SoFar t n a m → RowCopied t a m k → SoFar t n (a + 1) k
more {t} {n} {a} {m} {k} s r = record {
  size = r.size ∙ s.size;
  here = λ x y lx l h q. elim (cases_eq x a) [
    | inl z ↦ (let u : a < y = omega arith in let v : y ≤ units_of m = omega (arith, s.size) in
        ap (λ (w : ℕ). numbers_of k w y) z ∙ r.here y u v ∙ ap (λ (w : ℕ). low_value (mark_at t w y)) (sym z))
    | inr ne ↦ r.others x y l ne ∙ s.here x y lx l h (omega arith)
  ];
}

-- a pair has no direction
mark_turned : (t : Triangle) (a b : ℕ) → mark_at t a b ≡ mark_at t b a
mark_turned t a b =
    let p : pair 20 a b ≡ pair 20 b a = grind (arith, nat_tests) in
    let u : max a b ≡ max b a = omega arith in
    let v : min a b ≡ min b a = omega arith in
    let e : place a b ≡ place b a = rw (u, v) in
    λ i. cond (p i) (get_or t.cells (e i) Gap) Gap

-- all pairs
pub all_copied : {t : Triangle} {n a : ℕ} {m : Marks} → SoFar t n a m → n ≤ a → AsNumbers n t m
all_copied {t} {n} {a} {m} s h = record {
  size = s.size;
  marks = λ x y. elim (cases_Bool (pair n x y)) [
    | inl z ↦ (let w = two n x y z in
        rw z (elim (cases_order x y) [
          | inl e ↦ absurd (w.apart e)
          | inr (inl l) ↦ s.here x y w.a_low l w.b_high (omega arith)
          | inr (inr l) ↦ symmetric m x y ∙ s.here y x w.b_low l w.a_high (omega arith) ∙ ap low_value (mark_turned t y x)
        ]))
    | inr z ↦ rw z (none x y z)
  ];
}
  where
    none : (x y : ℕ) → pair n x y ≡ false → numbers_of m x y ≡ 0
    none x y z = let e = s.size in let q : pair (units_of m) x y ≡ false = rw e z in rw q
