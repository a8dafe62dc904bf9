-- What is read in the cells of the marks, at first and after a pair got its mark.
use Rattle.std.proofs.Common.{◌≡◌, ℕ, zero, suc, ◌<◌, ◌≤◌, true, false, cond, ◌≢◌, ◌⊎◌, List, length, get_or, set, replicate, sym, refl, ap, ◌∙◌, inl, inr, arith, length-set}
use Rattle.std.proofs.lemmas.Bool.{cases_Bool}
use Rattle.std.proofs.lemmas.Bool.Decides.{nat_tests}
use Rattle.std.proofs.lemmas.List.{get_or-set_same, get_or-set_other}
use Rattle.rules.specs.Units.{label}
use Rattle.rules.specs.Sheets.{same_pair}
use Rattle.rules.specs.Yardsticks.{Low, Symmetric}
use Rattle.marks.specs.Cells.{place, pair, read}

-- what the test of a pair says
pub record Two (n a b : ℕ) : Type 0 where
  pub a_low : 1 ≤ a
  pub a_high : a ≤ n
  pub b_low : 1 ≤ b
  pub b_high : b ≤ n
  pub apart : a ≢ b

pub two : (n a b : ℕ) → pair n a b ≡ true → Two n a b
two n a b e = grind (arith, nat_tests)

pub pair_from : (n a b : ℕ) → Two n a b → pair n a b ≡ true
pair_from n a b t = grind (arith, nat_tests)

-- cells that are all 0
pub all_zero : (k i : ℕ) → ◌≡◌ {A = ℕ} (get_or (replicate k 0) i 0) 0
all_zero zero i = refl
all_zero (suc k) zero = refl
all_zero (suc k) (suc i) = all_zero k i

pub read_none : (n : ℕ) (cells : List ℕ) (k : ℕ) → cells ≡ replicate k 0 → (x y : ℕ) → read n cells x y ≡ 0
read_none n cells k e x y = elim (pair n x y) as (λ b. cond b (get_or cells (place x y) 0) 0 ≡ 0) [
  | true ↦ ap (λ cs. get_or cs (place x y) 0) e ∙ all_zero k (place x y)
  | false ↦ refl
]

-- two pairs of labels lie at two cells
place_tells : (n a b x y : ℕ) → n ≤ 20 → Two n a b → Two n x y → place a b ≡ place x y → (a ≡ x) × (b ≡ y)
place_tells n a b x y m t u e = (omega arith, omega arith)

pair_swap : (n a b : ℕ) → Two n a b → Two n b a
pair_swap n a b t = record {
  a_low = t.b_low;
  a_high = t.b_high;
  b_low = t.a_low;
  b_high = t.a_high;
  apart = λ e. t.apart (sym e);
}

module _ (n : ℕ) (cells : List ℕ) (a b d : ℕ) (m : n ≤ 20) (l : length cells ≡ 400) (t : Two n a b) where
  -- the cells after the pair of a and b got the mark d
  abbrev put : List ℕ
  put = set (set cells (place a b) d) (place b a) d

  there : get_or put (place a b) 0 ≡ d
  there =
      let ne : place a b ≢ place b a = λ e. t.apart (place_tells n a b b a m t (pair_swap n a b t) e).0 in
      let lt : place a b < length cells = omega arith in
      get_or-set_other (set cells (place a b) d) (place b a) (place a b) d 0 ne ∙ get_or-set_same cells (place a b) d 0 lt

  back : get_or put (place b a) 0 ≡ d
  back =
      let lt : place b a < length (set cells (place a b) d) = simp length-set (omega arith) in
      get_or-set_same (set cells (place a b) d) (place b a) d 0 lt

  elsewhere : (x y : ℕ) → Two n x y → same_pair a b x y ≡ false → get_or put (place x y) 0 ≡ get_or cells (place x y) 0
  elsewhere x y u s =
      let ne : place x y ≢ place a b = λ e. let h = place_tells n x y a b m u t e in grind (arith, nat_tests) in
      let en : place x y ≢ place b a = λ e. let h = place_tells n x y b a m u (pair_swap n a b t) e in grind (arith, nat_tests) in
      get_or-set_other (set cells (place a b) d) (place b a) (place x y) d 0 en ∙ get_or-set_other cells (place a b) (place x y) d 0 ne

  pub read_put : (x y : ℕ) → read n put x y ≡ cond (same_pair a b x y) d (read n cells x y)
  read_put x y = elim (cases_Bool (pair n x y)) [
    | inl z ↦ (elim (cases_Bool (same_pair a b x y)) [
      | inl s ↦ (let h : ((a ≡ x) × (b ≡ y)) ⊎ ((a ≡ y) × (b ≡ x)) = grind (arith, nat_tests) in
          elim h [
            | inl k ↦ rw (z, s, ← k.0, ← k.1) there
            | inr k ↦ rw (z, s, ← k.0, ← k.1) back
          ])
      | inr s ↦ rw (z, s) (elsewhere x y (two n x y z) s)
    ])
    | inr z ↦ (let s : same_pair a b x y ≡ false = grind (arith, nat_tests) in rw (z, s))
  ]

  pub put_symmetric : Symmetric (read n cells) → Symmetric (read n put)
  put_symmetric h x y =
      let s : same_pair a b x y ≡ same_pair a b y x = grind (arith, nat_tests) in
      read_put x y ∙ (λ i. cond (s i) d (h x y i)) ∙ sym (read_put y x)

  pub put_low : d ≤ 10000 → Low (read n cells) → Low (read n put)
  put_low k h x y =
      rw (read_put x y)
      (elim (same_pair a b x y) as (λ s. cond s d (read n cells x y) ≤ 10000) [ true ↦ k | false ↦ h x y ])

-- what is no label has no mark
pub no_label : (n : ℕ) (cells : List ℕ) (j : ℕ) → label n j ≡ false → (i : ℕ) → read n cells i j ≡ 0
no_label n cells j e i = let f : pair n i j ≡ false = grind (arith, nat_tests) in rw f
