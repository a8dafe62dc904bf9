-- Each pair of labels up to 20 has a cell of its own.
use Rattle.std.proofs.Common.{◌≡◌, ℕ, zero, suc, ◌+◌, ◌-◌, ◌*◌, ◌/◌, ◌<◌, ◌≤◌, min, max, Bool, true, cond, ◌&&◌, ◌||◌, leb, ◌≢◌, ◌⊎◌, List, length, get_or, set, replicate, refl, ap, inl, inr, arith}
use Rattle.std.proofs.lemmas.Bool.Decides.{nat_tests, Decides-below_and}
use Rattle.std.proofs.lemmas.Bool.{cases_Bool, cases_order, both_ways, leb-true}
use Rattle.std.proofs.lemmas.List.{get_or-set_same, get_or-set_other}
use Rattle.rules.specs.declared.Mark.{Mark}
use Rattle.rules.specs.declared.Mark.TheVariants.{Gap}
use Rattle.rules.specs.Sheets.{same_pair}
use Rattle.marks.specs.Cells.{pair}
use Rattle.marks.proofs.Cells.{Two, two}
use Rattle.cells.specs.Places.{place}

-- a test of every number below a bound
abbrev every : (ℕ → Bool) → ℕ → Bool
every f zero = true
every f (suc n) = f n && every f n

every_at : (f : ℕ → Bool) (n : ℕ) → every f n ≡ true → (k : ℕ) → k < n → f k ≡ true
every_at f n e = (Decides-below_and f (λ k. f k ≡ true) (every f) (λ k. ((λ h. h), (λ h. h))) refl (λ _. refl) n).0 e

-- how many cells lie before those of the higher label h
abbrev before : ℕ → ℕ
before h = (h - 1) * (h - 2) / 2

-- the cells of two higher labels do not overlap, and there are 190
apart : (h k : ℕ) → h < k → k ≤ 20 → before h + (h - 1) ≤ before k
apart h k l m =
    let test : ℕ → ℕ → Bool = λ h k. leb k h || leb (before h + (h - 1)) (before k) in
    let all : every (λ h. every (λ k. test h k) 21) 21 ≡ true = refl in
    let of_h : every (λ k. test h k) 21 ≡ true = every_at (λ h. every (λ k. test h k) 21) 21 all h (omega arith) in
    let here : test h k ≡ true = every_at (λ k. test h k) 21 of_h k (omega arith) in
    grind (arith, nat_tests)

last_cell : (h : ℕ) → h ≤ 20 → before h + (h - 1) ≤ 190
last_cell h m =
    let test : ℕ → Bool = λ h. leb (before h + (h - 1)) 190 in
    let all : every test 21 ≡ true = refl in
    leb-true _ _ (every_at test 21 all h (omega arith))

pub place_within : (a b : ℕ) → Two 20 a b → place a b < 190
place_within a b t = omega (arith, last_cell (max a b) (omega arith))

-- a cell tells its pair
place_tells : (a b x y : ℕ) → Two 20 a b → Two 20 x y → place x y ≡ place a b → same_pair a b x y ≡ true
place_tells a b x y t u e =
    let h : (max x y ≡ max a b) × (min x y ≡ min a b) = elim (cases_order (max x y) (max a b)) [
      | inl h ↦ (let r : before (max x y) ≡ before (max a b) = ap before h in (h, omega arith))
      | inr (inl h) ↦ (let r = apart (max x y) (max a b) h (omega arith) in omega arith)
      | inr (inr h) ↦ (let r = apart (max a b) (max x y) h (omega arith) in omega arith)
    ] in
    grind (arith, nat_tests, cases_order x y, cases_order a b)

same_place : (a b x y : ℕ) → same_pair a b x y ≡ true → place x y ≡ place a b
same_place a b x y e =
    let h : ((a ≡ x) × (b ≡ y)) ⊎ ((a ≡ y) × (b ≡ x)) = grind (arith, nat_tests) in
    elim h [
      | inl k ↦ rw (k.0, k.1)
      | inr k ↦ (let u : max y x ≡ max x y = omega arith in let v : min y x ≡ min x y = omega arith in rw (k.0, k.1, u, v))
    ]

-- what is read after the cell of a pair is set
pub read_set : (cells : List Mark) (a b : ℕ) (m : Mark) → length cells ≡ 190 → pair 20 a b ≡ true → (x y : ℕ)
    → cond (pair 20 x y) (get_or (set cells (place a b) m) (place x y) Gap) Gap
    ≡ cond (pair 20 a b && same_pair a b x y) m (cond (pair 20 x y) (get_or cells (place x y) Gap) Gap)
read_set cells a b m l p x y =
    let t = two 20 a b p in
    elim (cases_Bool (same_pair a b x y)) [
      | inl s ↦ (
          let lt : place a b < length cells = omega (arith, place_within a b t) in
          let q : pair 20 x y ≡ true = grind (arith, nat_tests) in
          rw (p, s, q, same_place a b x y s, get_or-set_same))
      | inr s ↦ (elim (cases_Bool (pair 20 x y)) [
        | inl q ↦ (
            let ne : place x y ≢ place a b = λ e. both_ways (same_pair a b x y) s (place_tells a b x y t (two 20 x y q) e) in
            rw (p, s, q, get_or-set_other))
        | inr q ↦ rw (p, s, q)
      ])
    ]

-- all cells the same
pub all_same : {X : Type 0} (n i : ℕ) (a : X) → get_or (replicate n a) i a ≡ a
all_same zero i a = refl
all_same (suc n) zero a = refl
all_same (suc n) (suc i) a = all_same n i a
