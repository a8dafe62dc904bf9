-- How many ways there are: at most the factorial of what a set leaves, so every count fits 64 bits.
use Rattle.std.proofs.Common.{◌≡◌, ℕ, zero, suc, ◌+◌, ◌-◌, ◌*◌, ◌^◌, ◌<◌, ◌≤◌, Bool, true, false, cond, not, List, [], ◌∷◌, map, length, filter, ap, subst, le_trans, suc-mul, add-mul, arith}
use lib.ListN.{length-map}
use Rattle.rules.specs.Units.{label, labels, has, with_unit, size, sum_over}
use Rattle.rules.specs.Yardsticks.{Merit}
use Rattle.rules.specs.Orders.{ready, ready_units, ways}
use Rattle.rules.specs.Ranking.{total, best, rest, listed}
use Rattle.rules.specs.Recurrence.{factorial, FewWays}
use Rattle.rules.proofs.Sets.{label_from, many, many_low, many_with, size_many, size_with}
use Rattle.rules.proofs.Lists.{filter_short, length_concat, sum_append, sum_filter}
use Rattle.rules.proofs.Ways.{ready_out}

-- a sum over the labels outside a set
one_of : (b : Bool) (c : ℕ) → cond b 1 0 * c + cond b 0 c ≡ c
one_of b c = grind arith

outside_sum : (h : ℕ → ℕ) (A c n : ℕ) → ((j : ℕ) → 1 ≤ j → j ≤ n → h j ≤ cond (has A j) 0 c)
    → (m : ℕ) → m ≤ n → sum_over h (labels m) + many m A * c ≤ m * c
outside_sum h A c n k zero l = omega arith
outside_sum h A c n k (suc m) l =
    omega (
      arith,
      sum_append h (labels m) (suc m ∷ []),
      add-mul (many m A) (cond (has A (suc m)) 1 0) c,
      suc-mul m c,
      one_of (has A (suc m)) c,
      k (suc m) (omega arith) l,
      outside_sum h A c n k m (omega arith),
    )

outside_all : (h : ℕ → ℕ) (A c n k : ℕ) → ((j : ℕ) → 1 ≤ j → j ≤ n → h j ≤ cond (has A j) 0 c) → many n A + k ≡ n → sum_over h (labels n) ≤ k * c
outside_all h A c n k e q =
    let r = outside_sum h A c n e n (omega arith) in
    omega (arith, add-mul (many n A) k c, ap (λ (z : ℕ). z * c) q)

pub factorial_up : (k : ℕ) → factorial k ≤ factorial (suc k)
factorial_up k = omega (arith, suc-mul k (factorial k))

-- a function that never falls from one number to the next
rises : (f : ℕ → ℕ) → ((k : ℕ) → f k ≤ f (suc k)) → (k d : ℕ) → f k ≤ f (k + d)
rises f up k zero = let e : k ≡ k + 0 = omega arith in subst (λ (z : ℕ). f k ≤ f z) e (omega arith)
rises f up k (suc d) =
    let e : suc (k + d) ≡ k + suc d = omega arith in subst (λ (z : ℕ). f k ≤ f z) e (le_trans (rises f up k d) (up (k + d)))

rises_to : (f : ℕ → ℕ) → ((k : ℕ) → f k ≤ f (suc k)) → (k m : ℕ) → k ≤ m → f k ≤ f m
rises_to f up k m l = let e : k + (m - k) ≡ m = omega arith in subst (λ (z : ℕ). f k ≤ f z) e (rises f up k (m - k))

pub factorial_fits : (k : ℕ) → k ≤ 20 → factorial k < 2 ^ 64
factorial_fits k l = let r = rises_to factorial factorial_up k 20 l in omega arith

module _ (tied : ℕ → ℕ → Bool) (n : ℕ) where
  -- a sum over the ready units up to m, each of at most c
  ready_sum : (h : ℕ → ℕ) (A c k m : ℕ) → m ≤ n → many n A + k ≡ n
      → ((j : ℕ) → label n j ≡ true → has A j ≡ false → h j ≤ c)
      → sum_over (λ j. cond (ready tied n A j) (h j) 0) (labels m) ≤ k * c
  ready_sum h A c k m l e low =
      le_trans (rises_to (λ z. sum_over some (labels z)) (λ z. omega (arith, sum_append some (labels z) (suc z ∷ []))) m n l)
      (outside_all some A c n k (λ j a b. each (has A j) (ready tied n A j) (h j) (ready_out tied n A j) (low j (label_from n j a b))) e)
    where
      some : ℕ → ℕ
      some j = cond (ready tied n A j) (h j) 0

      each : (b r : Bool) (m : ℕ) → (r ≡ true → b ≡ false) → (b ≡ false → m ≤ c) → cond r m 0 ≤ cond b 0 c
      each b r m out le = grind arith

  pub ways_few : (k A : ℕ) → many n A + k ≡ n → length (ways tied n k A) ≤ factorial k
  ways_few zero A e = omega arith
  ways_few (suc k) A e =
      omega (
        arith,
        length_concat next (ready_units tied n A),
        sum_filter (ready tied n A) (λ j. length (next j)) (labels n),
        ready_sum (λ j. length (next j)) A (factorial k) (suc k) n (omega arith) e
            (λ j l h. omega (
              arith,
              length-map {B = List ℕ} (ways tied n k (with_unit A j)) (λ o. j ∷ o),
              ways_few k (with_unit A j) (omega (arith, many_with n A j l h)),
            )),
      )
    where
      next : ℕ → List (List ℕ)
      next j = map (λ o. j ∷ o) (ways tied n k (with_unit A j))

  pub rest_few : (A : ℕ) → length (ways tied n (n - size n A) A) ≤ factorial (n - size n A)
  rest_few A = ways_few (n - size n A) A (omega (arith, many_low n A, size_many n A))

  module _ (y : Merit) (p : ℕ → ℕ → ℕ) where
    pub listed_few : (A : ℕ) → length (listed y p tied n A) ≤ factorial (n - size n A)
    listed_few A = le_trans (filter_short (λ o. not (y.exceeds (best y p tied n A) (total y p n A o))) (rest y p tied n A)) (rest_few A)

    -- each count fits 64 bits
    pub count_fits : n ≤ 20 → (A : ℕ) → length (listed y p tied n A) < 2 ^ 64
    count_fits l A = let a = listed_few A in let b = factorial_fits (n - size n A) (omega arith) in omega arith

    -- and so does each sum of counts on the way: over the ready units up to m
    pub counts_few : (A m : ℕ) → m ≤ n → size n A < n
        → sum_over (λ j. length (listed y p tied n (with_unit A j))) (filter (ready tied n A) (labels m)) ≤ factorial (n - size n A)
    counts_few A m l s =
        let k : ℕ = n - suc (size n A) in
        let one : suc k ≡ n - size n A = omega arith in
        subst (λ (z : ℕ). sum_over counts (filter (ready tied n A) (labels m)) ≤ factorial z) one
        (omega (
          arith,
          sum_filter (ready tied n A) counts (labels m),
          ready_sum counts A (factorial k) (suc k) m l (omega (arith, many_low n A, size_many n A))
              (λ j lj h.
              let e : n - size n (with_unit A j) ≡ k = omega (arith, size_with n A j lj h) in
              subst (λ (z : ℕ). counts j ≤ factorial z) e (listed_few (with_unit A j))),
        ))
      where
        counts : ℕ → ℕ
        counts j = length (listed y p tied n (with_unit A j))

pub few_ways : FewWays
few_ways = ((λ tied n A. rest_few tied n A), factorial_fits)
