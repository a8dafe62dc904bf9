-- The pairs of places in their numbering, by the first place and then by the second.
use Rattle.std.proofs.Common.{◌≡◌, ℕ, zero, suc, ◌+◌, ◌-◌, ◌*◌, ◌/◌, ◌%◌, ◌<◌, ◌≤◌, Bool, true, false, cond, not, eqb, ltb, List, [], ◌∷◌, ◌++◌, map, length, get_or, filter, sym, refl, ap, ◌∙◌, subst₂, inl, inr, ⊎_elim, mod-eq_of_lt, mul_comm, div-lt_iff_lt-mul, arith, length-append}
use native.Mathlib.Nat.{mod-eq-sub-mod, div-eq_of_lt, div-eq-sub-div}
use Rattle.std.proofs.Math.Seq.{get_or-append_right}
use Rattle.std.proofs.lemmas.List.{get_or_append_left, get_or-map, length-map}
use Rattle.std.proofs.lemmas.List.Elements.{filter-append}
use Rattle.std.specs.List.{range_with_len, flat_map}
use Rattle.std.proofs.lemmas.List.FromFn.{length-range_with_len, get_or-range_with_len}
use Rattle.std.proofs.lemmas.Bool.{lt-ltb, le-ltb, eq-eqb, ne_eqb, cases_lt, cond-true, cond-false, not_from_false}
use Rattle.rules.specs.Moves.{chosen}
use Rattle.rules.proofs.Members.{In, counting_in}
use Rattle.rules.proofs.Lists.{filter_none}

-- the pairs whose first place is u
abbrev pub row : (ℕ → ℕ → Bool) → ℕ → ℕ → List (ℕ × ℕ)
row test n u = map (λ v. (u, v)) (filter (test u) (range_with_len 0 n))

-- the pairs whose first place is one of k places from u on
abbrev pub rows : (ℕ → ℕ → Bool) → ℕ → ℕ → ℕ → List (ℕ × ℕ)
rows test n u k = flat_map (row test n) (range_with_len u k)

-- counting goes past a + u
counting_at : (a u k n : ℕ) → n ≡ u + suc k → range_with_len a n ≡ range_with_len a u ++ ((a + u) ∷ range_with_len (a + u + 1) k)
counting_at a zero k n e =
    let s : n ≡ suc k = omega arith in
    let z : a ≡ a + 0 = omega arith in
    ap (range_with_len a) s ∙ ap (λ (x : ℕ). x ∷ range_with_len (x + 1) k) z
counting_at a (suc u) k zero e = absurd (omega arith)
counting_at a (suc u) k (suc n) e =
    let z : a + 1 + u ≡ a + suc u = omega arith in
    ap (λ (l : List ℕ). a ∷ l) (counting_at (a + 1) u k n (omega arith) ∙ ap (λ (x : ℕ). range_with_len (a + 1) u ++ (x ∷ range_with_len (x + 1) k)) z)

all_kept : (f : ℕ → Bool) (xs : List ℕ) → ((x : ℕ) → In x xs → f x ≡ true) → filter f xs ≡ xs
all_kept f [] h = refl
all_kept f (x ∷ xs) h =
    cond-true (f x) (x ∷ filter f xs) (filter f xs) (h x (inl refl)) ∙ ap (λ (l : List ℕ). x ∷ l) (all_kept f xs (λ z k. h z (inr k)))

-- the second places for u, where u itself is none of them and all after it are
seconds : (f : ℕ → Bool) (u k n : ℕ) → n ≡ u + suc k → f u ≡ false → ((v : ℕ) → u < v → f v ≡ true)
    → filter f (range_with_len 0 n) ≡ filter f (range_with_len 0 u) ++ range_with_len (u + 1) k
seconds f u k n e own later =
    let z : 0 + u ≡ u = omega arith in
    let split : range_with_len 0 n ≡ range_with_len 0 u ++ (u ∷ range_with_len (u + 1) k) = counting_at 0 u k n e ∙ ap (λ (x : ℕ). range_with_len 0 u ++ (x ∷ range_with_len (x + 1) k)) z in
    ap (filter f) split ∙ filter-append f (range_with_len 0 u) (u ∷ range_with_len (u + 1) k)
    ∙ ap (λ (l : List ℕ). filter f (range_with_len 0 u) ++ l)
    (cond-false (f u) (u ∷ filter f (range_with_len (u + 1) k)) (filter f (range_with_len (u + 1) k)) own
    ∙ all_kept f (range_with_len (u + 1) k) (λ v i. later v (omega (arith, (counting_in (u + 1) k v i).0))))

-- the first row, and the others after it
rows_more : (test : ℕ → ℕ → Bool) (n u : ℕ) → u < n → rows test n u (n - u) ≡ row test n u ++ rows test n (u + 1) (n - (u + 1))
rows_more test n u h = let s : n - u ≡ suc (n - (u + 1)) = omega arith in ap (rows test n u) s

-- interchange: v after u
above : (n u : ℕ) → u < n → filter (ltb u) (range_with_len 0 n) ≡ range_with_len (u + 1) (n - u - 1)
above n u h =
    seconds (ltb u) u (n - u - 1) n (omega arith) (le-ltb u u (omega arith)) (λ v l. lt-ltb u v l)
    ∙ ap (λ (l : List ℕ). l ++ range_with_len (u + 1) (n - u - 1)) (filter_none (ltb u) (range_with_len 0 u) (λ v i. le-ltb u v (omega (arith, (counting_in 0 u v i).1))))

row_long : (n u : ℕ) → u < n → length (row ltb n u) ≡ n - u - 1
row_long n u h =
    length-map {B = ℕ × ℕ} (filter (ltb u) (range_with_len 0 n)) (λ v. (u, v)) ∙ ap length (above n u h) ∙ length-range_with_len (u + 1) (n - u - 1)

-- as many pairs as half of k (k - 1), from the k-th place before the last on
pub many_pairs : (k n u : ℕ) → u + k ≡ n → 2 * length (rows ltb n u k) ≡ k * (k - 1)
many_pairs zero n u e = refl
many_pairs (suc k) n u e =
    let r = many_pairs k n (u + 1) (omega arith) in
    let s : suc k - 1 ≡ k = omega arith in
    let long = row_long n u (omega arith) in
    let whole = length-append (row ltb n u) (rows ltb n (u + 1) k) in
    rw s (omega (arith, r, long, whole, twice k))
  where
    twice : (j : ℕ) → suc j * j ≡ j * (j - 1) + 2 * j
    twice zero = refl
    twice (suc j) = let s : suc j - 1 ≡ j = omega arith in rw s (omega (arith, mul_comm (suc (suc j)) (suc j), mul_comm (suc j) j))

-- the pair with a number is past the first row
pub past_row : (n u left : ℕ) → u < n → left < length (rows ltb n u (n - u)) → n - u - 1 ≤ left
    → (left - (n - u - 1) < length (rows ltb n (u + 1) (n - (u + 1))))
    × (get_or (rows ltb n (u + 1) (n - (u + 1))) (left - (n - u - 1)) (0, 0) ≡ get_or (rows ltb n u (n - u)) left (0, 0))
past_row n u left lt h l =
    let long = row_long n u lt in
    let rest = rows ltb n (u + 1) (n - (u + 1)) in
    let whole = ap length (rows_more ltb n u lt) ∙ length-append (row ltb n u) rest in (
      omega (arith, whole, long),
      ap (λ (k : ℕ). get_or rest (left - k) (0, 0)) (sym long)
          ∙ sym (get_or-append_right (row ltb n u) rest left (0, 0) (omega (arith, long)))
          ∙ ap (λ (r : List (ℕ × ℕ)). get_or r left (0, 0)) (sym (rows_more ltb n u lt)),
    )

-- or in it
pub in_row : (n u left : ℕ) → u < n → left < n - u - 1 → get_or (rows ltb n u (n - u)) left (0, 0) ≡ (u, u + 1 + left)
in_row n u left lt l =
    let long = row_long n u lt in
    let few : left < length (filter (ltb u) (range_with_len 0 n)) = omega (arith, ap length (above n u lt), length-range_with_len (u + 1) (n - u - 1)) in
    ap (λ (r : List (ℕ × ℕ)). get_or r left (0, 0)) (rows_more ltb n u lt)
    ∙ get_or_append_left (row ltb n u) (rows ltb n (u + 1) (n - (u + 1))) (0, 0) left (omega (arith, long))
    ∙ get_or-map {Y = ℕ × ℕ} (λ v. (u, v)) (filter (ltb u) (range_with_len 0 n)) left 0 (0, 0) few
    ∙ ap (λ (r : List ℕ). (u, get_or r left 0)) (above n u lt)
    ∙ ap (λ (v : ℕ). (u, v)) (get_or-range_with_len (u + 1) (n - u - 1) left 0 l)

-- insertion: v other than u
abbrev pub apart : ℕ → ℕ → Bool
apart u v = not (eqb u v)

others : (n u : ℕ) → u < n → filter (apart u) (range_with_len 0 n) ≡ range_with_len 0 u ++ range_with_len (u + 1) (n - u - 1)
others n u h =
    seconds (apart u) u (n - u - 1) n (omega arith) (ap not (eq-eqb u u refl)) (λ v l. not_from_false (eqb u v) (ne_eqb u v (omega arith)))
    ∙ ap (λ (l : List ℕ). l ++ range_with_len (u + 1) (n - u - 1))
    (all_kept (apart u) (range_with_len 0 u) (λ v i. not_from_false (eqb u v) (ne_eqb u v (omega (arith, (counting_in 0 u v i).1)))))

others_long : (n u : ℕ) → u < n → length (filter (apart u) (range_with_len 0 n)) ≡ n - 1
others_long n u h =
    ap length (others n u h)
    ∙ omega (arith, length-append (range_with_len 0 u) (range_with_len (u + 1) (n - u - 1)), length-range_with_len 0 u, length-range_with_len (u + 1) (n - u - 1))

other_at : (n u w : ℕ) → u < n → w < n - 1 → get_or (filter (apart u) (range_with_len 0 n)) w 0 ≡ cond (ltb w u) w (w + 1)
other_at n u w h l =
    ap (λ (r : List ℕ). get_or r w 0) (others n u h) ∙ ⊎_elim low high (cases_lt w u)
  where
    low : w < u → get_or (range_with_len 0 u ++ range_with_len (u + 1) (n - u - 1)) w 0 ≡ cond (ltb w u) w (w + 1)
    low k =
        get_or_append_left (range_with_len 0 u) (range_with_len (u + 1) (n - u - 1)) 0 w (omega (arith, length-range_with_len 0 u))
        ∙ get_or-range_with_len 0 u w 0 k ∙ (omega arith) ∙ sym (cond-true (ltb w u) w (w + 1) (lt-ltb w u k))

    high : u ≤ w → get_or (range_with_len 0 u ++ range_with_len (u + 1) (n - u - 1)) w 0 ≡ cond (ltb w u) w (w + 1)
    high k =
        let long = length-range_with_len 0 u in
        get_or-append_right (range_with_len 0 u) (range_with_len (u + 1) (n - u - 1)) w 0 (omega (arith, long))
        ∙ get_or-range_with_len (u + 1) (n - u - 1) (w - length (range_with_len 0 u)) 0 (omega (arith, long))
        ∙ (omega (arith, long)) ∙ sym (cond-false (ltb w u) w (w + 1) (le-ltb w u k))

-- each row has n - 1 pairs
pub many_apart : (k n u : ℕ) → u + k ≤ n → length (rows apart n u k) ≡ k * (n - 1)
many_apart zero n u e = omega arith
many_apart (suc k) n u e =
    omega (
      arith,
      many_apart k n (u + 1) (omega arith),
      length-append (row apart n u) (rows apart n (u + 1) k),
      length-map {B = ℕ × ℕ} (filter (apart u) (range_with_len 0 n)) (λ v. (u, v)),
      others_long n u (omega arith),
    )

-- the pair with a number, m past the first of row u
apart_from : (k n u m : ℕ) → u + k ≤ n → 0 < n - 1 → m < k * (n - 1)
    → get_or (rows apart n u k) m (0, 0) ≡ (u + m / (n - 1), cond (ltb (m % (n - 1)) (u + m / (n - 1))) (m % (n - 1)) (m % (n - 1) + 1))
apart_from zero n u m e s h = absurd (omega arith)
apart_from (suc k) n u m e s h = ⊎_elim here (there (apart_from k n (u + 1) (m - (n - 1)))) (cases_lt m (n - 1))
  where
    lt : u < n
    lt = omega arith

    long : length (row apart n u) ≡ n - 1
    long = length-map {B = ℕ × ℕ} (filter (apart u) (range_with_len 0 n)) (λ v. (u, v)) ∙ others_long n u lt

    Is : ℕ → ℕ → Type 0
    Is q r = get_or (rows apart n u (suc k)) m (0, 0) ≡ (q, cond (ltb r q) r (r + 1))

    here : m < n - 1 → Is (u + m / (n - 1)) (m % (n - 1))
    here l =
        let none : u ≡ u + m / (n - 1) = omega (arith, div-eq_of_lt l) in
        let all : m ≡ m % (n - 1) = sym (mod-eq_of_lt l) in
        let at : Is u m =
        get_or_append_left (row apart n u) (rows apart n (u + 1) k) (0, 0) m (omega (arith, long))
        ∙ get_or-map {Y = ℕ × ℕ} (λ v. (u, v)) (filter (apart u) (range_with_len 0 n)) m 0 (0, 0) (omega (arith, others_long n u lt))
        ∙ ap (λ (v : ℕ). (u, v)) (other_at n u m lt l) in
        subst₂ Is none all at

    there : (u + 1 + k ≤ n → 0 < n - 1 → m - (n - 1) < k * (n - 1)
        → get_or (rows apart n (u + 1) k) (m - (n - 1)) (0, 0)
        ≡ (u + 1 + (m - (n - 1)) / (n - 1), cond (ltb ((m - (n - 1)) % (n - 1)) (u + 1 + (m - (n - 1)) / (n - 1))) ((m - (n - 1)) % (n - 1)) ((m - (n - 1)) % (n - 1) + 1)))
        → n - 1 ≤ m → Is (u + m / (n - 1)) (m % (n - 1))
    there rec l =
        let less : m - (n - 1) < k * (n - 1) = omega arith in
        let q : u + 1 + (m - (n - 1)) / (n - 1) ≡ u + m / (n - 1) = omega (arith, div-eq-sub-div s l) in
        let r : (m - (n - 1)) % (n - 1) ≡ m % (n - 1) = sym (mod-eq-sub-mod l) in
        let at : Is (u + 1 + (m - (n - 1)) / (n - 1)) ((m - (n - 1)) % (n - 1)) =
        get_or-append_right (row apart n u) (rows apart n (u + 1) k) m (0, 0) (omega (arith, long))
        ∙ ap (λ (x : ℕ). get_or (rows apart n (u + 1) k) (m - x) (0, 0)) long
        ∙ rec (omega arith) s less in
        subst₂ Is q r at

-- the pair with a number, where there are so many
module _ (n m : ℕ) (s : 0 < n - 1) (l : m < length (chosen apart n)) where
  below : m < n * (n - 1)
  below = omega (arith, many_apart n n 0 (omega arith))

  apart_at : get_or (chosen apart n) m (0, 0) ≡ (m / (n - 1), cond (ltb (m % (n - 1)) (m / (n - 1))) (m % (n - 1)) (m % (n - 1) + 1))
  apart_at =
      let z : 0 + m / (n - 1) ≡ m / (n - 1) = omega arith in
      apart_from n n 0 m (omega arith) s below ∙ ap (λ (q : ℕ). (q, cond (ltb (m % (n - 1)) q) (m % (n - 1)) (m % (n - 1) + 1))) z

  -- its second place before its first
  pub earlier_at : m % (n - 1) < m / (n - 1) → get_or (chosen apart n) m (0, 0) ≡ (m / (n - 1), m % (n - 1))
  earlier_at h = apart_at ∙ ap (λ (v : ℕ). (m / (n - 1), v)) (cond-true _ _ _ (lt-ltb _ _ h))

  -- or after it
  pub later_at : m / (n - 1) ≤ m % (n - 1) → get_or (chosen apart n) m (0, 0) ≡ (m / (n - 1), m % (n - 1) + 1)
  later_at h = apart_at ∙ ap (λ (v : ℕ). (m / (n - 1), v)) (cond-false _ _ _ (le-ltb _ _ h))

  -- its first place is one
  pub first_within : m / (n - 1) < n
  first_within = (div-lt_iff_lt-mul s).1 below
