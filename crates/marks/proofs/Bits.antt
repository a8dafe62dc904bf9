-- Sets as bits: what they have above their last bit, after one bit is turned over, and after a label is put to them.
use Rattle.std.proofs.Common.{◌≡◌, ℕ, suc, ◌+◌, ◌-◌, ◌*◌, ◌/◌, ◌%◌, ◌^◌, ◌<◌, ◌≤◌, true, false, cond, not, ◌||◌, eqb, ltb, ◌≢◌, refl, ap, ◌∙◌, inl, inr, arith, pow_mono}
use native.Mathlib.Nat.{div-eq_of_lt}
use lib.Bits.{bit_xor, xor_zero_r}
use Rattle.std.proofs.lemmas.Nat.{pow-add, pow_below, shl-shr, xor_shr, xor_mod}
use Rattle.std.proofs.lemmas.Bool.{cases_order, cases_eq, le-ltb}
use Rattle.rules.specs.Units.{label, has, with_unit}
use Rattle.rules.proofs.Sets.{label_high}

-- a number of n bits has no unit above n
pub past_bit : (A n j : ℕ) → A < 2 ^ n → n ≤ j - 1 → has A j ≡ false
past_bit A n j h k =
    let p : 2 ^ n ≤ 2 ^ (j - 1) = pow_mono k in
    ap (λ q. eqb (q % 2) 1) (div-eq_of_lt (omega arith))

abbrev bit : ℕ → ℕ → ℕ
bit A m = (A / 2 ^ m) % 2

own_bit : (m : ℕ) → bit (2 ^ m) m ≡ 1
own_bit m =
    let e : 2 ^ m ≡ 1 * 2 ^ m = omega arith in
    ap (λ k. (k / 2 ^ m) % 2) e ∙ ap (λ k. k % 2) (shl-shr 1 m)

other_bit : (i m : ℕ) → i ≢ m → bit (2 ^ m) i ≡ 0
other_bit i m ne = elim (cases_order i m) [
  | inl e ↦ absurd (ne e)
  | inr (inl h) ↦ (
      let d : ℕ = m - suc i in
      let e : m ≡ suc d + i = omega arith in
      ap (λ k. (2 ^ k / 2 ^ i) % 2) e
      ∙ ap (λ k. (k / 2 ^ i) % 2) (pow-add 2 (suc d) i) ∙ ap (λ k. k % 2) (shl-shr (2 ^ suc d) i) ∙ omega (arith, pow-add 2 d 1))
  | inr (inr h) ↦ ap (λ k. k % 2) (div-eq_of_lt (pow_below m i h))
]

xor_bit : (A B m : ℕ) → bit (bit_xor A B) m ≡ bit_xor (bit A m) (bit B m)
xor_bit A B m = ap (λ k. k % 2) (xor_shr A B m) ∙ xor_mod (A / 2 ^ m) (B / 2 ^ m) 1

turned : (b : ℕ) → b < 2 → eqb (bit_xor b 1) 1 ≡ not (eqb b 1)
turned b h = elim (cases_eq b 0) [
  | inl e ↦ rw e refl
  | inr n ↦ (let e : b ≡ 1 = omega arith in rw e refl)
]

-- the bit of a unit turned over
pub turned_own : (A j : ℕ) → has (bit_xor A (2 ^ (j - 1))) j ≡ not (has A j)
turned_own A j =
    ap (λ q. eqb q 1) (xor_bit A (2 ^ (j - 1)) (j - 1) ∙ ap (bit_xor (bit A (j - 1))) (own_bit (j - 1)))
    ∙ turned (bit A (j - 1)) (omega arith)

pub turned_other : (A j x : ℕ) → 1 ≤ j → 1 ≤ x → (j ≡ x → ⊥) → has (bit_xor A (2 ^ (j - 1))) x ≡ has A x
turned_other A j x k l ne =
    let f : x - 1 ≢ j - 1 = λ e. ne (omega arith) in
    ap (λ q. eqb q 1)
    (xor_bit A (2 ^ (j - 1)) (x - 1) ∙ ap (bit_xor (bit A (x - 1))) (other_bit (x - 1) (j - 1) f) ∙ xor_zero_r (bit A (x - 1)))

-- a label that a set of at most twenty units lacks is put to it
pub put_to : (n A j r : ℕ) → n ≤ 20 → label n j ≡ true → has A j ≡ false → r ≡ cond (ltb 32 j || has A j) A (with_unit A j) → r ≡ with_unit A j
put_to n A j r most is out e =
    let small : ltb 32 j ≡ false = le-ltb 32 j (omega (arith, label_high n j is)) in
    e ∙ (λ k. cond (small k || out k) A (with_unit A j))
