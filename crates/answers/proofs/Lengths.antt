-- How numbers are written, and how many bytes they take.
use Rattle.std.proofs.Common.{◌≡◌, ℕ, ◌+◌, ◌/◌, ◌%◌, ◌^◌, ◌<◌, ◌≤◌, [], ◌∷◌, length, ℤ, pos, negsuc, nat_abs, ◌≤ℤ◌, ◌<ℤ◌, decimal, sym, ap, ◌∙◌, arith, length-append}
use lib.Signed.{mag}
use Rattle.std.specs.Fmt.{signed_decimal}
use Rattle.std.proofs.lemmas.Fmt.{decimal_step, length-decimal-le, length_signed_le}
use Rattle.std.proofs.lemmas.Int.{ints}

-- a number has one digit more than its tenth
pub decimal_longer : (n : ℕ) → 10 ≤ n → n < 2 ^ 64 → length (decimal n) ≡ length (decimal (n / 10)) + 1
decimal_longer n ten small = ap length (decimal_step n ten small) ∙ length-append (decimal (n / 10)) ((48 + n % 10) ∷ [])

-- a number below zero, and one that is not
pub signed_below : (z : ℤ) (k : ℕ) → z <ℤ pos 0 → k ≡ nat_abs z → signed_decimal z ≡ 45 ∷ decimal k
signed_below (pos n) k lt e = absurd (grind (arith, ints))
signed_below (negsuc n) k lt e = ap (λ m. 45 ∷ decimal m) (sym e)

pub signed_above : (z : ℤ) (k : ℕ) → pos 0 ≤ℤ z → k ≡ nat_abs z → signed_decimal z ≡ decimal k
signed_above (pos n) k le e = ap decimal (sym e)
signed_above (negsuc n) k le e = absurd (grind (arith, ints))

-- a byte takes at most 3 bytes, and a number of 64 bits at most 20, its sign included
pub byte_short : (n : ℕ) → n < 2 ^ 8 → length (decimal n) ≤ 3
byte_short n small = length-decimal-le 3 n (omega arith) (omega arith) (omega arith)

pub whole_short : (n : ℕ) → n < 2 ^ 64 → length (decimal n) ≤ 20
whole_short n small = length-decimal-le 20 n (omega arith) (omega arith) small

pub signed_short : (z : ℤ) → mag z < 2 ^ 63 → length (signed_decimal z) ≤ 20
signed_short z small = length_signed_le 19 z (omega arith) small
