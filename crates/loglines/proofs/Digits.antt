-- Number words and the numbers that they write.
use Rattle.std.specs.Prelude.{◌≡◌, ℕ, ◌+◌, ◌-◌, ◌*◌, ◌^◌, ◌<◌, List, [], ◌∷◌, ◌++◌, length, take, drop, decimal}
use Rattle.std.proofs.Common.{refl, sym, subst, arith, rules, length-append, length-take-le, take-append-drop}
use Rattle.std.specs.Str.Parse.{digits_value}
use Rattle.std.specs.Int.{IsInRange}
use Rattle.std.specs.Char.{digit_value as digitValue}
use Rattle.std.proofs.lemmas.Fmt.{decimal-digits_value}
use Rattle.std.proofs.lemmas.List.{get_or_append_left, get_or_push}
use Rattle.std.proofs.lemmas.Str.Parse.{digits_value_short}
use Rattle.std.proofs.lemmas.Int.Digits.{digits_value_push}
use Rattle.loglines.specs.Words.{AllDigits, Numeral}
use Rattle.loglines.specs.Text.{Short}
use Rattle.loglines.specs.Spelled.{own}

-- a number word is what its number is written as
pub decimal_numeral : (s : List ℕ) → Numeral s → Short (digits_value 10 s) × (s ≡ decimal (digits_value 10 s))
decimal_numeral s h =
    let small : digits_value 10 s < 10 ^ 19 = digits_value_short own s 19 h.digits h.fits in
    (small, sym (decimal-digits_value own s h.digits h.some h.lean (omega arith)))

digit_value : (c : ℕ) → IsInRange 48 57 c → digitValue c ≡ c - 48
digit_value c h = search rules

-- what a word of digits begins with
pub digits_front : (s t : List ℕ) → AllDigits (s ++ t) → AllDigits s
digits_front s t h i lt = rw (sym (get_or_append_left s t 0 i lt)) (h i (omega (arith, length-append s t)))

-- one digit more
pub digits_push : (s : List ℕ) (c m n : ℕ) → (AllDigits s → m ≡ digits_value 10 s) → n ≡ m * 10 + (c - 48) → AllDigits (s ++ c ∷ []) → n ≡ digits_value 10 (s ++ c ∷ [])
digits_push s c m n before more h =
    let last = subst (IsInRange 48 57) (get_or_push s c 0 (length s) refl) (h (length s) (omega (arith, length-append s (c ∷ [])))) in
    omega (arith, more, before (digits_front s _ h), digits_value_push 10 s c, digit_value c last)

-- the digits before the last write a number below 10^18
pub digits_before : (s front : List ℕ) (i n : ℕ) → Numeral s → i < length s → front ≡ take i s → (AllDigits front → n ≡ digits_value 10 front) → n < 10 ^ 18
digits_before s front i n h lt is read =
    let digits : AllDigits front = rw is (digits_front (take i s) (drop i s) (rw take-append-drop h.digits)) in
    omega (arith, read digits, digits_value_short own front 18 digits (rw is (omega (arith, h.fits, length-take-le i s))))
