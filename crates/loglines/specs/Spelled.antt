-- The words of numbers, marks and yardsticks: each is a word, and tells what it writes.
use Rattle.std.specs.Prelude.{◌≡◌, ℕ, ◌^◌, ◌<◌, List, codes, length, decimal, ◌==◌, ◌≢◌, slice_index, true, refl}
use Rattle.std.proofs.Common.{sym, ap, subst, inl, inr, ◌∙◌, ⊎_elim, lit<, lit≤, lt_of_lt_of_le, lt_irrefl, not-le_of_lt, true≢false, eq-zero-or-pos}
use Rattle.std.specs.Str.Parse.{digits_value}
use Rattle.std.specs.Int.{IsInRange}
use Rattle.std.proofs.lemmas.Fmt.{digits_decimal, decimal_nonempty, length-decimal-le, first_decimal, decimal_digit, decimal_injective}
use Rattle.std.proofs.lemmas.Str.Parse.{IsNumeralModel, numerals_by_value, tells_by_index}
use Rattle.loglines.specs.declared.command.Mark.{Mark}
use Rattle.loglines.specs.declared.command.Mark.TheVariants.{Number, Gap}
use Rattle.loglines.specs.declared.command.YardstickLetter.{YardstickLetter}
use Rattle.loglines.specs.declared.command.YardstickLetter.TheVariants.{Spread, Gradient, Target}
use Rattle.loglines.specs.Words.{AllDigits, Numeral, IsWord}
use Rattle.loglines.specs.Text.{mark_word, letter_word, Short, OfMark}

-- `AllDigits` and `digits_value 10` are the library's digits and their number
pub own : IsNumeralModel AllDigits (digits_value 10)
own = numerals_by_value _ tells_by_index

-- a number of at most 19 digits has 64 bits
pub short_fits : (n : ℕ) → Short n → n < 2 ^ 64
short_fits n h = lt_of_lt_of_le h (lit≤ tt)

-- and is written by a number word
pub numeral_decimal : (n : ℕ) → Short n → Numeral (decimal n)
numeral_decimal n h = record {
  digits = digits_decimal own n (short_fits n h);
  some = decimal_nonempty n (short_fits n h);
  fits = length-decimal-le 19 n (lit< tt) h (short_fits n h);
  lean = λ e.
      ⊎_elim
      (λ z. ap (λ k. length (decimal k)) z ∙ ap length (decimal_digit 0 (lit< tt)))
      (λ some. absurd (lt_irrefl 48 (subst (λ b. 48 < b) e (first_decimal n some (short_fits n h)))))
      (eq-zero-or-pos n);
}

pub mark_word_is : (m : Mark) → OfMark Short m → IsWord (mark_word m)
mark_word_is (Number d) h = inr (inl (numeral_decimal d h))
mark_word_is Gap h = inr (inr refl)

pub mark_fits : (m : Mark) → OfMark Short m → OfMark (λ n. n < 2 ^ 64) m
mark_fits (Number d) h = short_fits d h
mark_fits Gap h = tt

-- a decimal begins with a digit
pub dash_no_decimal : (n : ℕ) → n < 2 ^ 64 → decimal n ≢ codes "-"
dash_no_decimal n h e =
    not-le_of_lt (lit< tt) (subst (λ l. IsInRange 48 57 (slice_index l 0)) e (digits_decimal own n h 0 (decimal_nonempty n h))).0

pub mark_same : (x y : Mark) → OfMark (λ n. n < 2 ^ 64) x → OfMark (λ n. n < 2 ^ 64) y → mark_word x ≡ mark_word y → x ≡ y
mark_same (Number d) (Number e) hd he p = ap Number (decimal_injective d e hd he p)
mark_same (Number d) Gap hd he p = absurd (dash_no_decimal d hd p)
mark_same Gap (Number e) hd he p = absurd (dash_no_decimal e he (sym p))
mark_same Gap Gap hd he p = refl

pub letter_word_is : (y : YardstickLetter) → IsWord (letter_word y)
letter_word_is Spread = inl (record { one = refl; is = (lit≤ tt, lit≤ tt) })
letter_word_is Gradient = inl (record { one = refl; is = (lit≤ tt, lit≤ tt) })
letter_word_is Target = inl (record { one = refl; is = (lit≤ tt, lit≤ tt) })

-- texts that begin with the byte b and with no b are not the same
other_first : (b : ℕ) (s t : List ℕ) → (slice_index s 0 == b) ≡ true → s ≡ t → (slice_index t 0 == b) ≡ true
other_first b s t is e = subst (λ l. (slice_index l 0 == b) ≡ true) e is

pub letter_same : (x y : YardstickLetter) → letter_word x ≡ letter_word y → x ≡ y
letter_same Spread Spread e = refl
letter_same Spread Gradient e = absurd (true≢false (sym (other_first 83 _ _ refl e)))
letter_same Spread Target e = absurd (true≢false (sym (other_first 83 _ _ refl e)))
letter_same Gradient Spread e = absurd (true≢false (sym (other_first 71 _ _ refl e)))
letter_same Gradient Gradient e = refl
letter_same Gradient Target e = absurd (true≢false (sym (other_first 71 _ _ refl e)))
letter_same Target Spread e = absurd (true≢false (sym (other_first 84 _ _ refl e)))
letter_same Target Gradient e = absurd (true≢false (sym (other_first 84 _ _ refl e)))
letter_same Target Target e = refl
