-- Words of one kind are no words of another, and none has a space.
use Rattle.std.specs.Prelude.{ℕ, ◌^◌, ◌<◌, List, decimal, ◌≢◌, slice_index, refl}
use Rattle.std.proofs.Common.{sym, ap, ◌∙◌, inl, inr, arith}
use Rattle.std.proofs.lemmas.Fmt.{digits_decimal}
use Rattle.loglines.specs.declared.token.Token.{Token}
use Rattle.loglines.specs.declared.token.Token.TheVariants as token
use Rattle.loglines.specs.declared.command.Mark.{Mark}
use Rattle.loglines.specs.declared.command.Mark.TheVariants.{Number, Gap}
use Rattle.loglines.specs.declared.command.YardstickLetter.{YardstickLetter}
use Rattle.loglines.specs.Spans.{Free}
use Rattle.loglines.specs.Words.{bytes, Kind, IsWord, Capital}
use Rattle.loglines.specs.Text.{mark_word, letter_word, Short, OfMark}
use Rattle.loglines.proofs.Cuts.{word_free}
use Rattle.loglines.specs.Spelled.{own, numeral_decimal, short_fits, dash_no_decimal}

pub token_word : (t : Token) → Kind t → IsWord (bytes t)
token_word (token.Letter s) k = inl k
token_word (token.Digits s) k = inr (inl k)
token_word (token.Dash s) k = inr (inr k)

-- none of these words has a space
pub decimal_free : (n : ℕ) → n < 2 ^ 64 → Free 32 (decimal n)
decimal_free n h i lt e = omega (arith, digits_decimal own n h i lt)

pub mark_free : (m : Mark) → OfMark (λ n. n < 2 ^ 64) m → Free 32 (mark_word m)
mark_free (Number d) h = decimal_free d h
mark_free Gap h = word_free (mark_word Gap) (inr (inr refl))

pub letter_free : (y : YardstickLetter) → Free 32 (letter_word y)
letter_free y i lt e = grind arith

-- a letter writes no mark, and only digits write a number
pub letter_no_mark : (s : List ℕ) → Capital s → (m : Mark) → OfMark Short m → s ≢ mark_word m
letter_no_mark s h (Number d) small e = let n = numeral_decimal d small in omega (arith, h.is, n.digits 0 n.some, ap (λ l. slice_index l 0) e)
letter_no_mark s h Gap small e = omega (arith, h.is, ap (λ l. slice_index l 0) e)

pub digits_only : (t : Token) → Kind t → ((s : _) → t ≢ token.Digits s) → (n : ℕ) → Short n → bytes t ≢ decimal n
digits_only (token.Letter s) k not n small e = letter_no_mark s.now k (Number n) small e
digits_only (token.Digits s) k not n small e = not s refl
digits_only (token.Dash s) k not n small e = dash_no_decimal n (short_fits n small) (sym e ∙ k)
