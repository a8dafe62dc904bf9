-- The texts of commands: the letter tells the kind, and the words tell the rest.
use Rattle.std.proofs.Common.{◌≡◌, ℕ, ◌^◌, ◌<◌, Bool, List, ◌-◌, ◌∷◌, length, take, drop, decimal, slice_index, sym, ap, ◌∙◌, subst, arith}
use Rattle.std.proofs.lemmas.Slice.{first_rest}
use Rattle.std.proofs.lemmas.Fmt.{decimal_injective}
use Rattle.loglines.specs.declared.command.Mark.{Mark}
use Rattle.loglines.specs.declared.command.YardstickLetter.{YardstickLetter}
use Rattle.loglines.specs.declared.command.Command.{Command}
use Rattle.loglines.specs.declared.command.Command.TheVariants.{Open, Pair, Tie, Untie, Rank}
use Rattle.loglines.specs.Text.{text_of, mark_word, letter_word, Short, OfMark, Numbers, Asks, OneCommand}
use Rattle.loglines.specs.Readers.{Front, Both, two_words}
use Rattle.loglines.specs.Spelled.{short_fits, mark_same, letter_same}
use Rattle.loglines.proofs.Spellings.{decimal_free, mark_free, letter_free}
use Rattle.loglines.proofs.Fronts.{Telling, last_same, after_first, first_same, two_same}

-- the kind of command that has the letter
pub only_open : (c : Command) (words : List ℕ) → 85 ∷ words ≡ text_of c → (n : ℕ) × (c ≡ Open n)
only_open c words e = grind arith

pub only_pair : (c : Command) (words : List ℕ) → 80 ∷ words ≡ text_of c → (a : ℕ) × (b : ℕ) × (m : Mark) × (c ≡ Pair a b m)
only_pair c words e = grind arith

pub only_tie : (c : Command) (words : List ℕ) → 84 ∷ words ≡ text_of c → (a : ℕ) × (b : ℕ) × (c ≡ Tie a b)
only_tie c words e = grind arith

pub only_untie : (c : Command) (words : List ℕ) → 70 ∷ words ≡ text_of c → (a : ℕ) × (b : ℕ) × (c ≡ Untie a b)
only_untie c words e = grind arith

pub only_rank : (c : Command) (words : List ℕ) → 82 ∷ words ≡ text_of c → (y : YardstickLetter) × (k : ℕ) × (c ≡ Rank y k)
only_rank c words e = grind arith

-- numbers of 64 bits, marks and yardsticks are told by their words
abbrev Fits : ℕ → Type 0
Fits n = n < 2 ^ 64

numbers_tell : Telling decimal Fits
numbers_tell = record { free = decimal_free; same = decimal_injective }

shorts_tell : Telling decimal Short
shorts_tell = record { free = λ n h. decimal_free n (short_fits n h); same = λ m n hm hn. decimal_injective m n (short_fits m hm) (short_fits n hn) }

marks_tell : Telling mark_word (OfMark Fits)
marks_tell = record { free = mark_free; same = mark_same }

letters_tell : Telling letter_word (λ y. Unit {0})
letters_tell = record { free = λ y h. letter_free y; same = λ x y h j. letter_same x y }

pub one_command : OneCommand
one_command (Open n) d h j e =
    let q = only_open d _ e in
    let is = q.1 in
    ap Open (last_same numbers_tell n q.0 h (subst (Numbers Fits) is j) (ap (drop 1) (e ∙ ap text_of is))) ∙ sym is
one_command (Pair a b m) d h j e =
    let q = only_pair d _ e in
    let is = q.3 in
    let k = subst (Numbers Fits) is j in
    let p = first_same numbers_tell a q.0 _ _ h.0 k.0 (ap (drop 1) (e ∙ ap text_of is)) in
    let r = two_same numbers_tell marks_tell b q.1 m q.2 h.1 k.1 h.2 k.2 p.1 in
    (λ i. Pair (p.0 i) (r.0 i) (r.1 i)) ∙ sym is
one_command (Tie a b) d h j e =
    let q = only_tie d _ e in
    let is = q.2 in
    let k = subst (Numbers Fits) is j in
    let p = two_same numbers_tell numbers_tell a q.0 b q.1 h.0 k.0 h.1 k.1 (ap (drop 1) (e ∙ ap text_of is)) in
    (λ i. Tie (p.0 i) (p.1 i)) ∙ sym is
one_command (Untie a b) d h j e =
    let q = only_untie d _ e in
    let is = q.2 in
    let k = subst (Numbers Fits) is j in
    let p = two_same numbers_tell numbers_tell a q.0 b q.1 h.0 k.0 h.1 k.1 (ap (drop 1) (e ∙ ap text_of is)) in
    (λ i. Untie (p.0 i) (p.1 i)) ∙ sym is
one_command (Rank y k) d h j e =
    let q = only_rank d _ e in
    let is = q.2 in
    let p = two_same letters_tell numbers_tell y q.0 k q.1 tt tt h (subst (Numbers Fits) is j) (ap (drop 1) (e ∙ ap text_of is)) in
    (λ i. Rank (p.0 i) (p.1 i)) ∙ sym is

-- a line by its letter and its words
pub letter_words : (line : List ℕ) (b : ℕ) → 0 < length line → slice_index line 0 ≡ b → line ≡ b ∷ take (length line - 1) (drop 1 line)
letter_words line b some is = first_rest line 0 some ∙ ap (λ l. l ∷ take (length line - 1) (drop 1 line)) is

-- where the words are not those of a command with the letter, no command has the text
module _ (line words : List ℕ) (opened : Bool) where
  pub no_pair : line ≡ 80 ∷ words → (a : ℕ) (rest : List ℕ) → Front decimal Short words a rest
      → ((p : ℕ × Mark) → Both Short (OfMark Short) p → rest ≡ two_words decimal mark_word p → ⊥) → (c : Command) → Asks opened c → line ≡ text_of c → ⊥
  no_pair is a rest h none c asks e =
      let q = only_pair c words (sym is ∙ e) in
      let v = subst (Numbers Short) q.3 asks.0 in
      none (q.1, q.2) (v.1, v.2) (after_first shorts_tell words a rest h q.0 _ v.0 (ap (drop 1) (sym is ∙ e ∙ ap text_of q.3)))

  pub no_tie : line ≡ 84 ∷ words → ((p : ℕ × ℕ) → Both Short Short p → words ≡ two_words decimal decimal p → ⊥) → (c : Command) → Asks opened c → line ≡ text_of c → ⊥
  no_tie is none c asks e =
      let q = only_tie c words (sym is ∙ e) in
      none (q.0, q.1) (subst (Numbers Short) q.2 asks.0) (ap (drop 1) (sym is ∙ e ∙ ap text_of q.2))

  pub no_untie : line ≡ 70 ∷ words → ((p : ℕ × ℕ) → Both Short Short p → words ≡ two_words decimal decimal p → ⊥) → (c : Command) → Asks opened c → line ≡ text_of c → ⊥
  no_untie is none c asks e =
      let q = only_untie c words (sym is ∙ e) in
      none (q.0, q.1) (subst (Numbers Short) q.2 asks.0) (ap (drop 1) (sym is ∙ e ∙ ap text_of q.2))

  pub no_rank : line ≡ 82 ∷ words → ((p : YardstickLetter × ℕ) → Both (λ y. Unit {0}) Short p → words ≡ two_words letter_word decimal p → ⊥) → (c : Command) → Asks opened c → line ≡ text_of c → ⊥
  no_rank is none c asks e =
      let q = only_rank c words (sym is ∙ e) in
      none (q.0, q.1) (tt, subst (Numbers Short) q.2 asks.0) (ap (drop 1) (sym is ∙ e ∙ ap text_of q.2))
