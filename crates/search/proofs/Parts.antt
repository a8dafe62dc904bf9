-- Whether one set is within another, by their bits and label by label.
use Rattle.std.proofs.Common.{◌≡◌, ℕ, zero, suc, ◌+◌, ◌-◌, ◌*◌, ◌/◌, ◌%◌, ◌^◌, ◌<◌, ◌≤◌, min, Bool, true, false, not, ◌||◌, eqb, List, sym, refl, ap, ◌∙◌, subst, inl, inr, div-one, arith}
use native.Mathlib.Nat.{pow-succ'}
use lib.Bits.{bit_and, and_step, and_le_r, and_shr, and_mod, and_zero_l}
use Rattle.std.specs.List.{list_all}
use Rattle.std.specs.Bool.{MatchBool}
use Rattle.std.proofs.lemmas.Nat.{shr-shr}
use Rattle.std.proofs.lemmas.Bool.{both_ways, cases_eq, eqb-true, eq-eqb}
use Rattle.rules.specs.Units.{labels, has}
use Rattle.rules.specs.Orders.{follows}
use Rattle.rules.proofs.Tests.{or_then, then_or, refuted}
use Rattle.rules.proofs.Sets.{label_low, label_high, label_from}
use Rattle.rules.proofs.Members.{In, all_of_in, in_all_of}
use Rattle.rules.proofs.Ways.{label_in, in_label}
use Rattle.search.specs.Parts.{part_of}

-- two tests that hold together
pub alike : (b c : Bool) → (b ≡ true → c ≡ true) → (c ≡ true → b ≡ true) → b ≡ c
alike b c h k = grind arith

abbrev bit : ℕ → ℕ → ℕ
bit A m = (A / 2 ^ m) % 2

bit_suc : (A m : ℕ) → bit A (suc m) ≡ bit (A / 2) m
bit_suc A m = let e : 1 + m ≡ suc m = omega arith in
    ap (λ (k : ℕ). (A / 2 ^ k) % 2) (sym e) ∙ ap (λ (q : ℕ). q % 2) (sym (shr-shr A 1 m))

-- what is common to B and A is B: each bit of B is one of A
part_bit : (B A m : ℕ) → bit_and B A ≡ B → bit B m ≡ 1 → bit A m ≡ 1
part_bit B A m h b =
    let e : bit B m ≡ bit_and (bit B m) (bit A m) =
    ap (λ (q : ℕ). bit q m) (sym h) ∙ ap (λ (q : ℕ). q % 2) (and_shr B A m) ∙ and_mod (B / 2 ^ m) (A / 2 ^ m) 1 in
    omega (arith, and_le_r (bit B m) (bit A m))

-- and back
bits_part : (n B A : ℕ) → B < 2 ^ n → ((m : ℕ) → m < n → bit B m ≡ 1 → bit A m ≡ 1) → bit_and B A ≡ B
bits_part zero B A l h = let z : 0 ≡ B = omega arith in subst (λ (x : ℕ). bit_and x A ≡ x) z (and_zero_l A)
bits_part (suc n) B A l h =
    let r = bits_part n (B / 2) (A / 2) (omega (arith, pow-succ' 2 n)) (λ m k b. sym (bit_suc A m) ∙ h (suc m) (omega arith) (bit_suc B m ∙ b)) in
    let f : B % 2 ≡ 1 → A % 2 ≡ 1 = λ b.
    ap (λ (q : ℕ). q % 2) (sym (div-one A)) ∙ h 0 (omega arith) (ap (λ (q : ℕ). q % 2) (div-one B) ∙ b) in
    low (B % 2) (A % 2) (omega arith) refl f (and_step B A) r
  where
    low : (b a : ℕ) → b < 2 → b ≡ B % 2 → (b ≡ 1 → a ≡ 1) → bit_and B A ≡ bit_and (B / 2) (A / 2) * 2 + min b a → bit_and (B / 2) (A / 2) ≡ B / 2 → bit_and B A ≡ B
    low b a l q f e r = elim (cases_eq b 1) [ inl z ↦ omega (arith, f z) | inr ne ↦ omega arith ]

pub within_is : (n B A : ℕ) → B < 2 ^ n → eqb (bit_and B A) B ≡ part_of n B A
within_is n B A l = alike (eqb (bit_and B A) B) (part_of n B A)
    (λ e. in_all_of (λ a. not (has B a) || has A a) (labels n) (λ a i. then_or (has B a) (has A a)
    (λ b. eq-eqb (bit A (a - 1)) 1 (part_bit B A (a - 1) (eqb-true (bit_and B A) B e) (eqb-true (bit B (a - 1)) 1 b)))))
    (λ e. eq-eqb (bit_and B A) B (bits_part n B A l (λ m k b. at m (
    or_then (has B (suc m)) (has A (suc m)) (all_of_in (λ a. not (has B a) || has A a) (labels n) e (suc m) (label_in n (suc m) (label_from n (suc m) (omega arith) (omega arith))))
    (to m b)))))
  where
    to : (m : ℕ) → bit B m ≡ 1 → has B (suc m) ≡ true
    to m b = let e : m ≡ suc m - 1 = omega arith in eq-eqb (bit B (suc m - 1)) 1 (subst (λ (z : ℕ). bit B z ≡ 1) e b)

    at : (m : ℕ) → has A (suc m) ≡ true → bit A m ≡ 1
    at m h = let e : suc m - 1 ≡ m = omega arith in subst (λ (z : ℕ). bit A z ≡ 1) e (eqb-true (bit A (suc m - 1)) 1 h)

-- the same test on the same labels
pub all_same : (f g : ℕ → Bool) (xs : List ℕ) → ((x : ℕ) → In x xs → f x ≡ g x) → list_all f xs ≡ list_all g xs
all_same f g xs h = alike (list_all f xs) (list_all g xs)
    (λ e. in_all_of g xs (λ x i. sym (h x i) ∙ all_of_in f xs e x i))
    (λ e. in_all_of f xs (λ x i. h x i ∙ all_of_in g xs e x i))

-- a set that has what is tied before a unit follows
pub follows_part : (tied : ℕ → ℕ → Bool) (n B A j : ℕ) → ((a : ℕ) → 1 ≤ a → has B a ≡ tied a j) → part_of n B A ≡ follows tied n A j
follows_part tied n B A j h =
    all_same (λ a. not (has B a) || has A a) (λ a. not (tied a j) || has A a) (labels n)
    (λ a i. ap (λ (b : Bool). not b || has A a) (h a (label_low n a (in_label n a i))))

-- the test of all labels, by what a search of them answers
pub labels_all : (f : ℕ → Bool) (n : ℕ) (r : Bool)
    → MatchBool r ((b : ℕ) → 1 ≤ b → b ≤ n → f b ≡ true) ((b : ℕ) × (1 ≤ b) × (b ≤ n) × (f b ≡ false)) → r ≡ list_all f (labels n)
labels_all f n true h = sym (in_all_of f (labels n) (λ x i. let l = in_label n x i in h x (label_low n x l) (label_high n x l)))
labels_all f n false h = sym (refuted (list_all f (labels n)) (λ e. both_ways (f h.0) h.3
    (all_of_in f (labels n) e h.0 (label_in n h.0 (label_from n h.0 h.1 h.2)))))
