-- The steps of spread and target: what fits, and how many units are placed.
use Rattle.std.proofs.Common.{◌≡◌, ℕ, zero, suc, ◌+◌, ◌-◌, ◌*◌, ◌/◌, ◌%◌, ◌^◌, ◌<◌, ◌≤◌, Bool, true, false, cond, eqb, get_or, ℤ, pos, ◌*ℤ◌, nat_abs, sym, refl, ap, ◌∙◌, div-one, arith}
use native.Mathlib.Nat.{pow-succ', div-div-eq-div-mul}
use lib.Count.{ones, ones_step}
use Rattle.std.specs.List.{range_with_len}
use Rattle.std.proofs.lemmas.Bool.{eqb-true}
use Rattle.std.proofs.lemmas.Int.{unsigned_abs-mul}
use Rattle.rules.specs.Units.{label, has, size, with_unit, displacement}
use Rattle.rules.specs.Yardsticks.{places}
use Rattle.rules.proofs.Lawfulness.{yardsticks_lawful}
use Rattle.rules.proofs.Members.{all_of_in, in_counting}
use Rattle.rules.proofs.Sets.{many, many_low, size_many, size_with}
use Rattle.marks.specs.declared.marks.Marks.{Marks}
use Rattle.marks.specs.Numbers.{units_of, numbers_of}
use Rattle.marks.proofs.Laws.{least, most, low, symmetric}

-- the rule of the place numbers, a test of the whole table
pub place_rule : (i : ℕ) → i < 20 → get_or places i 0 ≡ i
place_rule i h =
    eqb-true (get_or places i 0) i (all_of_in (λ k. eqb (get_or places k 0) k) (range_with_len 0 20) refl i (in_counting 0 20 i (omega arith) (omega arith)))

-- the unit j is placed after A
module _ (m : Marks) (A j : ℕ) (below : A < 2 ^ units_of m) (is : label (units_of m) j ≡ true) (out : has A j ≡ false) where
  abbrev far : ℤ
  far = displacement (numbers_of m) (units_of m) A j

  pub square_low : nat_abs far * nat_abs far ≤ 36100000000
  square_low =
      let w = yardsticks_lawful.0.step_within (numbers_of m) (units_of m) A j (least m) (most m) (low m) (symmetric m) below is out in
      omega (arith, unsigned_abs-mul far far, w.0)

  pub product_low : nat_abs (far *ℤ pos (get_or places (size (units_of m) A) 0)) ≤ 3610000
  product_low =
      let w = yardsticks_lawful.1.1.step_within (numbers_of m) (units_of m) A j (least m) (most m) (low m) (symmetric m) below is out in
      omega (arith, w.0)

  pub size_low : size (units_of m) A < 20
  size_low =
      omega (
        arith,
        size_with (units_of m) A j is out,
        size_many (units_of m) (with_unit A j),
        many_low (units_of m) (with_unit A j),
        most m,
      )

-- how many units a set has, by its bits
bit_first : (A : ℕ) → cond (has A 1) 1 0 ≡ A % 2
bit_first A = ap (λ (q : ℕ). cond {A = ℕ} (eqb (q % 2) 1) 1 0) (div-one A) ∙ one (A % 2) (omega arith)
  where
    one : (b : ℕ) → b < 2 → cond (eqb b 1) 1 0 ≡ b
    one b h = grind arith

has_half : (A k : ℕ) → has A (suc (suc k)) ≡ has (A / 2) (suc k)
has_half A k =
    let e : suc (suc k) - 1 ≡ suc k = omega arith in
    let f : suc k - 1 ≡ k = omega arith in
    ap (λ (i : ℕ). eqb ((A / 2 ^ i) % 2) 1) e
    ∙ (ap (λ (q : ℕ). eqb (q % 2) 1) (ap (λ (d : ℕ). A / d) (pow-succ' 2 k) ∙ sym (div-div-eq-div-mul A 2 (2 ^ k)))
    ∙ ap (λ (i : ℕ). eqb ((A / 2 / 2 ^ i) % 2) 1) (sym f))

many_half : (n A : ℕ) → many (suc n) A ≡ A % 2 + many n (A / 2)
many_half zero A = omega (arith, bit_first A)
many_half (suc n) A = omega (arith, many_half n A, ap (λ (b : Bool). cond {A = ℕ} b 1 0) (has_half A n))

ones_many : (n A : ℕ) → A < 2 ^ n → ones A ≡ many n A
unfolding ones
ones_many zero zero h = refl
ones_many zero (suc A) h = absurd (omega arith)
ones_many (suc n) A h = ones_step A ∙ (ap (λ (k : ℕ). A % 2 + k) (ones_many n (A / 2) (omega (arith, pow-succ' 2 n))) ∙ sym (many_half n A))

pub ones_size : (n A : ℕ) → A < 2 ^ n → ones A ≡ size n A
ones_size n A h = ones_many n A h ∙ sym (size_many n A)
