-- Tests that hold or fail.
use Rattle.std.proofs.Common.{◌≡◌, ◌≤◌, Bool, true, false, cond, not, ◌||◌, arith}

-- a test that cannot hold fails, and one that cannot fail holds
pub refuted : (b : Bool) → (b ≡ true → ⊥) → b ≡ false
refuted b h = grind arith

pub forced : (b : Bool) → (b ≡ false → ⊥) → b ≡ true
forced b h = grind arith

-- a test that asks one thing only where another holds
pub or_then : (b c : Bool) → (not b || c) ≡ true → b ≡ true → c ≡ true
or_then b c h e = grind arith

pub then_or : (b c : Bool) → (b ≡ true → c ≡ true) → (not b || c) ≡ true
then_or b c h = grind arith

-- a test as 1 or 0
pub bit_low : (b : Bool) → cond b 1 0 ≤ 1
bit_low b = grind arith

pub one_if : (b : Bool) → b ≡ true → 1 ≤ cond b 1 0
one_if b e = grind arith

pub none_if : (b : Bool) → b ≡ false → cond b 1 0 ≤ 0
none_if b e = grind arith

pub if_one : (b : Bool) → 1 ≤ cond b 1 0 → b ≡ true
if_one b h = grind arith
