-- The lines of answers: what each says, and what a buffer holds after one is written.
use Rattle.std.specs.Prelude.{◌≡◌, ℕ, ◌^◌, ◌<◌, ◌≤◌, Bool, true, false, List, [], ◌∷◌, ◌++◌, length, drop, ℤ, codes, decimal, Option, MatchOption, nat_le}
use Rattle.std.specs.Int.Signed.{mag}
use Rattle.std.specs.List.{flat_map, AllByRecursion}
use Rattle.std.specs.Fmt.{signed_decimal}
use Rattle.answers.specs.declared.total.Total.{Total}
use Rattle.answers.specs.declared.total.Total.TheVariants.{One, Two}

-- the text of a number after a byte that parts it from what stands before, and the texts of all xs, each after that byte
abbrev pub parted : {X : Type 0} → ℕ → (X → List ℕ) → X → List ℕ
parted byte f x = byte ∷ f x

abbrev pub each : {X : Type 0} → ℕ → (X → List ℕ) → List X → List ℕ
each byte f xs = flat_map (parted byte f) xs

-- the numbers of a total: one, or two
abbrev pub total_numbers : Total → List ℤ
total_numbers (One z) = z ∷ []
total_numbers (Two y z) = y ∷ z ∷ []

-- the numbers of a total, joined by commas
abbrev pub total_text : List ℤ → List ℕ
total_text [] = []
total_text (z ∷ zs) = signed_decimal z ++ each 44 signed_decimal zs

-- an order, its total, and how many orders reach it
abbrev pub ranking : List ℕ → List ℤ → ℕ → List ℕ
ranking order total count = codes "order" ++ (each 32 decimal order ++ (codes " total " ++ (total_text total ++ (codes " of " ++ decimal count))))

-- the displacements of an order and its loss
abbrev pub scaling : List ℤ → ℤ → List ℕ
scaling displaced loss = codes " at" ++ (each 32 signed_decimal displaced ++ (codes " loss " ++ signed_decimal loss))

-- the line of a ranking, of a ranking that is scaled, and of a refusal, each with its line feed
abbrev pub ranked_text : List ℕ → List ℤ → ℕ → List ℕ
ranked_text order total count = ranking order total count ++ codes "\n"

abbrev pub scaled_text : List ℕ → List ℤ → ℕ → List ℤ → ℤ → List ℕ
scaled_text order total count displaced loss = ranking order total count ++ (scaling displaced loss ++ codes "\n")

abbrev pub refused_text : ℕ → ℕ → List ℕ
refused_text line refusal = codes "line " ++ (decimal line ++ (codes " refused " ++ (decimal refusal ++ codes "\n")))

-- the buffer has room for any line: at least 512 bytes
abbrev pub roomy : List ℕ → Bool
roomy buffer = nat_le 512 (length buffer)

-- a list that a line has room for: at most 11 entries
abbrev pub listable : {X : Type 0} → List X → Bool
listable xs = nat_le (length xs) 11

-- the text stands at the start of the buffer, in n bytes and at most 512, and the bytes after it are as they were
pub record Starts (text before after : List ℕ) (n : ℕ) : Type 0 where
  pub count : n ≡ length text
  pub short : n ≤ 512
  pub bytes : after ≡ text ++ drop n before

-- what writing a line answers: how many bytes it took, exactly if the line fits; else the buffer is as it was
abbrev pub Written : Bool → List ℕ → List ℕ → List ℕ → Option ℕ → Type 0
Written fits text before after r = MatchOption r ((fits ≡ false) × (after ≡ before)) (λ n. (fits ≡ true) × Starts text before after n)

-- what a line can say
pub data Answer : Type 0 where
  ranked : List ℕ → List ℤ → ℕ → Answer
  scaled : List ℕ → List ℤ → ℕ → List ℤ → ℤ → Answer
  refused : ℕ → ℕ → Answer

abbrev pub line_of : Answer → List ℕ
line_of (ranked order total count) = ranked_text order total count
line_of (scaled order total count displaced loss) = scaled_text order total count displaced loss
line_of (refused line refusal) = refused_text line refusal

-- numbers of 64 bits, without and with a sign
abbrev pub Whole64 : ℕ → Type 0
Whole64 n = n < 2 ^ 64

abbrev pub Signed64 : ℤ → Type 0
Signed64 z = mag z < 2 ^ 63

-- every number of the answer has 64 bits
abbrev pub Numbers64 : Answer → Type 0
Numbers64 (ranked order total count) = AllByRecursion Whole64 order × AllByRecursion Signed64 total × Whole64 count
Numbers64 (scaled order total count displaced loss) = AllByRecursion Whole64 order × AllByRecursion Signed64 total × Whole64 count × AllByRecursion Signed64 displaced × Signed64 loss
Numbers64 (refused line refusal) = Whole64 line × Whole64 refusal

-- no two answers share a line
abbrev pub OneAnswer : Type 0
OneAnswer = (a b : Answer) → Numbers64 a → Numbers64 b → line_of a ≡ line_of b → a ≡ b
