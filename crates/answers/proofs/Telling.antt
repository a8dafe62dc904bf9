-- A line tells what it says: a number ends at the first byte that no number has.
use Rattle.std.proofs.Common.{◌≡◌, ℕ, zero, suc, ◌<◌, List, [], ◌∷◌, ◌++◌, length, get_or, drop, ℤ, pos, negsuc, codes, decimal, sym, refl, ap, ◌∙◌, append_assoc, arith}
use Rattle.std.specs.Int.{IsInRange}
use Rattle.std.specs.Fmt.{signed_decimal}
use Rattle.std.specs.List.{AllByRecursion}
use Rattle.std.proofs.lemmas.Fmt.{decimal_is_IsNumeral, decimal_nonempty, decimal_injective, signed_decimal_injective}
use Rattle.std.proofs.lemmas.Str.Parse.{digit_at}
use Rattle.answers.specs.Lines.{each, total_text, ranking, scaling, ranked, scaled, refused, Whole64, Signed64, Numbers64, OneAnswer}

-- each byte is a digit or a sign: no other byte of a line lies between these
abbrev Numeric : List ℕ → Type 0
Numeric w = (i : ℕ) → i < length w → IsInRange 45 57 (get_or w i 0)

-- the text is empty, or begins with another byte
abbrev Ends : List ℕ → Type 0
Ends s = IsInRange 45 57 (get_or s 0 0) → ⊥

-- a text that begins with such a byte does not begin with another
no_front : (w s t : List ℕ) → 0 < length w → Numeric w → Ends s → s ≡ w ++ t → ⊥
no_front [] s t some hw es e = omega arith
no_front (b ∷ w) s t some hw es e = es (rw e (hw 0 (omega arith)))

-- a text is cut behind its number in one way
cut_same : (w v s t : List ℕ) → Numeric w → Numeric v → Ends s → Ends t → w ++ s ≡ v ++ t → (w ≡ v) × (s ≡ t)
cut_same [] [] s t hw hv es et e = (refl, e)
cut_same [] (b ∷ v) s t hw hv es et e = absurd (no_front (b ∷ v) s t (omega arith) hv es e)
cut_same (a ∷ w) [] s t hw hv es et e = absurd (no_front (a ∷ w) t s (omega arith) hw et (sym e))
cut_same (a ∷ w) (b ∷ v) s t hw hv es et e =
    let same : a ≡ b = cc in
    let rest : w ++ s ≡ v ++ t = cc in
    let p = cut_same w v s t (λ i lt. hw (suc i) (omega arith)) (λ i lt. hv (suc i) (omega arith)) es et rest in
    ((λ i. same i ∷ p.0 i), p.1)

-- valid numbers have texts of such bytes, and are told by them
record Told {X : Type 0} (f : X → List ℕ) (Valid : X → Type 0) : Type 0 where
  some : (x : X) → Valid x → 0 < length (f x)
  numeric : (x : X) → Valid x → Numeric (f x)
  same : (x y : X) → Valid x → Valid y → f x ≡ f y → x ≡ y

-- what follows numbers that each stand after the byte is no number more
record Closes (byte : ℕ) (s : List ℕ) : Type 0 where
  ends : Ends s
  last : get_or s 0 0 ≡ byte → Ends (drop 1 s)

module _ {X : Type 0} {f : X → List ℕ} {Valid : X → Type 0} (law : Told f Valid) where
  number_same : (x y : X) (s t : List ℕ) → Valid x → Valid y → Ends s → Ends t → f x ++ s ≡ f y ++ t → (x ≡ y) × (s ≡ t)
  number_same x y s t vx vy es et e =
      let p = cut_same (f x) (f y) s t (law.numeric x vx) (law.numeric y vy) es et e in
      (law.same x y vx vy p.0, p.1)

  -- no number stands where a text has another byte
  no_number : (x : X) (s t : List ℕ) → Valid x → Ends s → s ≡ f x ++ t → ⊥
  no_number x s t vx es e = no_front (f x) s t (law.some x vx) (law.numeric x vx) es e

  module _ (byte : ℕ) (parts : IsInRange 45 57 byte → ⊥) where
    each_ends : (xs : List X) (s : List ℕ) → Ends s → Ends (each byte f xs ++ s)
    each_ends [] s es = es
    each_ends (x ∷ xs) s es = parts

    no_each : (y : X) (ys : List X) (s t : List ℕ) → Valid y → Closes byte s → s ≡ each byte f (y ∷ ys) ++ t → ⊥
    no_each y ys s t vy cs e =
        no_number y (drop 1 s) (each byte f ys ++ t) vy (cs.last (ap (λ l. get_or l 0 0) e)) (ap (drop 1) e ∙ append_assoc (f y) (each byte f ys) t)

    each_same : (xs ys : List X) (s t : List ℕ) → AllByRecursion Valid xs → AllByRecursion Valid ys → Closes byte s → Closes byte t → each byte f xs ++ s ≡ each byte f ys ++ t → (xs ≡ ys) × (s ≡ t)
    each_same [] [] s t vx vy cs ct e = (refl, e)
    each_same [] (y ∷ ys) s t vx vy cs ct e = absurd (no_each y ys s t vy.0 cs e)
    each_same (x ∷ xs) [] s t vx vy cs ct e = absurd (no_each x xs t s vx.0 ct (sym e))
    each_same (x ∷ xs) (y ∷ ys) s t vx vy cs ct e =
        let p = number_same x y _ _ vx.0 vy.0 (each_ends xs s cs.ends) (each_ends ys t ct.ends)
        (sym (append_assoc (f x) (each byte f xs) s) ∙ ap (drop 1) e ∙ append_assoc (f y) (each byte f ys) t) in
        let q = each_same xs ys s t vx.1 vy.1 cs ct p.1 in
        ((λ i. p.0 i ∷ q.0 i), q.1)

wholes : Told decimal Whole64
wholes = record {
  some = decimal_nonempty;
  numeric = λ n h i lt. let d = digit_at (decimal n) i (decimal_is_IsNumeral n h).0.1 lt in (omega arith, omega arith);
  same = decimal_injective;
}

signed_some : (z : ℤ) → Signed64 z → 0 < length (signed_decimal z)
signed_some (pos n) h = decimal_nonempty n (omega arith)
signed_some (negsuc n) h = omega arith

signed_numeric : (z : ℤ) → Signed64 z → Numeric (signed_decimal z)
signed_numeric (pos n) h i lt = wholes.numeric n (omega arith) i lt
signed_numeric (negsuc n) h zero lt = (omega arith, omega arith)
signed_numeric (negsuc n) h (suc i) lt = wholes.numeric (suc n) (omega arith) i (omega arith)

signeds : Told signed_decimal Signed64
signeds = record { some = signed_some; numeric = signed_numeric; same = signed_decimal_injective }

-- the bytes that part the numbers are none of theirs
space_parts : IsInRange 45 57 32 → ⊥
space_parts h = omega arith

comma_parts : IsInRange 45 57 44 → ⊥
comma_parts h = omega arith

-- a text that begins with a space and a letter
spaced_word : (letter : ℕ) (s : List ℕ) → 57 < letter → Closes 32 (32 ∷ letter ∷ s)
spaced_word letter s high = record { ends = space_parts; last = λ e h. omega arith }

after_total : (s : List ℕ) → Closes 44 (32 ∷ s)
after_total s = record { ends = space_parts; last = λ e. absurd (omega arith) }

total_same : (xs ys : List ℤ) (s t : List ℕ) → AllByRecursion Signed64 xs → AllByRecursion Signed64 ys → Closes 44 s → Closes 44 t → total_text xs ++ s ≡ total_text ys ++ t → (xs ≡ ys) × (s ≡ t)
total_same [] [] s t vx vy cs ct e = (refl, e)
total_same [] (y ∷ ys) s t vx vy cs ct e = absurd (no_number signeds y s _ vy.0 cs.ends (e ∙ append_assoc (signed_decimal y) (each 44 signed_decimal ys) t))
total_same (x ∷ xs) [] s t vx vy cs ct e = absurd (no_number signeds x t _ vx.0 ct.ends (sym e ∙ append_assoc (signed_decimal x) (each 44 signed_decimal xs) s))
total_same (x ∷ xs) (y ∷ ys) s t vx vy cs ct e =
    let p = number_same signeds x y _ _ vx.0 vy.0 (each_ends signeds 44 comma_parts xs s cs.ends) (each_ends signeds 44 comma_parts ys t ct.ends)
    (sym (append_assoc (signed_decimal x) (each 44 signed_decimal xs) s) ∙ e ∙ append_assoc (signed_decimal y) (each 44 signed_decimal ys) t) in
    let q = each_same signeds 44 comma_parts xs ys s t vx.1 vy.1 cs ct p.1 in
    ((λ i. p.0 i ∷ q.0 i), q.1)

-- the parts of a line one after another
ranking_then : (order : List ℕ) (total : List ℤ) (count : ℕ) (s : List ℕ)
    → ranking order total count ++ s ≡ codes "order" ++ (each 32 decimal order ++ (codes " total " ++ (total_text total ++ (codes " of " ++ (decimal count ++ s)))))
ranking_then order total count s = simp append_assoc

ranking_same : (o p : List ℕ) (x y : List ℤ) (m n : ℕ) (s t : List ℕ) → Numbers64 (ranked o x m) → Numbers64 (ranked p y n) → Ends s → Ends t
    → ranking o x m ++ s ≡ ranking p y n ++ t → (o ≡ p) × (x ≡ y) × (m ≡ n) × (s ≡ t)
ranking_same o p x y m n s t v w es et e =
    let a = each_same wholes 32 space_parts o p _ _ v.0 w.0 (spaced_word 116 _ (omega arith)) (spaced_word 116 _ (omega arith))
    (ap (drop 5) (sym (ranking_then o x m s) ∙ e ∙ ranking_then p y n t)) in
    let b = total_same x y _ _ v.1 w.1 (after_total _) (after_total _) (ap (drop 7) a.1) in
    let c = number_same wholes m n s t v.2 w.2 es et (ap (drop 4) b.1) in
    (a.0, b.0, c.0, c.1)

scaling_then : (displaced : List ℤ) (loss : ℤ) (s : List ℕ) → scaling displaced loss ++ s ≡ codes " at" ++ (each 32 signed_decimal displaced ++ (codes " loss " ++ (signed_decimal loss ++ s)))
scaling_then displaced loss s = simp append_assoc

scaling_same : (d e : List ℤ) (x y : ℤ) (s t : List ℕ) → AllByRecursion Signed64 d → AllByRecursion Signed64 e → Signed64 x → Signed64 y → Ends s → Ends t
    → scaling d x ++ s ≡ scaling e y ++ t → (d ≡ e) × (x ≡ y)
scaling_same d e x y s t vd ve vx vy es et is =
    let a = each_same signeds 32 space_parts d e _ _ vd ve (spaced_word 108 _ (omega arith)) (spaced_word 108 _ (omega arith))
    (ap (drop 3) (sym (scaling_then d x s) ∙ is ∙ scaling_then e y t)) in
    let b = number_same signeds x y s t vx vy es et (ap (drop 6) a.1) in
    (a.0, b.0)

feed_ends : Ends (codes "\n")
feed_ends h = omega arith

-- two texts do not begin with different bytes
apart : (s t : List ℕ) → (get_or s 0 0 ≡ get_or t 0 0 → ⊥) → s ≡ t → ⊥
apart s t differ e = differ (ap (λ l. get_or l 0 0) e)

pub one_answer : OneAnswer
one_answer (ranked o x m) (ranked p y n) v w e =
    let r = ranking_same o p x y m n _ _ v w feed_ends feed_ends e in
    λ i. ranked (r.0 i) (r.1 i) (r.2 i)
one_answer (ranked o x m) (scaled p y n d l) v w e =
    let r = ranking_same o p x y m n _ _ v (w.0, w.1, w.2) feed_ends space_parts e in
    absurd (apart _ _ (λ h. omega arith) r.3)
one_answer (scaled o x m d l) (ranked p y n) v w e =
    let r = ranking_same o p x y m n _ _ (v.0, v.1, v.2) w space_parts feed_ends e in
    absurd (apart _ _ (λ h. omega arith) r.3)
one_answer (scaled o x m d l) (scaled p y n c k) v w e =
    let r = ranking_same o p x y m n _ _ (v.0, v.1, v.2) (w.0, w.1, w.2) space_parts space_parts e in
    let q = scaling_same d c l k _ _ v.3 w.3 v.4 w.4 feed_ends feed_ends r.3 in
    λ i. scaled (r.0 i) (r.1 i) (r.2 i) (q.0 i) (q.1 i)
one_answer (refused a f) (refused b h) v w e =
    let p = number_same wholes a b _ _ v.0 w.0 space_parts space_parts (ap (drop 5) e) in
    let q = number_same wholes f h _ _ v.1 w.1 feed_ends feed_ends (ap (drop 9) p.1) in
    λ i. refused (p.0 i) (q.0 i)
one_answer (ranked o x m) (refused a f) v w e = absurd (apart _ _ (λ h. omega arith) e)
one_answer (scaled o x m d l) (refused a f) v w e = absurd (apart _ _ (λ h. omega arith) e)
one_answer (refused a f) (ranked o x m) v w e = absurd (apart _ _ (λ h. omega arith) e)
one_answer (refused a f) (scaled o x m d l) v w e = absurd (apart _ _ (λ h. omega arith) e)
