-- Words at the front of a text. Where words have no space and tell their values, a text is cut into them in one way.
use Rattle.std.proofs.Common.{◌≡◌, ℕ, ◌<◌, List, [], ◌∷◌, ◌++◌, length, Bool, Option, ◌==◌, sym, refl, ap, ◌∙◌, append-nil, false, arith, rules}
use Rattle.std.specs.Bool.{then_some}
use Rattle.loglines.specs.declared.token.Token.{Token}
use Rattle.loglines.specs.Spans.{Free}
use Rattle.loglines.specs.Words.{bytes, IsWord, Cut}
use Rattle.loglines.specs.Text.{spaced}
use Rattle.loglines.specs.Readers.{Whole, Front, NoFront}
use Rattle.loglines.proofs.Cuts.{word_free, cut_unique}
use Rattle.loglines.proofs.Spellings.{token_word}

-- the text of a valid value has no space, and tells the value
pub record Telling {X : Type 0} (f : X → List ℕ) (Valid : X → Type 0) : Type 0 where
  pub free : (x : X) → Valid x → Free 32 (f x)
  pub same : (x y : X) → Valid x → Valid y → f x ≡ f y → x ≡ y

pub telling : {X : Type 0} {f : X → List ℕ} {Valid : X → Type 0} → ((x : X) → Valid x → IsWord (f x)) → ((x y : X) → Valid x → Valid y → f x ≡ f y → x ≡ y) → Telling f Valid
telling word same = record { free = λ x v. word_free _ (word x v); same = same }

module _ {X : Type 0} {f : X → List ℕ} {Valid : X → Type 0} (law : Telling f Valid) where
  -- the word that stands there writes no such value
  pub front_other : (rest : List ℕ) (t : Token) (more : List ℕ) → Cut rest t more → ((x : X) → Valid x → bytes t ≡ f x → ⊥) → NoFront f Valid rest
  front_other rest t more h not x tail k =
      let p = h.whole in
      let q = k.whole in
      let e : bytes t ++ more ≡ f x ++ tail = cc in
      not x k.valid (cut_unique 32 _ _ _ _ (word_free _ (token_word t h.kind)) h.stop (law.free x k.valid) k.stop e).0

  pub front_unique : (rest : List ℕ) (x y : X) (s t : List ℕ) → Front f Valid rest x s → Front f Valid rest y t → (x ≡ y) × (s ≡ t)
  front_unique rest x y s t h k =
      let p = h.whole in
      let q = k.whole in
      let e : f x ++ s ≡ f y ++ t = cc in
      let u = cut_unique 32 _ _ _ _ (law.free x h.valid) h.stop (law.free y k.valid) k.stop e in
      (law.same x y h.valid k.valid u.0, u.1)

  -- a text that is one word
  front_whole : (x : X) → Valid x → (rest : List ℕ) → rest ≡ spaced f x → Front f Valid rest x []
  front_whole x v rest e = record { valid = v; whole = e ∙ sym (append-nil (spaced f x)); stop = λ lt. absurd (omega arith) }

  pub last_none : (rest : List ℕ) → NoFront f Valid rest → (x : X) → Valid x → rest ≡ spaced f x → ⊥
  last_none rest none x v e = none x [] (front_whole x v rest e)

  pub last_over : (rest : List ℕ) (x : X) (s : List ℕ) → Front f Valid rest x s → 0 < length s → (y : X) → Valid y → rest ≡ spaced f y → ⊥
  last_over rest x s h lt y v e = omega (arith, ap length (front_unique rest x y s [] h (front_whole y v rest e)).1)

  pub last_one : (rest : List ℕ) (x : X) (s : List ℕ) → Front f Valid rest x s → length s ≡ 0 → Valid x × (rest ≡ spaced f x)
  last_one rest x [] h z = (h.valid, h.whole ∙ append-nil (spaced f x))
  last_one rest x (b ∷ s) h z = absurd (omega arith)

  -- the one word of a text, by whether anything follows it
  pub last_told : (rest : List ℕ) (x : X) (s : List ℕ) (b : Bool) (o : Option X) → Front f Valid rest x s → b ≡ (length s == 0) → o ≡ then_some b x → Whole (spaced f) Valid rest o
  last_told rest x [] b o h e is = rw (is, e) (last_one rest x [] h refl)
  last_told rest x (c ∷ s) b o h e is =
      let more : (length (c ∷ s) == 0) ≡ false = search rules in
      rw (is, e, more) (last_over rest x (c ∷ s) h (omega arith))

  pub last_same : (x y : X) → Valid x → Valid y → spaced f x ≡ spaced f y → x ≡ y
  last_same x y v w e = let same : f x ≡ f y = cc in law.same x y v w same

  -- a text of one word and more, which begins with the next word's space
  pub after_first : (rest : List ℕ) (x : X) (s : List ℕ) → Front f Valid rest x s → (y : X) (more : List ℕ) → Valid y → rest ≡ spaced f y ++ (32 ∷ more) → s ≡ 32 ∷ more
  after_first rest x s h y more v e = (front_unique rest x y s (32 ∷ more) h (record { valid = v; whole = e; stop = λ lt. refl })).1

  pub first_same : (x y : X) (s t : List ℕ) → Valid x → Valid y → spaced f x ++ (32 ∷ s) ≡ spaced f y ++ (32 ∷ t) → (x ≡ y) × (32 ∷ s ≡ 32 ∷ t)
  first_same x y s t v w e =
      front_unique _ x y (32 ∷ s) (32 ∷ t) (record { valid = v; whole = refl; stop = λ lt. refl }) (record { valid = w; whole = e; stop = λ lt. refl })

-- a text of two words tells both values
pub two_same : {X Y : Type 0} {f : X → List ℕ} {V : X → Type 0} {g : Y → List ℕ} {W : Y → Type 0} → Telling f V → Telling g W → (a x : X) (b y : Y) → V a → V x → W b → W y → spaced f a ++ spaced g b ≡ spaced f x ++ spaced g y → (a ≡ x) × (b ≡ y)
two_same F G a x b y va vx wb wy e = let p = first_same F a x _ _ va vx e in (p.0, last_same G b y wb wy p.1)
