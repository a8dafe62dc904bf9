-- One text after another in a lent buffer.
use Rattle.std.proofs.Common.{◌≡◌, ℕ, ◌+◌, ◌<◌, ◌≤◌, List, [], ◌∷◌, ◌++◌, length, get_or, take, drop, set, sym, refl, ap, ◌∙◌, append_assoc, zero-add, add-one, arith, length-append, length-take-le, drop-drop}
use lib.Seq.{take-append-add, drop-append-add, take-append_seam, set_split}
use Rattle.std.specs.List.{flat_map}
use Rattle.std.proofs.lemmas.List.{take_more, flat_map_more}
use Rattle.answers.specs.Places.{Placed, Begun, Appended}
use Rattle.answers.specs.declared.text.Line.{Line}
use Rattle.std.specs.Borrow.{MutBor}
use Rattle.answers.specs.Lines.{Starts}

-- a byte that is set
pub placed_byte : (b : List ℕ) (at x : ℕ) → at < length b → Placed (x ∷ []) at b (set b at x) (at + 1)
placed_byte b at x lt = record { ends = refl; bytes = rw add-one (set_split b at x lt) }

-- a text, and then another
pub placed_more : {t u b m a : List ℕ} {at e f : ℕ} → at ≤ length b → Placed t at b m e → Placed u e m a f → Placed (t ++ u) at b a f
placed_more {t} {u} {b} {m} {a} {at} {e} {f} le p q =
    let P = take at b in
    let R = drop (at + length t) b in
    let long = length-append t u in
    let front = length-take-le at b le in
    let end = p.ends in
    let e₁ : e ≡ length (take at b) + length t = omega arith in
    let e₂ : e + length u ≡ length (take at b) + (length t + length u) = omega arith in
    let e₃ : at + length t + length u ≡ at + length (t ++ u) = omega arith in
    let kept : take e m ≡ take at b ++ t = ap (λ k. take k m) e₁ ∙ ap (take _) p.bytes ∙ take-append-add P (t ++ R) (length t) ∙ ap (λ l. P ++ l) (take-append_seam t R) in
    let rest : drop (e + length u) m ≡ drop (at + length (t ++ u)) b =
    ap (λ k. drop k m) e₂ ∙ ap (drop _) p.bytes ∙ drop-append-add P (t ++ R) (length t + length u) ∙ drop-append-add t R (length u) ∙ drop-drop (length u) (at + length t) b ∙ ap (λ k. drop k b) e₃ in
    record {
      ends = omega (arith, q.ends);
      bytes = q.bytes ∙ (λ i. kept i ++ (u ++ rest i)) ∙ simp append_assoc;
    }

-- the same of a line
pub appended_more : {t u : List ℕ} {b m a : Line} → Appended t b m → Appended u m a → Appended (t ++ u) b a
appended_more {b = b} p q = record {
  same_reference = q.same_reference ∙ p.same_reference;
  placed = placed_more (omega (arith, b.room, b.within)) p.placed q.placed;
}

-- texts in a row, with that of x after the first i
pub joined_take : {X : Type 0} (f : X → List ℕ) (xs : List X) (i : ℕ) (x : X) → i < length xs → x ≡ get_or xs i x → flat_map f (take (i + 1) xs) ≡ flat_map f (take i xs) ++ f x
joined_take f xs i x lt is = ap (flat_map f) (take_more xs i x lt) ∙ sym (flat_map_more f [] (take i xs) (get_or xs i x)) ∙ ap (λ y. flat_map f (take i xs) ++ f y) (sym is)

-- a text at the start of the buffer
pub starts : {text : List ℕ} {buffer : MutBor (List ℕ)} {b a : Line} → Begun buffer b → Appended text b a → Starts text buffer.now a.buffer.now a.len
starts {text} {buffer} {b} {a} first p =
    let q : Placed text 0 buffer.now a.buffer.now a.len = rw (first.empty, first.bytes) at p.placed in
    let long : a.len ≡ length text = q.ends ∙ zero-add (length text) in
    record { count = long; short = omega (arith, a.within); bytes = q.bytes ∙ ap (λ k. text ++ drop k buffer.now) (sym q.ends) }
