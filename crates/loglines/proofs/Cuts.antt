-- Where a text is cut at a byte, and that it is cut so in one way.
use Rattle.std.specs.Prelude.{◌≡◌, ℕ, ◌<◌, ◌≤◌, List, [], ◌∷◌, ◌++◌, length, take, drop, slice_index, Option, Some, None, MatchOption}
use Rattle.std.proofs.Common.{sym, ap, subst, ◌∙◌, Bor, inl, inr, ⊎_elim, add-zero, arith, length-append, get_or-take, get_or-append-add, length-take-le}
use Rattle.std.specs.List.{slice_get}
use Rattle.std.specs.Option.{option_map}
use Rattle.std.proofs.Math.Seq.{take-append_seam, drop-append_seam}
use Rattle.std.proofs.lemmas.List.{get_or_append_left}
use Rattle.std.proofs.lemmas.Option.{get_or_from_slice_get, slice_get_cases}
use Rattle.std.proofs.str.Laws.{order}
use Rattle.loglines.specs.Spans.{Spans, Free, Stopped, parts}
use Rattle.loglines.specs.Words.{IsWord, NoWord, part_at}

-- the first byte of what follows w
at_seam : (w tail : List ℕ) → slice_index (w ++ tail) (length w) ≡ slice_index tail 0
at_seam w tail = ap (λ k. slice_index (w ++ tail) k) (sym (add-zero (length w))) ∙ get_or-append-add w tail 0 0

module _ (stop : ℕ) where
  pub span_free : (s : List ℕ) (n : ℕ) → Spans stop s n → Free stop (take n s)
  span_free s n sp i lt e =
      let long = length-take-le n s sp.within in
      let under : i < n = omega arith in
      sp.before i under (sym (get_or-take n s i 0 under) ∙ e)

  pub span_unique : (w tail : List ℕ) (n : ℕ) → Free stop w → Stopped stop tail → Spans stop (w ++ tail) n → n ≡ length w
  span_unique w tail n free at sp =
      let long = length-append w tail in
      ⊎_elim
      (λ lt. absurd (free n lt (sym (get_or_append_left w tail 0 n lt) ∙ sp.stops (omega arith))))
      (λ ge.
      ⊎_elim
      (λ over. absurd (sp.before (length w) over (at_seam w tail ∙ at (omega (arith, sp.within)))))
      (λ le. omega arith)
      (order (length w) n))
      (order n (length w))

  pub spans_at : (w tail : List ℕ) → Free stop w → Stopped stop tail → Spans stop (w ++ tail) (length w)
  spans_at w tail free at =
      let long = length-append w tail in
      record {
        within = omega arith;
        before = λ k lt e. free k lt (sym (get_or_append_left w tail 0 k lt) ∙ e);
        stops = λ lt. at_seam w tail ∙ at (omega arith);
      }

  -- a text is cut at its first stop in one way
  pub cut_unique : (w tail v rest : List ℕ) → Free stop w → Stopped stop tail → Free stop v → Stopped stop rest → w ++ tail ≡ v ++ rest → (w ≡ v) × (tail ≡ rest)
  cut_unique w tail v rest fw st fv sr e =
      let n : length w ≡ length v = sym (span_unique w tail (length v) fw st (subst (λ l. Spans stop l (length v)) (sym e) (spans_at v rest fv sr))) in (
        sym (take-append_seam w tail) ∙ (λ i. take (n i) (e i)) ∙ take-append_seam v rest,
        sym (drop-append_seam w tail) ∙ (λ i. drop (n i) (e i)) ∙ drop-append_seam v rest,
      )

-- no word has a space
pub word_free : (w : List ℕ) → IsWord w → Free 32 w
word_free w (inl c) i lt e = let one = c.one in let z : i ≡ 0 = omega arith in omega (arith, c.is, ap (λ k. slice_index w k) z)
word_free w (inr (inl d)) i lt e = omega (arith, d.digits i lt)
word_free w (inr (inr h)) i lt e = let z : i ≡ 0 = omega (arith, ap length h) in omega (arith, ap (λ l. slice_index l 0) h, ap (λ k. slice_index w k) z)

-- where the bytes up to the next space are no word
pub no_word : (rest after : List ℕ) (n : ℕ) → rest ≡ 32 ∷ after → Spans 32 after n → (IsWord (take n after) → ⊥) → NoWord rest
no_word rest after n e sp none w tail is stop e' =
    let same : after ≡ w ++ tail = cc in
    let seam : n ≡ length w = span_unique 32 w tail n (word_free w is) stop (subst (λ l. Spans 32 l n) same sp) in
    let here = sym seam in
    let back = sym same in
    none (subst IsWord (sym (take-append_seam w tail) ∙ (λ i. take (here i) (back i))) is)

-- the part at a place, where it is one of the parts of the line
pub part_read : (line : List ℕ) (place : ℕ) (r : Option (Bor (List ℕ))) → option_map (λ s. s.now) r ≡ slice_get (parts 32 line) place
    → MatchOption r (length (parts 32 line) ≤ place) (λ s. s.now ≡ part_at line place)
part_read line place (Some s) e = sym (get_or_from_slice_get (parts 32 line) place s.now [] (sym e))
part_read line place None e = ⊎_elim (λ h. let one = h.2 in cc) (λ h. h.0) (slice_get_cases (parts 32 line) place).1
