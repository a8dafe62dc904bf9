-- A unit that is taken out of a row and put in elsewhere, as a rotation of the places between.
use Rattle.std.proofs.Common.{◌≡◌, ℕ, suc, ◌+◌, ◌-◌, ◌<◌, ◌≤◌, List, [], ◌∷◌, ◌++◌, length, get_or, take, drop, sym, refl, ap, ◌∙◌, arith, length-append}
use borrow.Rule.Slice.PartMut.{put_mid}
use Rattle.std.specs.List.{between}
use Rattle.std.proofs.lemmas.List.{append_assoc, take_more, drop_more, drop-drop, drop_at, take_at, length-take-le, length_push}
use Rattle.std.proofs.lemmas.List.Edits.{between_more, split_between, length-between}
use Rattle.rules.specs.Moves.{without, inserted}

-- the place after a
out : (a r : List ℕ) (x : ℕ) → without (length a) (a ++ (x ∷ r)) ≡ a ++ r
out [] r x = refl
out (y ∷ a) r x = ap (λ (l : List ℕ). y ∷ l) (out a r x)

into : (a r : List ℕ) (x : ℕ) → take (length a) (a ++ r) ++ (x ∷ drop (length a) (a ++ r)) ≡ a ++ (x ∷ r)
into [] r x = refl
into (y ∷ a) r x = ap (λ (l : List ℕ). y ∷ l) (into a r x)

-- x is taken out at u and put in at v
abbrev put : List ℕ → ℕ → ℕ → ℕ → List ℕ
put xs u v x = take v (without u xs) ++ (x ∷ drop v (without u xs))

-- it goes past b, to a later place
later : (a b c xs : List ℕ) (x u v : ℕ) → xs ≡ a ++ (x ∷ (b ++ c)) → length a ≡ u → length (a ++ b) ≡ v
    → put xs u v x ≡ a ++ ((b ++ (x ∷ [])) ++ c)
later a b c xs x u v e p q = rw (e, ← p, ← q, out, ← append_assoc a b c, into) (simp append_assoc)

-- or to an earlier one
earlier : (a b c xs : List ℕ) (x u v : ℕ) → xs ≡ a ++ (b ++ (x ∷ c)) → length (a ++ b) ≡ u → length a ≡ v
    → put xs u v x ≡ a ++ ((x ∷ b) ++ c)
earlier a b c xs x u v e p q =
    let f : xs ≡ (a ++ b) ++ (x ∷ c) = e ∙ sym (append_assoc a b (x ∷ c)) in
    rw (f, ← p, ← q, out, append_assoc a b c, into) refl

-- the places from u to v, rotated left by one
pub put_later : (xs part ys : List ℕ) (u v : ℕ) → u < v → v < length xs → part ≡ between u (v + 1) xs
    → ys ≡ drop 1 part ++ take 1 part → put_mid u (v + 1 - u) xs ys ≡ inserted u v xs
put_later xs part ys u v lt h pe ye =
    let x = get_or xs u 0 in
    let b = between (u + 1) (v + 1) xs in
    let low : u < length xs = omega arith in
    let front : take (u + 1) xs ≡ take u xs ++ (x ∷ []) = take_more xs u 0 low in
    let whole : xs ≡ take u xs ++ (x ∷ (b ++ drop (v + 1) xs)) =
    split_between xs (u + 1) (v + 1) (omega arith) ∙ ap (λ (l : List ℕ). l ++ (b ++ drop (v + 1) xs)) front
    ∙ append_assoc (take u xs) (x ∷ []) _ in
    let before : length (take u xs) ≡ u = length-take-le u xs (omega arith) in
    let long : length b ≡ v + 1 - (u + 1) = length-between xs (u + 1) (v + 1) (omega arith) in
    let upto : length (take u xs ++ b) ≡ v = omega (arith, length-append (take u xs) b) in
    let one : v + 1 - u ≡ suc (v + 1 - (u + 1)) = omega arith in
    let is : part ≡ x ∷ b =
    pe ∙ ap (λ (l : List ℕ). take (v + 1 - u) l) (drop_more xs u 0 low) ∙ ap (λ k. take k (x ∷ drop (u + 1) xs)) one in
    let turned : ys ≡ b ++ (x ∷ []) = ye ∙ ap (λ (l : List ℕ). drop 1 l ++ take 1 l) is in
    let after : drop (v + 1 - u) (drop u xs) ≡ drop (v + 1) xs = drop-drop (v + 1 - u) u xs ∙ ap (λ k. drop k xs) (omega arith) in
    ap (λ (l : List ℕ). take u xs ++ (l ++ drop (v + 1 - u) (drop u xs))) turned
    ∙ ap (λ (l : List ℕ). take u xs ++ ((b ++ (x ∷ [])) ++ l)) after
    ∙ sym (later (take u xs) b (drop (v + 1) xs) xs x u v whole before upto)

-- the places from v to u, rotated right by one
pub put_earlier : (xs part ys : List ℕ) (u v : ℕ) → v ≤ u → u < length xs → part ≡ between v (u + 1) xs
    → ys ≡ drop (length part - 1) part ++ take (length part - 1) part → put_mid v (u + 1 - v) xs ys ≡ inserted u v xs
put_earlier xs part ys u v le h pe ye =
    let x = get_or xs u 0 in
    let b = between v u xs in
    let more = between_more xs v u 0 le h in
    let is : part ≡ b ++ (x ∷ []) = pe ∙ more in
    let whole : xs ≡ take v xs ++ (b ++ (x ∷ drop (u + 1) xs)) =
    split_between xs v (u + 1) (omega arith) ∙ ap (λ (l : List ℕ). take v xs ++ (l ++ drop (u + 1) xs)) more
    ∙ ap (λ (l : List ℕ). take v xs ++ l) (append_assoc b (x ∷ []) (drop (u + 1) xs)) in
    let before : length (take v xs) ≡ v = length-take-le v xs (omega arith) in
    let long : length b ≡ u - v = length-between xs v u (omega arith) in
    let upto : length (take v xs ++ b) ≡ u = omega (arith, length-append (take v xs) b) in
    let one : length part - 1 ≡ length b = omega (arith, ap length is, length_push b x) in
    let turned : ys ≡ x ∷ b =
    ye ∙ rw (one, is, drop_at b (x ∷ []) (length b) refl, take_at b (x ∷ []) (length b) refl) refl in
    let after : drop (u + 1 - v) (drop v xs) ≡ drop (u + 1) xs = drop-drop (u + 1 - v) v xs ∙ ap (λ k. drop k xs) (omega arith) in
    ap (λ (l : List ℕ). take v xs ++ (l ++ drop (u + 1 - v) (drop v xs))) turned
    ∙ ap (λ (l : List ℕ). take v xs ++ ((x ∷ b) ++ l)) after
    ∙ sym (earlier (take v xs) b (drop (u + 1) xs) xs x u v whole upto before)
