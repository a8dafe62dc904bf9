use Rattle.std.proofs.Common.{◌≡◌, ℕ, length, rules, refl, sym, subst, map, Bor}
use Rattle.std.specs.Int.{IsInRange}
use Rattle.std.specs.Str.Parse.{digits_value}
use Rattle.std.proofs.lemmas.Fn.{fold_over, serves_by, slice_gives, fronts}
use Rattle.std.proofs.lemmas.List.{map_push, get_or_read}
use Rattle.std.proofs.lemmas.Iterator.{YieldsList-from_slice}
use Rattle.std.proofs.lemmas.Iterator.Consumers.{YieldsList-so_far, YieldsList-turn}
use Rattle.loglines.specs.Words.{AllDigits}
use Rattle.loglines.proofs.Digits.{digits_push, digits_before}
use Rattle.loglines.proofs.scan.number.Goals as goal

pub fold-requires-clause-callable : goal.fold-requires-clause-callable
fold-requires-clause-callable c =
    serves_by _ (λ xs q. let s = map {A = Bor ℕ} (λ x. x.now) xs in AllDigits s → q.1 ≡ digits_value 10 s)
    (λ xs q x v j r. rw map_push (digits_push _ x.now q.1 v.1 j (search rules)))
    _ _ _ _
    (λ h. refl)
    (λ xs t q x u y e j.
    let road = YieldsList-from_slice {s = c.iter.result} c.args.word.now c.iter.ensures.rest in
    let turn = YieldsList-turn road xs t y _ u x refl e in
    let digit = subst (IsInRange 48 57) (sym (get_or_read _ _ _ turn.0 turn.1 0)) (c.requires.digits (length xs) turn.0) in
    let small = digits_before _ _ _ q.1 c.requires turn.0 (YieldsList-so_far road xs t y) j in
    search rules)

pub returns : goal.returns
returns c =
    subst (λ s. AllDigits s → c.fold.result ≡ digits_value 10 s) c.iter.ensures.rest
    (fold_over fronts (λ y. y.now) _ (λ s n. AllDigits s → n ≡ digits_value 10 s) _
    (λ s m x n f' j k. (digits_push s x.now m n j (search rules), search rules))
    _ _ _ _ (slice_gives c.iter.result) (λ h. refl) c.fold.ensures.ran)
    c.requires.digits
