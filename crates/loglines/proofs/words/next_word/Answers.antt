use Rattle.std.proofs.Common.{◌≡◌, ◌∷◌, sym, subst, rules}
use Rattle.loglines.specs.Words.{IsWord}
use Rattle.loglines.proofs.Cuts.{no_word}
use Rattle.loglines.proofs.words.next_word.Goals as goal

pub returns-in_err-token : goal.returns-in_err-token
returns-in_err-token c =
    let spaced : c.args.rest.now ≡ 32 ∷ c.in_ok-after.after.now = search rules in
    rw c.from_residual-in_err-token.ensures
    (no_word _ _ c.span.result spaced c.span.ensures (λ w. c.in_err-token.ensures (subst IsWord (sym c.split_at.ensures.front) w)))
