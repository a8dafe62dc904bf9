use Rattle.std.proofs.Common.{◌≡◌, ◌++◌, vec_items, string_bytes, ap, ◌∙◌, inl}
use Rattle.std.proofs.lemmas.Result.{IfOk-weaker}
use Rattle.logreport.specs.Reports.{listing, summary, Reported}
use Rattle.logreport.proofs.Listing.{one_report}
use Rattle.logreport.proofs.report.report.Goals as goal

pub returns-in-Ok-clause-text : goal.returns-in-Ok-clause-text
returns-in-Ok-clause-text c =
    let rs = c.as_slice.result.now in
    IfOk-weaker c.listed.result (λ s. string_bytes s ≡ listing 1 rs ++ summary rs) (λ s. Reported c.args.input.now (string_bytes s))
    (λ s e. inl (vec_items c.in-Ok.readings, c.in-Ok.ensures.read, e ∙ ap (λ l. listing 1 l ++ summary l) c.as_slice.ensures.value))
    c.listed.ensures.text

pub returns-in-Ok-clause-one : goal.returns-in-Ok-clause-one
returns-in-Ok-clause-one c = one_report

pub returns-in-Err-Refused-clause-one : goal.returns-in-Err-Refused-clause-one
returns-in-Err-Refused-clause-one c = one_report

pub returns-in-Err-clause-one : goal.returns-in-Err-clause-one
returns-in-Err-clause-one c = one_report
