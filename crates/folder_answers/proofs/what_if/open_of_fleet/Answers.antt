use Rattle.std.proofs.Common.{inl, inr}
use Rattle.std.proofs.lemmas.Result.{err_from_is_err_and}
use Rattle.folder_answers.proofs.HaltFacts.{halt_weaker, stops}
use Rattle.folder_answers.proofs.what_if.open_of_fleet.Goals as goal

pub returns-in_err-fleet : goal.returns-in_err-fleet
returns-in_err-fleet c =
    let p = err_from_is_err_and c.from_residual.result c.from_residual.ensures.1 in
    stops c.from_residual.result p.0 p.1 c.in_err-fleet.field-0.0 _ _ _ p.2 (λ answer unknown. inl unknown) c.in_err-fleet.ensures.named

pub returns : goal.returns
returns c =
    halt_weaker c.open_proof.result _ _ _ _ (λ opened opens. record { fleet = c.in_ok-fleet.fleet; known = c.in_ok-fleet.ensures.named; opens = opens })
    (λ answer refused. inr (record { fleet = c.in_ok-fleet.fleet; known = c.in_ok-fleet.ensures.named; finishes = refused })) c.open_proof.ensures
