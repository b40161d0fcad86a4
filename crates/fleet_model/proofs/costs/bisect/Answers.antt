use Rattle.std.proofs.Common.{rules, arith, sym, Ok, Err}
use Rattle.std.proofs.lemmas.Int.{to_z-of_z}
use Rattle.std.proofs.lemmas.List.Sorted.{answers_always}
use Rattle.fleet_model.proofs.CostLookup.{key_of, bisected}
use Rattle.fleet_model.proofs.costs.bisect.Goals as goal

pub returns-in-Ok : goal.returns-in-Ok
returns-in-Ok c =
    let found = bisected _ c.args.key.leg c.args.key.fleet c.requires (Ok c.in-Ok.place) c.in-Ok.ensures.bound (c.in-Ok.ensures.position key_of (answers_always _ _ _ (λ f a r g called. search rules))) in
    grind (arith, to_z-of_z, found)

pub returns-in-Err : goal.returns-in-Err
returns-in-Err c =
    sym (bisected _ c.args.key.leg c.args.key.fleet c.requires (Err c.in-Err.field-0) c.in-Err.ensures.bound (c.in-Err.ensures.position key_of (answers_always _ _ _ (λ f a r g called. search rules))))
