-- What a legal assignment costs, by any sizes of fleets.
use Rattle.std.proofs.Common.{ℕ, ◌≡◌, List, MatchOption, refl}
use Rattle.fleet_model.specs.declared.sizes.Sizes.{Sizes}
use Rattle.fleet_model.specs.declared.sizes.Sizes.TheVariants as sizes
use Rattle.fleet_model.specs.declared.tables.Tables.{Tables}
use Rattle.fleet_model.specs.Legal.{IsLegal, total_cost}
use Rattle.fleet_model.specs.Sizes.{AreSizes, HoldsBy}
use Rattle.plan_judge.specs.Sizes.{IsLegalAt, IsVerdictBy, cost_judged}
use Rattle.plan_judge.specs.Verdicts.{IsVerdict}
use Rattle.plan_judge.specs.declared.verdicts.Verdict.{Verdict}
use Rattle.plan_judge.specs.declared.verdicts.Verdict.TheVariants as verdict
use Rattle.plan_judge.proofs.OneVerdict.{one_verdict}
use Rattle.plan_judge.proofs.OtherSizes.{other_verdict, own_verdict}

cost_told : (u : Tables) (a : List ℕ) (v : Verdict) → IsVerdict u a v → MatchOption (cost_judged v) (¬ (IsLegal u a)) (IsLegalAt u a)
cost_told u a (verdict.NotAllowed leg) is = λ legal. let e = one_verdict u a (verdict.NotAllowed leg) (verdict.Legal (total_cost u a)) is (legal, refl) in absurd (cc)
cost_told u a (verdict.Unbalanced fleet station came left) is =
    λ legal. let e = one_verdict u a (verdict.Unbalanced fleet station came left) (verdict.Legal (total_cost u a)) is (legal, refl) in absurd (cc)
cost_told u a (verdict.TooMany fleet used has) is = λ legal. let e = one_verdict u a (verdict.TooMany fleet used has) (verdict.Legal (total_cost u a)) is (legal, refl) in absurd (cc)
cost_told u a (verdict.Crowded station day stands most) is =
    λ legal. let e = one_verdict u a (verdict.Crowded station day stands most) (verdict.Legal (total_cost u a)) is (legal, refl) in absurd (cc)
cost_told u a (verdict.Legal cost) is = record { legal = is.0; costs = is.1 }

pub legal_costs : (t : Tables) (a : List ℕ) (by : Sizes) (v : Verdict) → AreSizes t by → IsVerdictBy t by a v → HoldsBy t by (λ u. MatchOption (cost_judged v) (¬ (IsLegal u a)) (IsLegalAt u a))
legal_costs t a sizes.Own v known is = cost_told t a v (own_verdict t a v is)
legal_costs t a (sizes.Other fleet count) v known is = λ u same. cost_told u a v (other_verdict t fleet count known.fleet_known u same a v is)
