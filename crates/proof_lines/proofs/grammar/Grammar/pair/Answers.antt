use Rattle.proof_lines.specs.Known.{naming}
use Rattle.proof_lines.proofs.Fielded.{both_as, pair_as}
use Rattle.proof_lines.proofs.grammar.Grammar.pair.Goals as goal

pub returns-in-Err : goal.returns-in-Err
returns-in-Err c =
    pair_as (naming c.args.self.now) c.both-2.result _ _ c.in-Err.is
    (both_as c.both-2.result c.both.result _ c.minutes.result _ c.both-2.ensures (both_as c.both.result c.leg.result _ c.flier.result _ c.both.ensures c.leg.ensures.value c.flier.ensures.value) c.minutes.ensures)
