use Rattle.std.proofs.Common.{◌≡◌, arith, subst}
use Rattle.simplex_frac.specs.dual_lift.Parts.{AreParts}
use Rattle.simplex_frac.proofs.dual_lift.PartLists.{none_yet, one_more}
use Rattle.simplex_frac.proofs.dual_lift.parts.no_parts.Goals as goal

pub loop-init : goal.loop-init
loop-init c = none_yet c.new-parts.result.items c.new-parts.ensures.items

pub loop-preserved : goal.loop-preserved
loop-preserved c = one_more c.loop.counter c.loop.parts.items c.push.new.self.items c.loop.invariant c.in_ok-push.ensures.items

pub returns : goal.returns
returns c =
    let all : c.loop.counter ≡ c.args.columns = omega arith in
    subst (λ n. AreParts (λ column. 0) n c.loop.parts.items) all c.loop.invariant
