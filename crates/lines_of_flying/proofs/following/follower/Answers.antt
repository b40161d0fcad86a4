use Rattle.lines_of_flying.proofs.Followers.{partner_follows}
use Rattle.lines_of_flying.proofs.following.follower.Goals as goal

pub returns-in-Some : goal.returns-in-Some
returns-in-Some c =
    partner_follows c.args.ground.now.tables.now c.args.ground.now.plan.now c.args.ground.now.fleet c.args.ground.now.pairs.now
    c.args.leg c.in-Some.departing c.in-Some.ensures

pub first_out-requires-clause-places : goal.first_out-requires-clause-places
first_out-requires-clause-places c = c.requires.places

pub returns-in-None : goal.returns-in-None
returns-in-None c = record { partner = λ some. absurd (some c.in-None.ensures); first_out = λ none. c.first_out.ensures }
