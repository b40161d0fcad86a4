use Rattle.std.proofs.Common.{◌≡◌, None, arith}
use Rattle.euler_rotation.proofs.Visiting.{found_here, gone_on, visited_enough, visited_more}
use Rattle.euler_rotation.proofs.search.visited.Goals as goal

pub returns-in-Some : goal.returns-in-Some
returns-in-Some c =
    found_here c.args.field.now c.loop-visited.visited c.loop-visited.walk c.visit.new.walk c.in_ok-found.field-0 c.in-Some.found c.args.visits c.loop-visited.invariant
    c.in_ok-found.ensures c.in-Some.is

pub loop-visited-preserved : goal.loop-visited-preserved
loop-visited-preserved c =
    let none : c.in_ok-found.field-0 ≡ None = cc in
    let goes = gone_on c.args.field.now c.loop-visited.walk c.visit.new.walk c.in_ok-found.field-0 c.in_ok-found.ensures none in
    visited_more c.args.field.now c.loop-visited.visited c.loop-visited.walk c.loop-visited.invariant goes.none c.visit.new.walk goes.next

pub returns-in-Some-2 : goal.returns-in-Some-2
returns-in-Some-2 c =
    found_here c.args.field.now c.loop-visited.visited c.loop-visited.walk c.visit-2.new.walk c.in_ok-found-2.field-0 c.in-Some-2.found c.args.visits c.loop-visited.invariant
    c.in_ok-found-2.ensures c.in-Some-2.is

pub returns-in-None : goal.returns-in-None
returns-in-None c =
    let goes = gone_on c.args.field.now c.loop-visited.walk c.visit-2.new.walk c.in_ok-found-2.field-0 c.in_ok-found-2.ensures c.in-None.is in
    visited_enough c.args.field.now c.loop-visited.visited c.loop-visited.walk c.loop-visited.invariant goes.none
    c.args.visits c.visit-2.new.walk c.in_ok-prefix.prefix c.requires.field (omega (arith, c.loop-visited-test.false, c.loop-visited.auto.visited-end, c.requires.some)) c.in_ok-prefix.ensures goes.next
