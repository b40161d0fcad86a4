use Rattle.std.proofs.Common.{◌<◌, ◌≡◌, sym, ◌∙◌, ap, subst, inl, inr, arith}
use Rattle.std.proofs.lemmas.Bool.{cases_lt}
use Rattle.std.proofs.lemmas.List.{get_or_read}
use Rattle.fleet_model.specs.Schedule.{legs_in}
use Rattle.lines_of_flying.specs.Following.{IsFirstOutNext}
use Rattle.lines_of_flying.proofs.Followers.{some_follows}
use Rattle.lines_of_flying.proofs.FoundNext.{elsewhere, is_next, not_free}
use Rattle.lines_of_flying.proofs.following.first_out.Goals as goal
use Rattle.lines_of_flying.proofs.following.first_out.Goals.{else-moves_free-via-then-moves_free+else-index-place, else-moves_free-via-else-moves_free}

pub unreachable-requires : goal.unreachable-requires
unreachable-requires c =
    some_follows c.args.ground.now.tables.now c.args.ground.now.plan.now c.args.ground.now.fleet c.args.ground.now.pairs.now c.requires.held
    c.args.leg c.requires.leg c.requires.flies c.requires.free
    (λ q below. c.loop-other.invariant q (omega (arith, below, c.loop-other-test.false, c.leg_count-other-end.ensures)))

pub index-requires : goal.index-requires
index-requires c = omega (arith, c.requires.places.each_leg, c.leg_count-other-end.ensures, c.loop-other-test.true)

pub returns-then-index-place : goal.returns-then-index-place
returns-then-index-place c =
    let g = c.args.ground.now in
    let known : c.loop-other.other < legs_in g.tables.now = omega (arith, c.leg_count-other-end.ensures, c.loop-other-test.true) in
    is_next g.tables.now g.plan.now g.fleet g.pairs.now c.args.leg c.loop-other.other c.leg.result.now.to (ap (λ leg. leg.to) c.leg.ensures.value) c.index.result.now c.next_place-place.result known
    (sym c.moves_free.ensures ∙ c.if-moves_free.true)
    (get_or_read c.args.places.now.departures.items c.loop-other.other c.index.result.now (omega (arith, known, c.requires.places.each_leg)) c.index.ensures 0 ∙ c.requires.places.departures c.loop-other.other known)
    c.next_place-place.ensures c.if-index-place.true

pub loop-other-preserved : goal.loop-other-preserved
loop-other-preserved c k below next =
    let g = c.args.ground.now in
    let there = ap (λ leg. leg.to) c.leg.ensures.value in
    elim (cases_lt k c.loop-other.other) [
      | inl before ↦ c.loop-other.invariant k before next
      | inr last ↦
          let same : k ≡ c.loop-other.other = omega arith in
          let here : IsFirstOutNext g.tables.now g.plan.now g.fleet g.pairs.now c.args.leg c.loop-other.other = subst (IsFirstOutNext g.tables.now g.plan.now g.fleet g.pairs.now c.args.leg) same next in
          elim c.else-moves_free.branch [
            | else-moves_free-via-then-moves_free+else-index-place w ↦
                elsewhere g.tables.now g.plan.now g.fleet g.pairs.now c.args.leg c.loop-other.other c.leg.result.now.to there w.index.result.now c.next_place-place.result
                (get_or_read c.args.places.now.departures.items c.loop-other.other w.index.result.now (omega (arith, here.known, c.requires.places.each_leg)) w.index.ensures 0 ∙ c.requires.places.departures c.loop-other.other here.known)
                c.next_place-place.ensures w.if-index-place.false here
            | else-moves_free-via-else-moves_free w ↦
                not_free g.tables.now g.plan.now g.fleet g.pairs.now c.args.leg c.loop-other.other c.leg.result.now.to there c.moves_free.result c.moves_free.ensures w.if-moves_free.false here
          ]
    ]
