use Rattle.std.proofs.Common.{◌≡◌, ◌<◌, ◌≤◌, ◌∙◌, ℕ, List, length, slice_index, sym, ap, subst, arith}
use Rattle.fleet_model.specs.Schedule.{legs_in}
use Rattle.euler_rotation.proofs.WalkSteps.{follower_own, followers_long, followers_read, none_left, opens_first, passed_by, top_known}
use Rattle.euler_rotation.proofs.walk.first_open.Goals as goal

low : (k m n : ℕ) → k < m → m ≡ n → k < n
low k m n lt e = omega arith

high : (k m n : ℕ) → m ≤ k → m ≡ n → n ≤ k
high k m n le e = omega arith

pub index-requires : goal.index-requires
index-requires c =
    omega (arith, followers_long c.args.field.now c.requires.field, top_known c.args.field.now c.args.walk.now c.args.top c.requires.walk c.requires.top)

pub opens-requires-clause-leg : goal.opens-requires-clause-leg
opens-requires-clause-leg c =
    let list = c.as_slice-legs.ensures ∙ followers_read c.args.field.now c.requires.field c.args.top.leg c.index.result.now (top_known c.args.field.now c.args.walk.now c.args.top c.requires.walk c.requires.top) c.index.ensures in
    subst (λ (legs : List ℕ). slice_index legs c.loop-place.place < legs_in c.args.field.now.clean.now.asked.now.tables.now) (sym list)
    (follower_own c.args.field.now c.requires.field c.args.top.leg c.loop-place.place (low _ _ _ c.loop-place-test.true (ap length list))).known

pub returns-in-Some : goal.returns-in-Some
returns-in-Some c =
    let list = c.as_slice-legs.ensures ∙ followers_read c.args.field.now c.requires.field c.args.top.leg c.index.result.now (top_known c.args.field.now c.args.walk.now c.args.top c.requires.walk c.requires.top) c.index.ensures in
    opens_first c.args.field.now c.requires.field c.args.walk.now.path c.args.top c.loop-place.place (low _ _ _ c.loop-place-test.true (ap length list)) c.args.from
    (slice_index c.as_slice-legs.result.now c.loop-place.place) c.in-Some.since (ap (λ legs. slice_index legs c.loop-place.place) list) c.loop-place.invariant c.in-Some.ensures

pub loop-place-preserved : goal.loop-place-preserved
loop-place-preserved c =
    let list = c.as_slice-legs.ensures ∙ followers_read c.args.field.now c.requires.field c.args.top.leg c.index.result.now (top_known c.args.field.now c.args.walk.now c.args.top c.requires.walk c.requires.top) c.index.ensures in
    c.loop-place.invariant
    ∙ passed_by c.args.field.now c.requires.field c.args.walk.now.path c.args.top c.loop-place.place (low _ _ _ c.loop-place-test.true (ap length list))
    (slice_index c.as_slice-legs.result.now c.loop-place.place) (ap (λ legs. slice_index legs c.loop-place.place) list) c.in_default.ensures

pub returns : goal.returns
returns c =
    let list = c.as_slice-legs.ensures ∙ followers_read c.args.field.now c.requires.field c.args.top.leg c.index.result.now (top_known c.args.field.now c.args.walk.now c.args.top c.requires.walk c.requires.top) c.index.ensures in
    c.loop-place.invariant ∙ none_left c.args.field.now c.args.walk.now.path c.args.top c.loop-place.place (high _ _ _ c.loop-place-test.false (ap length list))
