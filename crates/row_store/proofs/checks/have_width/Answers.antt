use Rattle.std.proofs.Common.{◌≡◌, ◌+◌, [], length, get_or, refl, sym, ◌∙◌, ap}
use Rattle.std.proofs.lemmas.List.{get_or_read}
use Rattle.sums.proofs.Tests.{unlike}
use Rattle.row_store.proofs.AllPlaces.{all_more, all_places}
use Rattle.row_store.proofs.checks.have_width.Goals as goal

pub loop-place-preserved : goal.loop-place-preserved
loop-place-preserved c k lt =
    let read = get_or_read c.args.lines.now c.loop-place.place c.index-lines-place.result c.loop-place-test.true c.index-lines-place.is [] in
    let here : length (get_or c.args.lines.now c.loop-place.place []) ≡ c.args.columns + 1 = sym (c.len.ensures ∙ ap length read) ∙ c.if-len-width.false in
    all_more (λ line. length line ≡ c.args.columns + 1) c.args.lines.now [] c.loop-place.place k c.loop-place.invariant here lt

pub returns-then-len-width : goal.returns-then-len-width
returns-then-len-width c =
    let read = get_or_read c.args.lines.now c.loop-place.place c.index-lines-place.result c.loop-place-test.true c.index-lines-place.is [] in
    (λ t. unlike (sym t), λ all. absurd (c.if-len-width.true (c.len.ensures ∙ ap length read ∙ all c.loop-place.place [] c.loop-place-test.true)))

pub returns : goal.returns
returns c =
    (λ t. all_places (λ line. length line ≡ c.args.columns + 1) c.args.lines.now [] c.loop-place.place c.loop-place.invariant c.loop-place-test.false, λ all. refl)
