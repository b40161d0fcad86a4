use Rattle.std.proofs.Common.{◌≡◌, ◌∙◌, List, ℕ, slice_index, rules}
use Rattle.sums.proofs.Places.{list_below-push}
use Rattle.tail_dates.specs.There.{key}
use Rattle.tail_dates.proofs.there.keys.Goals as goal

pub loop-place-preserved : goal.loop-place-preserved
loop-place-preserved c =
    let its : c.key.result ≡ key (slice_index c.args.places.now c.loop-place.place) (slice_index c.args.numbers.now c.loop-place.place) = search rules in
    ◌∙◌ {A = List ℕ} c.in_ok-push.ensures.items
    (list_below-push (λ k. key (slice_index c.args.places.now k) (slice_index c.args.numbers.now k)) c.loop-place.place c.loop-place.keys.items c.key.result c.loop-place.invariant its)
