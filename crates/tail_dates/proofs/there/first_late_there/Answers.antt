use Rattle.std.proofs.Common.{◌∙◌, length, sym, subst, arith}
use Rattle.tail_dates.specs.Late.{AreLessThan}
use Rattle.tail_dates.proofs.AtPlaces.{those_below_bound}
use Rattle.tail_dates.proofs.there.first_late_there.Goals as goal

pub first_late-requires : goal.first_late-requires
first_late-requires c =
    subst (AreLessThan 256) (sym (c.deref.ensures.value ∙ c.in_ok-tails.ensures))
    (those_below_bound 256 c.args.told.now c.args.lefts.now c.loop-place.place c.requires.few (length c.args.lefts.now) (omega arith))
