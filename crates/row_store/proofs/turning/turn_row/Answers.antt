use Rattle.std.proofs.Common.{ap, pos, subst}
use Rattle.std.proofs.lemmas.List.{get_or_default}
use Rattle.frac_row.specs.Outgrown.{IsWithin}
use Rattle.row_store.specs.Steps.{turned_row}
use Rattle.row_store.proofs.turning.turn_row.Goals as goal

pub turn_numbers-requires : goal.turn_numbers-requires
turn_numbers-requires c k d lt = subst IsWithin (get_or_default c.args.row.now.numbers k (pos 0) d lt) (c.requires.within k)

pub returns : goal.returns
unfolding turned_row
returns c = ap (λ xs. record { numbers = xs; den = c.args.row.now.den }) c.turn_numbers.ensures
