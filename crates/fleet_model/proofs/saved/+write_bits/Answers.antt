use Rattle.std.proofs.Common.{refl, arith}
use Rattle.fleet_model.proofs.Bits.{written_again}
use Rattle.fleet_model.proofs.saved.+write_bits.Goals as goal

pub returns : goal.returns
returns c = λ c'.
    written_again c'.args.row.now _ c'.write_bits.new.row c'.args.first c'.args.count c'.args.number (omega (arith, c'.if-count-eq0.false)) refl (omega (arith, c'.requires, c'.told-row)) c'.write_bits.ensures
