use Rattle.std.proofs.Common.{◌≡◌, map, take}
use Rattle.table_rows.proofs.named.numbers_of.Given as goal

abbrev pub invariant-loop-entry : goal.invariant-loop-entry
invariant-loop-entry g l = l.names ≡ map g.T.Named.name_of (take l.entry-index l.entries)
