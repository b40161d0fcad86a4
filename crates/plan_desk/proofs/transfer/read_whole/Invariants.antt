use Rattle.std.proofs.Common.{◌≡◌, ◌≤◌, length}
use Rattle.std.specs.Io.KnownBytes.{Consumes}
use Rattle.plan_desk.specs.Counts.{counted}
use Rattle.plan_desk.proofs.transfer.read_whole.Given as goal

-- what was taken is held, and each turn took a byte at least
abbrev pub invariant-loop-turn : goal.invariant-loop-turn
invariant-loop-turn g l = record {
  consumed : Consumes (g.S.Read.remaining l.fn.source) (g.S.Read.remaining l.source) l.bytes.items;
  held : l.taken ≡ counted l.fn.taken (length l.bytes.items);
  within : length l.bytes.items ≤ l.limit;
  turns : l._turn ≤ length l.bytes.items;
  never_falls : l.fn.taken ≤ l.taken;
}
