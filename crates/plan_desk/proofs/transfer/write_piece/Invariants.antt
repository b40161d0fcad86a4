use Rattle.std.specs.Io.KnownBytes.{Keeps}
use Rattle.plan_desk.proofs.transfer.write_piece.Given as goal

-- an interrupted write puts nothing
abbrev pub invariant-loop : goal.invariant-loop
invariant-loop g l = Keeps (g.W.Write.contents l.fn.target) (g.W.Write.contents l.target)
