use Rattle.std.specs.Io.KnownBytes.{Keeps}
use Rattle.plan_desk.proofs.transfer.read_piece.Given as goal

-- an interrupted read takes nothing
abbrev pub invariant-loop : goal.invariant-loop
invariant-loop g l = Keeps (g.S.Read.remaining l.fn.source) (g.S.Read.remaining l.source)
