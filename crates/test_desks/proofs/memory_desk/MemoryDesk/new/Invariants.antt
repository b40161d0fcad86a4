use Rattle.std.proofs.Common.{◌≡◌}
use Rattle.test_desks.specs.Memory.{files_in, laid_down}
use Rattle.test_desks.proofs.memory_desk.MemoryDesk.new.Given as goal

-- the map holds the entries so far
abbrev pub invariant-loop-name : goal.invariant-loop-name
invariant-loop-name l = files_in l.held ≡ laid_down l.yielded
