-- Calls that take no memory, and so never want any.
use Rattle.std.specs.Prelude.{⊤, Result, Ok, Err}
use Rattle.bound_cert.specs.declared.faults.Stop.{Stop}
use Rattle.bound_cert.specs.declared.faults.Stop.TheVariants as stop

-- a call does not stop for want of memory
abbrev pub WantsNone : {X : Type 0} → Result X Stop → Type 0
WantsNone (Ok x) = ⊤
WantsNone (Err stop.NoMemory) = ⊥
WantsNone (Err (stop.Fault left kind)) = ⊤
