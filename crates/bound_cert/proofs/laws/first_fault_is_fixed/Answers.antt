use Rattle.bound_cert.proofs.FixedFaults as laws
use Rattle.bound_cert.proofs.laws.first_fault_is_fixed.Goals as goal

pub returns : goal.returns
returns c = laws.first_fault_is_fixed
