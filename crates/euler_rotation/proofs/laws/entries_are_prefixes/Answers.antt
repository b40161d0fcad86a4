use Rattle.euler_rotation.proofs.EntriesKept.{entries_are_prefixes}
use Rattle.euler_rotation.proofs.EntriesRise.{no_entry_twice}
use Rattle.euler_rotation.proofs.laws.entries_are_prefixes.Goals as goal

pub returns : goal.returns
returns c = record { prefixes = entries_are_prefixes; once = no_entry_twice }
