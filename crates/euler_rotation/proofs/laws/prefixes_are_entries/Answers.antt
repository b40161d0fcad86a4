use Rattle.euler_rotation.proofs.EntriesRise.{entries_rise}
use Rattle.euler_rotation.proofs.PrefixesThere.{each_prefix_is_entry}
use Rattle.euler_rotation.proofs.laws.prefixes_are_entries.Goals as goal

pub returns : goal.returns
returns c = record { each = each_prefix_is_entry; rising = entries_rise }
