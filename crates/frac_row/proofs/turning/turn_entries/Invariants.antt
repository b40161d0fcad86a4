use Rattle.std.proofs.Common.{get_or}
use Rattle.sums.specs.Places.{IsFilledBelow}
use Rattle.frac_row.specs.Content.{turned_entry}
use Rattle.frac_row.proofs.Contents.{no_entry}
use Rattle.frac_row.proofs.turning.turn_entries.Given as goal

abbrev pub invariant-loop-place : goal.invariant-loop-place
invariant-loop-place l =
    IsFilledBelow no_entry (λ k. turned_entry (get_or l.initial.entries.items k no_entry)) l.initial.entries.items l.entries.items l.place
