use Rattle.std.proofs.Common.{◌≡◌, ◌^◌, Ok, Err, rules, get_or}
use Rattle.std.proofs.lemmas.List.Sorted.{answers_always}
use Rattle.frac_row.specs.Content.{number_in}
use Rattle.frac_row.proofs.Contents.{searched, found_number, no_entry, IsFound}
use Rattle.frac_row.proofs.sparse_row.number_in.Goals as goal

pub returns-in-Ok : goal.returns-in-Ok
returns-in-Ok c =
    let by_key = c.in-Ok.ensures.position (λ entry. entry.column) (answers_always _ _ _ (λ f a r g called. search rules)) in
    let found : IsFound c.args.entries.now c.args.column c.in-Ok.place = (searched (2 ^ 32) c.args.entries.now c.requires c.args.column (Ok c.in-Ok.place) c.in-Ok.ensures.bound by_key).0 in
    let is : (get_or c.args.entries.now c.in-Ok.place no_entry).number ≡ number_in c.args.entries.now c.args.column = found_number (2 ^ 32) c.args.entries.now c.requires c.args.column c.in-Ok.place found in
    search rules

pub returns-in-Err : goal.returns-in-Err
returns-in-Err c =
    let by_key = c.in-Err.ensures.position (λ entry. entry.column) (answers_always _ _ _ (λ f a r g called. search rules)) in
    (searched (2 ^ 32) c.args.entries.now c.requires c.args.column (Err c.in-Err.field-0) c.in-Err.ensures.bound by_key).1
