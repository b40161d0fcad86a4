-- A window that is found is among those of its leg and minutes.
use Rattle.std.proofs.Common.{◌≡◌, ℕ, ◌<◌, true, List, [], length, map, slice_index_or, bytes_eq, ℤ, ap, ◌∙◌, arith}
use Rattle.std.proofs.lemmas.List.{get_or-map, length-map}
use Rattle.std.proofs.lemmas.List.Folds.{list_any_at}
use Rattle.table_rows.specs.Names.{is_among}
use Rattle.sched_read.specs.retime_windows.Keys.{key_with, window_key}
use Rattle.sched_read.specs.declared.retime_windows.window.Window.{Window}

pub found_among : (windows : List Window) (k : ℕ) (d : Window) (leg : ℕ) (minutes : ℤ) → k < length windows → bytes_eq (key_with leg minutes) (window_key (slice_index_or windows k d)) ≡ true
    → is_among (key_with leg minutes) (map window_key windows) ≡ true
found_among windows k d leg minutes within same =
    list_any_at (bytes_eq (key_with leg minutes)) (map window_key windows) k [] (omega (arith, within, length-map windows window_key)) (ap (bytes_eq (key_with leg minutes)) (get_or-map window_key windows k d [] within) ∙ same)
