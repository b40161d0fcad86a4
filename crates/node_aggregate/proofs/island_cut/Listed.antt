-- The list of idle minutes, one minute and one station more; it is empty where there are no islands.
use Rattle.std.proofs.Common.{◌≡◌, ℕ, zero, suc, ◌+◌, Bool, true, false, if◌then◌else◌, List, [], ◌∷◌, ◌++◌, map, filter, refl, sym, ◌∙◌, ap, arith}
use Rattle.std.proofs.lemmas.List.{map-append}
use Rattle.std.proofs.lemmas.List.FromFn.{filter_of_map_range_with_len_more}
use Rattle.sums.specs.Places.{list_below}
use Rattle.fleet_model.specs.declared.tables.Tables.{Tables}
use Rattle.fleet_model.specs.Schedule.{period_of}
use Rattle.node_aggregate.specs.declared.island_cut.idle_minutes.Idle.{Idle}
use Rattle.node_aggregate.specs.island_cut.PlainDay.{is_plain_day}
use Rattle.node_aggregate.specs.island_cut.Islands.{has_islands, have_pairs, idle_at, idle_minutes, idles_below, is_idle}

-- the entries of a station by its first minutes
pub entries_below : Tables → ℕ → ℕ → List Idle
entries_below t s n = map (idle_at s) (filter (is_idle t s) (list_below (λ m. m) n))

map_one : (s n : ℕ) (b : Bool) (xs : List ℕ) → map (idle_at s) (xs ++ (if b then n ∷ [] else [])) ≡ map (idle_at s) xs ++ (if b then idle_at s n ∷ [] else [])
map_one s n true xs = map-append (idle_at s) xs (n ∷ [])
map_one s n false xs = map-append (idle_at s) xs []

pub entry_more : (t : Tables) (s n : ℕ) → entries_below t s (n + 1) ≡ entries_below t s n ++ (if is_idle t s n then idle_at s n ∷ [] else [])
unfolding entries_below
entry_more t s n = ap (map (idle_at s)) (filter_of_map_range_with_len_more (is_idle t s) (λ m. m) 0 n n (omega arith)) ∙ map_one s n (is_idle t s n) (filter (is_idle t s) (list_below (λ m. m) n))

pub no_entries : (t : Tables) (s : ℕ) → entries_below t s 0 ≡ []
unfolding entries_below
no_entries t s = refl

-- ---- where there are no islands
none_passes : (p : ℕ → Bool) (n : ℕ) → ((m : ℕ) → p m ≡ false) → filter p (list_below (λ m. m) n) ≡ []
none_passes p zero fails = refl
none_passes p (suc n) fails =
    let next : n + 1 ≡ suc n = omega arith in
    ap (λ k. filter p (list_below (λ m. m) k)) (sym next) ∙ filter_of_map_range_with_len_more p (λ m. m) 0 n n (omega arith)
    ∙ ap (λ b. filter p (list_below (λ m. m) n) ++ (if b then n ∷ [] else [])) (fails n) ∙ ap (λ xs. xs ++ []) (none_passes p n fails)

pub never_idle : (t : Tables) (s m : ℕ) → has_islands t ≡ false → is_idle t s m ≡ false
unfolding is_idle
never_idle t s m none = rw none refl

pub no_idles : (t : Tables) (n : ℕ) → has_islands t ≡ false → idles_below t n ≡ []
unfolding idles_below
no_idles t zero none = refl
no_idles t (suc s) none =
    ap (λ xs. xs ++ map (idle_at s) (idle_minutes t s)) (no_idles t s none) ∙ ap (map (idle_at s)) (none_passes (is_idle t s) (period_of t) (λ m. never_idle t s m none))

pub on_other_days : (t : Tables) → is_plain_day t ≡ false → has_islands t ≡ false
unfolding has_islands
on_other_days t other = rw other refl

pub without_pairs : (t : Tables) → is_plain_day t ≡ true → have_pairs t ≡ false → has_islands t ≡ false
unfolding has_islands
without_pairs t day none = rw (day, none) refl

pub first_station : (t : Tables) → idles_below t 0 ≡ []
unfolding idles_below
first_station t = refl

pub station_more : (t : Tables) (s : ℕ) → idles_below t (s + 1) ≡ idles_below t s ++ map (idle_at s) (idle_minutes t s)
unfolding idles_below
station_more t s = ap (idles_below t) next
  where
    next : s + 1 ≡ suc s
    next = omega arith

pub entries_of_station : (t : Tables) (s n : ℕ) → n ≡ period_of t → entries_below t s n ≡ map (idle_at s) (idle_minutes t s)
unfolding entries_below
entries_of_station t s n end = ap (λ k. map (idle_at s) (filter (is_idle t s) (list_below (λ m. m) k))) end
