-- The minutes at whose end none stands there, one minute more.
use Rattle.std.proofs.Common.{◌≡◌, ℕ, ◌+◌, if◌then◌else◌, [], ◌∷◌, ◌++◌, refl, arith}
use Rattle.std.proofs.lemmas.List.FromFn.{filter_of_map_range_with_len_more}
use Rattle.fleet_model.specs.declared.tables.Tables.{Tables}
use Rattle.fleet_model.specs.Counts.{Weights}
use Rattle.node_aggregate.specs.island_cut.Zeros.{none_stands, zeros_below}

pub one_minute_more : (t : Tables) (w : Weights) (f s n : ℕ) → zeros_below t w f s (n + 1) ≡ zeros_below t w f s n ++ (if none_stands t w f s n then n ∷ [] else [])
unfolding zeros_below
one_minute_more t w f s n = filter_of_map_range_with_len_more (none_stands t w f s) (λ m. m) 0 n n (omega arith)

pub no_minute : (t : Tables) (w : Weights) (f s : ℕ) → zeros_below t w f s 0 ≡ []
unfolding zeros_below
no_minute t w f s = refl
