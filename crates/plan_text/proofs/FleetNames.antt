-- Fleets by their names.
use Rattle.std.proofs.Common.{◌≡◌, ℕ, ◌<◌, List, [], length, slice_index_or, bytes_eq, true, false, Some, sym, ◌∙◌, inl, inr, arith, refl}
use Rattle.std.specs.Prelude.{nat_lt}
use Rattle.std.specs.List.{position_or_len}
use Rattle.std.proofs.lemmas.Bool.{cases_Bool, lt-ltb, ltb-true}
use Rattle.std.proofs.lemmas.List.{get_or-map, length-map}
use Rattle.std.proofs.lemmas.List.Sums.{passes_at_first, position_or_len_is}
use Rattle.std.proofs.lemmas.Slice.Eq.{bytes_eq-Decides}
use Rattle.fleet_model.specs.Schedule.{fleet_names, fleet_of, fleets_in, no_fleet}
use Rattle.fleet_model.specs.declared.tables.Tables.{Tables}
use Rattle.table_rows.specs.Names.{number_of_name}
use Rattle.table_rows.proofs.FrontReading.{bytes_eq-self}
use Rattle.table_rows.proofs.Numbered.{bytes_eq-differ}

-- the name of a fleet, among the names
name_at : (t : Tables) (f : ℕ) (d : List ℕ) → f < fleets_in t → slice_index_or (fleet_names t) f d ≡ (fleet_of t f).name
name_at t f d within = get_or-map (λ fleet. fleet.name) t.fleets f no_fleet d within

-- a name that has a number is that of the fleet
pub record IsNamed (t : Tables) (name : List ℕ) (f : ℕ) : Type 0 where
  pub within : f < fleets_in t
  pub same : name ≡ (fleet_of t f).name

pub named : (t : Tables) (name : List ℕ) (f : ℕ) → number_of_name name (fleet_names t) ≡ Some f → IsNamed t name f
named t name f found =
    let place = position_or_len (bytes_eq name) (fleet_names t) in
    elim (cases_Bool (nat_lt place (length (fleet_names t)))) [
      | inl there ↦
          let here : place ≡ f = (let h = rw there at found in cc h) in
          let inside : place < length (fleet_names t) = ltb-true place (length (fleet_names t)) there in
          let within : f < fleets_in t = omega (arith, length-map t.fleets (λ fleet. fleet.name)) in
          let passes = rw here at (passes_at_first (bytes_eq name) (fleet_names t) [] inside) in
          record { within = within; same = (bytes_eq-Decides name (slice_index_or (fleet_names t) f [])).0 passes ∙ name_at t f [] within }
      | inr none ↦ (let h = rw none at found in cc h)
    ]

-- the number of a fleet by its name, which no other has
pub numbered : (t : Tables) (f : ℕ) → f < fleets_in t → number_of_name (fleet_of t f).name (fleet_names t) ≡ Some f
numbered t f within =
    let name = (fleet_of t f).name in
    let inside : f < length (fleet_names t) = omega (arith, length-map t.fleets (λ fleet. fleet.name)) in
    let before : (k : ℕ) → k < f → bytes_eq name (slice_index_or (fleet_names t) k []) ≡ false = λ k below.
    (let there : k < fleets_in t = omega arith in
    rw (name_at t k [] there) (bytes_eq-differ name (fleet_of t k).name (λ same. t.in_range.fleets_fit.differ k f no_fleet below within (sym same)))) in
    let at : bytes_eq name (slice_index_or (fleet_names t) f []) ≡ true = rw (name_at t f [] within) (bytes_eq-self name) in
    let first : position_or_len (bytes_eq name) (fleet_names t) ≡ f = position_or_len_is (bytes_eq name) (fleet_names t) f [] (omega arith) before (λ _. at) in
    let test : nat_lt f (length (fleet_names t)) ≡ true = lt-ltb f (length (fleet_names t)) inside in
    rw (first, test) refl
