-- Nights that go round, and where one of them is.
use Rattle.std.proofs.Common.{◌≡◌, ℕ, ◌+◌, ◌-◌, ◌*◌, ◌/◌, ◌%◌, ◌<◌, inl, inr, Bool, false, List, length, slice_index_or, sym, ◌∙◌, ap, subst, arith}
use Rattle.std.proofs.lemmas.Bool.{cases_lt}
use Rattle.std.proofs.lemmas.List.{get_or-map, length-map}
use Rattle.std.proofs.lemmas.Nat.{mod-mul-add, mod_below}
use Rattle.fleet_model.specs.declared.tables.Tables.{Tables}
use Rattle.lines_of_flying.specs.ground_turns.Nights.{IsKeptFor, can_maintain, nights_of_tour}
use Rattle.lines_of_flying.specs.declared.ground_turns.nights.Night.TheVariants as night
use Rattle.sums.proofs.Naturals.{some_above}
use Rattle.sums.proofs.Tests.{no_both}
use Rattle.tail_dates.specs.Reaches.{is_maintained, maintenance_nights}
use Rattle.tail_dates.specs.Rounds.{HasMaintenance}

-- from any place on each comes round
pub comes_round : (count first place : ℕ) → place < count → (after : ℕ) × (after < count) × ((first + after) % count ≡ place)
comes_round count first place within =
    let rest = first % count in
    let low : rest < count = mod_below first count (some_above within) in
    let split : first ≡ first / count * count + rest = parts first count in elim (cases_lt place rest) [
      | inl before ↦
          let sum : first + (place + count - rest) ≡ (first / count + 1) * count + place = omega (arith, split, low, before, more (first / count) count) in
          (place + count - rest, omega (arith, before, low), ap (λ n. n % count) sum ∙ mod-mul-add (first / count + 1) count place within)
      | inr behind ↦
          let sum : first + (place - rest) ≡ first / count * count + place = omega (arith, split, behind) in
          (place - rest, omega (arith, within, behind), ap (λ n. n % count) sum ∙ mod-mul-add (first / count) count place within)
    ]
  where
    more : (a b : ℕ) → (a + 1) * b ≡ a * b + b
    more a b = grind arith

    parts : (n w : ℕ) → n ≡ n / w * w + n % w
    parts n w = omega arith

-- so the search from a night on finds one that is for maintenance
pub some_comes : (nights : List Bool) (first : ℕ) → HasMaintenance nights → ((k : ℕ) → k < length nights → is_maintained nights (first + k) ≡ false) → ⊥
some_comes nights first some none =
    let round = comes_round (length nights) first some.night some.within in
    no_both (none round.0 round.1) (ap (λ k. slice_index_or nights k false) round.2 ∙ some.comes)

-- a tour that is kept for some days has a night for maintenance
pub kept_has : (t : Tables) (f : ℕ) (tour : List ℕ) (days : ℕ) → IsKeptFor t (nights_of_tour t f tour) days → HasMaintenance (maintenance_nights t f tour)
kept_has t f tour days kept =
    let nights = nights_of_tour t f tour in
    let found = kept.each 0 kept.some in
    let place = (0 + found.after) % length nights in
    let within : place < length nights = mod_below (0 + found.after) (length nights) kept.some in
    record {
      night = place;
      within = subst (λ n. place < n) (sym (length-map nights (can_maintain t))) within;
      comes = get_or-map (can_maintain t) nights place night.Aloft false within ∙ found.maintained;
    }
