-- Costs that may not be there, and rounded worths.
use Rattle.std.proofs.Common.{◌≡◌, Bool, true, false, if◌then◌else◌, Option, Some, None, IsSomeAnd, ℤ, pos, ◌+ℤ◌, ◌-ℤ◌, ◌*ℤ◌, ◌≤ℤ◌, ◌<ℤ◌, refl, arith}
use Rattle.std.specs.Prelude.{int_div, int_le, int_lt, int_rem}
use Rattle.std.proofs.lemmas.Int.{by_lt_z, ints, quot-rem, rem_below}
use lib.IntN.{*ℤ_comm}
use Rattle.sums.proofs.Integers.{one-*ℤ, -ℤ-*ℤ}
use Rattle.sums.proofs.Orders.{factor_le}
use Rattle.sums.proofs.Signs.{lesser_multiple}
use Rattle.frac_row.specs.Ratio.{IsCeiling}
use Rattle.frac_row.proofs.Ceilings.{ceiling_above, ceiling_here, same_ceiling}
use Rattle.fleet_model.specs.Kept.{Domains}
use Rattle.fleet_model.specs.declared.tables.Tables.{Tables}
use Rattle.dual_bound.specs.Bound.{lesser_bound}
use Rattle.dual_bound.specs.Worth.{worth_of}
use Rattle.dual_bound.specs.declared.prices.Prices.{Prices}
use Rattle.cert_check.specs.Rules.{ReachesCost}
use Rattle.node_bounding.specs.Closing.{does_reach}
use Rattle.node_bounding.specs.Found.{FallsShort}
use Rattle.node_bounding.specs.Subproblems.{IsNoMore}

pub no_more_same : (a : Option ℤ) → IsNoMore a a
no_more_same None = tt
no_more_same (Some c) = omega (arith, ints)

pub no_more_on : (a b c : Option ℤ) → IsNoMore a b → IsNoMore b c → IsNoMore a c
no_more_on None b c p q = tt
no_more_on (Some x) None c p q = absurd p
no_more_on (Some x) (Some y) None p q = absurd q
no_more_on (Some x) (Some y) (Some z) p q = omega (arith, ints, p, q)

-- the lesser of two costs is no more than each
pub lesser_no_more : (a b : Option ℤ) → IsNoMore a (lesser_bound a b) × IsNoMore b (lesser_bound a b)
lesser_no_more None None = (tt, tt)
lesser_no_more (Some x) None = (no_more_same (Some x), tt)
lesser_no_more None (Some y) = (tt, no_more_same (Some y))
lesser_no_more (Some x) (Some y) = by_test (int_le x y) (λ e. grind (arith, ints)) (λ e. grind (arith, ints))
  where
    by_test : (b : Bool) → (b ≡ true → x ≤ℤ y) → (b ≡ false → y ≤ℤ x) → ((if b then x else y) ≤ℤ x) × ((if b then x else y) ≤ℤ y)
    by_test true p q = (omega (arith, ints), p refl)
    by_test false p q = (q refl, omega (arith, ints))

-- a rounded worth that reaches a cost reaches each that is no more
pub reaches_less : (t : Tables) (keeps : Domains) (prices : Prices) (cost : ℤ) (final : Option ℤ) → ReachesCost t keeps prices cost → IsNoMore (Some cost) final → IsSomeAnd final (ReachesCost t keeps prices)
reaches_less t keeps prices cost None reaches less = absurd less
reaches_less t keeps prices cost (Some c) reaches less = record {
  least = reaches.least;
  rounded = reaches.rounded;
  reaches = omega (arith, ints, reaches.reaches, less);
}

pub reaches_on : (t : Tables) (keeps : Domains) (prices : Prices) (best final : Option ℤ) → IsSomeAnd best (ReachesCost t keeps prices) → IsNoMore best final → IsSomeAnd final (ReachesCost t keeps prices)
reaches_on t keeps prices None final reached less = absurd reached
reaches_on t keeps prices (Some cost) final reached less = reaches_less t keeps prices cost final reached less

-- a product of a whole number is rounded to itself
pub ceiling_exact : (c d n : ℤ) → pos 1 ≤ℤ d → n ≡ c *ℤ d → IsCeiling n d c
ceiling_exact c d n some e = record {
  enough = omega (arith, ints, e);
  least = omega (arith, ints, e, -ℤ-*ℤ c (pos 1) d, one-*ℤ d);
}

-- ---- rounded worths
pub ceiling_of : (n d : ℤ) → pos 1 ≤ℤ d → (c : ℤ) × IsCeiling n d c
ceiling_of n d some =
    let rest = rem_below n d (omega (arith, ints, some)) in
    by_lt_z (pos 0) (int_rem n d)
    (λ more. (int_div n d +ℤ pos 1, ceiling_above n d (int_div n d) (int_rem n d) (int_div n d +ℤ pos 1) (omega (arith, ints, some)) (quot-rem n d) rest more refl))
    (λ none. (int_div n d, ceiling_here n d (int_div n d) (int_rem n d) (int_div n d) (omega (arith, ints, some)) (quot-rem n d) rest none refl))

module _ (t : Tables) (keeps : Domains) (prices : Prices) (cost : ℤ) (some : pos 1 ≤ℤ prices.scale) where
  abbrev worth : ℤ
  worth = worth_of t keeps prices 1

  least : ℤ
  least = (ceiling_of worth prices.scale some).0

  rounded : IsCeiling worth prices.scale least
  unfolding least
  rounded = (ceiling_of worth prices.scale some).1

  -- worth more than one cost unit less
  pub does_reach_is : does_reach t keeps prices cost ≡ true → ReachesCost t keeps prices cost
  does_reach_is e =
      let more : ((cost -ℤ pos 1) *ℤ prices.scale) <ℤ worth = grind (arith, ints, e) in
      let passes : (cost -ℤ pos 1) <ℤ least = lesser_multiple prices.scale (cost -ℤ pos 1) least some (omega (arith, ints, more, rounded.enough)) in
      record { least = least; rounded = rounded; reaches = omega (arith, ints, passes) }

  pub falls_short_is : does_reach t keeps prices cost ≡ false → FallsShort t keeps prices cost
  falls_short_is e =
      let less : worth ≤ℤ ((cost -ℤ pos 1) *ℤ prices.scale) = grind (arith, ints, e) in
      let below : (least -ℤ pos 1) <ℤ (cost -ℤ pos 1) = lesser_multiple prices.scale (least -ℤ pos 1) (cost -ℤ pos 1) some (omega (arith, ints, less, rounded.least)) in
      record { least = least; rounded = rounded; short = omega (arith, ints, below) }

-- the test of a rounded worth
reach_order : (cost worth scale ceiling : ℤ) → pos 1 ≤ℤ scale → IsCeiling worth scale ceiling → int_le cost ceiling ≡ int_lt ((cost -ℤ pos 1) *ℤ scale) worth
reach_order cost worth scale ceiling some rounded = by_lt_z ceiling cost
    (λ above.
    let no_more = factor_le scale ceiling (cost -ℤ pos 1) (omega (arith, ints, some)) (omega (arith, ints, above)) in
    let less : worth ≤ℤ ((cost -ℤ pos 1) *ℤ scale) = omega (arith, ints, rounded.enough, no_more, *ℤ_comm ceiling scale, *ℤ_comm (cost -ℤ pos 1) scale) in
    grind (arith, ints, above, less))
    (λ reached.
    let no_more = factor_le scale (cost -ℤ pos 1) (ceiling -ℤ pos 1) (omega (arith, ints, some)) (omega (arith, ints, reached)) in
    let more : ((cost -ℤ pos 1) *ℤ scale) <ℤ worth = omega (arith, ints, rounded.least, no_more, *ℤ_comm (ceiling -ℤ pos 1) scale, *ℤ_comm (cost -ℤ pos 1) scale) in
    grind (arith, ints, reached, more))

pub reach_test : (t : Tables) (keeps : Domains) (prices : Prices) (cost ceiling : ℤ) → pos 1 ≤ℤ prices.scale → IsCeiling (worth_of t keeps prices 1) prices.scale ceiling → int_le cost ceiling ≡ does_reach t keeps prices cost
reach_test t keeps prices cost ceiling some rounded = reach_order cost (worth_of t keeps prices 1) prices.scale ceiling some rounded

-- a ratio has one rounded worth
pub one_ceiling : (n d x y : ℤ) → pos 1 ≤ℤ d → IsCeiling n d x → IsCeiling n d y → x ≡ y
one_ceiling n d x y some first second = omega (arith, ints, same_ceiling n d x y some first second, same_ceiling n d y x some second first)
