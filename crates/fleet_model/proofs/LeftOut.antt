-- By one choice at most a leg is left out, and how far a subproblem can still be narrowed.
use Rattle.std.proofs.Common.{◌≡◌, ℕ, ◌+◌, ◌-◌, ◌*◌, ◌<◌, ◌≤◌, ◌&&◌, Bool, true, false, not, nat_lt, if◌then◌else◌, Option, Some, None, is_some, ℤ, refl, sym, ◌∙◌, ap, subst, inl, inr, arith, mul_comm}
use Rattle.std.proofs.lemmas.Bool.{cases_lt, lt-ltb, ltb-true}
use Rattle.std.proofs.lemmas.Bool.Decides.{nat_tests}
use Rattle.std.proofs.lemmas.Nat.{mul-le}
use Rattle.sums.specs.Below.{count_below, sum_below}
use Rattle.sums.proofs.Blocks.{blocks, sum_below-more}
use Rattle.sums.proofs.Counts.{count_below-no_two}
use Rattle.sums.proofs.Sums.{sum_below-agree, sum_below-le, sum_below-ones, sum_below-zero}
use Rattle.sums.proofs.Naturals.{times_below}
use Rattle.sums.proofs.Tests.{not_true, parts_true}
use Rattle.fleet_model.specs.declared.tables.Tables.{Tables}
use Rattle.fleet_model.specs.Costs.{cost_in}
use Rattle.fleet_model.specs.Kept.{all_pairs, kept_on}
use Rattle.fleet_model.specs.LeftOut.{KeepLeftOut, StepsAreFew, leaves_out, left_out_on, steps_on}
use Rattle.fleet_model.specs.Legal.{cost_of, raised}
use Rattle.fleet_model.specs.Schedule.{choices_in, fleet_by, fleets_in, left_out, leg_on, legs_in, shift_by, shifts_in}
use Rattle.fleet_model.proofs.Departures.{block_fleet, in_block, some_times}

-- ---- the choice by which a leg is left out is the last
pub flown_before : (t : Tables) (l c : ℕ) → c < left_out t l → fleet_by t (leg_on l c) < fleets_in t
flown_before t l c before = elim (cases_lt (fleet_by t (leg_on l c)) (fleets_in t)) [
  | inl known ↦ known
  | inr past ↦ absurd (omega (arith, mul-le (fleets_in t) (shifts_in t l) (fleet_by t (leg_on l c)) (shifts_in t l) past (omega arith), in_block t (leg_on l c), before))
]

pub last_choice : (t : Tables) (l c : ℕ) → c < choices_in t l → fleets_in t ≤ fleet_by t (leg_on l c) → c ≡ left_out t l
unfolding choices_in
last_choice t l c within past = elim (cases_lt c (left_out t l)) [
  | inl before ↦ absurd (omega (arith, flown_before t l c before, past))
  | inr behind ↦ one_more t.optional c (left_out t l) within behind
]
  where
    one_more : (o : Bool) (c n : ℕ) → c < n + (if o then 1 else 0) → n ≤ c → c ≡ n
    one_more true c n within behind = omega arith
    one_more false c n within behind = absurd (omega arith)

not_flown : (t : Tables) (l c : ℕ) → leaves_out t l c ≡ true → fleets_in t ≤ fleet_by t (leg_on l c)
not_flown t l c out =
    let past = not_true (nat_lt (fleet_by t (leg_on l c)) (fleets_in t)) (parts_true (not (nat_lt (fleet_by t (leg_on l c)) (fleets_in t))) _ out).0 in
    grind (arith, nat_tests, past)

-- by one choice at most a leg is left out
pub left_out_once : (t : Tables) (l : ℕ) → left_out_on t l ≤ 1
unfolding left_out_on
left_out_once t l = count_below-no_two (leaves_out t l) (choices_in t l) (λ j k first second out other.
    last_choice t l j first (not_flown t l j out) ∙ sym (last_choice t l k second (not_flown t l k other)))

-- where all pairs are kept, so are these
pub all_keep_left_out : (t : Tables) → KeepLeftOut t (all_pairs t)
all_keep_left_out t = record { each = λ l c out. (parts_true (not (nat_lt (fleet_by t (leg_on l c)) (fleets_in t))) _ out).1 }

-- ---- what is left to step where all pairs are kept
pub is_raised : (o : Option ℤ) (more : ℤ) → is_some (raised o more) ≡ is_some o
is_raised None more = refl
is_raised (Some cost) more = refl

-- a fleet's pairs of a leg may be flown where the fleet has a cost on it
pub block_kept : (t : Tables) (l f i : ℕ) → f < fleets_in t → i < shifts_in t l → all_pairs t (leg_on l (f * shifts_in t l + i)) ≡ is_some (cost_in t.costs l f)
unfolding cost_of
block_kept t l f i known within =
    let fleet = block_fleet t l f i within in
    let p = leg_on l (f * shifts_in t l + i) in
    let flown : nat_lt (fleet_by t p) (fleets_in t) ≡ true = ap (λ n. nat_lt n (fleets_in t)) fleet ∙ lt-ltb f (fleets_in t) known in
    rw flown (is_raised (cost_in t.costs l (fleet_by t p)) (shift_by t p).extra ∙ ap (λ n. is_some (cost_in t.costs l n)) fleet)

all_alike : (b : Bool) (n : ℕ) → sum_below (λ k. if b then 1 else 0) n ≡ n * (if b then 1 else 0)
all_alike true n = sum_below-ones n ∙ omega arith
all_alike false n = sum_below-zero n ∙ omega arith

module _ (t : Tables) (l : ℕ) where
  abbrev kept : ℕ → ℕ
  kept c = if all_pairs t (leg_on l c) then 1 else 0

  abbrev out : ℕ → ℕ
  out c = if leaves_out t l c then 1 else 0

  -- the fleets' blocks keep as many as there are fleets with a cost, each at each time
  blocks_kept : sum_below kept (left_out t l) ≡ count_below (λ f. is_some (cost_in t.costs l f)) (fleets_in t) * shifts_in t l
  blocks_kept =
      blocks kept (fleets_in t) (shifts_in t l)
      ∙ times_below (shifts_in t l) (λ f. sum_below (λ i. kept (f * shifts_in t l + i)) (shifts_in t l)) (λ f. if is_some (cost_in t.costs l f) then 1 else 0) (fleets_in t)
      (λ f known.
      sum_below-agree (λ i. kept (f * shifts_in t l + i)) (λ i. if is_some (cost_in t.costs l f) then 1 else 0) (shifts_in t l)
      (record { each = λ i within. ap (λ b. if b then 1 else 0) (block_kept t l f i known within) })
      ∙ all_alike (is_some (cost_in t.costs l f)) (shifts_in t l))
      ∙ mul_comm (shifts_in t l) (count_below (λ f. is_some (cost_in t.costs l f)) (fleets_in t))

  -- .. and what is kept behind them leaves the leg out
  behind_kept : (o : Bool) → sum_below (λ k. kept (left_out t l + k)) (if o then 1 else 0) ≤ sum_below (λ k. out (left_out t l + k)) (if o then 1 else 0)
  behind_kept true = omega (arith, last_kept)
    where
      last_kept : kept (left_out t l + 0) ≤ out (left_out t l + 0)
      last_kept =
          let fleet = block_fleet t l (fleets_in t) 0 (some_times t l) in
          let past : nat_lt (fleet_by t (leg_on l (left_out t l + 0))) (fleets_in t) ≡ false = ap (λ n. nat_lt n (fleets_in t)) fleet ∙ grind (arith, nat_tests) in
          rw past (omega arith)
  behind_kept false = omega arith

  pub steps_by_fleets : steps_on t (all_pairs t) l ≤ count_below (λ f. is_some (cost_in t.costs l f)) (fleets_in t) * shifts_in t l
  unfolding choices_in left_out_on
  steps_by_fleets = omega (
    arith,
    sum_below-more kept (left_out t l) (if t.optional then 1 else 0),
    sum_below-more out (left_out t l) (if t.optional then 1 else 0),
    behind_kept t.optional,
    blocks_kept,
  )

pub steps_are_few : StepsAreFew
steps_are_few t = omega (
  arith,
  sum_below-le (steps_on t (all_pairs t)) (λ l. count_below (λ f. is_some (cost_in t.costs l f)) (fleets_in t) * shifts_in t l) (legs_in t) (record { each = λ l below. steps_by_fleets t l }),
  t.in_range.few_triples,
)
