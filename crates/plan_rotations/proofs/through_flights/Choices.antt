-- The chosen pairs are a through set.
use Rattle.std.proofs.Common.{◌≡◌, ℕ, ◌+◌, ◌-◌, ◌<◌, nat_lt, true, false, List, [], length, slice_index, ℤ, pos, ◌<ℤ◌, ◌≤ℤ◌, unwrap_or, unsigned_abs, refl, sym, ◌∙◌, ap, subst, arith, lt_trans, ne_of_lt}
use Rattle.std.proofs.lemmas.Bool.Decides.{nat_tests}
use Rattle.std.proofs.lemmas.Int.{ints}
use Rattle.std.proofs.lemmas.Bool.{ltb-true}
use Rattle.sums.specs.Below.{sum_below}
use Rattle.plan_rotations.specs.best_matching.Worths.{AreDuals, AreTight, IsOneToOne}
use Rattle.fleet_model.specs.declared.parts.Connection.{Connection}
use Rattle.fleet_model.specs.declared.tables.Tables.{Tables}
use Rattle.fleet_model.specs.Counts.{weights_of}
use Rattle.fleet_model.specs.Schedule.{fleets_in, legs_in}
use Rattle.fleet_model.specs.Use.{IsBalanced}
use Rattle.fleet_model.specs.Plain.{IsPlain}
use Rattle.lines_of_flying.specs.ground_turns.Maps.{AreClean, HasTurn, IsHeldByMap, turn_at}
use Rattle.lines_of_flying.specs.ground_turns.Throughs.{IsThroughSet, IsThroughTurn, through_value, value_of_set}
use Rattle.lines_of_flying.proofs.ground_turns.Fits.{fits_where_clean}
use Rattle.lines_of_flying.proofs.ground_turns.SomeMap.{some_fits}
use Rattle.plan_rotations.specs.declared.through_flights.worths.TheConstants.{CLEAN_WORTH}
use Rattle.plan_rotations.specs.through_flights.Choice.{AreThroughsListed, turns_below}
use Rattle.plan_rotations.specs.through_flights.Chosen.{chosen_value, is_chosen}
use Rattle.plan_rotations.specs.through_flights.Worths.{AreTurnWorths, through_pair}
use Rattle.plan_rotations.proofs.through_flights.CleanMatchings.{all_clean, goes_on}
use Rattle.plan_rotations.proofs.through_flights.FittingMaps.{fitting, has, turns}
use Rattle.plan_rotations.proofs.through_flights.Followers.{AreFollowers, are_followers, follower}
use Rattle.plan_rotations.proofs.through_flights.ListedTurns.{IsListed, each_listed, rising, values_below}
use Rattle.plan_rotations.proofs.through_flights.TurnWorths.{listed_some}

fails_at_most : (a b : ℕ) → nat_lt a b ≡ false → b - a ≡ 0
fails_at_most a b e = grind (arith, nat_tests)

-- the matched legs go on in clean turns
pub matched_followers : (t : Tables) (a : List ℕ) (f : ℕ) (worths : List (List ℕ)) (rows columns next : ℕ → ℕ) → IsPlain t → IsBalanced t (weights_of a) → f < fleets_in t
    → AreTurnWorths t a f worths → IsOneToOne next (length worths) → AreDuals worths rows columns → AreTight worths rows columns next (length worths) → AreFollowers t a f next
matched_followers t a f worths rows columns next plain balanced f_lt w one duals tight =
    let held : IsHeldByMap t a f [] = some_fits t a f plain balanced f_lt in
    let clean : AreClean t a f held.turns = (fits_where_clean t a f held.turns held.fitting.map).0 held.fitting in
    let known = are_followers t a f held.turns held.fitting.map clean in
    let here : IsOneToOne next (legs_in t) = subst (IsOneToOne next) w.size one in
    record {
      plain = plain;
      one_to_one = here;
      each = λ l lt. goes_on t a f _ l (next l) (w.each l (next l) lt (here.within l lt)) (all_clean t a f worths rows columns next (follower t a f held.turns) w one duals tight known l lt);
    }

module _ (t : Tables) (a : List ℕ) (f : ℕ) (worths : List (List ℕ)) (columns : List ℕ) (w : AreTurnWorths t a f worths) (known : AreFollowers t a f (slice_index columns)) where
  next : ℕ → ℕ
  next = slice_index columns

  chosen : List Connection
  chosen = turns_below (is_chosen worths columns) (slice_index columns) (legs_in t)

  a_through : (l : ℕ) → l < legs_in t → is_chosen worths columns l ≡ true → IsThroughTurn t a f (through_pair l (slice_index columns l))
  a_through l lt e = (w.each l (slice_index columns l) lt (known.one_to_one.within l lt)).above (ltb-true _ _ e)

  entry : (k : ℕ) → k < length chosen → IsListed (is_chosen worths columns) (slice_index columns) (legs_in t) (turn_at chosen k)
  unfolding chosen
  entry = each_listed (is_chosen worths columns) (slice_index columns) (legs_in t)

  through_at : (k : ℕ) → k < length chosen → IsThroughTurn t a f (turn_at chosen k)
  through_at k lt = let e = entry k lt in subst (IsThroughTurn t a f) (sym e.is) (a_through e.leg e.within e.passing)

  rise : (j k : ℕ) → j < k → k < length chosen → (turn_at chosen j).arriving < (turn_at chosen k).arriving
  unfolding chosen
  rise = rising (is_chosen worths columns) (slice_index columns) (legs_in t)

  is_set : IsThroughSet t a f chosen
  is_set = record {
    each = through_at;
    apart = record {
      arriving = λ j k order lt same. ne_of_lt (rise j k order lt) same;
      departing = λ j k order lt same.
          let first = entry j (lt_trans order lt) in
          let second = entry k lt in
          let one : first.leg ≡ second.leg =
          known.one_to_one.distinct first.leg second.leg first.within second.within (sym (ap (λ x. x.departing) first.is) ∙ same ∙ ap (λ x. x.departing) second.is) in
          ne_of_lt (rise j k order lt) (ap (λ x. x.arriving) first.is ∙ one ∙ sym (ap (λ x. x.arriving) second.is));
    };
    held = record {
      turns = turns t a f (slice_index columns) known;
      fitting = fitting t a f (slice_index columns) known;
      holds = record {
        each = λ k lt.
            let e = entry k lt in
            subst (HasTurn (turns t a f (slice_index columns) known)) (sym e.is) (has t a f (slice_index columns) known e.leg e.within (a_through e.leg e.within e.passing).turn.comes_on);
      };
    };
  }

  -- the value of a chosen leg's pair
  worth_is : (l : ℕ) → l < legs_in t → is_chosen worths columns l ≡ true → unwrap_or (through_value t (through_pair l (slice_index columns l))) (pos 0) ≡ pos (chosen_value worths columns l)
  worth_is l lt e =
      let through = (w.each l (slice_index columns l) lt (known.one_to_one.within l lt)).through (a_through l lt e) in
      value _ _ _ through refl (listed_some t (through_pair l (slice_index columns l)))
    where
      value : (worth listed : ℕ) (z : ℤ) → worth ≡ CLEAN_WORTH + listed → listed ≡ unsigned_abs z → pos 0 ≤ℤ z → z ≡ pos (worth - CLEAN_WORTH)
      value worth listed z e g some = omega (arith, ints)

  listed : AreThroughsListed t chosen
  listed = record {
    rising = rise;
    above = λ k lt.
        let e = entry k lt in
        subst (λ turn. pos 0 <ℤ unwrap_or (through_value t turn) (pos 0)) (sym e.is)
        (subst (λ z. pos 0 <ℤ z) (sym (worth_is e.leg e.within e.passing)) (more _ _ (ltb-true _ _ e.passing)));
  }
    where
      more : (worth mark : ℕ) → mark < worth → pos 0 <ℤ pos (worth - mark)
      more worth mark lt = omega (arith, ints)

  value_is : value_of_set t chosen ≡ pos (sum_below (chosen_value worths columns) (legs_in t))
  unfolding value_of_set chosen
  value_is = values_below t (is_chosen worths columns) (slice_index columns) (chosen_value worths columns) (legs_in t) worth_is (λ l lt e. fails_at_most _ _ e)

  pub through_set : (pairs : List Connection) (n : ℕ) → n ≡ legs_in t → pairs ≡ turns_below (is_chosen worths columns) (slice_index columns) n → IsThroughSet t a f pairs
  unfolding chosen
  through_set pairs n size e = subst (IsThroughSet t a f) (sym (e ∙ ap (turns_below (is_chosen worths columns) (slice_index columns)) size)) is_set

  pub are_listed : (pairs : List Connection) (n : ℕ) → n ≡ legs_in t → pairs ≡ turns_below (is_chosen worths columns) (slice_index columns) n → AreThroughsListed t pairs
  unfolding chosen
  are_listed pairs n size e = subst (AreThroughsListed t) (sym (e ∙ ap (turns_below (is_chosen worths columns) (slice_index columns)) size)) listed

  pub set_value : (pairs : List Connection) (n : ℕ) (value : ℤ) → n ≡ legs_in t → pairs ≡ turns_below (is_chosen worths columns) (slice_index columns) n
      → value ≡ pos (sum_below (chosen_value worths columns) n) → value ≡ value_of_set t pairs
  unfolding chosen
  set_value pairs n value size e is =
      is ∙ ap (λ m. pos (sum_below (chosen_value worths columns) m)) size ∙ sym value_is
      ∙ ap (value_of_set t) (sym (e ∙ ap (turns_below (is_chosen worths columns) (slice_index columns)) size))
