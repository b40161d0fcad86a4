-- The numbers of the legs that a matching gives.
use Rattle.std.proofs.Common.{◌≡◌, ◌≢◌, ℕ, ◌+◌, ◌-◌, ◌<◌, ◌≤◌, ◌==◌, Bool, true, false, if◌then◌else◌, List, length, slice_index, ℤ, pos, ◌+ℤ◌, ◌-ℤ◌, ◌≤ℤ◌, unwrap_or, unsigned_abs, refl, sym, ◌∙◌, ap, subst, inl, inr, arith}
use Rattle.std.proofs.lemmas.Bool.{cases_eq, eq-eqb, ne_eqb}
use Rattle.std.proofs.lemmas.Int.{ints}
use Rattle.sums.specs.Below.{sum_below}
use Rattle.sums.specs.Places.{list_below}
use Rattle.sums.proofs.Places.{get_or-list_below, length-list_below}
use Rattle.sums.proofs.Sums.{sum_below-add, sum_below-agree}
use Rattle.sums.proofs.WholeSums.{sum_below_ℤ-of_differences, sum_below_ℤ-pos, sum_below_ℤ-same}
use Rattle.plan_rotations.specs.best_matching.Worths.{AreDuals, AreTight, worth_at}
use Rattle.plan_rotations.proofs.best_matching.OneToOneMaps.{along}
use Rattle.fleet_model.specs.declared.parts.Connection.{Connection}
use Rattle.fleet_model.specs.declared.tables.Tables.{Tables}
use Rattle.fleet_model.specs.Counts.{choice_at}
use Rattle.fleet_model.specs.Schedule.{legs_in}
use Rattle.lines_of_flying.specs.ground_turns.Turns.{IsTurn}
use Rattle.plan_rotations.specs.declared.through_flights.worths.TheConstants.{CLEAN_WORTH}
use Rattle.plan_rotations.specs.through_flights.Choice.{ReachTurns, leg_number, sum_of}
use Rattle.plan_rotations.specs.through_flights.Chosen.{chosen_value, own_number}
use Rattle.plan_rotations.specs.through_flights.Worths.{AreTurnWorths}
use Rattle.plan_rotations.proofs.through_flights.Followers.{AreFollowers}

-- a leg's number is its dual, less a number, in the fleet, and 0 in others
own_is : (a : List ℕ) (f : ℕ) (duals : List ℕ) (less l : ℕ) → choice_at a l ≡ f → own_number a f duals less l ≡ pos (slice_index duals l) -ℤ pos less
own_is a f duals less l own = choice (choice_at a l == f) _ (eq-eqb _ _ own)
  where
    choice : (b : Bool) (x : ℤ) → b ≡ true → (if b then x else pos 0) ≡ x
    choice b x e = rw e

other_is : (a : List ℕ) (f : ℕ) (duals : List ℕ) (less l : ℕ) → choice_at a l ≢ f → own_number a f duals less l ≡ pos 0
other_is a f duals less l ne = choice (choice_at a l == f) _ (ne_eqb _ _ ne)
  where
    choice : (b : Bool) (x : ℤ) → b ≡ false → (if b then x else pos 0) ≡ pos 0
    choice b x e = rw e

number_is : (a : List ℕ) (f : ℕ) (duals : List ℕ) (less n : ℕ) (numbers : List ℤ) → numbers ≡ list_below (own_number a f duals less) n → (l : ℕ) → l < n
    → leg_number numbers l ≡ own_number a f duals less l
number_is a f duals less n numbers e l lt = ap (λ xs. leg_number xs l) e ∙ get_or-list_below (own_number a f duals less) n l (pos 0) lt

pub numbers_reach : (t : Tables) (a : List ℕ) (f : ℕ) (worths : List (List ℕ)) (rows columns : List ℕ) (u v : List ℤ) → AreTurnWorths t a f worths
    → AreDuals worths (slice_index rows) (slice_index columns) → u ≡ list_below (own_number a f rows CLEAN_WORTH) (legs_in t)
    → v ≡ list_below (own_number a f columns 0) (legs_in t) → ReachTurns t a f u v
numbers_reach t a f worths rows columns u v w duals u_is v_is = record {
  arrivals = ap length u_is ∙ length-list_below (own_number a f rows CLEAN_WORTH) (legs_in t);
  departures = ap length v_is ∙ length-list_below (own_number a f columns 0) (legs_in t);
  others = λ l lt ne. (number_is a f rows CLEAN_WORTH (legs_in t) u u_is l lt ∙ other_is a f rows CLEAN_WORTH l ne, number_is a f columns 0 (legs_in t) v v_is l lt ∙ other_is a f columns 0 l ne);
  clean = λ pair turn clean.
      let worth = (w.each pair.arriving pair.departing turn.arriving turn.departing).clean (record { turn = turn; clean = clean }) in
      subst (λ z. pos 0 ≤ℤ z) (sym (both pair turn)) (not_below _ _ _ worth (reach pair turn));
  through = λ pair value through listed.
      let worth = (w.each pair.arriving pair.departing through.turn.arriving through.turn.departing).through through in
      subst (λ z. value ≤ℤ z) (sym (both pair through.turn)) (no_more _ _ _ _ _ worth (ap (λ o. unsigned_abs (unwrap_or o (pos 0))) listed) (reach pair through.turn));
}
  where
    both : (pair : Connection) → IsTurn t a f pair
        → leg_number u pair.arriving +ℤ leg_number v pair.departing ≡ (pos (slice_index rows pair.arriving) -ℤ pos CLEAN_WORTH) +ℤ (pos (slice_index columns pair.departing) -ℤ pos 0)
    both pair turn =
        ap (λ z. z +ℤ leg_number v pair.departing) (number_is a f rows CLEAN_WORTH (legs_in t) u u_is pair.arriving turn.arriving ∙ own_is a f rows CLEAN_WORTH pair.arriving turn.comes_on)
        ∙ ap (λ z. (pos (slice_index rows pair.arriving) -ℤ pos CLEAN_WORTH) +ℤ z)
        (number_is a f columns 0 (legs_in t) v v_is pair.departing turn.departing ∙ own_is a f columns 0 pair.departing turn.leaves_on)

    reach : (pair : Connection) → IsTurn t a f pair → worth_at worths pair.arriving pair.departing ≤ slice_index rows pair.arriving + slice_index columns pair.departing
    reach pair turn =
        duals.reach pair.arriving pair.departing (subst (λ n. pair.arriving < n) (sym w.size) turn.arriving) (subst (λ n. pair.departing < n) (sym w.size) turn.departing)

    not_below : (row column worth : ℕ) → CLEAN_WORTH ≤ worth → worth ≤ row + column → pos 0 ≤ℤ ((pos row -ℤ pos CLEAN_WORTH) +ℤ (pos column -ℤ pos 0))
    not_below row column worth p q = omega (arith, ints)

    no_more : (row column worth listed : ℕ) (value : ℤ) → worth ≡ CLEAN_WORTH + listed → listed ≡ unsigned_abs value → worth ≤ row + column
        → value ≤ℤ ((pos row -ℤ pos CLEAN_WORTH) +ℤ (pos column -ℤ pos 0))
    no_more row column worth listed value e g q = omega (arith, ints)

module _ (t : Tables) (a : List ℕ) (f : ℕ) (worths : List (List ℕ)) (rows columns next : List ℕ) (w : AreTurnWorths t a f worths)
    (tight : AreTight worths (slice_index rows) (slice_index columns) (slice_index next) (length worths)) (known : AreFollowers t a f (slice_index next)) where
  -- the duals of the fleet's legs alone
  row_part : ℕ → ℕ
  row_part l = if choice_at a l == f then slice_index rows l else 0

  clean_part : ℕ → ℕ
  clean_part l = if choice_at a l == f then CLEAN_WORTH else 0

  column_part : ℕ → ℕ
  column_part l = if choice_at a l == f then slice_index columns l else 0

  u_parts : (l : ℕ) → own_number a f rows CLEAN_WORTH l ≡ pos (row_part l) -ℤ pos (clean_part l)
  unfolding row_part clean_part
  u_parts l = either (choice_at a l == f) (slice_index rows l)
    where
      either : (b : Bool) (x : ℕ) → (if b then pos x -ℤ pos CLEAN_WORTH else pos 0) ≡ pos (if b then x else 0) -ℤ pos (if b then CLEAN_WORTH else 0)
      either true x = refl
      either false x = refl

  v_parts : (l : ℕ) → own_number a f columns 0 l ≡ pos (column_part l)
  unfolding column_part
  v_parts l = either (choice_at a l == f) (slice_index columns l)
    where
      either : (b : Bool) (x : ℕ) → (if b then pos x -ℤ pos 0 else pos 0) ≡ pos (if b then x else 0)
      either true x = omega (arith, ints)
      either false x = refl

  -- at each leg and the one that follows it the duals meet the worth
  at_leg : (l : ℕ) → l < legs_in t → row_part l + column_part (slice_index next l) ≡ clean_part l + chosen_value worths next l
  unfolding row_part column_part clean_part
  at_leg l lt =
      let lt' = subst (λ n. l < n) (sym w.size) lt in
      let worth = w.each l (slice_index next l) lt (known.one_to_one.within l lt) in
      elim (cases_eq (choice_at a l) f) [
        | inl own ↦
            let clean = (known.each l lt).own own in
            in_fleet (choice_at a l == f) (choice_at a (slice_index next l) == f) _ _ _ (eq-eqb _ _ own) (eq-eqb _ _ clean.turn.leaves_on) (tight.meet l lt') (worth.clean clean)
        | inr ne ↦
            let itself = (known.each l lt).other ne in
            in_other (choice_at a l == f) (choice_at a (slice_index next l) == f) _ _ _ (ne_eqb _ _ ne) (ne_eqb _ _ (λ e. ne (ap (choice_at a) itself ∙ e)))
            (worth.idle (record { other = ne; itself = itself }))
      ]
    where
      in_fleet : (b c : Bool) (row column worth : ℕ) → b ≡ true → c ≡ true → row + column ≡ worth → CLEAN_WORTH ≤ worth
          → (if b then row else 0) + (if c then column else 0) ≡ (if b then CLEAN_WORTH else 0) + (worth - CLEAN_WORTH)
      in_fleet true true row column worth e g meets clean = omega arith
      in_fleet false c row column worth e g meets clean = cc
      in_fleet true false row column worth e g meets clean = cc

      in_other : (b c : Bool) (row column worth : ℕ) → b ≡ false → c ≡ false → worth ≡ CLEAN_WORTH
          → (if b then row else 0) + (if c then column else 0) ≡ (if b then CLEAN_WORTH else 0) + (worth - CLEAN_WORTH)
      in_other false false row column worth e g idle = omega arith
      in_other true c row column worth e g idle = cc
      in_other false true row column worth e g idle = cc

  parts_sum : sum_below row_part (legs_in t) + sum_below column_part (legs_in t) ≡ sum_below clean_part (legs_in t) + sum_below (chosen_value worths next) (legs_in t)
  parts_sum =
      ap (λ x. sum_below row_part (legs_in t) + x) (sym (along column_part (slice_index next) (legs_in t) known.one_to_one))
      ∙ sym (sum_below-add row_part (λ l. column_part (slice_index next l)) (legs_in t))
      ∙ sum_below-agree (λ l. row_part l + column_part (slice_index next l)) (λ l. clean_part l + chosen_value worths next l) (legs_in t) (record { each = λ l lt. at_leg l lt })
      ∙ sum_below-add clean_part (chosen_value worths next) (legs_in t)

  pub numbers_sum : (u v : List ℤ) → u ≡ list_below (own_number a f rows CLEAN_WORTH) (legs_in t) → v ≡ list_below (own_number a f columns 0) (legs_in t)
      → sum_of u (legs_in t) +ℤ sum_of v (legs_in t) ≡ pos (sum_below (chosen_value worths next) (legs_in t))
  numbers_sum u v u_is v_is =
      add _ _ _ _ _ _
      (sum_below_ℤ-same (leg_number u) (λ l. pos (row_part l) -ℤ pos (clean_part l)) (legs_in t) (λ l lt. number_is a f rows CLEAN_WORTH (legs_in t) u u_is l lt ∙ u_parts l)
      ∙ sum_below_ℤ-of_differences row_part clean_part (legs_in t))
      (sum_below_ℤ-same (leg_number v) (λ l. pos (column_part l)) (legs_in t) (λ l lt. number_is a f columns 0 (legs_in t) v v_is l lt ∙ v_parts l)
      ∙ sum_below_ℤ-pos column_part (legs_in t))
      parts_sum
    where
      add : (x y : ℤ) (row clean column chosen : ℕ) → x ≡ pos row -ℤ pos clean → y ≡ pos column → row + column ≡ clean + chosen → x +ℤ y ≡ pos chosen
      add x y row clean column chosen e g same = omega (arith, ints)
