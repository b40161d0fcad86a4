-- Prices and fractional assignments of which a first part was read go on to whole ones.
use Rattle.bound_cert.proofs.Endings.{Completes, EndsBy, alike_after, beyond, ends_if, ends_lift, ends_map, ends_read, ends_then, not_there, value_of}
use Rattle.bound_cert.proofs.LineTwins.{Alike, Twin, alike_first, alike_self, charge_twin, mixed_scale_twin, rent_twin, scale_twin, step_twin, weight_twin}
use Rattle.bound_cert.proofs.ReadOn.{begins, bound, entries_end, entries_more}
use Rattle.bound_cert.proofs.Shrinking.{charges_shrink, entries_shrink, rents_shrink, shrinks_bind, steps_shrink, weights_shrink}
use Rattle.bound_cert.proofs.TextPrices.{StepWas, step_was}
use Rattle.bound_cert.proofs.WrittenLines.{names, other_words}
use Rattle.bound_cert.proofs.WrittenNodes.{behind_line}
use Rattle.bound_cert.proofs.WrittenPrices.{IsBehind, mixed_scale_read, needed_by, next_begins, of_step, scale_read, step_read, steps_read}
use Rattle.bound_cert.specs.Lines.{◌>>=◌, Left, Reading, fits}
use Rattle.bound_cert.specs.ProofText.{at_line}
use Rattle.bound_cert.specs.Reading.{Series, charge_series, charges_from, entries_from, entry_said, first_words, is_needless, mixed_said, mixed_scale_at, padded, prices_said, rent_series, rents_from, scale_at, step_said, step_series, steps_from, weight_series, weights_from}
use Rattle.bound_cert.specs.declared.reading_lines.Due.{Due}
use Rattle.dual_bound.proofs.StepOrder.{one_figure, same_place_by}
use Rattle.dual_bound.specs.OfTables.{IsStepOf}
use Rattle.dual_bound.specs.Order.{same_place, step_follows}
use Rattle.dual_bound.specs.WrittenOrder.{IsStepInOrder, goes_on}
use Rattle.dual_bound.specs.declared.mixed.Weight.{Weight}
use Rattle.dual_bound.specs.declared.prices.Charge.{Charge}
use Rattle.dual_bound.specs.declared.prices.PriceStep.{PriceStep}
use Rattle.dual_bound.specs.declared.prices.Prices.{Prices}
use Rattle.fleet_model.proofs.PeriodMinutes.{day_or_more}
use Rattle.fleet_model.specs.declared.tables.Tables.{Tables}
use Rattle.proof_lines.specs.declared.line.Version.{Version}
use Rattle.proof_lines.specs.Forms.{form_in}
use Rattle.proof_lines.specs.LineText.{line_bytes}
use Rattle.proof_lines.specs.Reading.{is_step_of}
use Rattle.proof_lines.specs.Words.{words_of}
use Rattle.std.proofs.Common.{[], ◌&&◌, ◌++◌, ◌<◌, ◌==◌, ◌∙◌, ◌∷◌, ◌≡◌, Bool, Err, List, None, Ok, Option, Some, ap, arith, false, inl, length, not, pos, refl, subst, sym, true, ℕ, ℤ}
use Rattle.std.proofs.lemmas.Bool.Decides.{Decides-int_eq, nat_tests}
use Rattle.std.proofs.lemmas.List.Elements.{All-cons, All-nil}
use Rattle.std.specs.Ordering.{int_eq}
use Rattle.std.specs.Prelude.{⊤, All}
use Rattle.sums.proofs.Naturals.{first_same}
use Rattle.bound_cert.specs.declared.reading_lines.Due.TheVariants as due
use Rattle.proof_lines.specs.declared.line.Line.TheVariants as says

-- some line, which doesn't begin as one of this kind in any version
pub record MayFollow (kind : Due) (left : Left) : Type 0 where
  pub some : 0 < length left
  pub other : (v : Version) → begins v left kind ≡ false

-- some line, which begins neither as a rent nor as a charge
record MayBeStep (left : Left) : Type 0 where
  no_rent : MayFollow due.Rent left
  no_charge : MayFollow due.Charge left

no_rent : (m : Left) → IsBehind m → MayFollow due.Rent m
no_rent m behind = record { some = behind.some; other = behind.no_rent }

no_charge : (m : Left) → IsBehind m → MayFollow due.Charge m
no_charge m behind = record { some = behind.some; other = behind.no_charge }

no_step : (m : Left) → IsBehind m → MayFollow due.Step m
no_step m behind = record { some = behind.some; other = behind.no_step }

may_be_step : (m : Left) → IsBehind m → MayBeStep m
may_be_step m behind = record { no_rent = no_rent m behind; no_charge = no_charge m behind }

-- what is needed with no other step behind it is needed whatever is behind it
needless_either : (c d g h : Bool) → g ≡ false → (c && d && not g) ≡ false → (c && d && not h) ≡ false
needless_either false d g h off needed = refl
needless_either true false g h off needed = refl
needless_either true true true h off needed = absurd (cc off)
needless_either true true false h off needed = absurd (cc needed)

-- two parts that are read, and what goes on from them
abbrev both_parts : {A B : Type 0} → A → B × Left → Reading ((A × B) × Left)
both_parts first second = Ok ((first, second.0), second.1)

regroup : {A B C : Type 0} (r : Reading (A × Left)) (g : Left → Reading (B × Left)) (on : (A × B) × Left → Reading C)
    → ((r >>= λ x. g x.1 >>= both_parts x.0) >>= on) ≡ (r >>= λ x. g x.1 >>= λ y. on ((x.0, y.0), y.1))
regroup {A = A} {B = B} (Ok x) g on = second (g x.1)
  where
    second : (s : Reading (B × Left)) → ((s >>= both_parts x.0) >>= on) ≡ (s >>= λ y. on ((x.0, y.0), y.1))
    second (Ok y) = refl
    second (Err e) = refl
regroup (Err e) g on = refl

module _ (v : Version) (t : Tables) (line : List ℕ) (after : Left) where
  abbrev end : Left
  end = line ∷ after

  entries_go : {S A B : Type 0} (s : Series S A B) (May Need : Left → Type 0) → ((so_far : S) (a b : Left) → Alike a b → Twin a b (entry_said s so_far a) (entry_said s so_far b)) → ((m : Left) → May m → begins s.names.version m s.kind ≡ false)
      → ((m : Left) → IsBehind m → begins s.names.version m s.kind ≡ false) → ((m : Left) → IsBehind m → Need m) → (so_far : S) (p : Left) → EndsBy May Need end (entries_from s so_far) p (entries_from s so_far (p ++ end))
  unfolding entries_from
  entries_go s May Need twin may_end behind_ends need so_far [] =
      ends_if _ _ end _ [] (fits s.kind (form_in s.names.version (words_of line))) _ _
      (λ is. ends_read _ _ end _ [] (entry_said s so_far end) _
      (λ e failed there. record { more = []; value = s.all so_far; reads = λ z ends. entries_end s so_far z (behind_ends z ends); need = need })
      (λ entry read. beyond _ _ end _ [] (length after) _ (entries_shrink s (λ so_far a. twin so_far a a (alike_self a)) (s.grow so_far entry) after) (omega arith)))
      (λ is. inl (record { rest = []; left_is = refl; stays = λ m some may. entries_end s so_far m (may_end m may) }))
  entries_go s May Need twin may_end behind_ends need so_far (x ∷ p) =
      ends_if _ _ end _ (x ∷ p) (fits s.kind (form_in s.names.version (words_of x))) _ _
      (λ is. ends_read _ _ end _ (x ∷ p) (entry_said s so_far (x ∷ (p ++ end))) _
      (λ e failed there. not_there x p end (entry_said s so_far (x ∷ (p ++ end))) e (twin so_far (x ∷ (p ++ end)) (x ∷ (p ++ end)) (alike_self (x ∷ (p ++ end)))) failed there)
      (λ entry read. ends_lift _ _ end (entries_from s so_far) (x ∷ p) (entries_from s (s.grow so_far entry)) p _ (λ m may. tt)
      (λ m some. entries_more s so_far (x ∷ (p ++ m)) entry is
      (value_of (x ∷ (p ++ end)) (x ∷ (p ++ m)) (entry_said s so_far (x ∷ (p ++ end))) (entry_said s so_far (x ∷ (p ++ m))) entry (twin so_far (x ∷ (p ++ end)) (x ∷ (p ++ m)) (alike_after x line p after m some)) read))
      (entries_go s May Need twin may_end behind_ends need (s.grow so_far entry) p)))
      (λ is. inl (record { rest = x ∷ p; left_is = refl; stays = λ m some may. entries_end s so_far (x ∷ (p ++ m)) is }))

  rents_go : (rents : List ℤ) (p : Left) → EndsBy (MayFollow due.Rent) IsBehind end (rents_from (names v t) rents) p (rents_from (names v t) rents (p ++ end))
  rents_go = entries_go (rent_series (names v t)) (MayFollow due.Rent) IsBehind (λ rents a b alike. rent_twin v t a b alike (length rents)) (λ m may. may.other v) (λ m ends. ends.no_rent v) (λ m ends. ends)

  charges_go : (charges : List Charge) (before : Option Charge) (p : Left) → EndsBy (MayFollow due.Charge) (MayFollow due.Rent) end (charges_from (names v t) charges before) p (charges_from (names v t) charges before (p ++ end))
  charges_go charges before =
      entries_go (charge_series (names v t)) (MayFollow due.Charge) (MayFollow due.Rent) (λ so_far a b alike. charge_twin v t a b alike so_far.1) (λ m may. may.other v) (λ m ends. ends.no_charge v) no_rent (charges, before)

  weights_go : (weights : List Weight) (before : Option Weight) (p : Left) → EndsBy IsBehind IsBehind end (weights_from (names v t) weights before) p (weights_from (names v t) weights before (p ++ end))
  weights_go weights before =
      entries_go (weight_series (names v t)) IsBehind IsBehind (λ so_far a b alike. weight_twin v t a b alike so_far.1) (λ m may. may.no_weight v) (λ m ends. ends.no_weight v) (λ m ends. ends) (weights, before)

  -- a step that other lines may follow: it needs no other step of its place, or has one
  module _ (steps : List PriceStep) (before : Option PriceStep) (x : List ℕ) (is : begins v (x ∷ []) due.Step ≡ true) (step : PriceStep) (was : StepWas v t before (x ∷ end) step) where
    onward : (m : Left) → 0 < length m → is_needless (names v t) step m ≡ false → steps_from (names v t) steps before (x ∷ m) ≡ steps_from (names v t) (steps ++ step ∷ []) (Some step) m
    onward m some needed =
        let first : x ≡ line_bytes t (at_line step) = first_same x (line_bytes t (at_line step)) end end was.line_is.is in
        entries_more (step_series (names v t)) (steps, before) (x ∷ m) step is (ap (λ y. step_said (names v t) before (y ∷ m)) first ∙ step_read v t before step m was.order was.follows needed some)

    -- behind lines of another kind it is needed as little as behind such
    stays_needed : (m : Left) → begins v end due.Step ≡ false → begins v m due.Step ≡ false → is_needless (names v t) step m ≡ false
    stays_needed m here there = needless_either (step.minute == 0) (int_eq step.value (pos 0)) (is_step_of (names v t) step.fleet step.station (first_words end)) (is_step_of (names v t) step.fleet step.station (first_words m)) (rw (other_words v end here) refl) was.needed

    next : PriceStep
    next = record { fleet = step.fleet; station = step.station; minute = 1; value = pos 1 }

    completed : Completes MayBeStep (steps_from (names v t) steps before) (x ∷ [])
    unfolding next
    completed = by_zero (step.minute == 0) (int_eq step.value (pos 0)) refl refl
      where
        plain : (c d : Bool) → (step.minute == 0) ≡ c → int_eq step.value (pos 0) ≡ d → (c && d) ≡ false → Completes MayBeStep (steps_from (names v t) steps before) (x ∷ [])
        plain c d minute value off = record {
          more = [];
          value = steps ++ step ∷ [];
          reads = λ z ends. onward z ends.some (rw (minute, value) (needless_off c d (is_step_of (names v t) step.fleet step.station (first_words z)) off)) ∙ entries_end (step_series (names v t)) (steps ++ step ∷ [], Some step) z (ends.no_step v);
          need = λ z ends. tt;
        }
          where
            needless_off : (c d g : Bool) → (c && d) ≡ false → (c && d && not g) ≡ false
            needless_off false d g off = refl
            needless_off true false g off = refl
            needless_off true true g off = absurd (cc off)

        by_zero : (c d : Bool) → (step.minute == 0) ≡ c → int_eq step.value (pos 0) ≡ d → Completes MayBeStep (steps_from (names v t) steps before) (x ∷ [])
        by_zero false d minute value = plain false d minute value refl
        by_zero true false minute value = plain true false minute value refl
        by_zero true true minute value =
            let none : step.minute ≡ 0 = grind (arith, nat_tests, minute) in
            let zero : step.value ≡ pos 0 = (Decides-int_eq step.value (pos 0)).0 value in
            let order : IsStepInOrder t next = record { fleet = was.order.fleet; station = was.order.station; minute = omega (arith, day_or_more t); value = one_figure } in
            let place : same_place step next ≡ true = same_place_by step next refl refl in
            let follows : step_follows (Some step) next ≡ true = rw place (rw (none, zero) refl) in
            let each : All (IsStepInOrder t) (next ∷ []) = All-cons (IsStepInOrder t) next [] order (All-nil (IsStepInOrder t)) in
            let of : All (IsStepOf t) (next ∷ []) = All-cons (IsStepOf t) next [] (of_step t next order) (All-nil (IsStepOf t)) in
            record {
              more = line_bytes t (at_line next) ∷ [];
              value = (steps ++ step ∷ []) ++ next ∷ [];
              reads = λ z ends.
                  onward (line_bytes t (at_line next) ∷ z) (omega arith)
                  (needed_by v t (step.minute == 0) (int_eq step.value (pos 0)) (goes_on step (next ∷ [])) (is_step_of (names v t) step.fleet step.station (first_words (line_bytes t (at_line next) ∷ z))) (rw (place, minute, value) refl)
                  (next_begins v t step (next ∷ []) z of))
                  ∙ steps_read v t (next ∷ []) (steps ++ step ∷ []) (Some step) z (record { each = each; follow = (rw follows refl, tt); no_lone_zero = (refl, tt) }) ends.some (ends.no_step v);
              need = λ z ends. tt;
            }

  steps_go : (steps : List PriceStep) (before : Option PriceStep) (p : Left) → EndsBy (MayFollow due.Step) MayBeStep end (steps_from (names v t) steps before) p (steps_from (names v t) steps before (p ++ end))
  unfolding entries_from
  steps_go steps before [] =
      ends_if _ _ end _ [] (fits due.Step (form_in v (words_of line))) _ _
      (λ is. ends_read _ _ end _ [] (step_said (names v t) before end) _
      (λ e failed there. record { more = []; value = steps; reads = λ z ends. entries_end (step_series (names v t)) (steps, before) z (ends.no_step v); need = may_be_step })
      (λ step read. beyond _ _ end _ [] (length after) _ (steps_shrink v t (steps ++ step ∷ []) (Some step) after) (omega arith)))
      (λ is. inl (record { rest = []; left_is = refl; stays = λ m some may. entries_end (step_series (names v t)) (steps, before) m (may.other v) }))
  steps_go steps before (x ∷ []) =
      ends_if _ _ end _ (x ∷ []) (fits due.Step (form_in v (words_of x))) _ _
      (λ is. ends_read _ _ end _ (x ∷ []) (step_said (names v t) before (x ∷ end)) _
      (λ e failed there. not_there x [] end (step_said (names v t) before (x ∷ end)) e (step_twin v t (x ∷ end) (x ∷ end) (alike_self (x ∷ end)) before (λ zero_step. refl)) failed there)
      (λ step read.
      let was = step_was v t before (x ∷ end) step read in
      ends_if _ _ end _ (x ∷ []) (fits due.Step (form_in v (words_of line))) _ _
      (λ on. ends_read _ _ end _ (x ∷ []) (step_said (names v t) (Some step) end) _ (λ e failed there. completed steps before x is step was)
      (λ other read. beyond _ _ end _ (x ∷ []) (length after) _ (steps_shrink v t ((steps ++ step ∷ []) ++ other ∷ []) (Some other) after) (omega arith)))
      (λ off. inl (record {
        rest = [];
        left_is = refl;
        stays = λ m some may. onward steps before x is step was m some (stays_needed steps before x is step was m off (may.other v)) ∙ entries_end (step_series (names v t)) (steps ++ step ∷ [], Some step) m (may.other v);
      }))))
      (λ is. inl (record { rest = x ∷ []; left_is = refl; stays = λ m some may. entries_end (step_series (names v t)) (steps, before) (x ∷ m) is }))
  steps_go steps before (x ∷ y ∷ p) =
      ends_if _ _ end _ (x ∷ y ∷ p) (fits due.Step (form_in v (words_of x))) _ _
      (λ is. ends_read _ _ end _ (x ∷ y ∷ p) (step_said (names v t) before (x ∷ y ∷ (p ++ end))) _
      (λ e failed there. not_there x (y ∷ p) end (step_said (names v t) before (x ∷ y ∷ (p ++ end))) e (step_twin v t (x ∷ y ∷ (p ++ end)) (x ∷ y ∷ (p ++ end)) (alike_self (x ∷ y ∷ (p ++ end))) before (λ zero_step. refl)) failed there)
      (λ step read. ends_lift _ _ end (steps_from (names v t) steps before) (x ∷ y ∷ p) (steps_from (names v t) (steps ++ step ∷ []) (Some step)) (y ∷ p) _ (λ m may. tt)
      (λ m some. entries_more (step_series (names v t)) (steps, before) (x ∷ y ∷ (p ++ m)) step is
      (value_of (x ∷ y ∷ (p ++ end)) (x ∷ y ∷ (p ++ m)) (step_said (names v t) before (x ∷ y ∷ (p ++ end))) (step_said (names v t) before (x ∷ y ∷ (p ++ m))) step
      (step_twin v t (x ∷ y ∷ (p ++ end)) (x ∷ y ∷ (p ++ m)) (alike_first x y y (p ++ end) (p ++ m)) before (λ zero_step. refl)) read))
      (steps_go (steps ++ step ∷ []) (Some step) (y ∷ p))))
      (λ is. inl (record { rest = x ∷ y ∷ p; left_is = refl; stays = λ m some may. entries_end (step_series (names v t)) (steps, before) (x ∷ y ∷ (p ++ m)) is }))

  -- rents and charges, and with them steps
  two_parts : Left → Reading ((List ℤ × List Charge) × Left)
  two_parts left = rents_from (names v t) [] left >>= λ rents. charges_from (names v t) [] None rents.1 >>= both_parts rents.0

  three_parts : ℤ → List ℤ × List Charge → List PriceStep → Prices
  three_parts scale two steps = record { scale = scale; rents = two.0; steps = steps; charges = two.1 }

  two_parts_go : (p : Left) → EndsBy MayBeStep (λ m. ⊤) end two_parts p (two_parts (p ++ end))
  unfolding two_parts
  two_parts_go p =
      ends_then (MayFollow due.Rent) IsBehind (MayFollow due.Charge) MayBeStep end (rents_from (names v t) []) (λ rents. charges_from (names v t) [] None) (λ rents charges. (rents, charges)) two_parts p p
      (λ m may. may.no_rent) (λ m may. may.no_charge) (λ m some. refl)
      (λ rents. record { more = []; value = []; reads = λ z ends. entries_end (charge_series (names v t)) ([], None) z (ends.no_charge v); need = λ z ends. ends })
      (λ rents. charges_shrink v t [] None)
      (λ rents. charges_go [] None) (rents_from (names v t) [] (p ++ end)) (rents_go [] p)

  of_three : (scale : ℤ) (left : Left)
      → ◌≡◌ {A = Reading (Prices × Left)} (two_parts left >>= λ two. steps_from (names v t) [] None two.1 >>= λ steps. Ok (three_parts scale two.0 steps.0, steps.1))
      (rents_from (names v t) [] left >>= λ rents. charges_from (names v t) [] None rents.1 >>= λ charges. steps_from (names v t) [] None charges.1
      >>= λ steps. Ok (record { scale = scale; rents = rents.0; steps = steps.0; charges = charges.0 }, steps.1))
  unfolding two_parts three_parts
  of_three scale left = regroup (rents_from (names v t) [] left) (charges_from (names v t) [] None) (λ two. steps_from (names v t) [] None two.1 >>= λ steps. Ok (three_parts scale two.0 steps.0, steps.1))

  pub prices_go : (p : Left) → EndsBy IsBehind (λ m. ⊤) end (prices_said (names v t)) p (prices_said (names v t) (p ++ end))
  unfolding prices_said three_parts
  prices_go [] =
      ends_read _ _ end _ [] (scale_at (names v t) end) _
      (λ e failed there. record {
        more = line_bytes t (says.Scale (pos 1)) ∷ [];
        value = record { scale = pos 1; rents = padded [] (length (names v t).fleets); steps = []; charges = [] };
        reads = λ z ends.
            bound (scale_at (names v t) (line_bytes t (says.Scale (pos 1)) ∷ z)) (pos 1) _ (scale_read v t (pos 1) z one_figure ends.some)
            ∙ bound (rents_from (names v t) [] z) (padded [] (length (names v t).fleets), z) _ (entries_end (rent_series (names v t)) [] z (ends.no_rent v))
            ∙ bound (charges_from (names v t) [] None z) ([], z) _ (entries_end (charge_series (names v t)) ([], None) z (ends.no_charge v))
            ∙ bound (steps_from (names v t) [] None z) ([], z) _ (entries_end (step_series (names v t)) ([], None) z (ends.no_step v));
        need = λ z ends. tt;
      })
      (λ scale read. beyond _ _ end _ [] (length after) _
      (shrinks_bind (length after) (rents_from (names v t) [] after) _ (rents_shrink v t [] after) (λ rents b.
      shrinks_bind (length b) (charges_from (names v t) [] None b) _ (charges_shrink v t [] None b) (λ charges c. shrinks_bind (length c) (steps_from (names v t) [] None c) _ (steps_shrink v t [] None c) (λ steps d. omega arith)))) (omega arith))
  prices_go (x ∷ p) =
      ends_read _ _ end _ (x ∷ p) (scale_at (names v t) (x ∷ (p ++ end))) _
      (λ e failed there. not_there x p end (scale_at (names v t) (x ∷ (p ++ end))) e (scale_twin v t (x ∷ (p ++ end)) (x ∷ (p ++ end)) (alike_self (x ∷ (p ++ end)))) failed there)
      (λ scale read. subst (λ r. EndsBy IsBehind (λ m. ⊤) end (prices_said (names v t)) (x ∷ p) r) (of_three scale (p ++ end))
      (ends_then MayBeStep (λ m. ⊤) (MayFollow due.Step) IsBehind end two_parts (λ two. steps_from (names v t) [] None) (three_parts scale) (prices_said (names v t)) (x ∷ p) p
      may_be_step no_step
      (λ m some. bound (scale_at (names v t) (x ∷ (p ++ m))) scale _
      (value_of (x ∷ (p ++ end)) (x ∷ (p ++ m)) (scale_at (names v t) (x ∷ (p ++ end))) (scale_at (names v t) (x ∷ (p ++ m))) scale (scale_twin v t (x ∷ (p ++ end)) (x ∷ (p ++ m)) (alike_after x line p after m some)) read)
      ∙ sym (of_three scale (p ++ m)))
      (λ two. record { more = []; value = []; reads = λ z ends. entries_end (step_series (names v t)) ([], None) z (ends.no_step v); need = λ z ends. ends })
      (λ two. steps_shrink v t [] None)
      (λ two. steps_go [] None) (two_parts (p ++ end)) (two_parts_go p)))

  pub one_mixed : Completes IsBehind (mixed_said (names v t)) []
  unfolding mixed_said
  one_mixed = record {
    more = line_bytes t (says.Mixed (pos 1)) ∷ [];
    value = record { scale = pos 1; weights = [] };
    reads = λ z ends.
        bound (mixed_scale_at (names v t) (line_bytes t (says.Mixed (pos 1)) ∷ z)) (pos 1) _ (mixed_scale_read v t (pos 1) z one_figure ends.some)
        ∙ bound (weights_from (names v t) [] None z) ([], z) _ (entries_end (weight_series (names v t)) ([], None) z (ends.no_weight v));
    need = λ z ends. behind_line v t (says.Mixed (pos 1)) z tt refl refl refl refl;
  }

  pub mixed_goes : (p : Left) → EndsBy IsBehind IsBehind end (mixed_said (names v t)) p (mixed_said (names v t) (p ++ end))
  unfolding mixed_said
  mixed_goes [] =
      ends_read _ _ end _ [] (mixed_scale_at (names v t) end) _
      (λ e failed there. one_mixed)
      (λ scale read. beyond _ _ end _ [] (length after) _ (shrinks_bind (length after) (weights_from (names v t) [] None after) _ (weights_shrink v t [] None after) (λ weights b. omega arith)) (omega arith))
  mixed_goes (x ∷ p) =
      ends_read _ _ end _ (x ∷ p) (mixed_scale_at (names v t) (x ∷ (p ++ end))) _
      (λ e failed there. not_there x p end (mixed_scale_at (names v t) (x ∷ (p ++ end))) e (mixed_scale_twin v t (x ∷ (p ++ end)) (x ∷ (p ++ end)) (alike_self (x ∷ (p ++ end)))) failed there)
      (λ scale read. ends_map IsBehind IsBehind end (weights_from (names v t) [] None) (λ weights. record { scale = scale; weights = weights }) (mixed_said (names v t)) (x ∷ p) p (weights_from (names v t) [] None (p ++ end)) (λ m may. tt)
      (λ m some. bound (mixed_scale_at (names v t) (x ∷ (p ++ m))) scale _
      (value_of (x ∷ (p ++ end)) (x ∷ (p ++ m)) (mixed_scale_at (names v t) (x ∷ (p ++ end))) (mixed_scale_at (names v t) (x ∷ (p ++ m))) scale (mixed_scale_twin v t (x ∷ (p ++ end)) (x ∷ (p ++ m)) (alike_after x line p after m some)) read))
      (weights_go [] None p))
