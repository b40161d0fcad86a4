use Rattle.std.proofs.Common.{◌≡◌, ◌∙◌, true, false, ◌&&◌, ◌==◌, sym, ap, below_more, arith}
use Rattle.std.proofs.lemmas.Bool.{eq-eqb, eqb-true}
use Rattle.sums.proofs.Tests.{both_true, no_both, parts_true}
use Rattle.fleet_model.specs.declared.parts.Connection.{Connection}
use Rattle.euler_rotation.proofs.Told.{fails, passes}
use Rattle.euler_rotation.proofs.TourTurns.{length_round, turn_round}
use Rattle.euler_rotation.proofs.kept.has_turn.Goals as goal

same_turn : (x y : Connection) → ((x.arriving == y.arriving) && (x.departing == y.departing)) ≡ true → x ≡ y
same_turn x y e =
    let parts = parts_true (x.arriving == y.arriving) (x.departing == y.departing) e in
    let first : x.arriving ≡ y.arriving = eqb-true _ _ parts.0 in
    let second : x.departing ≡ y.departing = eqb-true _ _ parts.1 in
    ap (λ l. record { arriving = l; departing = x.departing }) first ∙ ap (λ m. record { arriving = y.arriving; departing = m }) second

pub returns-then-eq : goal.returns-then-eq
returns-then-eq c = passes (record {
  place = c.loop-place.place;
  within = omega (arith, c.loop-place-test.true, length_round c.args.legs.now);
  there = turn_round c.args.legs.now c.loop-place.place c.loop-place-test.true ∙ sym c.turn_after.ensures ∙ same_turn c.turn_after.result c.args.turn (sym c.if-eq.ensures);
})

pub returns : goal.returns
returns c = fails (λ has.
    c.loop-place.invariant has.place (omega (arith, has.within, length_round c.args.legs.now, c.loop-place-test.false, c.loop-place.auto.place-end))
    (sym (turn_round c.args.legs.now has.place (omega (arith, has.within, length_round c.args.legs.now))) ∙ has.there))

other_turn : (x y : Connection) → ((x.arriving == y.arriving) && (x.departing == y.departing)) ≡ false → x ≡ y → ⊥
other_turn x y e same =
    no_both e (both_true (x.arriving == y.arriving) (x.departing == y.departing) (eq-eqb _ _ (ap (λ (t : Connection). t.arriving) same)) (eq-eqb _ _ (ap (λ (t : Connection). t.departing) same)))

pub loop-place-preserved : goal.loop-place-preserved
loop-place-preserved c =
    below_more _ _ c.loop-place.invariant (λ same. other_turn c.turn_after.result c.args.turn (sym c.if-eq.ensures) (c.turn_after.ensures ∙ same))
