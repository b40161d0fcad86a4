-- A pass over the turns: each exchange keeps what cycles are and makes labels lower.
use Rattle.std.proofs.Common.{◌≡◌, ◌≢◌, ℕ, ◌+◌, ◌<◌, ◌≤◌, inl, inr, Bool, true, false, List, length, sym, ◌∙◌, subst, arith}
use mathlib.Core.Bool.{false≢true}
use Rattle.std.proofs.lemmas.Bool.{cases_lt}
use Rattle.sums.proofs.Sums.{sum_below-bound}
use Rattle.fleet_model.specs.declared.tables.Tables.{Tables}
use Rattle.fleet_model.specs.Schedule.{legs_in}
use Rattle.lines_of_flying.specs.ground_turns.Maps.{AreExchanged, turn_at}
use Rattle.lines_of_flying.proofs.ground_turns.Exchanges.{exchanged_fits, exchanged_holds}
use Rattle.lines_of_flying.specs.cycle_join.Labels.{AreLabels, AreRelabelled, label_of, total_of}
use Rattle.lines_of_flying.specs.cycle_join.Meetings.{AreCycles, Meets, MeetsNone}
use Rattle.lines_of_flying.specs.declared.cycle_join.cycles.Cycles.{Cycles}
use Rattle.lines_of_flying.specs.declared.cycle_join.ground.Ground.{Ground}
use Rattle.lines_of_flying.proofs.cycle_join.Exchanging.{joined_linked}
use Rattle.lines_of_flying.proofs.cycle_join.Meeting.{AreMeeting, are_meeting, they_touch}
use Rattle.lines_of_flying.proofs.cycle_join.Relabelling.{labels_still, lower_total}

-- two turns that met have exchanged departures, and their cycles one label
module _ (g : Ground) (old new : Cycles) (i j from to : ℕ) (is : AreCycles g old) (within : i < length old.turns.items) (meets : Meets g old i j)
    (turns : AreExchanged old.turns.items new.turns.items i j) (labels : AreRelabelled old.labels.items new.labels.items from to)
    (first : label_of old.labels.items (turn_at old.turns.items i).arriving ≡ from) (second : label_of old.labels.items (turn_at old.turns.items j).arriving ≡ to) where
  met : AreMeeting g.tables.now g.fleet g.pairs.now old.labels.items (turn_at old.turns.items i) (turn_at old.turns.items j)
  met = are_meeting g.tables.now g.fleet g.pairs.now old.labels.items (turn_at old.turns.items i) (turn_at old.turns.items j) meets.meeting

  lower : to < from
  lower = let less = met.lower in omega (arith, less, first, second)

  pub joined_cycles : AreCycles g new
  joined_cycles =
      let touch = they_touch g.tables.now g.plan.now g.fleet g.pairs.now old.turns.items old.labels.items is.fitting.map i j within meets.within met in
      record {
        fitting = exchanged_fits g.tables.now g.plan.now g.fleet old.turns.items new.turns.items i j touch.0 is.fitting touch.1 turns;
        holds = exchanged_holds g.pairs.now old.turns.items new.turns.items i j is.holds turns met.free met.other_free;
        labels = labels_still old.labels.items new.labels.items from to labels (legs_in g.tables.now) is.labels
            (subst (λ c. c < legs_in g.tables.now) second (is.labels.few _ (is.fitting.map.each j meets.within).arriving));
        cycles = joined_linked g.tables.now g.plan.now g.fleet old.turns.items new.turns.items i j old.labels.items is.fitting.map is.labels.each_leg is.cycles turns within meets.within
            differ new.labels.items from to labels first second;
      }
    where
      differ : label_of old.labels.items (turn_at old.turns.items i).arriving ≢ label_of old.labels.items (turn_at old.turns.items j).arriving
      differ same = let less = lower in absurd (omega (arith, less, same, first, second))

  pub lower_labels : total_of new.labels.items < total_of old.labels.items
  lower_labels =
      lower_total old.labels.items new.labels.items from to labels (turn_at old.turns.items i).arriving
      (subst (λ n. (turn_at old.turns.items i).arriving < n) (sym is.labels.each_leg) (is.fitting.map.each i within).arriving) first lower

-- what a pass has come to after the first turns
pub record IsPass (g : Ground) (old now : Cycles) (joined : Bool) (place : ℕ) : Type 0 where
  pub cycles : AreCycles g now
  pub same_length : length now.turns.items ≡ length old.turns.items
  pub no_higher : total_of now.labels.items ≤ total_of old.labels.items
  pub lower : joined ≡ true → total_of now.labels.items < total_of old.labels.items
  pub apart : joined ≡ false → (k : ℕ) → k < place → MeetsNone g now k

module _ (g : Ground) (old now : Cycles) (joined : Bool) (place : ℕ) (pass : IsPass g old now joined place) where
  pub pass_joined : (new : Cycles) → AreCycles g new → length new.turns.items ≡ length now.turns.items → total_of new.labels.items < total_of now.labels.items
      → IsPass g old new true (place + 1)
  pass_joined new cycles same less =
      let no_higher = pass.no_higher in
      record {
        cycles = cycles;
        same_length = same ∙ pass.same_length;
        no_higher = omega (arith, no_higher, less);
        lower = λ e. omega (arith, no_higher, less);
        apart = λ e. absurd (false≢true (sym e));
      }

  pub pass_on : MeetsNone g now place → IsPass g old now joined (place + 1)
  pass_on none = record {
    cycles = pass.cycles;
    same_length = pass.same_length;
    no_higher = pass.no_higher;
    lower = pass.lower;
    apart = λ e k below. elim (cases_lt k place) [
      | inl before ↦ pass.apart e k before
      | inr last ↦ let here : place ≡ k = omega arith in subst (MeetsNone g now) here none
    ];
  }

-- labels of legs are few enough to be added up
pub few_labels : (t : Tables) (labels : List ℕ) → AreLabels labels (legs_in t) → total_of labels ≤ 1000000
few_labels t labels are =
    let few : legs_in t ≤ 1000 = t.in_range.legs_fit.few in
    let law = sum_below-bound (label_of labels) 1000 (length labels)
    (record { each = λ k below. let less = are.few k (subst (λ n. k < n) are.each_leg below) in omega (arith, less, few) }) in
    omega (arith, law, few, are.each_leg)
