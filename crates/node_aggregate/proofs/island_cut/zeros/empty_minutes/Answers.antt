use Rattle.std.proofs.Common.{◌≡◌, ◌==◌, List, ℕ, Bool, false, sym, ◌∙◌, ap, subst, arith}
use Rattle.fleet_model.specs.Schedule.{period_of}
use Rattle.node_aggregate.specs.island_cut.Zeros.{StaysSo, none_left}
use Rattle.node_aggregate.proofs.island_cut.QuietMinutes.{IsWalked, begun, not_counted, one_more, passing_below}
use Rattle.node_aggregate.proofs.island_cut.zeros.empty_minutes.Goals as goal
use Rattle.node_aggregate.proofs.island_cut.zeros.empty_minutes.Goals.{then-minute-next, else-minute-next}

-- at the end
ends : (empty : ℕ → Bool) (n period : ℕ) (found now : List ℕ) → now ≡ found → found ≡ passing_below empty n → n ≡ period → now ≡ passing_below empty period
ends empty n period found now same is all = same ∙ is ∙ ap (passing_below empty) all

pub loop-minute-init : goal.loop-minute-init
loop-minute-init g c =
    let empty : ℕ → Bool = none_left c.args.tables.now (g.F.Flights.flights c.args.tables.now c.args.flights.now) c.args.station in
    subst (λ (xs : List ℕ). IsWalked empty xs 0 0 false) (sym c.new-minutes.ensures.items) (begun empty false)

pub loop-minute-preserved : goal.loop-minute-preserved
loop-minute-preserved g c =
    let empty : ℕ → Bool = none_left c.args.tables.now (g.F.Flights.flights c.args.tables.now c.args.flights.now) c.args.station in
    let next = one_more empty c.loop-minute.minutes.items c.push_where.new.minutes.items c.loop-minute.minute c.if-minute-next.next c.if-minute-next.zero c.loop-minute.invariant.found c.in_ok-push_where.ensures in
    elim c.if-minute-next.branch [
      | then-minute-next w ↦ next (w.zero-is ∙ ap (λ n. n == 0) w.stand-zero.ensures.value) (omega (arith, w.next-is, w.next_event-next.ensures.later))
          (subst (StaysSo empty c.loop-minute.minute) (sym w.next-is) w.next_event-next.ensures.so)
      | else-minute-next w ↦
          let as_before = not_counted empty c.loop-minute.minutes.items c.loop-minute.minute c.loop-minute.next c.loop-minute.zero c.loop-minute.invariant w.if-minute-next.false in
          next (w.zero-is ∙ as_before.0) (omega (arith, w.next-is, as_before.1.0)) (subst (StaysSo empty c.loop-minute.minute) (sym w.next-is) as_before.1.1)
    ]

pub returns : goal.returns
returns g c =
    let empty : ℕ → Bool = none_left c.args.tables.now (g.F.Flights.flights c.args.tables.now c.args.flights.now) c.args.station in
    ends empty c.loop-minute.minute (period_of c.args.tables.now) c.loop-minute.minutes.items _ c.from_vec.ensures c.loop-minute.invariant.found
    (omega (arith, c.loop-minute-test.false, c.loop-minute.auto.minute-end, c.period-minute-end.ensures.value))
