use Rattle.std.proofs.lemmas.Result.{err_from_is_err_and}
use Rattle.sched_read.proofs.Refused.{costs_refused, throughs_refused}
use Rattle.sched_read.proofs.TablesFit.{tables_fit}
use Rattle.sched_read.proofs.loading.load.Goals as goal

pub returns-in_err-costs : goal.returns-in_err-costs
returns-in_err-costs c =
    let p = err_from_is_err_and c.from_residual-in_err-costs.result c.from_residual-in_err-costs.ensures.1 in
    let legs = rw c.deref.ensures.value at c.in_ok-legs.ensures.reads in
    let fault = rw (c.deref-2.ensures.value, c.deref-3.ensures.value) at c.in_err-costs.ensures.reads in
    rw (p.1, p.2) (costs_refused _ _ _ _ _ _ (record { stations = c.in_ok-stations.ensures.reads; fleets = c.in_ok-fleets.ensures.reads; legs = legs }) fault)

pub returns-in_err-throughs : goal.returns-in_err-throughs
returns-in_err-throughs c =
    let p = err_from_is_err_and c.from_residual-in_err-throughs.result c.from_residual-in_err-throughs.ensures.1 in
    let legs = rw c.deref.ensures.value at c.in_ok-legs.ensures.reads in
    let costs = rw (c.deref-2.ensures.value, c.deref-3.ensures.value) at c.in_ok-costs.ensures.reads in
    let fault = rw c.deref-4.ensures.value at c.in_err-throughs.ensures.reads in
    rw (p.1, p.2) (throughs_refused _ _ _ _ _ _ _ (record { stations = c.in_ok-stations.ensures.reads; fleets = c.in_ok-fleets.ensures.reads; legs = legs; costs = costs }) fault)

pub invariant_of-result : goal.invariant_of-result
invariant_of-result c =
    let legs = rw c.deref.ensures.value at c.in_ok-legs.ensures.kept in
    let costs = rw (c.deref-2.ensures.value, c.deref-3.ensures.value) at c.in_ok-costs.ensures.kept in
    let throughs = rw c.deref-4.ensures.value at c.in_ok-throughs.ensures.kept in
    let departures = rw c.deref-5.ensures.value at c.in_ok-departures.ensures in
    record {
      in_range = rw (c.from_vec.ensures, c.from_vec-2.ensures, c.from_vec-3.ensures, c.from_vec-4.ensures, c.from_vec-5.ensures, c.from_vec-6.ensures)
          (tables_fit _ _ _ _ _ c.args.settings _ c.in_ok-stations.ensures.kept c.in_ok-fleets.ensures.kept legs costs throughs c.requires departures c.in_ok-legs.ensures.plain);
    }
