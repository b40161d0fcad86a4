use Rattle.presolve.proofs.choices.Choices.all.Goals as goal

pub returns-clause-choices : goal.returns-clause-choices
returns-clause-choices c = record {
  counted = c.counts_of-counts.ensures;
  landed = c.in_ok-landings.ensures;
  departed = c.in_ok-departures.ensures;
  busy_width = c.in_ok-busy.ensures.width;
  busy = λ none. c.in_ok-busy.ensures;
}
