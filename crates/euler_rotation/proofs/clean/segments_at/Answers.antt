use Rattle.std.proofs.Common.{◌∙◌}
use Rattle.euler_rotation.proofs.BareMinutes.{are_bare}
use Rattle.euler_rotation.proofs.clean.segments_at.Goals as goal

pub returns : goal.returns
returns c = record {
  minutes = c.as_slice.result.now;
  bare = are_bare c.args.asked.now.tables.now c.args.asked.now.plan.now c.args.asked.now.fleet c.args.station c.as_slice.result.now (c.as_slice.ensures ∙ c.in_ok-bare.ensures);
  period = c.in_ok-new.ensures.minutes ∙ c.period.ensures.value;
  ends = c.in_ok-new.ensures.ends;
}
