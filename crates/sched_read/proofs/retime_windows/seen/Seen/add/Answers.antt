use Rattle.std.proofs.Common.{length, map, ap, sym, subst, ◌∙◌, arith}
use Rattle.std.specs.Prelude.{◌+◌, slice_set}
use Rattle.std.proofs.lemmas.Grind.{get_or_default_zero}
use Rattle.sched_read.specs.retime_windows.Counted.{AreWindowsCounted}
use Rattle.sched_read.specs.retime_windows.Keys.{triples_by, window_key}
use Rattle.sched_read.proofs.retime_windows.Counting.{counted_more, keys_more, triples_more}
use Rattle.sched_read.proofs.retime_windows.Free.{is_free}
use Rattle.sched_read.proofs.retime_windows.seen.Seen.add.Goals as goal

pub invariant_of-self-2 : goal.invariant_of-self-2
invariant_of-self-2 c =
    let self = c.args.self.now in
    let fleets = self.fleets.items in
    let window = c.args.window in
    let keys = map window_key self.windows.items in
    let free = is_free fleets keys window.leg window.minutes c.requires.free in
    let now = keys_more self.windows.items _ window c.in_ok-push.ensures.items in
    let count = c.index_mut.ensures.value ∙ get_or_default_zero self.on_leg.items window.leg _ (omega (arith, self.counted.each_leg, c.requires.leg)) in
    let more = c.index.ensures ∙ get_or_default_zero fleets window.leg _ c.requires.leg in
    let triples = triples_more fleets keys window.leg window.minutes c.requires.leg in
    record {
      fleets_known = self.fleets_known;
      counted = subst (λ ks. AreWindowsCounted ks (length fleets) (slice_set self.on_leg.items window.leg (c.index_mut.result.now + 1))) (sym now) (counted_more keys (length fleets) self.on_leg.items window.leg window.minutes c.index_mut.result.now self.counted c.requires.leg free.room count);
      triples_are = omega (arith, self.triples_are, more, triples) ∙ ap (triples_by fleets) (sym now);
      few_triples = omega (arith, self.triples_are, more, triples, free.few);
    }
