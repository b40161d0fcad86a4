use Rattle.std.proofs.Common.{◌≡◌, rules, ◌∙◌, sym, ap, map, length, arith}
use Rattle.fleet_model.specs.Kept.{kept_by}
use Rattle.lp_rows.specs.Layout.{moment_at, starts_in}
use Rattle.lp_rows.specs.Staying.{AreStaying, passing_below, stays_at}
use Rattle.lp_rows.proofs.Outlines.{are_staying, columns_fit, few_arcs, lines_fit, moments_fit}
use Rattle.lp_rows.proofs.Totals.{AreFew}
use Rattle.lp_rows.proofs.outline.Outline.new.Goals as goal

pub staying_arcs-requires : goal.staying_arcs-requires
staying_arcs-requires c =
    let slice : c.deref.result.now ≡ c.in_ok-moments.moments.items = search rules in
    moments_fit c.args.tables.now (kept_by c.args.kept.now) (starts_in c.in_ok-network.network) (record { each = c.in_ok-network.ensures.shape.few }) _ (slice ∙ c.in_ok-moments.ensures)

pub invariant_of-result : goal.invariant_of-result
invariant_of-result c =
    let keeps = kept_by c.args.kept.now in
    let starts = starts_in c.in_ok-network.network in
    let few : AreFew c.args.tables.now starts = record { each = c.in_ok-network.ensures.shape.few } in
    let parks = ap length (c.from_vec-5.ensures ∙ c.in_ok-parks.ensures) in
    let pairs = ap length (c.from_vec.ensures ∙ c.in_ok-pairs.ensures) in
    let nodes = ap length (c.from_vec-2.ensures ∙ c.in_ok-nodes.ensures) in
    let moments = c.from_vec-3.ensures ∙ c.in_ok-moments.ensures ∙ ap (map (moment_at c.args.tables.now keeps starts)) (sym (c.from_vec-2.ensures ∙ c.in_ok-nodes.ensures)) in
    let slice : c.deref.result.now ≡ c.in_ok-moments.moments.items = search rules in
    let arcs = c.from_vec-4.ensures ∙ c.in_ok-arcs.ensures ∙ ap (λ ms. passing_below (stays_at ms) (length ms)) (slice ∙ sym c.from_vec-3.ensures) in
    let stay : AreStaying (length c.from_vec-2.result) c.from_vec-3.result c.from_vec-4.result = are_staying (moment_at c.args.tables.now keeps starts) c.from_vec-2.result c.from_vec-3.result c.from_vec-4.result moments arcs in
    record {
      columns_fit = omega (arith, pairs, nodes, parks, c.fleet_count.ensures, columns_fit c.args.tables.now keeps starts few, few_arcs (length c.from_vec-2.result) c.from_vec-3.result c.from_vec-4.result stay);
      lines_fit = omega (arith, nodes, parks, c.leg_count.ensures, c.fleet_count.ensures, lines_fit c.args.tables.now keeps starts few);
      arcs_stay = stay;
    }
