use Rattle.std.proofs.Common.{◌≡◌, IfOk, codes, ap, subst, ◌∙◌, rules}
use Rattle.std.proofs.lemmas.Result.{on_ok_weaker}
use Rattle.serde_json.specs.Data.{array, object, put, string}
use Rattle.serde_json.specs.View.{items_of, members_view, view}
use Rattle.dual_bound.specs.Leaves.{counts_of}
use Rattle.dual_bound.specs.Solved.{plan_cost, tree_of}
use Rattle.plan_report.specs.Json.{count_data, fleets_data, number_data, open_data, rotations_data}
use Rattle.plan_report.specs.Summary.{outcome_word, printed_bound}
use Rattle.plan_report.proofs.Members.{put_known, seven_members}
use Rattle.plan_report.proofs.json.put_members.Goals as goal

pub returns : goal.returns
returns c =
    let t = c.args.tables.now in
    let s = c.args.solved.now in
    let fleets = array (items_of (fleets_data t s)) in
    let words = array (items_of (rotations_data t s c.args.rotations.now)) in
    let counts : c.counts-counts.result ≡ counts_of (tree_of s) = search rules in
    let m₀ = members_view c.args.members.now.entries in
    let m₁ = members_view c.put_made.new.members.entries in
    let m₂ = members_view c.put_made-2.new.members.entries in
    let m₃ = members_view c.put_made-3.new.members.entries in
    let m₄ = members_view c.put_made-4.new.members.entries in
    let m₅ = members_view c.put_made-5.new.members.entries in
    let m₆ = members_view c.put_made-6.new.members.entries in
    let m₇ = members_view c.put_count.new.members.entries in
    on_ok_weaker c.put_count.result (λ last. ap object (seven_members m₀ m₁ m₂ m₃ m₄ m₅ m₆ m₇
    (number_data (printed_bound s)) (number_data (plan_cost s)) fleets (open_data (counts_of (tree_of s))) (string (outcome_word s)) words (count_data (counts_of (tree_of s)).splits)
    c.requires.none
    (put_known c.number_value.result (codes "bound") (number_data (printed_bound s)) m₀ m₁ c.in_ok-put_made.ensures (subst (λ n. IfOk c.number_value.result (λ value. view value ≡ number_data n)) c.bound_of.ensures c.number_value.ensures))
    (put_known c.number_value-2.result (codes "cost") (number_data (plan_cost s)) m₁ m₂ c.in_ok-put_made-2.ensures (subst (λ n. IfOk c.number_value-2.result (λ value. view value ≡ number_data n)) c.cost_of.ensures c.number_value-2.ensures))
    (put_known c.fleets_value.result (codes "fleets") fleets m₂ m₃ c.in_ok-put_made-3.ensures c.fleets_value.ensures)
    (put_known c.open_value.result (codes "open") (open_data c.counts-counts.result) m₃ m₄ c.in_ok-put_made-4.ensures c.open_value.ensures ∙ ap (λ k. put (codes "open") (open_data k) m₃) counts)
    (put_known c.outcome_value.result (codes "outcome") (string (outcome_word s)) m₄ m₅ c.in_ok-put_made-5.ensures c.outcome_value.ensures)
    (put_known c.rotations_value.result (codes "rotations") words m₅ m₆ c.in_ok-put_made-6.ensures c.rotations_value.ensures)
    (last ∙ ap (λ k. put (codes "splits") (count_data k.splits) m₆) counts))) c.put_count.ensures
