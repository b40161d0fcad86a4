use Rattle.std.proofs.Common.{◌≡◌, codes, ap, ◌∙◌, rules}
use Rattle.std.proofs.lemmas.Result.{on_ok_weaker}
use Rattle.serde_json.specs.Data.{object, put, string}
use Rattle.serde_json.specs.View.{members_view}
use Rattle.fleet_model.specs.Counts.{weights_of}
use Rattle.fleet_model.specs.Schedule.{fleet_of}
use Rattle.fleet_model.specs.Use.{used_of}
use Rattle.plan_report.specs.Json.{count_data}
use Rattle.plan_report.proofs.Members.{fleet_members, put_known}
use Rattle.plan_report.proofs.json.put_fleet.Goals as goal

pub returns : goal.returns
returns c =
    let fleet = fleet_of c.args.tables.now c.args.fleet in
    let used = used_of c.args.tables.now (weights_of c.args.plan.now) c.args.fleet in
    let m₀ = members_view c.args.members.now.entries in
    let m₁ = members_view c.put_count.new.members.entries in
    let m₂ = members_view c.put_made.new.members.entries in
    let m₃ = members_view c.put_count-2.new.members.entries in
    let there : c.from.result ≡ fleet.aircraft = search rules in
    let flown : c.from-2.result ≡ used = search rules in
    on_ok_weaker c.put_count-2.result (λ last. ap object (fleet_members m₀ m₁ m₂ m₃ (count_data fleet.aircraft) (string fleet.name) (count_data used) c.requires.none
    (c.in_ok-put_count.ensures ∙ ap (λ n. put (codes "has") (count_data n) m₀) there)
    (put_known c.name_value.result (codes "name") (string fleet.name) m₁ m₂ c.in_ok-put_made.ensures c.name_value.ensures)
    (last ∙ ap (λ n. put (codes "used") (count_data n) m₂) flown))) c.put_count-2.ensures
