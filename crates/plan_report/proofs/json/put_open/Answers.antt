use Rattle.std.proofs.Common.{ap}
use Rattle.std.proofs.lemmas.Result.{on_ok_weaker}
use Rattle.serde_json.specs.Data.{object}
use Rattle.serde_json.specs.View.{members_view}
use Rattle.plan_report.specs.Json.{count_data}
use Rattle.plan_report.proofs.Members.{open_members}
use Rattle.plan_report.proofs.json.put_open.Goals as goal

pub returns : goal.returns
returns c =
    let counts = c.args.counts.now in
    on_ok_weaker c.put_count-3.result (λ last. ap object (open_members (members_view c.args.members.now.entries) (members_view c.put_count.new.members.entries) (members_view c.put_count-2.new.members.entries) (members_view c.put_count-3.new.members.entries)
    (count_data counts.open_grew) (count_data counts.open_nodes) (count_data counts.open_pivots) c.requires c.in_ok-put_count.ensures c.in_ok-put_count-2.ensures last)) c.put_count-3.ensures
