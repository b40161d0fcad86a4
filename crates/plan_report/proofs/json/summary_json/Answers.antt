use Rattle.std.proofs.Common.{◌≡◌, ◌++◌, ◌∷◌, [], false, ap, ◌∙◌}
use Rattle.serde_json.specs.View.{view}
use Rattle.serde_json.specs.Written.{compact_text, has_float}
use Rattle.plan_report.specs.Json.{json_text, summary_data}
use Rattle.plan_report.proofs.NoFloats.{summary_has_none}
use Rattle.plan_report.proofs.json.summary_json.Goals as goal

pub returns : goal.returns
unfolding json_text
returns c =
    let whole = summary_data c.args.tables.now c.args.solved.now c.args.rotations.now in
    let seen : view c.in_ok-value.value ≡ whole = c.in_ok-value.ensures in
    let plain : has_float (view c.in_ok-value.value) ≡ false = ap has_float seen ∙ summary_has_none c.args.tables.now c.args.solved.now c.args.rotations.now in
    let line : c.into_bytes-text.result.items ≡ compact_text whole =
    ap (λ bytes. bytes.items) c.into_bytes-text.ensures.value ∙ c.in_ok-to_string.ensures.text plain ∙ ap compact_text seen in
    c.in_ok-push.ensures.items ∙ ap (λ text. text ++ 10 ∷ []) line
