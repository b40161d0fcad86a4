use Rattle.std.proofs.Common.{◌≡◌, codes, sym, ◌∙◌, rules}
use Rattle.sums.proofs.Tests.{unlike}
use Rattle.plan_text.proofs.ChoiceTexts.{left_out_found, left_out_none}
use Rattle.plan_text.proofs.choices.left_out_with.Goals.{else-tables-via-else-tables, else-tables-via-then-tables+else-eq}
use Rattle.plan_text.proofs.choices.left_out_with.Goals as goal

pub returns-then-eq : goal.returns-then-eq
returns-then-eq c =
    let own : c.args.shift.now ≡ codes "0" = search rules in
    rw c.left_out.ensures.value (left_out_found c.args.tables.now c.args.leg c.requires c.args.shift.now c.if-tables.true own)

pub returns-else-tables : goal.returns-else-tables
returns-else-tables c = elim c.else-tables.branch [
  | else-tables-via-then-tables+else-eq w ↦ left_out_none c.args.tables.now c.args.leg c.requires c.args.shift.now (λ optional own. search rules)
  | else-tables-via-else-tables w ↦ left_out_none c.args.tables.now c.args.leg c.requires c.args.shift.now (λ optional own. unlike (sym optional ∙ w.if-tables.false))
]
