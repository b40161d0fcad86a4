use Rattle.std.proofs.Common.{◌≡◌, All, ◌∙◌, sym, subst, rules}
use Rattle.lp_rows.specs.Layout.{starts_in}
use Rattle.lp_rows.specs.Meeting.{HasPair}
use Rattle.lp_rows.specs.Outline.{columns_in}
use Rattle.lp_rows.proofs.MetColumns.{have_pairs}
use Rattle.lp_rows.proofs.program.outlined_rows.Goals as goal

pub all_touched-requires : goal.all_touched-requires
all_touched-requires c =
    let slice : c.deref.result.now ≡ c.in_ok-columns.columns.items = search rules in
    subst (All (HasPair c.args.tables.now)) (sym (slice ∙ c.in_ok-columns.ensures))
    (have_pairs c.args.tables.now (starts_in c.args.outline.now.network) (columns_in c.args.outline.now) c.requires.columns)
