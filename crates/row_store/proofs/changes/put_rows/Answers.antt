use Rattle.std.proofs.Common.{◌≡◌, [], ◌∷◌, ◌++◌, rules, length, ◌∙◌, sym, ap, refl}
use Rattle.row_store.specs.Table.{row_at}
use Rattle.row_store.specs.Changes.{value_or}
use Rattle.row_store.proofs.MappedRows.{same_length, written}
use Rattle.row_store.proofs.Changed.{put_none, put_more, put_fresh, put_all}
use Rattle.row_store.proofs.changes.put_rows.Goals as goal

pub loop-change-init : goal.loop-change-init
loop-change-init g c = put_none _ _ _ (c.requires ∙ sym (same_length _ _ _ (g.met.R.TableRow.mapped c.args.rows.now.items)))

pub loop-change-preserved : goal.loop-change-preserved
loop-change-preserved g c =
    let last : c.loop-change.left.items ≡ c.pop.new.self.items ++ c.in-Some.change ∷ [] = search rules in
    put_more _ _ _ _ _ _ _ c.in-Some.change c.loop-change.invariant last refl
    (ap (λ o. value_or g.R.TableRow.full o (row_at (g.R.TableRow.table c.loop-change.rows.items) (length c.pop.new.self.items))) (sym c.in_default-change.is)) (λ place apart. refl)

pub loop-change-preserved-in-Some-change : goal.loop-change-preserved-in-Some-change
loop-change-preserved-in-Some-change g c =
    let last : c.loop-change.left.items ≡ c.pop.new.self.items ++ c.in-Some.change ∷ [] = search rules in
    let place : c.len.result ≡ length c.pop.new.self.items = search rules in
    put_fresh _ _ (g.R.TableRow.table c.loop-change.rows.items) _ _ c.loop-change.left.items _ c.in-Some-change.fresh _ c.loop-change.invariant
    (last ∙ ap (λ o. c.pop.new.self.items ++ o ∷ []) c.in-Some-change.is) place (written _ c.loop-change.rows.items _ c.in-Some-change.fresh _ _ (g.met.R.TableRow.mapped _) (g.met.R.TableRow.mapped _))

pub returns : goal.returns
returns g c =
    let none : c.loop-change.left.items ≡ [] = search rules in
    put_all _ _ _ _ _ c.loop-change.invariant none
