use Rattle.std.proofs.Common.{◌≡◌, ◌∙◌, ap, refl, sym, rules, true}
use Rattle.std.specs.Result.{is_ok}
use Rattle.std.proofs.lemmas.List.{map-append}
use Rattle.csv.specs.Records.{fields_of}
use Rattle.csv_fields.proofs.FieldAt.{take_all, take_one_more}
use Rattle.csv_fields.proofs.record.fields.Goals as goal

pub loop-field-init : goal.loop-field-init
loop-field-init c =
    let start = c.into_iter-field-iterator.ensures.into_iter_gives in
    record { same_row = start.0; copied = rw (start.1, c.in_ok-fields.ensures.items) refl }

pub loop-field-preserved : goal.loop-field-preserved
loop-field-preserved c =
    let inv = c.loop-field.invariant in
    let steps = rw (c.in-Some.is, inv.same_row) at c.next.ensures.steps in
    let good : is_ok c.push.result ≡ true = search rules in
    let items = rw good at c.push.ensures.items in
    record {
      same_row = ap (λ r. r.now) c.next.ensures.steps.0 ∙ inv.same_row;
      copied = rw (items, map-append, inv.copied, c.in_ok-copy.ensures.items, steps.2) (sym (take_one_more (fields_of c.args.row.now) c.loop-field.field-iterator.at c.in-Some.field.now steps.1));
    }

pub returns : goal.returns
returns c =
    let inv = c.loop-field.invariant in
    let steps = rw (c.in-None.is, inv.same_row) at c.next.ensures.steps in
    inv.copied ∙ take_all (fields_of c.args.row.now) c.loop-field.field-iterator.at steps.1
