use Rattle.std.proofs.Common.{◌∙◌, ap}
use Rattle.std.proofs.lemmas.Map.Text.{is_eq-slice_cmp}
use Rattle.table_rows.specs.Names.{bytes_of, number_of_name}
use Rattle.table_rows.proofs.ByNumber.{lookup_by_list, number_is_place}
use Rattle.table_rows.proofs.names.Names.number.Goals as goal

pub returns : goal.returns
returns c =
    let name = c.args.name.now in
    let entries = c.self.inside.numbers.entries in
    c.copied.ensures ∙ c.get.ensures.value ∙ lookup_by_list bytes_of _ name (λ key. is_eq-slice_cmp name key.items) entries
    ∙ number_is_place bytes_of entries c.self.invariant name ∙ ap (number_of_name name) c.self.view_is
