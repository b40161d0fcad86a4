use Rattle.std.proofs.Common.{◌≡◌, ◌∙◌, ◌++◌, [], ◌∷◌, ap, false, not, sym}
use Rattle.std.specs.Ordering.{nat_cmp}
use Rattle.std.specs.Cmp.Lexicographic.{slice_cmp}
use Rattle.std.proofs.lemmas.Map.Text.{is_eq-slice_cmp}
use Rattle.table_rows.specs.Names.{bytes_of, is_among}
use Rattle.table_rows.proofs.ByNumber.{among_is, by_number_with, next_key, numbered_with}
use Rattle.table_rows.proofs.names.Names.add.Goals as goal

pub returns-then-contains_key-clause-added : goal.returns-then-contains_key-clause-added
returns-then-contains_key-clause-added c =
    let name = c.args.name.now in
    let among = among_is bytes_of c.self.inside.numbers.entries name _ c.args.self.now c.contains_key.result c.self.invariant (λ key. is_eq-slice_cmp name key.items) c.self.view_is c.contains_key.ensures in
    ap not (sym (among ∙ c.if-contains_key.true))

pub returns-clause-added : goal.returns-clause-added
returns-clause-added c =
    let name = c.args.name.now in
    let among = among_is bytes_of c.self.inside.numbers.entries name _ c.args.self.now c.contains_key.result c.self.invariant (λ key. is_eq-slice_cmp name key.items) c.self.view_is c.contains_key.ensures in
    ap not (sym (among ∙ c.if-contains_key.false))

pub invariant_of-self-2 : goal.invariant_of-self-2
invariant_of-self-2 c =
    let name = c.args.name.now in
    let key = c.in_ok-from_slice.field-0 in
    let among = among_is bytes_of c.self.inside.numbers.entries name _ c.args.self.now c.contains_key.result c.self.invariant (λ key. is_eq-slice_cmp name key.items) c.self.view_is c.contains_key.ensures in
    let apart : is_among (bytes_of key) c.args.self.now ≡ false = ap (λ list. is_among list c.args.self.now) c.in_ok-from_slice.ensures.items ∙ among ∙ c.if-contains_key.false in
    numbered_with bytes_of _ _ _ key (next_key bytes_of (λ a b. slice_cmp nat_cmp a.items b.items) c.self.inside.numbers.entries c.insert.new.self.entries key c.args.self.now c.len-number.result
    c.self.invariant (λ a b. is_eq-slice_cmp a.items b.items) c.self.view_is apart c.len-number.ensures.len c.in_ok-insert.ensures.entries)

pub returns-clause-appended : goal.returns-clause-appended
returns-clause-appended c =
    let name = c.args.name.now in
    let key = c.in_ok-from_slice.field-0 in
    let among = among_is bytes_of c.self.inside.numbers.entries name _ c.args.self.now c.contains_key.result c.self.invariant (λ key. is_eq-slice_cmp name key.items) c.self.view_is c.contains_key.ensures in
    let apart : is_among (bytes_of key) c.args.self.now ≡ false = ap (λ list. is_among list c.args.self.now) c.in_ok-from_slice.ensures.items ∙ among ∙ c.if-contains_key.false in
    by_number_with bytes_of _ _ _ key (next_key bytes_of (λ a b. slice_cmp nat_cmp a.items b.items) c.self.inside.numbers.entries c.insert.new.self.entries key c.args.self.now c.len-number.result
    c.self.invariant (λ a b. is_eq-slice_cmp a.items b.items) c.self.view_is apart c.len-number.ensures.len c.in_ok-insert.ensures.entries)
    ∙ ap (λ names. names ++ bytes_of key ∷ []) c.self.view_is ∙ ap (λ list. c.args.self.now ++ list ∷ []) c.in_ok-from_slice.ensures.items
