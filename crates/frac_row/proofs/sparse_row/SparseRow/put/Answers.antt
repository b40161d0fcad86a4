use Rattle.std.proofs.Common.{rules, set, sym, ◌∙◌, ap, of_z}
use mir.Val.{SFits}
use mir.Syntax.{w128}
use Rattle.frac_row.proofs.Contents.{den-content}
use Rattle.frac_row.proofs.Filled.{held_more, content-more, nothing_from_value, within_value}
use Rattle.frac_row.proofs.sparse_row.SparseRow.put.Goals as goal

pub invariant_of-self-2 : goal.invariant_of-self-2
invariant_of-self-2 c =
    let f : SFits w128 c.args.number = search rules in
    held_more c.self.inside.entries.items _ c.self.inside.width (record { column = c.args.column; number = c.args.number }) c.self.invariant
    (nothing_from_value c.self.inside.entries.items c.self.inside.width c.self.inside.den c.args.self.now c.args.column c.self.invariant c.self.view_is c.requires.zeros)
    (within_value c.self.inside.entries.items c.self.inside.width c.self.inside.den c.args.self.now c.args.column c.self.view_is c.requires.in_row)
    (λ e. c.if-number-eq0.false (ap (of_z w128) e))
    (search rules)

pub returns-clause-put : goal.returns-clause-put
returns-clause-put c =
    let f : SFits w128 c.args.number = search rules in
    content-more c.self.inside.entries.items _ c.self.inside.width c.self.inside.den (record { column = c.args.column; number = c.args.number }) c.self.invariant
    (nothing_from_value c.self.inside.entries.items c.self.inside.width c.self.inside.den c.args.self.now c.args.column c.self.invariant c.self.view_is c.requires.zeros)
    (within_value c.self.inside.entries.items c.self.inside.width c.self.inside.den c.args.self.now c.args.column c.self.view_is c.requires.in_row)
    (search rules)
    ∙ ap (λ r. record { numbers = set r.numbers c.args.column c.args.number; den = c.self.inside.den }) c.self.view_is
    ∙ ap (λ d. record { numbers = set c.args.self.now.numbers c.args.column c.args.number; den = d }) (sym (den-content c.self.inside.entries.items c.self.inside.width c.self.inside.den) ∙ ap (λ r. r.den) c.self.view_is)
