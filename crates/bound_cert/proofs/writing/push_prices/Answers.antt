use Rattle.std.proofs.Common.{◌++◌, ◌∙◌, ap, map, rules}
use Rattle.bound_cert.specs.ProofText.{at_line, charge_line, text_of_lines}
use Rattle.bound_cert.proofs.Lines.{done, prices_done}
use Rattle.bound_cert.proofs.writing.push_prices.Goals as goal

pub returns : goal.returns
returns c =
    done c.push_entries-2.result
    (λ added.
    prices_done c.args.tables.now c.args.prices.now c.args.text.now.items c.push_line.new.text.items c.push_rents.new.text.items c.push_entries.new.text.items _ (search rules) c.in_ok-push_rents.ensures
    (c.in_ok-push_entries.ensures ∙ ap (λ charges. c.push_rents.new.text.items ++ text_of_lines c.args.tables.now (map charge_line charges)) c.as_slice.ensures)
    (added ∙ ap (λ steps. c.push_entries.new.text.items ++ text_of_lines c.args.tables.now (map at_line steps)) c.as_slice-2.ensures))
    c.push_entries-2.ensures
