use Rattle.std.proofs.Common.{◌++◌, codes, sym, ap, ◌∙◌, append_assoc}
use Rattle.std.specs.Fmt.{decimal}
use Rattle.rotation_report.proofs.words.night_words.Goals as goal

pub returns : goal.returns
returns c =
    c.in_ok-format.ensures.ok
    ∙ ap (λ rest. codes "too few nights " ++ rest) (sym (append_assoc (decimal c.args.have) (codes " of ") (decimal c.args.used)))
