use Rattle.std.proofs.Common.{◌≢◌, ◌++◌, sym, ap, ◌∙◌}
use Rattle.csv.specs.declared.writer.QuoteStyle.TheVariants as style
use Rattle.plan_text.specs.CsvText.{written_text}
use Rattle.plan_text.proofs.CsvWriting.{csv_text-one}
use Rattle.rotation_report.proofs.record_writer.put_record.Goals as goal

pub returns-in-Ok : goal.returns-in-Ok
returns-in-Ok c =
    let plain : c.args.writer.now.cfg.style ≢ style.NonNumeric = rw c.requires.setup (λ e. cc e) in
    let grown = rw c.requires.setup at (c.in-Ok.ensures.bytes c.requires.fields c.requires.wrote plain) in
    record {
      between = record { setup = c.in-Ok.ensures.setup ∙ c.requires.setup; fields = c.in-Ok.ensures.ended; wrote = c.in-Ok.ensures.clean };
      text = grown ∙ ap (λ t. written_text c.args.writer.now ++ t) (sym (csv_text-one _));
    }
