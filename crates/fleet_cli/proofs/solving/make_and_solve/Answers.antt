use Rattle.std.proofs.Common.{◌∙◌, ap, subst}
use Rattle.std.proofs.lemmas.Result.{IfOk-weaker}
use Rattle.command_words.specs.declared.command.TheConstants.{DEFAULT_OPTIONS, DEFAULT_READING}
use Rattle.table_maker.specs.Laws.{made_bytes}
use Rattle.fleet_cli.specs.Answer.{GivesSolution}
use Rattle.folder_answers.specs.Contents.{five_alone}
use Rattle.folder_answers.specs.Skeletons.{TablesRead}
use Rattle.folder_answers.specs.Making.{after_files, made_files}
use Rattle.fleet_cli.proofs.solving.make_and_solve.Goals as goal

pub returns : goal.returns
returns c = IfOk-weaker c.after_tables.result _ _ (λ answer is. record {
  solving = c.in_ok-solving.solving;
  can = c.requires;
  solves = subst (λ made. TablesRead DEFAULT_READING (five_alone (made_bytes made)) (GivesSolution DEFAULT_OPTIONS) c.in_ok-solving.solving) c.in_ok-made.ensures.made c.in_ok-solving.ensures;
  is = is ∙ ap (λ made. after_files (made_files made) c.in_ok-solving.solving) c.in_ok-made.ensures.made;
}) c.after_tables.ensures
