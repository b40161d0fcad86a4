use Rattle.std.proofs.lemmas.Result.{IfOk-weaker}
use Rattle.command_words.specs.declared.command.TheConstants.{DEFAULT_READING}
use Rattle.sched_read.proofs.Settling.{plans_settle}
use Rattle.table_maker.specs.Laws.{made_bytes}
use Rattle.folder_answers.proofs.MadeStand.{read_alone}
use Rattle.folder_answers.specs.Contents.{five_alone}
use Rattle.fleet_cli.proofs.solving.solve_made.Goals as goal

pub solve_on-requires-clause-settles : goal.solve_on-requires-clause-settles
solve_on-requires-clause-settles c = plans_settle (five_alone (made_bytes c.args.made.now)) DEFAULT_READING c.in_ok-tables.tables (read_alone _ _ c.in_ok-tables.ensures)

pub returns : goal.returns
returns c = IfOk-weaker c.solve_on.result _ _ (λ answer gives. record { tables = c.in_ok-tables.tables; reads = read_alone _ _ c.in_ok-tables.ensures; finishes = gives }) c.solve_on.ensures
