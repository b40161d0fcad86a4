use Rattle.command_words.proofs.AfterDashes.{asks_by_default, asks_from, checks_by_default, checks_from, due_by_default, due_within, judges_by_default, judges_from, makes_by_default, makes_without_options, solves_by_default, solves_by_way, solves_freely, solves_within, solves_without_budget, tails_by_default, tails_within}
use Rattle.command_words.proofs.PlainFolder.{checks_plainly, judges_plainly, solves_plainly}
use Rattle.command_words.proofs.PlainThree.{asks_plainly, due_plainly, makes_plainly, tails_plainly}
use Rattle.command_words.proofs.laws.plain_reading.Goals as goal

-- src/laws.rt:14:1
pub returns : goal.returns
returns c = record {
  judges_plainly = judges_plainly;
  solves_plainly = solves_plainly;
  checks_plainly = checks_plainly;
  tails_plainly = tails_plainly;
  due_plainly = due_plainly;
  makes_plainly = makes_plainly;
  asks_plainly = asks_plainly;
  judges_by_default = judges_by_default;
  judges_from = judges_from;
  solves_by_default = solves_by_default;
  solves_by_way = solves_by_way;
  solves_freely = solves_freely;
  solves_within = solves_within;
  solves_without_budget = solves_without_budget;
  checks_by_default = checks_by_default;
  checks_from = checks_from;
  tails_by_default = tails_by_default;
  tails_within = tails_within;
  due_by_default = due_by_default;
  due_within = due_within;
  makes_by_default = makes_by_default;
  makes_without_options = makes_without_options;
  asks_by_default = asks_by_default;
  asks_from = asks_from;
}
