-- What words ask for, computed by clap's definition.
use Rattle.std.proofs.Common.{Bool, refl, true, false}
use Rattle.clap.proofs.OnLiterals.{clap_on_literals}
use Rattle.command_words.specs.Plain.{AsksByDefault, AsksFrom, ChecksByDefault, ChecksFrom, DueByDefault, DueWithin, JudgesByDefault, JudgesFrom, MakesByDefault, MakesWithoutOptions, SolvesByDefault, SolvesByWay, SolvesFreely, SolvesWithin, SolvesWithoutBudget, TailsByDefault, TailsWithin}
use Rattle.command_words.specs.Found.{found}
use Rattle.command_words.specs.Program.{our_app}
use Rattle.command_words.specs.Words.{asked}

-- what holds with both flags, with one and with none
either_way : (P : Bool → Bool → Type 0) → P true true → P true false → P false true → P false false → (a b : Bool) → P a b
either_way P both first second none true true = both
either_way P both first second none true false = first
either_way P both first second none false true = second
either_way P both first second none false false = none

pub judges_by_default : JudgesByDefault
unfolding asked found our_app clap_on_literals
judges_by_default program dir = either_way _ refl refl refl refl

pub judges_from : JudgesFrom
unfolding asked found our_app clap_on_literals
judges_from program time period dir = either_way _ refl refl refl refl

pub solves_by_default : SolvesByDefault
unfolding asked found our_app clap_on_literals
solves_by_default program dir = either_way _ refl refl refl refl

pub solves_within : SolvesWithin
unfolding asked found our_app clap_on_literals
solves_within program time period wait least days visits choices nodes pivots dir = either_way _ refl refl refl refl

pub solves_without_budget : SolvesWithoutBudget
unfolding asked found our_app clap_on_literals
solves_without_budget program pivots dir = refl

pub solves_freely : SolvesFreely
unfolding asked found our_app clap_on_literals
solves_freely program dir = refl

pub solves_by_way : SolvesByWay
unfolding asked found our_app clap_on_literals
solves_by_way program choices dir = either_way _ refl refl refl refl

pub checks_by_default : ChecksByDefault
unfolding asked found our_app clap_on_literals
checks_by_default program dir = either_way _ refl refl refl refl

pub checks_from : ChecksFrom
unfolding asked found our_app clap_on_literals
checks_from program time period dir = either_way _ refl refl refl refl

pub tails_by_default : TailsByDefault
unfolding asked found our_app clap_on_literals
tails_by_default program dir date count = either_way _ refl refl refl refl

pub tails_within : TailsWithin
unfolding asked found our_app clap_on_literals
tails_within program time period wait least days visits first dir date count = either_way _ refl refl refl refl

pub due_by_default : DueByDefault
unfolding asked found our_app clap_on_literals
due_by_default program dir date count = either_way _ refl refl refl refl

pub due_within : DueWithin
unfolding asked found our_app clap_on_literals
due_within program time period wait least days visits first dir date count = either_way _ refl refl refl refl

pub makes_by_default : MakesByDefault
unfolding asked found our_app clap_on_literals
makes_by_default program dir number legs = refl

pub makes_without_options : MakesWithoutOptions
unfolding asked found our_app clap_on_literals
makes_without_options = record {
  day_start = λ program text dir number legs. refl;
  period = λ program text dir number legs. refl;
  through_max = λ program text dir number legs. refl;
  least_night = λ program text dir number legs. refl;
  days = λ program text dir number legs. refl;
  visits = λ program text dir number legs. refl;
  first_day = λ program text dir number legs. refl;
  search = λ program text dir number legs. refl;
  nodes = λ program text dir number legs. refl;
  pivots = λ program text dir number legs. refl;
  windows = λ program dir number legs. refl;
  optional = λ program dir number legs. refl;
  all_pivots = λ program dir number legs. refl;
  json = λ program dir number legs. refl;
}

pub asks_by_default : AsksByDefault
unfolding asked found our_app clap_on_literals
asks_by_default program dir fleet count = either_way _ refl refl refl refl

pub asks_from : AsksFrom
unfolding asked found our_app clap_on_literals
asks_from program time period dir fleet count = either_way _ refl refl refl refl
