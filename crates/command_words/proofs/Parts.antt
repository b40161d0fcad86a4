-- A command or a program with one more part than the first ones of a list.
use Rattle.std.proofs.Common.{◌≡◌, ◌∙◌, ◌+◌, ◌<◌, ◌||◌, Bool, true, false, ℕ, List, Bor, Result, Ok, Err, length, take, get_or, fold, sym, ap, ap₂}
use Rattle.std.specs.Prelude.{IfOk}
use Rattle.std.proofs.lemmas.List.Sums.{fold_more}
use Rattle.clap.specs.Words.{AddsArg, AddsSubcommand, App, app_of, with_rule}
use Rattle.clap.specs.declared.builder.arg.Arg.{Arg}
use Rattle.clap.specs.declared.builder.command.Command.{Command}
use Rattle.clap.specs.declared.builder.command.Command.TheViews.{out-Command}
use Rattle.command_words.specs.declared.command_line.arguments.Argument.{Argument}
use Rattle.command_words.specs.declared.command_line.commands.CommandRow.{CommandRow}
use Rattle.command_words.specs.Program.{Builds, BuildsArguments, BuildsCommands, IsRule, app_by, bare_app, our_app, rule_by, with_argument, with_command, with_group, with_row}

no_global : (before after global : Bool) → global ≡ false → after ≡ (before || global) → after ≡ before
no_global true after global none same = same
no_global false after global none same = same ∙ none

-- one more argument
pub argument_more : (first before after : Command) (arguments : List Argument) (k : ℕ) (a : Argument) (arg : Arg) → k < length arguments
    → BuildsArguments first (take k arguments) before → IsRule (rule_by (get_or arguments k a)) arg → AddsArg before arg after
    → BuildsArguments first (take (k + 1) arguments) after
argument_more first before after arguments k a arg within builds is adds = record {
  shape = adds.shape is.local ∙ ap₂ with_rule builds.shape is.rule_fits ∙ sym (fold_more with_argument (app_of first) arguments k a within);
  globals = no_global (out-Command before).has_globals (out-Command after).has_globals arg.global is.local adds.globals ∙ builds.globals;
}

-- one more command
pub command_more : (first before below after : Command) (commands : List CommandRow) (k : ℕ) (row : CommandRow) → k < length commands
    → BuildsCommands first (take k commands) before → Builds (app_by (get_or commands k row)) below → AddsSubcommand before below after
    → BuildsCommands first (take (k + 1) commands) after
command_more first before below after commands k row within builds is adds = record {
  shape = adds.shape is.local ∙ ap₂ with_command builds.shape is.shape ∙ sym (fold_more with_row (app_of first) commands k row within);
}

-- one more group of arguments
pub group_more : (start : App) (before after : Command) (groups : List (Bor (List Argument))) (k : ℕ) (group : Bor (List Argument)) → k < length groups
    → Builds (fold (λ app (g : Bor (List Argument)). with_group app g.now) start (take k groups)) before → BuildsArguments before (get_or groups k group).now after
    → Builds (fold (λ app (g : Bor (List Argument)). with_group app g.now) start (take (k + 1) groups)) after
group_more start before after groups k group within builds adds = record {
  shape = adds.shape ∙ ap (λ app. with_group app (get_or groups k group).now) builds.shape ∙ sym (fold_more (λ app (g : Bor (List Argument)). with_group app g.now) start groups k group within);
  local = adds.globals ∙ builds.local;
}

-- a program with all commands
pub all_commands : {E : Type 0} (bare : Command) (made : Result Command E) (commands : List CommandRow) → app_of bare ≡ bare_app
    → fold with_row bare_app commands ≡ our_app → IfOk made (BuildsCommands bare commands) → IfOk made (λ command. app_of command ≡ our_app)
all_commands bare (Err fault) commands is ours builds = tt
all_commands bare (Ok command) commands is ours builds = builds.shape ∙ ap (λ app. fold with_row app commands) is ∙ ours
