-- A match of the command line, and its faults.
use Rattle.std.proofs.Common.{◌≡◌, ◌≢◌, ◌∙◌, true, true≢false, List, [], ◌∷◌, Option, None, Result, Ok, Err, refl, sym, subst, ap, inl, inr}
use Rattle.std.proofs.lemmas.Bool.{and_parts}
use Rattle.std.specs.Prelude.{◌↔◌, IfOk, IsErr, option_and_then}
use Rattle.entries.specs.declared.memory.NoMemory.{NoMemory}
use Rattle.clap.proofs.OnLiterals.{clap_on_literals}
use Rattle.clap.specs.Kinds.{FailsBy, HasKind, IsAmong, Kinds}
use Rattle.clap.specs.Words.{App, HasMatchesOf, Row, Text, fault_of, is_simple_and_free, kind_of, subcommand_of, subcommand_rows_of}
use Rattle.clap.specs.declared.error.Error.{Error}
use Rattle.clap.specs.declared.error.kind.ErrorKind.{ErrorKind}
use Rattle.clap.specs.declared.error.kind.ErrorKind.TheVariants as kind
use Rattle.clap.specs.declared.parser.matches.ArgMatches.{ArgMatches}
use Rattle.command_words.specs.Found.{found, without_fault}
use Rattle.command_words.specs.Program.{our_app}

pub exact : is_simple_and_free our_app ≡ true
unfolding our_app clap_on_literals
exact = refl

-- no fault was found
met : (kinds : Kinds) (given named : Option (Text × List Row)) → kinds ≡ [] → given ≡ named → given ≡ without_fault kinds named
met kinds given named none same = rw (none, same) refl

-- some fault was found
unmet : (kinds : Kinds) (fault : ErrorKind) (named : Option (Text × List Row)) → IsAmong fault kinds → None ≡ without_fault kinds named
unmet [] fault named among = absurd among
unmet (k ∷ rest) fault named among = refl

met_ours : (words : List Text) (matches : ArgMatches) → FailsBy (fault_of our_app words) (Ok matches) → HasMatchesOf our_app words matches
    → subcommand_rows_of matches ≡ found words
unfolding found
met_ours words matches faults has =
    met (fault_of our_app words) (subcommand_rows_of matches) (subcommand_of our_app words) faults (has (and_parts _ _ exact).0).1

-- a match of a command line that is ours
pub is_met : (app : App) (words : List Text) (matches : ArgMatches) → app ≡ our_app
    → (is_simple_and_free app ≡ true → FailsBy (fault_of app words) (Ok matches)) → HasMatchesOf app words matches
    → subcommand_rows_of matches ≡ found words
is_met app words matches ours faults has =
    met_ours words matches (subst (λ a. is_simple_and_free a ≡ true → FailsBy (fault_of a words) (Ok matches)) ours faults exact)
    (subst (λ a. HasMatchesOf a words matches) ours has)

unmet_ours : (words : List Text) (error : Error) → HasKind (fault_of our_app words) error → kind_of error ≢ kind.OutOfMemory → None ≡ found words
unfolding found
unmet_ours words error fault no_memory = elim fault [
  | inl memory ↦ absurd (no_memory memory)
  | inr among ↦ unmet (fault_of our_app words) (kind_of error) (subcommand_of our_app words) among
]

-- what an error of a command line that is ours comes to
pub is_unmet : (app : App) (words : List Text) (error : Error) (seen : ErrorKind) (answer : Result (Option ArgMatches) NoMemory) → app ≡ our_app
    → (is_simple_and_free app ≡ true → HasKind (fault_of app words) error) → seen ≡ kind_of error
    → (IsErr answer ↔ (seen ≡ kind.OutOfMemory)) → IfOk answer (λ matches. matches ≡ None)
    → IfOk answer (λ matches. option_and_then subcommand_rows_of matches ≡ found words)
is_unmet app words error seen (Err no_memory) ours fault same memory none = tt
is_unmet app words error seen (Ok matches) ours fault same memory none =
    let ours_has = subst (λ a. is_simple_and_free a ≡ true → HasKind (fault_of a words) error) ours fault exact in
    ap (option_and_then subcommand_rows_of) none ∙ unmet_ours words error ours_has (λ is. true≢false (sym (memory.1 (same ∙ is))))
