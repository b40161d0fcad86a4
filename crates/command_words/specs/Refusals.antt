-- What the command line refuses: words that ask for nothing.
use Rattle.std.specs.Prelude.{◌≡◌, ◌==◌, Bool, true, false, not, List, [], ◌∷◌, ◌++◌, None, bytes_eq, codes}
use Rattle.std.specs.List.{list_any}
use Rattle.clap.specs.Words.{Text}
use Rattle.command_words.specs.Words.{asked}

-- ---- the command

-- no words at all, not even the program's name
abbrev pub NoWordsAskNothing : Type 0
NoWordsAskNothing = asked [] ≡ None

-- the program's name alone
abbrev pub NameAloneAsksNothing : Type 0
NameAloneAsksNothing = (program : Text) → asked (program ∷ []) ≡ None

-- the name is one of these
abbrev pub is_one_of : Text → List Text → Bool
is_one_of name names = list_any (λ other. bytes_eq other name) names

-- the commands' names
abbrev pub commands : List Text
commands = codes "judge" ∷ codes "solve" ∷ codes "check" ∷ codes "tails" ∷ codes "due" ∷ codes "make" ∷ codes "whatif" ∷ []

-- a first word that is no command's name, as `help`, `--help` or `--`, whatever follows
abbrev pub OtherWordsAskNothing : Type 0
OtherWordsAskNothing = (program word : Text) (after : List Text) → is_one_of word commands ≡ false → asked (program ∷ word ∷ after) ≡ None

-- ---- its options

-- one of the words is `--`, behind which no word is an option
abbrev pub has_dashes : List Text → Bool
has_dashes words = list_any (λ word. bytes_eq word (codes "--")) words

-- some text with no `=`
abbrev pub is_option_name : Text → Bool
is_option_name [] = false
is_option_name (first ∷ rest) = not (list_any (λ byte. byte == 61) (first ∷ rest))

-- what may stand behind an option's name in its word: nothing, or `=` and a value
abbrev pub ends_name : Text → Bool
ends_name [] = true
ends_name (first ∷ value) = first == 61

-- the command takes no option but these: any other one is refused wherever it stands before `--`, with a value or alone
abbrev pub TakesOnly : Text → List Text → Type 0
TakesOnly command options = (program name ending : Text) (before after : List Text)
    → is_option_name name ≡ true → is_one_of name options ≡ false → ends_name ending ≡ true → has_dashes before ≡ false
    → asked (program ∷ command ∷ before ++ (codes "--" ++ name ++ ending) ∷ after) ≡ None

-- the flag is refused with a value, wherever it stands before `--`
abbrev pub TakesNoValue : Text → Text → Type 0
TakesNoValue command flag = (program value : Text) (before after : List Text) → has_dashes before ≡ false
    → asked (program ∷ command ∷ before ++ (codes "--" ++ flag ++ codes "=" ++ value) ∷ after) ≡ None

-- the option is refused where it is given twice before `--`, whatever its values
abbrev pub TakesOnce : Text → Text → Type 0
TakesOnce command option = (program one two : Text) (before between after : List Text) → has_dashes before ≡ false → has_dashes between ≡ false
    → asked (program ∷ command ∷ before ++ (codes "--" ++ option ++ codes "=" ++ one) ∷ (between ++ (codes "--" ++ option ++ codes "=" ++ two) ∷ after)) ≡ None

-- each of these options is
abbrev pub TakesEachOnce : Text → List Text → Type 0
TakesEachOnce command options = (option : Text) → is_one_of option options ≡ true → TakesOnce command option

-- and so is the flag
abbrev pub TakesFlagOnce : Text → Text → Type 0
TakesFlagOnce command flag = (program : Text) (before between after : List Text) → has_dashes before ≡ false → has_dashes between ≡ false
    → asked (program ∷ command ∷ before ++ (codes "--" ++ flag) ∷ (between ++ (codes "--" ++ flag) ∷ after)) ≡ None

-- the flag is refused where it is given twice, and with a value
pub record TakesPlainly (command flag : Text) : Type 0 where
  pub once : TakesFlagOnce command flag
  pub no_value : TakesNoValue command flag

-- each of these flags is
abbrev pub TakesEachPlainly : Text → List Text → Type 0
TakesEachPlainly command flags = (flag : Text) → is_one_of flag flags ≡ true → TakesPlainly command flag

-- ---- the commands' options, and their flags

-- by which the tables of a folder are read
abbrev pub table_options : List Text
table_options = codes "day-start" ∷ codes "period" ∷ []

-- by which further tables are
abbrev pub table_flags : List Text
table_flags = codes "windows" ∷ codes "optional" ∷ []

-- by which rotations are looked for
abbrev pub rotation_options : List Text
rotation_options = codes "through-max" ∷ codes "least-night" ∷ codes "days" ∷ codes "visits" ∷ []

-- by which a plan is looked for
abbrev pub search_options : List Text
search_options = codes "search" ∷ codes "nodes" ∷ codes "pivots" ∷ []

-- by which dates are told
abbrev pub date_options : List Text
date_options = codes "first-day" ∷ []

abbrev pub tails_options : List Text
tails_options = table_options ++ rotation_options ++ date_options

abbrev pub solve_options : List Text
solve_options = table_options ++ rotation_options ++ search_options

abbrev pub solve_flags : List Text
solve_flags = table_flags ++ codes "json" ∷ codes "all-pivots" ∷ []

-- each command takes its own options and flags alone, so it refuses those of the others, `--help`, and what is misspelt
pub record TakeOwnOptions : Type 0 where
  pub judge : TakesOnly (codes "judge") (table_options ++ table_flags)
  pub solve : TakesOnly (codes "solve") (solve_options ++ solve_flags)
  pub check : TakesOnly (codes "check") (table_options ++ table_flags)
  pub tails : TakesOnly (codes "tails") (tails_options ++ table_flags)
  pub due : TakesOnly (codes "due") (tails_options ++ table_flags)
  pub make : TakesOnly (codes "make") []
  pub whatif : TakesOnly (codes "whatif") (table_options ++ table_flags)

-- each command takes each of its options once at most
pub record TakeOptionsOnce : Type 0 where
  pub judge : TakesEachOnce (codes "judge") table_options
  pub solve : TakesEachOnce (codes "solve") solve_options
  pub check : TakesEachOnce (codes "check") table_options
  pub tails : TakesEachOnce (codes "tails") tails_options
  pub due : TakesEachOnce (codes "due") tails_options
  pub whatif : TakesEachOnce (codes "whatif") table_options

-- each command takes each of its flags once at most, and with no value
pub record TakeFlagsPlainly : Type 0 where
  pub judge : TakesEachPlainly (codes "judge") table_flags
  pub solve : TakesEachPlainly (codes "solve") solve_flags
  pub check : TakesEachPlainly (codes "check") table_flags
  pub tails : TakesEachPlainly (codes "tails") table_flags
  pub due : TakesEachPlainly (codes "due") table_flags
  pub whatif : TakesEachPlainly (codes "whatif") table_flags
