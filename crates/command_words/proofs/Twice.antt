-- An option that is given twice is refused.
use Rattle.std.proofs.Common.{◌≡◌, ◌∙◌, ◌&&◌, inl, inr, not, Bool, true, false, List, [], ◌∷◌, ◌++◌, Some, None, refl, sym, ap, subst, codes, bytes_eq, if◌then◌else◌, length}
use Rattle.std.specs.Prelude.{⊤}
use Rattle.std.specs.List.{list_all}
use Rattle.std.proofs.lemmas.Slice.Eq.{bytes_eq-Decides}
use Rattle.clap.proofs.OnLiterals.{clap_on_literals}
use Rattle.clap.specs.Facts.{unwrap_or_range}
use Rattle.clap.specs.Faults.{flag_word_fault, long_fault, settle_fault, turn_fault, values_fault, walk_fault}
use Rattle.clap.specs.Kinds.{Kinds, or_else, range_kinds}
use Rattle.clap.specs.Lexer.{long_of}
use Rattle.clap.specs.Simple.{Shape, filled}
use Rattle.clap.specs.Walk.{Held, Rule, Text, Walk, after_flag, after_step, arg_by_long, has_row, idle, long_met, long_or_other, most_values, nothing_held, reacted, settled, values_or_missing, walk_from, walked, without}
use Rattle.clap.specs.declared.error.kind.ErrorKind.TheVariants as kind
use Rattle.command_words.specs.Program.{check_app, due_app, judge_app, option_named, our_app, solve_app, tails_app, whatif_app}
use Rattle.command_words.specs.Refusals.{TakeOptionsOnce, TakesEachOnce, has_dashes, is_one_of, is_option_name, solve_options, table_options, tails_options}
use Rattle.command_words.specs.Words.{asked}
use Rattle.std.proofs.lemmas.Bool.{and_parts, or_cases, true≢false}
use Rattle.command_words.proofs.Entered.{IsEntered, check_entered, due_entered, fails_within, judge_entered, solve_entered, tails_entered, whatif_entered}
use Rattle.command_words.proofs.Fails.{Fails, GoesOn, first_fails, is_untrailed, reaches, second_fails, stays_on, walked_is, word_refused}
use Rattle.command_words.proofs.GivenRows.{IsGiven, settled_has, stays_given, values_come}
use Rattle.command_words.proofs.OwnOptions.{option_is_on, option_reads, option_word}
use Rattle.command_words.proofs.PlainFolder.{built_command}

-- the word gives the argument, and is refused where it was given
pub record Gives (shape : Shape) (name word : Text) : Type 0 where
  pub no_dashes : bytes_eq word (codes "--") ≡ false
  pub comes : (w : Walk) → GoesOn w → has_row name (walked shape.rules [] w word).held.rows ≡ true
  pub repeats : (h : Held) → has_row name h.rows ≡ true → Fails (flag_word_fault shape.rules shape.args_override_self (long_of word) word h)

goes_past : (s : Shape) (w : Walk) (word : Text) (rest : List Text) → Fails (walk_fault s [] (walked s.rules [] w word) rest) → Fails (walk_fault s [] w (word ∷ rest))
unfolding walk_fault
goes_past s w word rest fails = second_fails (turn_fault s [] w word) (walk_fault s [] (walked s.rules [] w word) rest) fails

pub given_twice : (command : Text) (shape : Shape) (name one two program : Text) (before between after : List Text) → IsEntered command shape → is_untrailed shape.rules ≡ true
    → Gives shape name one → Gives shape name two → has_dashes before ≡ false → has_dashes between ≡ false
    → asked (program ∷ command ∷ before ++ one ∷ (between ++ two ∷ after)) ≡ None
given_twice command shape name one two program before between after entered untrailed first second none_before none_between =
    fails_within command shape program (before ++ one ∷ (between ++ two ∷ after)) entered
    (reaches shape GoesOn before (one ∷ (between ++ two ∷ after)) (walk_from nothing_held) (λ w word other. stays_on shape.rules w word untrailed other) none_before
    (record { no_dashes = refl; on = refl }) (λ w goes. goes_past shape w one (between ++ two ∷ after)
    (reaches shape (IsGiven name shape.rules) between (two ∷ after) (walked shape.rules [] w one) (stays_given name shape.rules untrailed) none_between
    (record { goes = stays_on shape.rules w one untrailed first.no_dashes goes; given = first.comes w goes })
    (λ w is. word_refused shape w two after second.no_dashes is.goes (second.repeats w.held is.given)))))

repeat_fails : (again has : Bool) → again ≡ false → has ≡ true → Fails (if has && not again then kind.ArgumentConflict ∷ [] else [])
repeat_fails true has none given = absurd (true≢false none)
repeat_fails false true none given = tt
repeat_fails false false none given = absurd (true≢false (sym given))

pub set_fails : (settles range reads : Kinds) (again has : Bool) → again ≡ false → has ≡ true
    → Fails (or_else settles (or_else range (or_else (if has && not again then kind.ArgumentConflict ∷ [] else []) reads)))
set_fails settles range reads again has none given =
    second_fails settles _ (second_fails range _ (first_fails (if has && not again then kind.ArgumentConflict ∷ [] else []) reads (repeat_fails again has none given)))

-- ---- what a command takes under its names

-- a rule of this form has the name
pub record IsNamed (form : Text → Rule) (rules : List Rule) (name : Text) : Type 0 where
  pub found : arg_by_long rules name ≡ Some (filled (form name))
  pub named : is_option_name name ≡ true

abbrev pub AreFound : (Text → Rule) → List Rule → List Text → Type 0
AreFound form rules [] = ⊤
AreFound form rules (name ∷ names) = (arg_by_long rules name ≡ Some (filled (form name))) × AreFound form rules names

-- the command has one of this form for each of the names
pub record HasAll (form : Text → Rule) (shape : Shape) (names : List Text) : Type 0 where
  pub untrailed : is_untrailed shape.rules ≡ true
  pub once : shape.args_override_self ≡ false
  pub named : list_all is_option_name names ≡ true
  pub found : AreFound form shape.rules names

pub among_found : (form : Text → Rule) (rules : List Rule) (names : List Text) (name : Text) → list_all is_option_name names ≡ true → AreFound form rules names
    → is_one_of name names ≡ true → IsNamed form rules name
among_found form rules [] name named found among = absurd (true≢false (sym among))
among_found form rules (other ∷ names) name named found among = elim (or_cases (bytes_eq other name) (is_one_of name names) among) [
  | inl here ↦ subst (IsNamed form rules) ((bytes_eq-Decides other name).0 here) (record { found = found.0; named = (and_parts _ _ named).0 })
  | inr later ↦ among_found form rules names name (and_parts _ _ named).1 found.1 later
]

-- ---- an option

option_gives : (shape : Shape) (name text : Text) → shape.args_override_self ≡ false → IsNamed option_named shape.rules name → Gives shape name (option_word name text)
option_gives shape name text once is =
    let c : List Rule = shape.rules in
    let word : Text = option_word name text in
    let a : Rule = filled (option_named name) in
    let reads : long_of word ≡ Some (name, Some text) = option_reads name text is.named in
    record {
      no_dashes = option_is_on name text;
      comes = λ w goes.
          let next_is : walked c [] w word ≡ record w { held = reacted c a (text ∷ []) w.held; waiting = idle } =
          walked_is c w word (option_is_on name text) goes
          ∙ ap (λ long. after_step c word w (long_or_other c w.waiting word long w.held).0 (long_or_other c w.waiting word long w.held).1) reads
          ∙ ap (λ arg. after_step c word w (after_flag c w.waiting word (long_met c arg (Some text) w.held).0 (long_met c arg (Some text) w.held).1).0
          (after_flag c w.waiting word (long_met c arg (Some text) w.held).0 (long_met c arg (Some text) w.held).1).1) is.found in
          subst (λ (after : Walk). has_row name after.held.rows ≡ true) (sym next_is)
          (values_come name name _ _ (text ∷ []) (without name (settled c w.held).rows) refl);
      repeats = λ h has.
          let fault_is : flag_word_fault c shape.args_override_self (long_of word) word h ≡ long_fault c shape.args_override_self (Some a) (Some text) h =
          ap (λ long. flag_word_fault c shape.args_override_self long word h) reads ∙ ap (λ arg. long_fault c shape.args_override_self arg (Some text) h) is.found in
          subst Fails (sym fault_is)
          (set_fails (settle_fault c shape.args_override_self h) (range_kinds (unwrap_or_range a.range).start_inclusive (most_values a) (length {A = Text} (text ∷ [])))
          (values_fault a (values_or_missing a (text ∷ []))) shape.args_override_self (has_row name (settled c h).rows) once (settled_has name c h has));
    }

takes_each_once : (command : Text) (shape : Shape) (names : List Text) → IsEntered command shape → HasAll option_named shape names → TakesEachOnce command names
takes_each_once command shape names entered has name among program one two before between after none_before none_between =
    let is = among_found option_named shape.rules names name has.named has.found among in
    given_twice command shape name (option_word name one) (option_word name two) program before between after entered has.untrailed
    (option_gives shape name one has.once is) (option_gives shape name two has.once is) none_before none_between

-- ---- the commands

pub options_once : TakeOptionsOnce
unfolding our_app clap_on_literals
options_once = record {
  judge = takes_each_once (codes "judge") (built_command judge_app) table_options judge_entered (record { untrailed = refl; once = refl; named = refl; found = (refl, (refl, tt)) });
  solve = takes_each_once (codes "solve") (built_command solve_app) solve_options solve_entered (record { untrailed = refl; once = refl; named = refl; found = (refl, (refl, (refl, (refl, (refl, (refl, (refl, (refl, (refl, tt))))))))) });
  check = takes_each_once (codes "check") (built_command check_app) table_options check_entered (record { untrailed = refl; once = refl; named = refl; found = (refl, (refl, tt)) });
  tails = takes_each_once (codes "tails") (built_command tails_app) tails_options tails_entered (record { untrailed = refl; once = refl; named = refl; found = (refl, (refl, (refl, (refl, (refl, (refl, (refl, tt))))))) });
  due = takes_each_once (codes "due") (built_command due_app) tails_options due_entered (record { untrailed = refl; once = refl; named = refl; found = (refl, (refl, (refl, (refl, (refl, (refl, (refl, tt))))))) });
  whatif = takes_each_once (codes "whatif") (built_command whatif_app) table_options whatif_entered (record { untrailed = refl; once = refl; named = refl; found = (refl, (refl, tt)) });
}
