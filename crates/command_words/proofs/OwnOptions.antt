-- A command refuses each option that isn't its own.
use Rattle.std.proofs.Common.{◌≡◌, ◌∙◌, ◌==◌, ◌&&◌, ◌||◌, not, ℕ, zero, suc, Bool, true, false, List, [], ◌∷◌, ◌++◌, Option, Some, None, is_some, refl, sym, ap, subst, codes, bytes_eq, if◌then◌else◌, cond, append-nil, append_assoc, arith}
use Rattle.std.specs.List.{after_first, before_first, list_all, list_any}
use Rattle.std.specs.Option.{option_map_or}
use Rattle.std.proofs.lemmas.Bool.{and_parts, cond-false, eq-eqb, eqb-true, false_from_ne_true, or_from, or_parts, true≢false}
use Rattle.std.proofs.lemmas.Slice.Eq.{bytes_eq-Decides}
use Rattle.clap.proofs.CutLemmas.{Lacks, after_first-at, before_first-Lacks, before_first-at, list_any-at}
use Rattle.clap.proofs.OnLiterals.{clap_on_literals}
use Rattle.clap.specs.Faults.{flag_word_fault, long_fault, settle_fault}
use Rattle.clap.specs.Lexer.{has_byte, long_of}
use Rattle.clap.specs.Simple.{Shape, filled, filled_from, help_rule}
use Rattle.clap.specs.Walk.{Held, Rule, Text, arg_by_long, has_long, nothing_held, walk_from}
use Rattle.command_words.specs.Program.{check_app, due_app, judge_app, make_app, our_app, solve_app, tails_app, whatif_app}
use Rattle.command_words.specs.Words.{asked}
use Rattle.sums.proofs.Tests.{not_true}
use Rattle.command_words.specs.Refusals.{TakeOwnOptions, TakesOnly, ends_name, has_dashes, is_one_of, is_option_name, solve_flags, solve_options, table_flags, table_options, tails_options}
use Rattle.command_words.proofs.Entered.{IsEntered, check_entered, due_entered, fails_within, judge_entered, make_entered, solve_entered, tails_entered, whatif_entered}
use Rattle.command_words.proofs.Fails.{Fails, GoesOn, is_untrailed, reaches, second_fails, stays_on, word_refused}
use Rattle.command_words.proofs.PlainFolder.{built_command}

-- ---- the option's name

lacks : (xs : Text) → list_any (λ x. x == 61) xs ≡ false → Lacks 61 xs
lacks [] none i lt = absurd (omega arith)
lacks (x ∷ xs) none zero lt = λ same. true≢false (sym (eq-eqb x 61 same) ∙ (or_parts (x == 61) _ none).0)
lacks (x ∷ xs) none (suc i) lt = lacks xs (or_parts (x == 61) _ none).1 i (omega arith)

name_before : (name ending : Text) → list_any (λ x. x == 61) name ≡ false → ends_name ending ≡ true → before_first (λ x. x == 61) (name ++ ending) ≡ name
name_before name [] none ends = ap (before_first (λ x. x == 61)) (append-nil name) ∙ before_first-Lacks 61 name (lacks name none)
name_before name (first ∷ value) none ends =
    ap (λ byte. before_first (λ x. x == 61) (name ++ byte ∷ value)) (eqb-true first 61 ends) ∙ before_first-at 61 name value (lacks name none)

-- what clap takes for the value
abbrev value_behind : Text → Option Text
value_behind text = if has_byte 61 text then Some (after_first (λ x. x == 61) text) else None

long_is : (first : ℕ) (rest ending : Text) → list_any (λ x. x == 61) (first ∷ rest) ≡ false → ends_name ending ≡ true
    → long_of (codes "--" ++ (first ∷ rest) ++ ending) ≡ Some (first ∷ rest, value_behind ((first ∷ rest) ++ ending))
long_is first rest ending none ends = ap (λ name. Some (name, value_behind ((first ∷ rest) ++ ending))) (name_before (first ∷ rest) ending none ends)

-- `--NAME=VALUE`
abbrev pub option_word : Text → Text → Text
option_word name text = codes "--" ++ name ++ codes "=" ++ text

value_is : (name text : Text) → list_any (λ x. x == 61) name ≡ false → value_behind (name ++ 61 ∷ text) ≡ Some text
value_is name text none =
    ap (λ has. if has then Some (after_first (λ x. x == 61) (name ++ 61 ∷ text)) else None) (list_any-at 61 name text)
    ∙ ap (λ value. Some value) (after_first-at 61 name text (lacks name none))

pub option_reads : (name text : Text) → is_option_name name ≡ true → long_of (option_word name text) ≡ Some (name, Some text)
option_reads [] text named = absurd (true≢false (sym named))
option_reads (first ∷ rest) text named =
    let none : list_any (λ x. x == 61) (first ∷ rest) ≡ false = not_true _ named in
    let whole : option_word (first ∷ rest) text ≡ codes "--" ++ (first ∷ rest) ++ 61 ∷ text = ap (λ more. codes "--" ++ more) (append_assoc (first ∷ rest) (61 ∷ []) text) in
    ap long_of whole ∙ long_is first rest (61 ∷ text) none refl ∙ ap (λ value. Some (first ∷ rest, value)) (value_is (first ∷ rest) text none)

pub option_is_on : (name text : Text) → bytes_eq (option_word name text) (codes "--") ≡ false
option_is_on [] text = refl
option_is_on (first ∷ rest) text = refl

-- `--NAME`
abbrev pub flag_word : Text → Text
flag_word name = codes "--" ++ name

pub flag_reads : (name : Text) → is_option_name name ≡ true → long_of (flag_word name) ≡ Some (name, None)
flag_reads [] named = absurd (true≢false (sym named))
flag_reads (first ∷ rest) named =
    let none : list_any (λ x. x == 61) (first ∷ rest) ≡ false = not_true _ named in
    ap (λ name. Some (name, value_behind (first ∷ rest))) (before_first-Lacks 61 (first ∷ rest) (lacks (first ∷ rest) none))
    ∙ ap (λ has. Some (first ∷ rest, if has then Some (after_first (λ x. x == 61) (first ∷ rest)) else None)) none

pub flag_is_on : (name : Text) → is_option_name name ≡ true → bytes_eq (flag_word name) (codes "--") ≡ false
flag_is_on [] named = absurd (true≢false (sym named))
flag_is_on (first ∷ rest) named = refl

-- ---- a word that is refused

-- whichever values were given, the word is refused wherever it stands before `--`
pub refused_anywhere : (command : Text) (shape : Shape) (word program : Text) (before after : List Text) → IsEntered command shape → is_untrailed shape.rules ≡ true
    → bytes_eq word (codes "--") ≡ false → ((h : Held) → Fails (flag_word_fault shape.rules shape.args_override_self (long_of word) word h)) → has_dashes before ≡ false
    → asked (program ∷ command ∷ before ++ word ∷ after) ≡ None
refused_anywhere command shape word program before after entered untrailed on refuses no_dashes =
    fails_within command shape program (before ++ word ∷ after) entered
    (reaches shape GoesOn before (word ∷ after) (walk_from nothing_held) (λ w one other. stays_on shape.rules w one untrailed other) no_dashes
    (record { no_dashes = refl; on = refl }) (λ w goes. word_refused shape w word after on goes (refuses w.held)))

-- ---- the command's arguments

abbrev is_nothing : List Text → Bool
is_nothing [] = true
is_nothing (text ∷ texts) = false

-- a positional, or an option with one of these names and no other
abbrev is_own : List Text → Rule → Bool
is_own names a = is_some a.index || (option_map_or (λ long. is_one_of long names) a.long true && is_nothing a.aliases)

other_name : (names : List Text) (long name : Text) → is_one_of long names ≡ true → is_one_of name names ≡ false → bytes_eq long name ≡ false
other_name names long name among none = false_from_ne_true (bytes_eq long name) (λ same.
    true≢false (sym (subst (λ text. is_one_of text names ≡ true) ((bytes_eq-Decides long name).0 same) among) ∙ none))

other_names : (names : List Text) (name : Text) (index : Option ℕ) (long : Option Text) (aliases : List Text) → is_one_of name names ≡ false
    → (is_some index || (option_map_or (λ text. is_one_of text names) long true && is_nothing aliases)) ≡ true
    → (not (is_some index) && (option_map_or (λ text. bytes_eq text name) long false || list_any (λ alias. bytes_eq alias name) aliases)) ≡ false
other_names names name (Some i) long aliases none own = refl
other_names names name None None [] none own = refl
other_names names name None None (alias ∷ aliases) none own = absurd (true≢false (sym own))
other_names names name None (Some long) [] none own = or_from _ _ (other_name names long name (and_parts _ _ own).0 none) refl
other_names names name None (Some long) (alias ∷ aliases) none own = absurd (true≢false (sym (and_parts _ _ own).1))

abbrev pub help_row : Rule
help_row = filled help_rule

passes_over : (names : List Text) (name : Text) (own : List Rule) → is_one_of name names ≡ false → list_all (is_own names) own ≡ true
    → arg_by_long (own ++ help_row ∷ []) name ≡ arg_by_long (help_row ∷ []) name
passes_over names name [] none all = refl
passes_over names name (a ∷ own) none all =
    let parts = and_parts (is_own names a) (list_all (is_own names) own) all in
    cond-false (not (is_some a.index) && has_long a name) (Some a) (arg_by_long (own ++ help_row ∷ []) name) (other_names names name a.index a.long a.aliases none parts.0)
    ∙ passes_over names name own none parts.1

-- help is a fault too
pub help_fails : (c : List Rule) (again is_help : Bool) (given : Option Text) (h : Held) → Fails (long_fault c again (cond is_help (Some help_row) None) given h)
help_fails c again false given h = tt
help_fails c again true None h = second_fails (settle_fault c again h) _ tt
help_fails c again true (Some text) h = tt

-- the command's arguments are its positionals, these options, and help
record HasOptions (names : List Text) (shape : Shape) : Type 0 where
  own : List Rule
  rules : shape.rules ≡ own ++ help_row ∷ []
  all : list_all (is_own names) own ≡ true
  untrailed : is_untrailed shape.rules ≡ true

other_fails : (names : List Text) (shape : Shape) (name : Text) (given : Option Text) (word : Text) (h : Held) → HasOptions names shape → is_one_of name names ≡ false
    → Fails (long_fault shape.rules shape.args_override_self (arg_by_long shape.rules name) given h)
other_fails names shape name given word h has none =
    let found : arg_by_long shape.rules name ≡ arg_by_long (help_row ∷ []) name = ap (λ rules. arg_by_long rules name) has.rules ∙ passes_over names name has.own none has.all in
    subst (λ arg. Fails (long_fault shape.rules shape.args_override_self arg given h)) (sym found) (help_fails shape.rules shape.args_override_self _ given h)

takes_only : (command : Text) (names : List Text) (shape : Shape) → IsEntered command shape → HasOptions names shape → TakesOnly command names
takes_only command names shape entered has program [] ending before after plain none ends no_dashes = absurd (true≢false (sym plain))
takes_only command names shape entered has program (first ∷ rest) ending before after plain none ends no_dashes =
    let word : Text = codes "--" ++ (first ∷ rest) ++ ending in
    let long : long_of word ≡ Some (first ∷ rest, value_behind ((first ∷ rest) ++ ending)) = long_is first rest ending (not_true _ plain) ends in
    let refuses : (h : Held) → Fails (flag_word_fault shape.rules shape.args_override_self (long_of word) word h) = λ h.
    subst (λ found. Fails (flag_word_fault shape.rules shape.args_override_self found word h)) (sym long)
    (other_fails names shape (first ∷ rest) (value_behind ((first ∷ rest) ++ ending)) word h has none) in
    refused_anywhere command shape word program before after entered has.untrailed refl refuses no_dashes

-- ---- the commands

pub own_options : TakeOwnOptions
unfolding our_app clap_on_literals
own_options = record {
  judge = takes_only (codes "judge") (table_options ++ table_flags) (built_command judge_app) judge_entered (record { own = filled_from 1 judge_app.top.rules; rules = refl; all = refl; untrailed = refl });
  solve = takes_only (codes "solve") (solve_options ++ solve_flags) (built_command solve_app) solve_entered (record { own = filled_from 1 solve_app.top.rules; rules = refl; all = refl; untrailed = refl });
  check = takes_only (codes "check") (table_options ++ table_flags) (built_command check_app) check_entered (record { own = filled_from 1 check_app.top.rules; rules = refl; all = refl; untrailed = refl });
  tails = takes_only (codes "tails") (tails_options ++ table_flags) (built_command tails_app) tails_entered (record { own = filled_from 1 tails_app.top.rules; rules = refl; all = refl; untrailed = refl });
  due = takes_only (codes "due") (tails_options ++ table_flags) (built_command due_app) due_entered (record { own = filled_from 1 due_app.top.rules; rules = refl; all = refl; untrailed = refl });
  make = takes_only (codes "make") [] (built_command make_app) make_entered (record { own = filled_from 1 make_app.top.rules; rules = refl; all = refl; untrailed = refl });
  whatif = takes_only (codes "whatif") (table_options ++ table_flags) (built_command whatif_app) whatif_entered (record { own = filled_from 1 whatif_app.top.rules; rules = refl; all = refl; untrailed = refl });
}
