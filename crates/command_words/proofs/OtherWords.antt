-- A first word that is no command's name asks for nothing.
use Rattle.std.proofs.Common.{◌≡◌, ◌∙◌, ◌&&◌, ◌||◌, not, is_some, ℕ, zero, suc, Bool, true, false, List, [], ◌∷◌, ◌++◌, map, find, Option, Some, None, refl, sym, ap, subst, codes, bytes_eq, if◌then◌else◌, cond, length, slice_get, chars, inl, inr, option_map}
use Rattle.std.specs.Prelude.{drop, encode_utf8}
use Rattle.std.specs.Option.{option_map_or}
use Rattle.std.proofs.lemmas.Bool.{cases_Bool, cond-false, or_from, or_parts}
use Rattle.std.proofs.lemmas.Slice.Eq.{bytes_eq-Decides}
use Rattle.clap.proofs.OnLiterals.{clap_on_literals}
use Rattle.clap.specs.Faults.{bundle_fault, bundle_step_fault, fault_of, flag_word_fault, flags_fault, other_fault, short_fault, step_fault, turn_fault, walk_fault}
use Rattle.clap.specs.Kinds.{Kinds, or_else}
use Rattle.clap.specs.Lexer.{long_of, short_of}
use Rattle.clap.specs.Simple.{names_of, subcommand_of}
use Rattle.clap.specs.Walk.{Held, Rule, Step, Text, after_flag, answers_to, bundle_met, bundle_step, has_long, has_short, idle, long_or_other, nothing_held, plain, short_or_plain, subcommand_met, subcommand_or_other, trailing, walk, walk_from}
use Rattle.command_words.specs.Found.{found}
use Rattle.command_words.specs.Program.{our_app}
use Rattle.command_words.specs.Refusals.{NameAloneAsksNothing, NoWordsAskNothing, OtherWordsAskNothing, commands, is_one_of}
use Rattle.command_words.specs.Words.{asked}
use Rattle.command_words.proofs.Entered.{ours, whole_fault}
use Rattle.command_words.proofs.Fails.{Fails, asks_nothing, first_fails}
use Rattle.command_words.proofs.OwnOptions.{help_fails, help_row}

pub no_words : NoWordsAskNothing
unfolding asked found our_app clap_on_literals
no_words = refl

pub name_alone : NameAloneAsksNothing
unfolding asked found our_app clap_on_literals
name_alone program = refl

dashes_alone : (program : Text) (after : List Text) → asked (program ∷ codes "--" ∷ after) ≡ None
unfolding asked found our_app clap_on_literals
dashes_alone program [] = refl
dashes_alone program (word ∷ after) = refl

-- ---- the name

-- a name without another
abbrev alone : Text → Text × List Text
alone name = (name, [])

-- the subcommand that a word names among some
abbrev named_among : List (Text × List Text) → Text → Option Text
named_among names word = option_map (λ (label : Text × List Text). label.0) (find (answers_to word) names)

-- the commands, and help
names_are : names_of ours ≡ map alone (commands ++ codes "help" ∷ [])
unfolding our_app
names_are = refl

abbrev help_named : Bool → Option Text
help_named help = if help then Some (codes "help") else None

none_among : (names : List Text) (word : Text) → is_one_of word names ≡ false → named_among (map alone (names ++ codes "help" ∷ [])) word ≡ help_named (bytes_eq (codes "help") word)
none_among [] word none = elim (bytes_eq (codes "help") word) as (λ b. option_map (λ (label : Text × List Text). label.0) (cond (b || false) (Some (alone (codes "help"))) None) ≡ help_named b) [
  | true ↦ refl
  | false ↦ refl
]
none_among (name ∷ names) word none =
    let parts = or_parts (bytes_eq name word) (is_one_of word names) none in
    ap (option_map (λ (label : Text × List Text). label.0))
    (cond-false (bytes_eq name word || false) (Some (alone name)) (find (answers_to word) (map alone (names ++ codes "help" ∷ []))) (or_from _ _ parts.0 refl))
    ∙ none_among names word parts.1

none_named : (word : Text) → is_one_of word commands ≡ false → subcommand_met (names_of ours) idle word ≡ help_named (bytes_eq (codes "help") word)
none_named word none = ap (λ names. named_among names word) names_are ∙ none_among commands word none

-- ---- the first word

-- what a word comes to, by what it is read as
abbrev turn_met : Kinds → Held × Step → Kinds
turn_met fault met = or_else fault (step_fault ours.top 1 met.0 met.1)

-- a character that is no flag's is a fault, and so is help
short_help : (c : List Rule) (again is_help : Bool) (rest : Text) (after : Held → Kinds)
    → Fails (short_fault c again (cond is_help (Some help_row) None) rest nothing_held after)
short_help c again false rest after = tt
short_help c again true rest after = tt

-- a character of `-abc`
flags_stop : (k : ℕ) (first : Option ℕ) (flags word : Text) → Fails (turn_met
    (bundle_step_fault ours.top.rules ours.top.args_override_self first flags 0 nothing_held (flags_fault ours.top.rules ours.top.args_override_self k))
    (after_flag ours.top.rules idle word (bundle_step ours.top.rules first flags 0 plain nothing_held (bundle_met ours.top.rules k)).0
    (bundle_step ours.top.rules first flags 0 plain nothing_held (bundle_met ours.top.rules k)).1))
unfolding our_app
flags_stop k None flags word = tt
flags_stop k (Some x) flags word = first_fails _ _ (short_help ours.top.rules ours.top.args_override_self (not (is_some help_row.index) && has_short help_row x)
    (drop (length (encode_utf8 x)) flags) (flags_fault ours.top.rules ours.top.args_override_self k (drop (length (encode_utf8 x)) flags) 0))

flags_fail : (n : ℕ) (flags word : Text) → Fails (turn_met (flags_fault ours.top.rules ours.top.args_override_self n flags 0 nothing_held)
    (after_flag ours.top.rules idle word (bundle_met ours.top.rules n flags 0 plain nothing_held).0 (bundle_met ours.top.rules n flags 0 plain nothing_held).1))
unfolding our_app flags_fault bundle_met
flags_fail zero flags word = tt
flags_fail (suc k) flags word = flags_stop k (slice_get (chars flags) 0) flags word

short_fails : (short : Option Text) (word : Text) → Fails (turn_met (option_map_or (λ flags. bundle_fault ours.top.rules ours.top.args_override_self flags nothing_held) short [])
    (short_or_plain ours.top.rules idle word short nothing_held))
unfolding our_app
short_fails None word = tt
short_fails (Some flags) word = flags_fail (length flags) flags word

long_fails : (long : Option (Text × Option Text)) (word : Text) → Fails (turn_met (flag_word_fault ours.top.rules ours.top.args_override_self long word nothing_held)
    (long_or_other ours.top.rules idle word long nothing_held))
unfolding our_app
long_fails None word = short_fails (short_of word) word
long_fails (Some long) word = first_fails (flag_word_fault ours.top.rules ours.top.args_override_self (Some long) word nothing_held) _
    (help_fails ours.top.rules ours.top.args_override_self (not (is_some help_row.index) && has_long help_row long.0) long.1 nothing_held)

-- no subcommand was named, and the word is no `--`
option_fails : (word : Text) (dashes : Bool) → dashes ≡ false → Fails (turn_met (if dashes then [] else flag_word_fault ours.top.rules ours.top.args_override_self (long_of word) word nothing_held)
    (if dashes then (nothing_held, trailing 1) else long_or_other ours.top.rules idle word (long_of word) nothing_held))
option_fails word dashes other = subst (λ b. Fails (turn_met (if b then [] else flag_word_fault ours.top.rules ours.top.args_override_self (long_of word) word nothing_held)
    (if b then (nothing_held, trailing 1) else long_or_other ours.top.rules idle word (long_of word) nothing_held))) (sym other) (long_fails (long_of word) word)

word_fails : (word : Text) (help : Bool) → bytes_eq word (codes "--") ≡ false
    → Fails (turn_met (other_fault ours.top (help_named help) word nothing_held) (subcommand_or_other ours.top.rules (help_named help) idle 1 word nothing_held))
unfolding our_app
word_fails word true other = tt
word_fails word false other = option_fails word (bytes_eq word (codes "--")) other

turn_fails : (word : Text) → is_one_of word commands ≡ false → bytes_eq word (codes "--") ≡ false → Fails (turn_fault ours.top (names_of ours) (walk_from nothing_held) word)
turn_fails word none other =
    subst (λ named. Fails (turn_met (other_fault ours.top named word nothing_held) (subcommand_or_other ours.top.rules named idle 1 word nothing_held)))
    (sym (none_named word none))
    (word_fails word (bytes_eq (codes "help") word) other)

from_start : (program : Text) (words : List Text) → fault_of our_app (program ∷ words)
    ≡ whole_fault (walk_fault ours.top (names_of ours) (walk_from nothing_held) words) (walk ours.top.rules (names_of ours) nothing_held words)
unfolding our_app
from_start program words = refl

starts_badly : (program word : Text) (after : List Text) → is_one_of word commands ≡ false → bytes_eq word (codes "--") ≡ false → asked (program ∷ word ∷ after) ≡ None
unfolding asked found walk_fault
starts_badly program word after none other =
    asks_nothing (fault_of our_app (program ∷ word ∷ after)) (subcommand_of our_app (program ∷ word ∷ after))
    (subst Fails (sym (from_start program (word ∷ after))) (first_fails (walk_fault ours.top (names_of ours) (walk_from nothing_held) (word ∷ after)) _
    (first_fails (turn_fault ours.top (names_of ours) (walk_from nothing_held) word) _ (turn_fails word none other))))

pub other_words : OtherWordsAskNothing
other_words program word after none = elim (cases_Bool (bytes_eq word (codes "--"))) [
  | inl dashes ↦ subst (λ text. asked (program ∷ text ∷ after) ≡ None) (sym ((bytes_eq-Decides word (codes "--")).0 dashes)) (dashes_alone program after)
  | inr other ↦ starts_badly program word after none other
]
