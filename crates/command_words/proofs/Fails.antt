-- Faults of a walk: where a word before `--` is refused, there is one.
use Rattle.std.proofs.Common.{◌≡◌, ◌∙◌, not, Bool, true, false, List, [], ◌∷◌, ◌++◌, Option, Some, None, is_some, refl, sym, ap, subst, codes, bytes_eq, if◌then◌else◌, find}
use Rattle.std.specs.Prelude.{⊤, option_and_then}
use Rattle.std.specs.List.{list_all}
use Rattle.std.proofs.lemmas.Bool.{and_parts, cond_both, or_from, or_parts}
use Rattle.sums.proofs.Tests.{not_true}
use Rattle.clap.specs.Faults.{flag_word_fault, other_fault, step_fault, turn_fault, walk_fault, word_fault}
use Rattle.clap.specs.Kinds.{Kinds, or_else}
use Rattle.clap.specs.Lexer.{long_of, short_of}
use Rattle.clap.specs.Simple.{Shape}
use Rattle.clap.specs.Walk.{Held, Outcome, Rule, Step, Text, Waiting, Walk, after_flag, after_step, arg_by_index, done, idle, long_or_other, next, option, plain, plain_word, positional, refused, short_or_plain, subcommand, subcommand_met, subcommand_or_other, to_positional, trailing, value, waits, walked, walked_from, word_met}
use Rattle.command_words.specs.Refusals.{has_dashes}
use Rattle.clap.specs.Words.{Row}
use Rattle.command_words.specs.Found.{without_fault}
use Rattle.command_words.specs.Words.{command_in}

-- there is a fault
abbrev pub Fails : Kinds → Type 0
Fails [] = ⊥
Fails (fault ∷ more) = ⊤

pub first_fails : (fault after : Kinds) → Fails fault → Fails (or_else fault after)
first_fails [] after fails = absurd fails
first_fails (fault ∷ more) after fails = tt

pub second_fails : (fault after : Kinds) → Fails after → Fails (or_else fault after)
second_fails [] after fails = fails
second_fails (fault ∷ more) after fails = tt

pub asks_nothing : (fault : Kinds) (named : Option (Text × List Row)) → Fails fault → option_and_then command_in (without_fault fault named) ≡ None
asks_nothing [] named fails = absurd fails
asks_nothing (fault ∷ more) named fails = refl

-- ---- words before `--`

-- the walk goes on, and no `--` was met
pub record GoesOn (w : Walk) : Type 0 where
  pub no_dashes : w.is_trailing ≡ false
  pub on : w.stopped ≡ None

-- the word is no `--` and no subcommand
abbrev pub IsOn : Step → Type 0
IsOn (next waiting) = ⊤
IsOn (trailing position) = ⊥
IsOn (subcommand name) = ⊥
IsOn value = ⊤

plain_on : (c : List Rule) (waiting : Waiting) (word : Text) (h : Held) → IsOn (plain_word c waiting word h).1
plain_on c idle word h = tt
plain_on c (option id) word h = tt
plain_on c positional word h = tt

flag_on : (c : List Rule) (waiting : Waiting) (word : Text) (h : Held) (outcome : Outcome) → IsOn (after_flag c waiting word h outcome).1
flag_on c waiting word h done = tt
flag_on c waiting word h (waits id) = tt
flag_on c waiting word h plain = plain_on c waiting word h
flag_on c waiting word h refused = plain_on c waiting word h

short_on : (c : List Rule) (waiting : Waiting) (word : Text) (flags : Option Text) (h : Held) → IsOn (short_or_plain c waiting word flags h).1
short_on c waiting word None h = plain_on c waiting word h
short_on c waiting word (Some flags) h = flag_on c waiting word _ _

word_on : (c : List Rule) (waiting : Waiting) (word : Text) (long : Option (Text × Option Text)) (h : Held) → IsOn (long_or_other c waiting word long h).1
word_on c waiting word None h = short_on c waiting word (short_of word) h
word_on c waiting word (Some long) h = flag_on c waiting word _ _

-- behind none of these arguments all words are values
abbrev pub is_untrailed : List Rule → Bool
is_untrailed = list_all (λ a. not a.trailing_var_arg)

abbrev pub trails : Option Rule → Bool
trails None = false
trails (Some a) = a.trailing_var_arg

none_trails : (test : Rule → Bool) (c : List Rule) → is_untrailed c ≡ true → trails (find test c) ≡ false
none_trails test [] untrailed = refl
none_trails test (a ∷ c) untrailed =
    let parts = and_parts (not a.trailing_var_arg) (is_untrailed c) untrailed in
    cond_both (test a) (Some a) (find test c) (λ arg. trails arg ≡ false) (λ e. not_true a.trailing_var_arg parts.0) (λ e. none_trails test c parts.1)

argument_on : (c : List Rule) (arg : Option Rule) (word : Text) (w : Walk) (h : Held) → trails arg ≡ false → GoesOn w → GoesOn (to_positional c arg word w h)
argument_on c None word w h untrailed goes = record { no_dashes = goes.no_dashes; on = goes.on }
argument_on c (Some a) word w h untrailed goes = record { no_dashes = or_from w.is_trailing a.trailing_var_arg goes.no_dashes untrailed; on = refl }

step_on : (c : List Rule) (word : Text) (w : Walk) (h : Held) (step : Step) → is_untrailed c ≡ true → IsOn step → GoesOn w → GoesOn (after_step c word w h step)
step_on c word w h (next waiting) untrailed on goes = record { no_dashes = goes.no_dashes; on = goes.on }
step_on c word w h (trailing position) untrailed on goes = absurd on
step_on c word w h (subcommand name) untrailed on goes = absurd on
step_on c word w h value untrailed on goes = argument_on c (arg_by_index c w.position) word w h (none_trails _ c untrailed) goes

no_names : (waiting : Waiting) (word : Text) → subcommand_met [] waiting word ≡ None
no_names idle word = refl
no_names (option id) word = refl
no_names positional word = refl

-- a word that is no `--` is read by its first bytes
pub met_is : (c : List Rule) (w : Walk) (word : Text) → bytes_eq word (codes "--") ≡ false → GoesOn w
    → word_met c [] w.is_trailing w.waiting w.position word w.held ≡ long_or_other c w.waiting word (long_of word) w.held
met_is c w word other goes =
    ap (λ b. if b then (w.held, value) else subcommand_or_other c (subcommand_met [] w.waiting word) w.waiting w.position word w.held) goes.no_dashes
    ∙ ap (λ name. subcommand_or_other c name w.waiting w.position word w.held) (no_names w.waiting word)
    ∙ ap (λ b. if b then (w.held, trailing w.position) else long_or_other c w.waiting word (long_of word) w.held) other

pub walked_is : (c : List Rule) (w : Walk) (word : Text) → bytes_eq word (codes "--") ≡ false → GoesOn w
    → walked c [] w word ≡ after_step c word w (long_or_other c w.waiting word (long_of word) w.held).0 (long_or_other c w.waiting word (long_of word) w.held).1
unfolding walked
walked_is c w word other goes =
    ap (λ stop. walked_from c [] stop w word) goes.on ∙ ap (λ met. after_step c word w met.0 met.1) (met_is c w word other goes)

pub stays_on : (c : List Rule) (w : Walk) (word : Text) → is_untrailed c ≡ true → bytes_eq word (codes "--") ≡ false → GoesOn w → GoesOn (walked c [] w word)
stays_on c w word untrailed other goes =
    subst GoesOn (sym (walked_is c w word other goes)) (step_on c word w _ _ untrailed (word_on c w.waiting word (long_of word) w.held) goes)

-- the fault of a word that is no `--`, and no value either
fault_is : (s : Shape) (w : Walk) (word : Text) → bytes_eq word (codes "--") ≡ false → GoesOn w
    → word_fault s [] w.is_trailing w.waiting word w.held ≡ flag_word_fault s.rules s.args_override_self (long_of word) word w.held
fault_is s w word other goes =
    ap (λ b. if b then [] else other_fault s (subcommand_met [] w.waiting word) word w.held) goes.no_dashes
    ∙ ap (λ name. other_fault s name word w.held) (no_names w.waiting word)
    ∙ ap (λ b. if b then [] else flag_word_fault s.rules s.args_override_self (long_of word) word w.held) other

turn_is : (s : Shape) (w : Walk) (word : Text) → bytes_eq word (codes "--") ≡ false → GoesOn w
    → turn_fault s [] w word
    ≡ or_else (flag_word_fault s.rules s.args_override_self (long_of word) word w.held)
    (step_fault s w.position (word_met s.rules [] w.is_trailing w.waiting w.position word w.held).0 (word_met s.rules [] w.is_trailing w.waiting w.position word w.held).1)
turn_is s w word other goes =
    let after : Kinds = step_fault s w.position (word_met s.rules [] w.is_trailing w.waiting w.position word w.held).0 (word_met s.rules [] w.is_trailing w.waiting w.position word w.held).1 in
    ap (λ stop. if is_some stop then [] else or_else (word_fault s [] w.is_trailing w.waiting word w.held) after) goes.on
    ∙ ap (λ fault. or_else fault after) (fault_is s w word other goes)

-- a word that is refused as an option ends the walk
pub word_refused : (s : Shape) (w : Walk) (word : Text) (rest : List Text) → bytes_eq word (codes "--") ≡ false → GoesOn w
    → Fails (flag_word_fault s.rules s.args_override_self (long_of word) word w.held) → Fails (walk_fault s [] w (word ∷ rest))
unfolding walk_fault
word_refused s w word rest other goes fails =
    first_fails (turn_fault s [] w word) (walk_fault s [] (walked s.rules [] w word) rest) (subst Fails (sym (turn_is s w word other goes)) (first_fails _ _ fails))

-- words before it fail, or come to it; what holds of the walk and stays so then holds there
pub reaches : (s : Shape) (Kept : Walk → Type 0) (before rest : List Text) (w : Walk)
    → ((w : Walk) (word : Text) → bytes_eq word (codes "--") ≡ false → Kept w → Kept (walked s.rules [] w word))
    → has_dashes before ≡ false → Kept w → ((w : Walk) → Kept w → Fails (walk_fault s [] w rest)) → Fails (walk_fault s [] w (before ++ rest))
unfolding walk_fault
reaches s Kept [] rest w stays none kept fails = fails w kept
reaches s Kept (word ∷ before) rest w stays none kept fails =
    let parts = or_parts (bytes_eq word (codes "--")) (has_dashes before) none in
    second_fails (turn_fault s [] w word) (walk_fault s [] (walked s.rules [] w word) (before ++ rest))
    (reaches s Kept before rest (walked s.rules [] w word) stays parts.1 (stays w word parts.0 kept) fails)
