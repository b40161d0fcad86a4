-- A folder that is no option needs no `--` before it.
use Rattle.std.proofs.Common.{◌≡◌, ◌==◌, ◌∙◌, ℕ, true, false, List, [], ◌∷◌, Option, Some, None, refl, ap, ap₂, codes, sym, true≢false, arith, inl, inr}
use Rattle.std.specs.Prelude.{if◌then◌else◌, bytes_eq, option_and_then}
use Rattle.std.specs.Option.{option_map_or}
use Rattle.std.proofs.lemmas.Bool.{cases_Bool}
use Rattle.std.proofs.lemmas.Bool.Decides.{nat_tests}
use Rattle.clap.proofs.OnLiterals.{clap_on_literals}
use Rattle.clap.specs.Faults.{bundle_fault, check_fault, defaults_fault, flag_word_fault, level_fault, settle_fault, step_fault, walk_fault, word_fault}
use Rattle.clap.specs.Kinds.{Kinds, or_else}
use Rattle.clap.specs.Lexer.{long_of, short_of}
use Rattle.clap.specs.Simple.{App, Shape, built_leaf, inherited, marked_built, on_top, with_leaf_noted}
use Rattle.clap.specs.Walk.{Held, Row, Rule, Step, Text, Walk, after_step, finished, idle, long_or_other, nothing_held, settled, short_or_plain, trailing, value, walk_from, walked, word_met}
use Rattle.command_words.specs.Plain.{ChecksPlainly, JudgesPlainly, SolvesPlainly, default_options, default_reading, is_alone, is_plain_name}
use Rattle.command_words.specs.Found.{found, without_fault}
use Rattle.command_words.specs.Program.{check_app, judge_app, our_app, solve_app}
use Rattle.command_words.specs.Words.{Asked, asked, check_at, command_in, judge_at, solve_at}

-- no option, by clap's reading of a word
pub record IsPlain (word : Text) : Type 0 where
  pub dashes : bytes_eq word (45 ∷ 45 ∷ []) ≡ false
  pub long : long_of word ≡ None
  pub short : short_of word ≡ None

-- what does not begin with a dash, or is one alone, is no option
other_first : (first : ℕ) (rest : Text) → (first == 45) ≡ false → IsPlain (first ∷ rest)
other_first first rest other = record { dashes = rw other refl; long = rw other refl; short = rw other refl }

dash_alone : (first : ℕ) → first ≡ 45 → IsPlain (first ∷ [])
dash_alone first same = rw same (record { dashes = refl; long = refl; short = refl })

pub is_plain : (word : Text) → is_plain_name word ≡ true → IsPlain word
is_plain [] plain = record { dashes = refl; long = refl; short = refl }
is_plain (first ∷ rest) plain = elim (cases_Bool (first == 45)) [
  | inl dash ↦ alone rest (rw dash at plain) dash
  | inr other ↦ other_first first rest other
]
  where
    alone : (more : Text) → is_alone more ≡ true → (first == 45) ≡ true → IsPlain (first ∷ more)
    alone [] none dash = dash_alone first (grind (arith, nat_tests))
    alone (second ∷ more) none dash = absurd (true≢false (sym none))

-- the word is a value
pub is_value : (rules : List Rule) (position : ℕ) (word : Text) (h : Held) → IsPlain word → word_met rules [] false idle position word h ≡ (h, value)
is_value rules position word h plain =
    ap (λ d. if d then (h, trailing position) else long_or_other rules idle word (long_of word) h) plain.dashes
    ∙ ap (λ l. long_or_other rules idle word l h) plain.long
    ∙ ap (λ s. short_or_plain rules idle word s h) plain.short

pub no_flag : (shape : Shape) (word : Text) (h : Held) → IsPlain word → word_fault shape [] false idle word h ≡ []
no_flag shape word h plain =
    ap (λ d. if d then [] else flag_word_fault shape.rules shape.args_override_self (long_of word) word h) plain.dashes
    ∙ ap (λ l. flag_word_fault shape.rules shape.args_override_self l word h) plain.long
    ∙ ap (λ s. option_map_or (λ flags. bundle_fault shape.rules shape.args_override_self flags h) s []) plain.short

abbrev at_start : Walk
at_start = walk_from nothing_held

-- the walk that takes a word for a value
abbrev at_end : Shape → Text → Walk
at_end shape word = after_step shape.rules word at_start nothing_held value

walks : (shape : Shape) (word : Text) → IsPlain word → walked shape.rules [] at_start word ≡ at_end shape word
unfolding walked
walks shape word plain = ap (λ met. after_step shape.rules word at_start met.0 met.1) (is_value shape.rules 1 word nothing_held plain)

abbrev step_at : Shape → Held × Step → Kinds
step_at shape met = step_fault shape 1 met.0 met.1

-- the faults of a command, by those of its one word and where the walk ends
abbrev after_walk : Shape → Kinds → Walk → Kinds
after_walk shape fault end = or_else (or_else fault []) (or_else [] (or_else (settle_fault shape.rules shape.args_override_self end.held)
    (or_else (defaults_fault (settled shape.rules end.held).rows shape.rules) (check_fault shape (finished shape.rules end.held) false))))

level : (shape : Shape) (word : Text) → step_at shape (nothing_held, value) ≡ [] → after_walk shape [] (at_end shape word) ≡ [] → IsPlain word
    → level_fault shape [] nothing_held (word ∷ []) false [] ≡ []
unfolding walk_fault
level shape word stays ends plain =
    let turn = ap₂ or_else (no_flag shape word nothing_held plain) (ap (step_at shape) (is_value shape.rules 1 word nothing_held plain) ∙ stays) in
    ap₂ (after_walk shape) turn (walks shape word plain) ∙ ends

abbrev pub rows_by : Shape → Walk → Text × List Row
rows_by shape end = (shape.name, finished shape.rules end.held)

abbrev pub answer : Kinds → Text × List Row → Option Asked
answer fault named = option_and_then command_in (without_fault (or_else fault []) (Some named))

abbrev pub built_command : App → Shape
built_command app = built_leaf (inherited (on_top with_leaf_noted (on_top marked_built our_app)).top app.top)

-- the command takes one word, and asks for this by it
record AsksByOne (command : Text) (app : App) (wanted : Text → Option Asked) : Type 0 where
  stays : step_at (built_command app) (nothing_held, value) ≡ []
  ends : (word : Text) → after_walk (built_command app) [] (at_end (built_command app) word) ≡ []
  parts : (program word : Text) → asked (program ∷ command ∷ word ∷ [])
      ≡ answer (level_fault (built_command app) [] nothing_held (word ∷ []) false []) (rows_by (built_command app) (walked (built_command app).rules [] at_start word))
  answers : (word : Text) → answer [] (rows_by (built_command app) (at_end (built_command app) word)) ≡ wanted word

asks_plainly_by : (command : Text) (app : App) (wanted : Text → Option Asked) → AsksByOne command app wanted → (program word : Text) → is_plain_name word ≡ true → asked (program ∷ command ∷ word ∷ []) ≡ wanted word
asks_plainly_by command app wanted asks program word folder =
    let plain = is_plain word folder in
    asks.parts program word ∙ ap₂ answer (level (built_command app) word asks.stays (asks.ends word) plain) (ap (rows_by (built_command app)) (walks (built_command app) word plain)) ∙ asks.answers word

judge_asks : AsksByOne (codes "judge") judge_app (judge_at default_reading)
unfolding asked found our_app clap_on_literals
judge_asks = record { stays = refl; ends = λ word. refl; parts = λ program word. refl; answers = λ word. refl }

pub judges_plainly : JudgesPlainly
judges_plainly = asks_plainly_by (codes "judge") judge_app (judge_at default_reading) judge_asks

solve_asks : AsksByOne (codes "solve") solve_app (solve_at default_reading default_options)
unfolding asked found our_app clap_on_literals
solve_asks = record { stays = refl; ends = λ word. refl; parts = λ program word. refl; answers = λ word. refl }

pub solves_plainly : SolvesPlainly
solves_plainly = asks_plainly_by (codes "solve") solve_app (solve_at default_reading default_options) solve_asks

check_asks : AsksByOne (codes "check") check_app (check_at default_reading)
unfolding asked found our_app clap_on_literals
check_asks = record { stays = refl; ends = λ word. refl; parts = λ program word. refl; answers = λ word. refl }

pub checks_plainly : ChecksPlainly
checks_plainly = asks_plainly_by (codes "check") check_app (check_at default_reading) check_asks
