-- The words behind a command's name are its own: where they fail, nothing is asked for.
use Rattle.std.proofs.Common.{◌≡◌, ◌∙◌, Bool, false, List, [], ◌∷◌, ◌++◌, Some, None, is_some, refl, sym, ap, ap₂, subst, codes, append-nil, append_assoc}
use Rattle.std.specs.Prelude.{fold}
use Rattle.clap.proofs.OnLiterals.{clap_on_literals}
use Rattle.clap.specs.Faults.{check_fault, defaults_fault, entered_fault, fault_of, level_fault, settle_fault, walk_fault}
use Rattle.clap.specs.Kinds.{Kinds, or_else}
use Rattle.clap.specs.Simple.{App, Shape, built, entered, names_of, subcommand_of}
use Rattle.clap.specs.Walk.{Names, Rule, Text, Walk, finished, nothing_held, settled, walk_from, walked}
use Rattle.command_words.specs.Found.{found}
use Rattle.command_words.specs.Program.{check_app, due_app, judge_app, make_app, our_app, solve_app, tails_app, whatif_app}
use Rattle.command_words.specs.Words.{asked}
use Rattle.command_words.proofs.Fails.{Fails, asks_nothing, first_fails}
use Rattle.command_words.proofs.PlainFolder.{built_command}

abbrev pub ours : App
ours = built our_app

-- the walk has met a command's name, and these words behind it
abbrev pub halted : Text → List Text → Walk
halted name words = record (walk_from nothing_held) { stopped = Some (name, words) }

collects : (rules : List Rule) (names : Names) (name : Text) (so_far words : List Text)
    → fold (walked rules names) (halted name so_far) words ≡ halted name (so_far ++ words)
unfolding walked
collects rules names name so_far [] = ap (halted name) (sym (append-nil so_far))
collects rules names name so_far (word ∷ words) = collects rules names name (so_far ++ word ∷ []) words ∙ ap (halted name) (append_assoc so_far (word ∷ []) words)

silent : (s : Shape) (names : Names) (name : Text) (so_far words : List Text) → walk_fault s names (halted name so_far) words ≡ []
unfolding walk_fault walked
silent s names name so_far [] = refl
silent s names name so_far (word ∷ words) = silent s names name (so_far ++ word ∷ []) words

-- the faults of all words, by those of the walk over them and where it ends
abbrev pub last_fault : Walk → Bool → Kinds
last_fault end found = or_else (settle_fault ours.top.rules ours.top.args_override_self end.held)
    (or_else (defaults_fault (settled ours.top.rules end.held).rows ours.top.rules) (check_fault ours.top (finished ours.top.rules end.held) found))

abbrev pub whole_fault : Kinds → Walk → Kinds
whole_fault fault end = or_else fault (or_else (entered_fault ours end.stopped) (last_fault end (is_some (entered ours end.stopped))))

-- the command of this shape is entered by this name
pub record IsEntered (name : Text) (shape : Shape) : Type 0 where
  pub starts : (program : Text) (words : List Text) → fault_of our_app (program ∷ name ∷ words)
      ≡ whole_fault (walk_fault ours.top (names_of ours) (halted name []) words) (fold (walked ours.top.rules (names_of ours)) (halted name []) words)
  pub enters : (words : List Text) → entered_fault ours (Some (name, words)) ≡ level_fault shape [] nothing_held words false []

pub fails_within : (name : Text) (shape : Shape) (program : Text) (words : List Text) → IsEntered name shape → Fails (walk_fault shape [] (walk_from nothing_held) words)
    → asked (program ∷ name ∷ words) ≡ None
unfolding asked found
fails_within name shape program words enters fails =
    let same : fault_of our_app (program ∷ name ∷ words) ≡ whole_fault [] (halted name words) =
    enters.starts program words ∙ ap₂ whole_fault (silent ours.top (names_of ours) name [] words) (collects ours.top.rules (names_of ours) name [] words) in
    let below : Fails (entered_fault ours (Some (name, words))) = subst Fails (sym (enters.enters words)) (first_fails (walk_fault shape [] (walk_from nothing_held) words) _ fails) in
    asks_nothing (fault_of our_app (program ∷ name ∷ words)) (subcommand_of our_app (program ∷ name ∷ words))
    (subst Fails (sym same) (first_fails (entered_fault ours (Some (name, words))) _ below))

pub judge_entered : IsEntered (codes "judge") (built_command judge_app)
unfolding our_app clap_on_literals
judge_entered = record { starts = λ program words. refl; enters = λ words. refl }

pub solve_entered : IsEntered (codes "solve") (built_command solve_app)
unfolding our_app clap_on_literals
solve_entered = record { starts = λ program words. refl; enters = λ words. refl }

pub check_entered : IsEntered (codes "check") (built_command check_app)
unfolding our_app clap_on_literals
check_entered = record { starts = λ program words. refl; enters = λ words. refl }

pub tails_entered : IsEntered (codes "tails") (built_command tails_app)
unfolding our_app clap_on_literals
tails_entered = record { starts = λ program words. refl; enters = λ words. refl }

pub due_entered : IsEntered (codes "due") (built_command due_app)
unfolding our_app clap_on_literals
due_entered = record { starts = λ program words. refl; enters = λ words. refl }

pub make_entered : IsEntered (codes "make") (built_command make_app)
unfolding our_app clap_on_literals
make_entered = record { starts = λ program words. refl; enters = λ words. refl }

pub whatif_entered : IsEntered (codes "whatif") (built_command whatif_app)
unfolding our_app clap_on_literals
whatif_entered = record { starts = λ program words. refl; enters = λ words. refl }
