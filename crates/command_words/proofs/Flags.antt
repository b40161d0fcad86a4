-- A flag that is given twice, or with a value, is refused.
use Rattle.std.proofs.Common.{◌≡◌, ◌∙◌, true, false, List, [], ◌∷◌, Some, None, refl, sym, ap, subst, codes, length}
use Rattle.clap.proofs.OnLiterals.{clap_on_literals}
use Rattle.clap.specs.Facts.{unwrap_or_range}
use Rattle.clap.specs.Faults.{flag_word_fault, long_fault, settle_fault, values_fault}
use Rattle.clap.specs.Kinds.{range_kinds}
use Rattle.clap.specs.Lexer.{long_of}
use Rattle.clap.specs.Simple.{Shape, filled}
use Rattle.clap.specs.Walk.{Held, Rule, Text, Walk, after_flag, after_step, has_row, idle, long_met, long_or_other, most_values, reacted, settled, values_or_missing, walked, without}
use Rattle.command_words.specs.Program.{check_app, due_app, flag_named, judge_app, our_app, solve_app, tails_app, whatif_app}
use Rattle.command_words.specs.Refusals.{TakeFlagsPlainly, TakesEachPlainly, solve_flags, table_flags}
use Rattle.command_words.proofs.Entered.{IsEntered, check_entered, due_entered, judge_entered, solve_entered, tails_entered, whatif_entered}
use Rattle.command_words.proofs.Fails.{Fails, walked_is}
use Rattle.command_words.proofs.GivenRows.{settled_has, values_come}
use Rattle.command_words.proofs.OwnOptions.{flag_is_on, flag_reads, flag_word, option_is_on, option_reads, option_word, refused_anywhere}
use Rattle.command_words.proofs.PlainFolder.{built_command}
use Rattle.command_words.proofs.Twice.{Gives, HasAll, IsNamed, among_found, given_twice, set_fails}

flag_gives : (shape : Shape) (name : Text) → shape.args_override_self ≡ false → IsNamed flag_named shape.rules name → Gives shape name (flag_word name)
flag_gives shape name once is =
    let c : List Rule = shape.rules in
    let word : Text = flag_word name in
    let a : Rule = filled (flag_named name) in
    let reads : long_of word ≡ Some (name, None) = flag_reads name is.named in
    let on = flag_is_on name is.named in
    record {
      no_dashes = on;
      comes = λ w goes.
          let next_is : walked c [] w word ≡ record w { held = reacted c a [] w.held; waiting = idle } =
          walked_is c w word on goes
          ∙ ap (λ long. after_step c word w (long_or_other c w.waiting word long w.held).0 (long_or_other c w.waiting word long w.held).1) reads
          ∙ ap (λ arg. after_step c word w (after_flag c w.waiting word (long_met c arg None w.held).0 (long_met c arg None w.held).1).0
          (after_flag c w.waiting word (long_met c arg None w.held).0 (long_met c arg None w.held).1).1) is.found in
          subst (λ (after : Walk). has_row name after.held.rows ≡ true) (sym next_is)
          (values_come name name _ _ (codes "true" ∷ []) (without name (settled c w.held).rows) refl);
      repeats = λ h has.
          let fault_is : flag_word_fault c shape.args_override_self (long_of word) word h ≡ long_fault c shape.args_override_self (Some a) None h =
          ap (λ long. flag_word_fault c shape.args_override_self long word h) reads ∙ ap (λ arg. long_fault c shape.args_override_self arg None h) is.found in
          subst Fails (sym fault_is)
          (set_fails (settle_fault c shape.args_override_self h) (range_kinds (unwrap_or_range a.range).start_inclusive (most_values a) (length {A = Text} []))
          (values_fault a (values_or_missing a [])) shape.args_override_self (has_row name (settled c h).rows) once (settled_has name c h has));
    }

-- clap takes no value of it
value_refused : (shape : Shape) (name text : Text) (h : Held) → IsNamed flag_named shape.rules name
    → Fails (flag_word_fault shape.rules shape.args_override_self (long_of (option_word name text)) (option_word name text) h)
value_refused shape name text h is =
    let fault_is : flag_word_fault shape.rules shape.args_override_self (long_of (option_word name text)) (option_word name text) h
    ≡ long_fault shape.rules shape.args_override_self (Some (filled (flag_named name))) (Some text) h =
    ap (λ long. flag_word_fault shape.rules shape.args_override_self long (option_word name text) h) (option_reads name text is.named)
    ∙ ap (λ arg. long_fault shape.rules shape.args_override_self arg (Some text) h) is.found in
    subst Fails (sym fault_is) tt

takes_each_plainly : (command : Text) (shape : Shape) (names : List Text) → IsEntered command shape → HasAll flag_named shape names → TakesEachPlainly command names
takes_each_plainly command shape names entered has name among =
    let is = among_found flag_named shape.rules names name has.named has.found among in
    let gives = flag_gives shape name has.once is in
    record {
      once = λ program before between after none_before none_between.
          given_twice command shape name (flag_word name) (flag_word name) program before between after entered has.untrailed gives gives none_before none_between;
      no_value = λ program text before after no_dashes.
          refused_anywhere command shape (option_word name text) program before after entered has.untrailed (option_is_on name text) (λ h. value_refused shape name text h is) no_dashes;
    }

-- ---- the commands

pub flags_plainly : TakeFlagsPlainly
unfolding our_app clap_on_literals
flags_plainly = record {
  judge = takes_each_plainly (codes "judge") (built_command judge_app) table_flags judge_entered (record { untrailed = refl; once = refl; named = refl; found = (refl, (refl, tt)) });
  solve = takes_each_plainly (codes "solve") (built_command solve_app) solve_flags solve_entered (record { untrailed = refl; once = refl; named = refl; found = (refl, (refl, (refl, (refl, tt)))) });
  check = takes_each_plainly (codes "check") (built_command check_app) table_flags check_entered (record { untrailed = refl; once = refl; named = refl; found = (refl, (refl, tt)) });
  tails = takes_each_plainly (codes "tails") (built_command tails_app) table_flags tails_entered (record { untrailed = refl; once = refl; named = refl; found = (refl, (refl, tt)) });
  due = takes_each_plainly (codes "due") (built_command due_app) table_flags due_entered (record { untrailed = refl; once = refl; named = refl; found = (refl, (refl, tt)) });
  whatif = takes_each_plainly (codes "whatif") (built_command whatif_app) table_flags whatif_entered (record { untrailed = refl; once = refl; named = refl; found = (refl, (refl, tt)) });
}
