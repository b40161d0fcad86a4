-- Three words of a command that are no options need no `--` before them.
use Rattle.std.proofs.Common.{◌≡◌, ◌∙◌, ℕ, false, List, [], ◌∷◌, refl, ap, ap₂}
use Rattle.std.specs.Prelude.{fold}
use Rattle.clap.specs.Faults.{check_fault, defaults_fault, level_fault, settle_fault, step_fault, turn_fault, walk_fault}
use Rattle.clap.specs.Kinds.{Kinds, or_else}
use Rattle.clap.specs.Simple.{Shape}
use Rattle.clap.specs.Walk.{Held, Text, Walk, after_step, finished, nothing_held, settled, value, walk, walk_from, walked}
use Rattle.command_words.proofs.PlainFolder.{IsPlain, answer, is_value, no_flag, rows_by}

-- a walk that waits for no value, at a position
abbrev at : ℕ → Held → Walk
at position h = record (walk_from h) { position = position }

no_fault : (shape : Shape) (position : ℕ) (h : Held) (word : Text) → IsPlain word → step_fault shape position h value ≡ []
    → turn_fault shape [] (at position h) word ≡ []
no_fault shape position h word plain stays =
    ap₂ or_else (no_flag shape word h plain) (ap (λ met. step_fault shape position met.0 met.1) (is_value shape.rules position word h plain) ∙ stays)

goes : (shape : Shape) (position : ℕ) (h : Held) (word : Text) (next : Walk) → IsPlain word
    → after_step shape.rules word (at position h) h value ≡ next → walked shape.rules [] (at position h) word ≡ next
unfolding walked
goes shape position h word next plain step =
    ap (λ met. after_step shape.rules word (at position h) met.0 met.1) (is_value shape.rules position word h plain) ∙ step

-- the walk over words ends there, with no fault
record Walks (shape : Shape) (start : Walk) (words : List Text) (end : Walk) : Type 0 where
  fault : walk_fault shape [] start words ≡ []
  end_is : fold (walked shape.rules []) start words ≡ end

none_left : (shape : Shape) (w : Walk) → Walks shape w [] w
unfolding walk_fault
none_left shape w = record { fault = refl; end_is = refl }

one_more : (shape : Shape) (position : ℕ) (h : Held) (word : Text) (next end : Walk) (rest : List Text) → IsPlain word
    → step_fault shape position h value ≡ [] → after_step shape.rules word (at position h) h value ≡ next
    → Walks shape next rest end → Walks shape (at position h) (word ∷ rest) end
unfolding walk_fault
one_more shape position h word next end rest plain stays step more = record {
  fault = ap₂ or_else (no_fault shape position h word plain stays) (ap (λ w. walk_fault shape [] w rest) (goes shape position h word next plain step) ∙ more.fault);
  end_is = ap (λ w. fold (walked shape.rules []) w rest) (goes shape position h word next plain step) ∙ more.end_is;
}

-- the faults of a command, by those of its walk and where it ends
abbrev after_words : Shape → Kinds → Walk → Kinds
after_words shape fault end = or_else fault (or_else [] (or_else (settle_fault shape.rules shape.args_override_self end.held)
    (or_else (defaults_fault (settled shape.rules end.held).rows shape.rules) (check_fault shape (finished shape.rules end.held) false))))

-- ---- three words

abbrev pub with_one : Shape → Text → Held
with_one shape one = (after_step shape.rules one (at 1 nothing_held) nothing_held value).held

abbrev pub with_two : Shape → Text → Text → Held
with_two shape one two = (after_step shape.rules two (at 2 (with_one shape one)) (with_one shape one) value).held

abbrev pub with_three : Shape → Text → Text → Text → Walk
with_three shape one two three = after_step shape.rules three (at 3 (with_two shape one two)) (with_two shape one two) value

-- each of the words is a value of the command, and after the third it lacks nothing
pub record TakesThree (shape : Shape) (one two three : Text) : Type 0 where
  pub one_stays : step_fault shape 1 nothing_held value ≡ []
  pub two_stays : step_fault shape 2 (with_one shape one) value ≡ []
  pub three_stays : step_fault shape 3 (with_two shape one two) value ≡ []
  pub one_step : after_step shape.rules one (at 1 nothing_held) nothing_held value ≡ at 2 (with_one shape one)
  pub two_step : after_step shape.rules two (at 2 (with_one shape one)) (with_one shape one) value ≡ at 3 (with_two shape one two)
  pub ends : after_words shape [] (with_three shape one two three) ≡ []

abbrev pub level_of : Shape → List Text → Kinds
level_of shape words = level_fault shape [] nothing_held words false []

module _ (shape : Shape) (one two three : Text) (takes : TakesThree shape one two three) (plain_one : IsPlain one) (plain_two : IsPlain two) (plain_three : IsPlain three) where
  walks : Walks shape (walk_from nothing_held) (one ∷ two ∷ three ∷ []) (with_three shape one two three)
  walks =
      one_more shape 1 nothing_held one (at 2 (with_one shape one)) (with_three shape one two three) (two ∷ three ∷ []) plain_one takes.one_stays takes.one_step
      (one_more shape 2 (with_one shape one) two (at 3 (with_two shape one two)) (with_three shape one two three) (three ∷ []) plain_two takes.two_stays takes.two_step
      (one_more shape 3 (with_two shape one two) three (with_three shape one two three) (with_three shape one two three) [] plain_three takes.three_stays refl
      (none_left shape (with_three shape one two three))))

  level : level_of shape (one ∷ two ∷ three ∷ []) ≡ []
  level = ap₂ (after_words shape) walks.fault walks.end_is ∙ takes.ends

  pub three_plainly : answer (level_of shape (one ∷ two ∷ three ∷ [])) (rows_by shape (walk shape.rules [] nothing_held (one ∷ two ∷ three ∷ []))) ≡ answer [] (rows_by shape (with_three shape one two three))
  three_plainly = ap₂ answer level (ap (rows_by shape) walks.end_is)
