-- The first line that is left, by what stands behind it.
use Rattle.bound_cert.proofs.ReadOn.{failed, fails_by}
use Rattle.proof_lines.proofs.Choosing.{chosen, refused}
use Rattle.bound_cert.specs.Lines.{◌>>=◌, Fails, Left, fits, line_due, next_line, of_seen, stopped}
use Rattle.bound_cert.specs.declared.faults.Stop.{Stop}
use Rattle.bound_cert.specs.Nodes.{head_is, headed, version_of}
use Rattle.bound_cert.specs.declared.faults.TheConstants.{BAD_LINE, TEXT_ENDS, WRONG_HEAD}
use Rattle.bound_cert.specs.declared.reading_lines.Due.{Due}
use Rattle.proof_lines.specs.Forms.{form_in}
use Rattle.proof_lines.specs.Known.{Naming}
use Rattle.proof_lines.specs.Reading.{seen_in}
use Rattle.proof_lines.specs.Words.{is_word, seen, words_of}
use Rattle.proof_lines.specs.declared.line.Line.{Line}
use Rattle.proof_lines.specs.declared.line.Version.{Version}
use Rattle.proof_lines.specs.declared.reading.Seen.{Seen}
use Rattle.std.proofs.lemmas.Bool.Decides.{nat_tests}
use Rattle.std.specs.Prelude.{if◌then◌else◌}
use Rattle.std.proofs.Common.{[], ◌<◌, ◌==◌, ◌∙◌, ◌∷◌, ◌≡◌, Bool, Bor, List, None, Ok, Option, Some, ap, arith, false, length, refl, sym, true, ℕ}

-- what is wrong with a line that has no line feed
abbrev pub end_kind : List ℕ → ℕ
end_kind line = if is_word line then BAD_LINE else TEXT_ENDS

-- a list has no entry, or some
pub is_none : (n : ℕ) (b : Bool) → b ≡ (n == 0) → b ≡ true → n ≡ 0
is_none n b is test = grind (arith, nat_tests)

pub is_some : (n : ℕ) (b : Bool) → b ≡ (n == 0) → b ≡ false → 0 < n
is_some n b is test = grind (arith, nat_tests)

none_due : (n : Naming) (kind : Due) → line_due n kind [] ≡ stopped [] TEXT_ENDS
unfolding line_due
none_due n kind = refl

last_due : (n : Naming) (kind : Due) (line : List ℕ) → line_due n kind (line ∷ []) ≡ stopped (line ∷ []) (end_kind line)
unfolding line_due
last_due n kind line = refl

one_due : (n : Naming) (kind : Due) (line next : List ℕ) (rest : Left) → line_due n kind (line ∷ next ∷ rest) ≡ of_seen (fits kind (seen_in n line).form) (seen_in n line).line (line ∷ next ∷ rest)
unfolding line_due
one_due n kind line next rest = refl

module _ (n : Naming) (kind : Due) where
  pub none_left : (left : List (Bor (List ℕ))) → length left ≡ 0 → line_due n kind (seen left) ≡ stopped (seen left) TEXT_ENDS
  none_left [] none = none_due n kind
  none_left (line ∷ rest) none = absurd (omega (arith, none))

  pub none_next : (left : List (Bor (List ℕ))) → length left ≡ 0 → next_line n kind (seen left) ≡ Ok None
  none_next [] none = refl
  none_next (line ∷ rest) none = absurd (omega (arith, none))

  module _ (left : List (Bor (List ℕ))) (line : Bor (List ℕ)) (rest : List (Bor (List ℕ))) (is : left ≡ line ∷ rest) where
    pub last_left : length rest ≡ 0 → line_due n kind (seen left) ≡ stopped (seen left) (end_kind line.now)
    last_left none = rw is (at_end rest none)
      where
        at_end : (rest : List (Bor (List ℕ))) → length rest ≡ 0 → line_due n kind (line.now ∷ seen rest) ≡ stopped (line.now ∷ seen rest) (end_kind line.now)
        at_end [] none = last_due n kind line.now
        at_end (next ∷ rest) none = absurd (omega (arith, none))

    module _ (read : Seen) (read_is : read ≡ seen_in n line.now) where
      fits_as : (b : Bool) → fits kind read.form ≡ b → fits kind (form_in n.version (words_of line.now)) ≡ b
      fits_as b fit = ap (λ (read : Seen). fits kind read.form) (sym read_is) ∙ fit

      pub read_left : (fit : Bool) → 0 < length rest → fits kind read.form ≡ fit → line_due n kind (seen left) ≡ of_seen fit read.line (seen left)
      read_left fit some fitted =
          rw is
          (before rest some
          ∙ ap (λ (read : Seen). of_seen (fits kind read.form) read.line (line.now ∷ seen rest)) (sym read_is)
          ∙ ap (λ b. of_seen b read.line (line.now ∷ seen rest)) fitted)
        where
          before : (rest : List (Bor (List ℕ))) → 0 < length rest → line_due n kind (line.now ∷ seen rest) ≡ of_seen (fits kind (seen_in n line.now).form) (seen_in n line.now).line (line.now ∷ seen rest)
          before [] some = absurd (omega (arith, some))
          before (next ∷ rest) some = one_due n kind line.now next.now (seen rest)

      pub other_next : fits kind read.form ≡ false → next_line n kind (seen left) ≡ Ok None
      other_next unfit = rw is (refused (fits kind (form_in n.version (words_of line.now))) _ _ (fits_as false unfit))

      due_next : fits kind read.form ≡ true → next_line n kind (seen left) ≡ (line_due n kind (seen left) >>= λ line. Ok (Some line))
      due_next fit = rw is (chosen (fits kind (form_in n.version (words_of line.now))) _ _ (fits_as true fit))

      pub last_next : fits kind read.form ≡ true → length rest ≡ 0 → next_line n kind (seen left) ≡ stopped (seen left) (end_kind line.now)
      last_next fit none = due_next fit ∙ failed (line_due n kind (seen left)) _ _ (last_left none)

      pub read_next : fits kind read.form ≡ true → 0 < length rest → next_line n kind (seen left) ≡ (of_seen true read.line (seen left) >>= λ line. Ok (Some line))
      read_next fit some = due_next fit ∙ ap (λ r. r >>= λ line. Ok (Some line)) (read_left true some fit)

      pub line_next : fits kind read.form ≡ true → 0 < length rest → (line : Line) → of_seen true read.line (seen left) ≡ Ok line → next_line n kind (seen left) ≡ Ok (Some line)
      line_next fit some line seen_is = read_next fit some ∙ ap (λ r. r >>= λ line. Ok (Some line)) seen_is

      pub next_stops : fits kind read.form ≡ true → 0 < length rest → (e : Stop) → Fails e (of_seen true read.line (seen left)) → Fails e (next_line n kind (seen left))
      next_stops fit some e = fails_by e (of_seen true read.line (seen left)) (next_line n kind (seen left)) (λ f is. read_next fit some ∙ failed (of_seen true read.line (seen left)) f _ is)

-- ---- the head of a text
no_head : (windows : Bool) → head_is windows [] ≡ stopped [] WRONG_HEAD
unfolding head_is
no_head windows = refl

sole_head : (windows : Bool) (line : List ℕ) → head_is windows (line ∷ []) ≡ stopped (line ∷ []) WRONG_HEAD
unfolding head_is
sole_head windows line = refl

one_head : (windows : Bool) (line next : List ℕ) (rest : Left) → head_is windows (line ∷ next ∷ rest) ≡ headed (version_of windows line) (line ∷ next ∷ rest)
unfolding head_is
one_head windows line next rest = refl

module _ (windows : Bool) where
  pub none_head : (left : List (Bor (List ℕ))) → length left ≡ 0 → head_is windows (seen left) ≡ stopped (seen left) WRONG_HEAD
  none_head [] none = no_head windows
  none_head (line ∷ rest) none = absurd (omega (arith, none))

  module _ (left : List (Bor (List ℕ))) (line : Bor (List ℕ)) (rest : List (Bor (List ℕ))) (is : left ≡ line ∷ rest) where
    pub last_head : length rest ≡ 0 → head_is windows (seen left) ≡ stopped (seen left) WRONG_HEAD
    last_head none = rw is (at_end rest none)
      where
        at_end : (rest : List (Bor (List ℕ))) → length rest ≡ 0 → head_is windows (line.now ∷ seen rest) ≡ stopped (line.now ∷ seen rest) WRONG_HEAD
        at_end [] none = sole_head windows line.now
        at_end (next ∷ rest) none = absurd (omega (arith, none))

    pub told_head : 0 < length rest → (o : Option Version) → version_of windows line.now ≡ o → head_is windows (seen left) ≡ headed o (seen left)
    told_head some o told = rw is (before rest some ∙ ap (λ (o : Option Version). headed o (line.now ∷ seen rest)) told)
      where
        before : (rest : List (Bor (List ℕ))) → 0 < length rest → head_is windows (line.now ∷ seen rest) ≡ headed (version_of windows line.now) (line.now ∷ seen rest)
        before [] some = absurd (omega (arith, some))
        before (next ∷ rest) some = one_head windows line.now next.now (seen rest)
