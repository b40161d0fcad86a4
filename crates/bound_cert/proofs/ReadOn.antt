-- One line more of a series.
use Rattle.bound_cert.specs.Lines.{◌>>=◌, Fails, Gives, Left, Reading, Stopped, first_line_form, fits, line_due, next_line}
use Rattle.bound_cert.specs.Reading.{Series, charges_from, entries_from, entry_said, first_words, mixed_said, mixed_scale_at, prices_said, rents_from, said_at, scale_at, steps_from, weights_from, with_last}
use Rattle.dual_bound.specs.declared.mixed.Mixed.{Mixed}
use Rattle.dual_bound.specs.declared.prices.Prices.{Prices}
use Rattle.bound_cert.specs.declared.faults.Stop.{Stop}
use Rattle.bound_cert.specs.declared.reading_lines.Due.{Due}
use Rattle.proof_lines.specs.Forms.{form_in}
use Rattle.proof_lines.specs.Known.{Naming}
use Rattle.proof_lines.specs.declared.line.Line.{Line}
use Rattle.proof_lines.specs.declared.line.Version.{Version}
use Rattle.proof_lines.specs.Words.{Word, seen, words_of}
use Rattle.proof_lines.proofs.Choosing.{chosen, refused}
use Rattle.std.specs.Prelude.{IfOk}
use Rattle.std.proofs.Common.{[], ◌++◌, ◌+◌, ◌<◌, ◌∙◌, ◌∷◌, ◌≡◌, Bool, Bor, Err, List, None, Ok, Option, Some, add-one, ap, append_assoc, arith, cond, drop, false, length, pos, refl, replicate, Result, subst, suc, sym, true, zero, ℕ, ℤ}
use Rattle.bound_cert.specs.declared.faults.Stop.TheVariants as stop

-- in a text of this version a line begins as one that may stand where one of this kind is due
abbrev pub begins : Version → Left → Due → Bool
begins v left kind = fits kind (first_line_form v left)

pub some_left : (v : Version) (left : Left) (kind : Due) → begins v left kind ≡ true → 0 < length left
some_left v [] kind is = absurd (cc is)
some_left v (line ∷ rest) kind is = omega arith

pub bound : {A B : Type 0} (r : Reading A) (x : A) (f : A → Reading B) → r ≡ Ok x → (r >>= f) ≡ f x
bound r x f is = ap (λ r. r >>= f) is

pub failed : {A B : Type 0} (r : Reading A) (e : Stopped) (f : A → Reading B) → r ≡ Err e → (r >>= f) ≡ Err e
failed r e f is = ap (λ r. r >>= f) is

-- what a last step gives, behind one that went well
pub gives_on : {X Y Z : Type 0} (view : X → Y) (result : Result X Stop) (r : Reading Z) (x : Z) (f : Z → Reading Y) → r ≡ Ok x → Gives view result (f x) → Gives view result (r >>= f)
gives_on view result r x f is = subst (λ r. Gives view result (r >>= f)) (sym is)

-- what fails where another reading does
pub fails_by : {A B : Type 0} (e : Stop) (r : Reading A) (s : Reading B) → ((f : Stopped) → r ≡ Err f → s ≡ Err f) → Fails e r → Fails e s
fails_by stop.NoMemory r s leads is = tt
fails_by (stop.Fault left kind) r s leads is = leads _ is

pub seen_behind : (left : List (Bor (List ℕ))) → seen (drop 1 left) ≡ drop 1 (seen left)
seen_behind [] = refl
seen_behind (line ∷ rest) = refl

pub behind_is : (left behind : List (Bor (List ℕ))) → behind ≡ drop 1 left → drop 1 (seen left) ≡ seen behind
behind_is left behind is = sym (ap seen is ∙ seen_behind left)

-- the words of the next line, where there is one and where there is none
pub next_words : (left behind rest : List (Bor (List ℕ))) (next : Bor (List ℕ)) → behind ≡ drop 1 left → behind ≡ next ∷ rest → words_of next.now ≡ first_words (drop 1 (seen left))
next_words left behind rest next is some = sym (ap first_words (behind_is left behind is ∙ ap seen some))

pub no_words : (left behind : List (Bor (List ℕ))) → behind ≡ drop 1 left → length behind ≡ 0 → first_words (drop 1 (seen left)) ≡ []
no_words left behind is none = ap first_words (behind_is left behind is) ∙ of_none behind none
  where
    of_none : (behind : List (Bor (List ℕ))) → length behind ≡ 0 → first_words (seen behind) ≡ []
    of_none [] none = refl
    of_none (next ∷ rest) none = absurd (omega (arith, none))

-- what is told of the words of the next line
pub told_of_next : {E : Type 0} (test : List Word → Bool) (result : Result Bool E) (words next : List Word) → words ≡ next → IfOk result (λ is. is ≡ test words) → IfOk result (λ is. is ≡ test next)
told_of_next test (Ok is) words next same told = told ∙ ap test same
told_of_next test (Err error) words next same told = tt

-- what a last step gives, which reads behind the first line
pub gives_behind : {X Y : Type 0} (view : X → Y) (result : Result X Stop) (f : Left → Reading Y) (left behind : List (Bor (List ℕ))) → behind ≡ drop 1 left → Gives view result (f (seen behind)) → Gives view result (f (drop 1 (seen left)))
gives_behind view result f left behind is = subst (λ rest. Gives view result (f rest)) (sym (behind_is left behind is))

-- one 0 more
pub padded_more : (old now grown : List ℤ) (k : ℕ) → now ≡ old ++ replicate k (pos 0) → grown ≡ now ++ pos 0 ∷ [] → grown ≡ old ++ replicate (k + 1) (pos 0)
padded_more old now grown k so_far added =
    added ∙ rw (so_far, add-one k) (append_assoc old (replicate k (pos 0)) (pos 0 ∷ []) ∙ ap (λ xs. old ++ xs) (sym (replicate_more k)))
  where
    replicate_more : (k : ℕ) → replicate (suc k) (pos 0) ≡ replicate k (pos 0) ++ pos 0 ∷ []
    replicate_more zero = refl
    replicate_more (suc k) = ap (λ xs. pos 0 ∷ xs) (replicate_more k)

module _ (n : Naming) where
  -- what the next line tells, if it begins as one that is due
  pub next_some : (kind : Due) (left : Left) (o : Option Line) (line : Line) → next_line n kind left ≡ Ok o → o ≡ Some line → (begins n.version left kind ≡ true) × (line_due n kind left ≡ Ok line)
  next_some kind left o line e some = told (begins n.version left kind) (line_due n kind left) (e ∙ ap (λ o. Ok o) some)
    where
      told : (b : Bool) (r : Reading Line) → cond b (r >>= λ line. Ok (Some line)) (Ok None) ≡ Ok (Some line) → (b ≡ true) × (r ≡ Ok line)
      told true (Ok it) e = let same : it ≡ line = cc e in (refl, ap (λ l. Ok l) same)
      told true (Err s) e = absurd (cc e)
      told false r e = absurd (cc e)

  pub next_none : (kind : Due) (left : Left) (o : Option Line) → next_line n kind left ≡ Ok o → o ≡ None → begins n.version left kind ≡ false
  next_none kind left o e none = told (begins n.version left kind) (line_due n kind left) (e ∙ ap (λ o. Ok o) none)
    where
      told : (b : Bool) (r : Reading Line) → cond b (r >>= λ line. Ok (Some line)) (Ok None) ≡ Ok None → b ≡ false
      told true (Ok it) e = absurd (cc e)
      told true (Err s) e = absurd (cc e)
      told false r e = refl

  pub next_fails : (kind : Due) (left : Left) (f : Stopped) → next_line n kind left ≡ Err f → (begins n.version left kind ≡ true) × (line_due n kind left ≡ Err f)
  next_fails kind left f e = told (begins n.version left kind) (line_due n kind left) e
    where
      told : (b : Bool) (r : Reading Line) → cond b (r >>= λ line. Ok (Some line)) (Ok None) ≡ Err f → (b ≡ true) × (r ≡ Err f)
      told true (Ok it) e = absurd (cc e)
      told true (Err s) e = let same : s ≡ f = cc e in (refl, ap (λ s. Err s) same)
      told false r e = absurd (cc e)

pub said_by : {A : Type 0} (n : Naming) (kind : Due) (say : Line → Left → Reading A) (left : Left) (line : Line) (r : Reading A) → line_due n kind left ≡ Ok line → say line left ≡ r → said_at n kind say left ≡ r
unfolding said_at
said_by n kind say left line r is said = bound (line_due n kind left) line _ is ∙ said

pub none_said : {A : Type 0} (n : Naming) (kind : Due) (say : Line → Left → Reading A) (left : Left) (f : Stopped) → line_due n kind left ≡ Err f → said_at n kind say left ≡ Err f
unfolding said_at
none_said n kind say left f is = failed (line_due n kind left) f _ is

pub said_gives : {X Y : Type 0} (view : X → Y) (result : Result X Stop) (n : Naming) (kind : Due) (say : Line → Left → Reading Y) (left : Left) (line : Line) → line_due n kind left ≡ Ok line → Gives view result (say line left) → Gives view result (said_at n kind say left)
unfolding said_at
said_gives view result n kind say left line = gives_on view result (line_due n kind left) line (λ line. say line left)

-- prices and fractional assignments, part by part
pub prices_read : (n : Naming) (left : Left) (prices : Prices) (after_rents after_charges after : Left) → scale_at n left ≡ Ok prices.scale → rents_from n [] (drop 1 left) ≡ Ok (prices.rents, after_rents)
    → charges_from n [] None after_rents ≡ Ok (prices.charges, after_charges) → steps_from n [] None after_charges ≡ Ok (prices.steps, after) → prices_said n left ≡ Ok (prices, after)
unfolding prices_said
prices_read n left prices after_rents after_charges after scaled rented charged stepped =
    bound (scale_at n left) prices.scale _ scaled ∙ bound (rents_from n [] (drop 1 left)) (prices.rents, after_rents) _ rented
    ∙ bound (charges_from n [] None after_rents) (prices.charges, after_charges) _ charged ∙ bound (steps_from n [] None after_charges) (prices.steps, after) _ stepped

pub mixed_read : (n : Naming) (left : Left) (mixed : Mixed) (after : Left) → mixed_scale_at n left ≡ Ok mixed.scale → weights_from n [] None (drop 1 left) ≡ Ok (mixed.weights, after) → mixed_said n left ≡ Ok (mixed, after)
unfolding mixed_said
mixed_read n left mixed after scaled weighed = bound (mixed_scale_at n left) mixed.scale _ scaled ∙ bound (weights_from n [] None (drop 1 left)) (mixed.weights, after) _ weighed

module _ {S A B : Type 0} (s : Series S A B) where
  pub entries_more : (so_far : S) (left : Left) (entry : A) → begins s.names.version left s.kind ≡ true → entry_said s so_far left ≡ Ok entry → entries_from s so_far left ≡ entries_from s (s.grow so_far entry) (drop 1 left)
  unfolding entries_from
  entries_more so_far [] entry is read = absurd (cc is)
  entries_more so_far (line ∷ rest) entry is read = chosen (fits s.kind (form_in s.names.version (words_of line))) _ _ is ∙ bound (entry_said s so_far (line ∷ rest)) entry _ read

  pub entries_stop : (so_far : S) (left : Left) (e : Stopped) → begins s.names.version left s.kind ≡ true → entry_said s so_far left ≡ Err e → entries_from s so_far left ≡ Err e
  unfolding entries_from
  entries_stop so_far [] e is read = absurd (cc is)
  entries_stop so_far (line ∷ rest) e is read = chosen (fits s.kind (form_in s.names.version (words_of line))) _ _ is ∙ failed (entry_said s so_far (line ∷ rest)) e _ read

  pub entries_end : (so_far : S) (left : Left) → begins s.names.version left s.kind ≡ false → entries_from s so_far left ≡ Ok (s.all so_far, left)
  unfolding entries_from
  entries_end so_far [] is = refl
  entries_end so_far (line ∷ rest) is = refused (fits s.kind (form_in s.names.version (words_of line))) _ _ is

  -- a loop that reads a series: its ends, and a turn
  module _ (whole : Reading (B × Left)) (so_far : S) (rest : List (Bor (List ℕ))) (invariant : entries_from s so_far (seen rest) ≡ whole) where
    pub line_stops : (e : Stop) → Fails e (next_line s.names s.kind (seen rest)) → Fails e whole
    line_stops e =
        fails_by e (next_line s.names s.kind (seen rest)) whole
        (λ f is.
        let told = next_fails s.names s.kind (seen rest) f is in
        sym invariant ∙ entries_stop so_far (seen rest) f told.0 (none_said s.names s.kind (s.say so_far) (seen rest) f told.1))

    pub series_ends : (o : Option Line) → next_line s.names s.kind (seen rest) ≡ Ok o → o ≡ None → whole ≡ Ok (s.all so_far, seen rest)
    series_ends o is none = sym invariant ∙ entries_end so_far (seen rest) (next_none s.names s.kind (seen rest) o is none)

    module _ (o : Option Line) (line : Line) (is : next_line s.names s.kind (seen rest) ≡ Ok o) (some : o ≡ Some line) where
      pub entry_stops : (e : Stop) → Fails e (s.say so_far line (seen rest)) → Fails e whole
      entry_stops e =
          fails_by e (s.say so_far line (seen rest)) whole
          (λ f fails.
          let told = next_some s.names s.kind (seen rest) o line is some in
          sym invariant ∙ entries_stop so_far (seen rest) f told.0 (said_by s.names s.kind (s.say so_far) (seen rest) line (Err f) told.1 fails))

      pub series_goes_on : (grown : S) (after : List (Bor (List ℕ))) (entry : A) → s.say so_far line (seen rest) ≡ Ok entry → grown ≡ s.grow so_far entry → after ≡ drop 1 rest → entries_from s grown (seen after) ≡ whole
      series_goes_on grown after entry said grew gone =
          let told = next_some s.names s.kind (seen rest) o line is some in
          rw (grew, gone, seen_behind rest)
          (sym (entries_more so_far (seen rest) entry told.0 (said_by s.names s.kind (s.say so_far) (seen rest) line (Ok entry) told.1 said)) ∙ invariant)

-- an entry more is the last
pub last_grown : {A : Type 0} (entries grown : List A) (before : Option A) (entry : A) → grown ≡ entries ++ entry ∷ [] → (grown, Some entry) ≡ with_last (entries, before) entry
last_grown entries grown before entry e = ap (λ list. (list, Some entry)) e
