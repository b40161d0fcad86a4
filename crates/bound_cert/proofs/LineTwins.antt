-- Two texts with one first line: whatever is read of that line alone is read of both, or fails at both.
use Rattle.bound_cert.proofs.TextLines.{line_was}
use Rattle.bound_cert.proofs.WrittenLines.{names}
use Rattle.bound_cert.specs.FirstFault.{is_zero_step}
use Rattle.bound_cert.specs.Lines.{◌>>=◌, Left, Reading, fits, line_due, of_seen, stopped}
use Rattle.bound_cert.specs.Nodes.{plan_at, plan_in_line}
use Rattle.bound_cert.specs.ProofText.{at_line}
use Rattle.bound_cert.specs.Reading.{charge_at, charge_in_line, first_words, head_at, head_of, in_order, is_needless, mixed_scale_at, mixed_scale_of, rent_at, rent_follows, rent_in_line, said_at, scale_at, scale_of, step_in_line, step_said, weight_at, weight_of}
use Rattle.bound_cert.specs.declared.reading_lines.Due.{Due}
use Rattle.dual_bound.specs.Order.{charge_follows, step_follows, weight_follows}
use Rattle.dual_bound.specs.declared.mixed.Weight.{Weight}
use Rattle.dual_bound.specs.declared.prices.Charge.{Charge}
use Rattle.dual_bound.specs.declared.prices.PriceStep.{PriceStep}
use Rattle.dual_bound.specs.declared.trees.TheConstants.{MAX_DEPTH}
use Rattle.fleet_model.specs.declared.tables.Tables.{Tables}
use Rattle.proof_lines.specs.declared.line.Version.{Version}
use Rattle.proof_lines.proofs.FigureWords.{bytes_same}
use Rattle.proof_lines.proofs.LineWords.{of_words}
use Rattle.proof_lines.proofs.Spaces.{words_back}
use Rattle.proof_lines.specs.Flaws.{least}
use Rattle.proof_lines.specs.Forms.{form_in}
use Rattle.proof_lines.specs.Known.{Naming, named}
use Rattle.proof_lines.specs.LineText.{IsNamed, line_bytes, line_words}
use Rattle.proof_lines.specs.Reading.{is_step_of, line_in, made}
use Rattle.proof_lines.specs.Words.{words_of}
use Rattle.proof_lines.specs.declared.flaws.Flaw.{Flaw}
use Rattle.proof_lines.specs.declared.line.Line.{Line}
use Rattle.std.proofs.Common.{[], ◌&&◌, ◌==◌, ◌∙◌, ◌∷◌, ◌≡◌, Bool, Err, List, Ok, Option, Result, ap, arith, codes, cond, drop, false, length, nat_le, not, pos, refl, subst, sym, true, ℕ}
use Rattle.std.proofs.lemmas.Bool.Decides.{Decides-int_eq, nat_tests}
use Rattle.std.specs.Fmt.{decimal, digits, signed_decimal}
use Rattle.std.specs.Ordering.{int_eq}
use Rattle.bound_cert.specs.Reading as reading
use Rattle.bound_cert.specs.declared.reading_lines.Due.TheVariants as due
use Rattle.proof_lines.specs.declared.line.Line.TheVariants as says

-- both read the same, or each fails at its own first line, and they do so for one reason
abbrev pub Twin : {A : Type 0} → Left → Left → Reading A → Reading A → Type 0
Twin a b (Ok x) other = other ≡ Ok x
Twin a b (Err e) other = (e.left ≡ length a) × (other ≡ stopped b e.kind)

-- both begin with one line and its line feed, or they are the same
pub record ShareFirst (line : List ℕ) (other : Left) : Type 0 where
  pub second : List ℕ
  pub rest : Left
  pub is : other ≡ line ∷ second ∷ rest

abbrev pub Alike : Left → Left → Type 0
Alike [] b = b ≡ []
Alike (line ∷ []) b = b ≡ line ∷ []
Alike (line ∷ second ∷ rest) b = ShareFirst line b

pub alike_self : (a : Left) → Alike a a
alike_self [] = refl
alike_self (line ∷ []) = refl
alike_self (line ∷ second ∷ rest) = record { second = second; rest = rest; is = refl }

pub alike_first : (line second other : List ℕ) (rest others : Left) → Alike (line ∷ second ∷ rest) (line ∷ other ∷ others)
alike_first line second other rest others = record { second = other; rest = others; is = refl }

module _ (a b : Left) where
  -- what goes on from twins
  pub twin_bind : {A B : Type 0} (r s : Reading A) (f g : A → Reading B) → Twin a b r s → ((x : A) → r ≡ Ok x → Twin a b (f x) (g x)) → Twin a b (r >>= f) (s >>= g)
  twin_bind (Ok x) s f g same on = subst (λ s. Twin a b (f x) (s >>= g)) (sym same) (on x refl)
  twin_bind (Err e) s f g same on = (same.0, ap (λ s. s >>= g) same.1)

  twin_ordered : {B : Type 0} (c d : Bool) (x : B) → c ≡ d → Twin a b (in_order c a >>= λ ordered. Ok x) (in_order d b >>= λ ordered. Ok x)
  twin_ordered true true x same = refl
  twin_ordered true false x same = absurd (cc same)
  twin_ordered false true x same = absurd (cc same)
  twin_ordered false false x same = (refl, refl)

  pub twin_if : {A : Type 0} (c : Bool) (x y x' y' : Reading A) → Twin a b x x' → Twin a b y y' → Twin a b (cond c x y) (cond c x' y')
  twin_if true x y x' y' first second = first
  twin_if false x y x' y' first second = second

pub line_twin : (n : Naming) (kind : Due) (a b : Left) → Alike a b → Twin a b (line_due n kind a) (line_due n kind b)
unfolding line_due
line_twin n kind [] b same = subst (λ b. Twin [] b (line_due n kind []) (line_due n kind b)) (sym same) (refl, refl)
line_twin n kind (line ∷ []) b same = subst (λ b. Twin (line ∷ []) b (line_due n kind (line ∷ [])) (line_due n kind b)) (sym same) (refl, refl)
line_twin n kind (line ∷ second ∷ rest) b same =
    subst (λ b. Twin (line ∷ second ∷ rest) b (line_due n kind (line ∷ second ∷ rest)) (line_due n kind b)) (sym same.is)
    (by_seen (fits kind (form_in n.version (words_of line))) (line_in n line))
  where
    by_seen : (fit : Bool) (r : Result Line Flaw) → Twin (line ∷ second ∷ rest) (line ∷ same.second ∷ same.rest) (of_seen fit r (line ∷ second ∷ rest)) (of_seen fit r (line ∷ same.second ∷ same.rest))
    by_seen true (Ok it) = refl
    by_seen false (Ok it) = (refl, refl)
    by_seen fit (Err bad) = (refl, refl)

zero_text : decimal 0 ≡ codes "0"
unfolding digits
zero_text = refl

zero_signed : signed_decimal (pos 0) ≡ codes "0"
unfolding digits
zero_signed = refl

-- whether a step is needless is seen from its line, unless that is of 0 at minute 0
needless_alike : (v : Version) (t : Tables) (step : PriceStep) (line : List ℕ) (x y : Left) → line ≡ line_bytes t (at_line step) → IsNamed t (at_line step) → (is_zero_step (words_of line) ≡ true → first_words x ≡ first_words y)
    → is_needless (names v t) step x ≡ is_needless (names v t) step y
needless_alike v t step line x y is named next = by_minute (step.minute == 0) (int_eq step.value (pos 0)) refl refl
  where
    of_zero : (step.minute == 0) ≡ true → int_eq step.value (pos 0) ≡ true → is_zero_step (words_of line) ≡ true
    of_zero m z =
        let none : step.minute ≡ 0 = grind (arith, nat_tests, m) in
        let zero : step.value ≡ pos 0 = (Decides-int_eq step.value (pos 0)).0 z in
        ap (λ bytes. is_zero_step (words_of bytes)) is ∙ ap (λ words. is_zero_step words) (words_back (line_words t (at_line step)) (of_words t (at_line step) named))
        ∙ rw (
          bytes_same (decimal step.minute) (codes "0") (ap (λ n. decimal n) none ∙ zero_text),
          bytes_same (signed_decimal step.value) (codes "0") (ap (λ z. signed_decimal z) zero ∙ zero_signed),
        ) refl

    by_minute : (c d : Bool) → (step.minute == 0) ≡ c → int_eq step.value (pos 0) ≡ d
        → (c && d && not (is_step_of (names v t) step.fleet step.station (first_words x))) ≡ (c && d && not (is_step_of (names v t) step.fleet step.station (first_words y)))
    by_minute true true m z = ap (λ w. not (is_step_of (names v t) step.fleet step.station w)) (next (of_zero m z))
    by_minute true false m z = refl
    by_minute false d m z = refl

-- what a line says, taken alike of both
module _ (a b : Left) where
  scale_of_twin : (line : Line) → Twin a b (scale_of line a) (scale_of line b)
  scale_of_twin (says.Scale z) = refl
  scale_of_twin other = (refl, refl)

  mixed_scale_of_twin : (line : Line) → Twin a b (mixed_scale_of line a) (mixed_scale_of line b)
  mixed_scale_of_twin (says.Mixed z) = refl
  mixed_scale_of_twin other = (refl, refl)

  rent_of_twin : (least : ℕ) (line : Line) → Twin a b (reading.rent_in_line least line a) (reading.rent_in_line least line b)
  rent_of_twin least (says.Rent f z) = twin_ordered a b (rent_follows least f z) (rent_follows least f z) (f, z) refl
  rent_of_twin least other = (refl, refl)

  charge_of_twin : (before : Option Charge) (line : Line) → Twin a b (charge_in_line before line a) (charge_in_line before line b)
  charge_of_twin before (says.Charge station day charge) =
      let entry : Charge = record { station = station; day = day; charge = charge } in
      twin_ordered a b (charge_follows before entry) (charge_follows before entry) entry refl
  charge_of_twin before other = (refl, refl)

  weight_of_twin : (before : Option Weight) (line : Line) → Twin a b (weight_of before line a) (weight_of before line b)
  weight_of_twin before (says.Weight leg choice weight) =
      let entry : Weight = record { leg = leg; choice = choice; weight = weight } in
      twin_ordered a b (weight_follows before entry) (weight_follows before entry) entry refl
  weight_of_twin before other = (refl, refl)

  plan_of_twin : (line : Line) → Twin a b (plan_in_line line a) (plan_in_line line b)
  plan_of_twin (says.Plan planned) = refl
  plan_of_twin other = (refl, refl)

  head_of_twin : (line : Line) → Twin a b (head_of line a) (head_of line b)
  head_of_twin (says.Bare leg) = refl
  head_of_twin says.Sole = refl
  head_of_twin says.Refuted = refl
  head_of_twin says.Priced = refl
  head_of_twin says.OpenNodes = refl
  head_of_twin (says.OpenPivots made) = refl
  head_of_twin (says.OpenGrew pivots row column) = refl
  head_of_twin (says.OpenLift step at) = refl
  head_of_twin (says.Trim leg choice) = refl
  head_of_twin (says.Split leg choice) = refl
  head_of_twin other = (refl, refl)

-- single lines of texts that are alike
module _ (v : Version) (t : Tables) (a b : Left) (alike : Alike a b) where
  said_twin : {A : Type 0} (kind : Due) (say : Line → Left → Reading A) → ((line : Line) → line_due (names v t) kind a ≡ Ok line → Twin a b (say line a) (say line b)) → Twin a b (said_at (names v t) kind say a) (said_at (names v t) kind say b)
  unfolding said_at
  said_twin kind say each = twin_bind a b (line_due (names v t) kind a) (line_due (names v t) kind b) _ _ (line_twin (names v t) kind a b alike) each

  pub scale_twin : Twin a b (scale_at (names v t) a) (scale_at (names v t) b)
  scale_twin = said_twin due.Scale scale_of (λ line is. scale_of_twin a b line)

  pub mixed_scale_twin : Twin a b (mixed_scale_at (names v t) a) (mixed_scale_at (names v t) b)
  mixed_scale_twin = said_twin due.Mixed mixed_scale_of (λ line is. mixed_scale_of_twin a b line)

  pub rent_twin : (least : ℕ) → Twin a b (rent_at (names v t) least a) (rent_at (names v t) least b)
  rent_twin least = said_twin due.Rent (reading.rent_in_line least) (λ line is. rent_of_twin a b least line)

  pub charge_twin : (before : Option Charge) → Twin a b (charge_at (names v t) before a) (charge_at (names v t) before b)
  charge_twin before = said_twin due.Charge (charge_in_line before) (λ line is. charge_of_twin a b before line)

  pub weight_twin : (before : Option Weight) → Twin a b (weight_at (names v t) before a) (weight_at (names v t) before b)
  weight_twin before = said_twin due.Weight (weight_of before) (λ line is. weight_of_twin a b before line)

  step_of_twin : (before : Option PriceStep) (line : Line) → line_due (names v t) due.Step a ≡ Ok line → (is_zero_step (first_words a) ≡ true → first_words (drop 1 a) ≡ first_words (drop 1 b))
      → Twin a b (step_in_line (names v t) before line a) (step_in_line (names v t) before line b)
  step_of_twin before (says.At fleet station minute value) is next =
      let step : PriceStep = record { fleet = fleet; station = station; minute = minute; value = value } in
      let was = line_was v t due.Step a (at_line step) is in
      let bytes = line_bytes t (at_line step) in
      let same = needless_alike v t step bytes (drop 1 a) (drop 1 b) refl was.of_tables.named (λ zero. next (ap (λ left. is_zero_step (first_words left)) was.is ∙ zero)) in
      twin_ordered a b (step_follows before step && not (is_needless (names v t) step (drop 1 a))) (step_follows before step && not (is_needless (names v t) step (drop 1 b))) step
      (ap (λ c. step_follows before step && not c) same)
  step_of_twin before other is next = (refl, refl)

  pub step_twin : (before : Option PriceStep) → (is_zero_step (first_words a) ≡ true → first_words (drop 1 a) ≡ first_words (drop 1 b)) → Twin a b (step_said (names v t) before a) (step_said (names v t) before b)
  step_twin before next = said_twin due.Step (step_in_line (names v t) before) (λ line is. step_of_twin before line is next)

  pub head_twin : (above : ℕ) → Twin a b (head_at (names v t) above a) (head_at (names v t) above b)
  unfolding head_at
  head_twin above =
      twin_bind a b (line_due (names v t) due.Node a) (line_due (names v t) due.Node b) _ _ (line_twin (names v t) due.Node a b alike) (λ line is.
      twin_bind a b (head_of line a) (head_of line b) _ _ (head_of_twin a b line) (λ head is.
      twin_if a b (nat_le above MAX_DEPTH) _ _ _ _ refl (refl, refl)))

  pub plan_twin : Twin a b (plan_at (names v t) a) (plan_at (names v t) b)
  plan_twin = said_twin due.Plan plan_in_line (λ line is. plan_of_twin a b line)
