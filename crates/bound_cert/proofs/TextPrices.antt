-- Single lines of prices and fractional assignments that are read: what they say is in written order.
use Rattle.bound_cert.proofs.ReadBack.{goes, ok_same, ordered}
use Rattle.bound_cert.proofs.TextLines.{LineIs, line_was}
use Rattle.bound_cert.proofs.WrittenLines.{names}
use Rattle.bound_cert.specs.Lines.{◌>>=◌, Left, Reading, line_due}
use Rattle.bound_cert.specs.ProofText.{at_line, charge_line, weight_line}
use Rattle.bound_cert.specs.Reading.{charge_at, charge_in_line, in_order, is_needless, mixed_scale_at, mixed_scale_of, rent_at, rent_follows, rent_in_line, said_at, scale_at, scale_of, step_in_line, step_said, weight_at, weight_of}
use Rattle.dual_bound.specs.Order.{charge_follows, step_follows, weight_follows}
use Rattle.dual_bound.specs.WrittenOrder.{IsStepInOrder}
use Rattle.dual_bound.specs.declared.mixed.Weight.{Weight}
use Rattle.dual_bound.specs.declared.prices.Charge.{Charge}
use Rattle.dual_bound.specs.declared.prices.PriceStep.{PriceStep}
use Rattle.fleet_model.specs.declared.tables.Tables.{Tables}
use Rattle.proof_lines.specs.declared.line.Version.{Version}
use Rattle.proof_lines.specs.Flaws.{least}
use Rattle.proof_lines.specs.Known.{Naming}
use Rattle.proof_lines.specs.declared.line.Line.{Line}
use Rattle.std.proofs.Common.{◌&&◌, ◌≡◌, ◌≤◌, Bool, Ok, Option, ap, arith, drop, false, nat_le, not, pos, refl, subst, true, ℕ, ℤ}
use Rattle.std.proofs.lemmas.Bool.Decides.{nat_tests}
use Rattle.std.specs.Ordering.{int_eq}
use Rattle.sums.proofs.Tests.{first_true, not_true, second_true}
use Rattle.bound_cert.specs.declared.reading_lines.Due.{Due}
use Rattle.bound_cert.specs.declared.reading_lines.Due.TheVariants as due
use Rattle.proof_lines.specs.declared.line.Line.TheVariants as says

-- a line is this one, of which a test holds
record Says (line told : Line) (test : Bool) : Type 0 where
  line_is : line ≡ told
  holds : test ≡ true

-- an entry in its order
says_entry : {A : Type 0} (line_of : A → Line) (test : A → Bool) (it entry : A) (left : Left) → (in_order (test it) left >>= λ order. Ok it) ≡ Ok entry → Says (line_of it) (line_of entry) (test entry)
says_entry line_of test it entry left e =
    let order = goes (in_order (test it) left) _ entry e in
    subst (λ x. Says (line_of it) (line_of x) (test x)) (ok_same it entry order.on) (record { line_is = refl; holds = ordered (test it) left order.value order.is })

scale_is : (line : Line) (left : Left) (z : ℤ) → scale_of line left ≡ Ok z → Says line (says.Scale z) true
scale_is (says.Scale y) left z e = record { line_is = ap (λ z. says.Scale z) (ok_same y z e); holds = refl }
scale_is other left z e = absurd (cc e)

mixed_scale_is : (line : Line) (left : Left) (z : ℤ) → mixed_scale_of line left ≡ Ok z → Says line (says.Mixed z) true
mixed_scale_is (says.Mixed y) left z e = record { line_is = ap (λ z. says.Mixed z) (ok_same y z e); holds = refl }
mixed_scale_is other left z e = absurd (cc e)

rent_is : (least : ℕ) (line : Line) (left : Left) (entry : ℕ × ℤ) → rent_in_line least line left ≡ Ok entry → Says line (says.Rent entry.0 entry.1) (rent_follows least entry.0 entry.1)
rent_is least (says.Rent f z) left entry e = says_entry (λ (rent : ℕ × ℤ). says.Rent rent.0 rent.1) (λ rent. rent_follows least rent.0 rent.1) (f, z) entry left e
rent_is least other left entry e = absurd (cc e)

charge_is : (before : Option Charge) (line : Line) (left : Left) (entry : Charge) → charge_in_line before line left ≡ Ok entry → Says line (charge_line entry) (charge_follows before entry)
charge_is before (says.Charge station day charge) left entry e = says_entry charge_line (charge_follows before) (record { station = station; day = day; charge = charge }) entry left e
charge_is before other left entry e = absurd (cc e)

step_is : (n : Naming) (before : Option PriceStep) (line : Line) (left : Left) (step : PriceStep) → step_in_line n before line left ≡ Ok step → Says line (at_line step) (step_follows before step && not (is_needless n step (drop 1 left)))
step_is n before (says.At fleet station minute value) left step e =
    says_entry at_line (λ it. step_follows before it && not (is_needless n it (drop 1 left))) (record { fleet = fleet; station = station; minute = minute; value = value }) step left e
step_is n before other left step e = absurd (cc e)

weight_is : (before : Option Weight) (line : Line) (left : Left) (entry : Weight) → weight_of before line left ≡ Ok entry → Says line (weight_line entry) (weight_follows before entry)
weight_is before (says.Weight leg choice weight) left entry e = says_entry weight_line (weight_follows before) (record { leg = leg; choice = choice; weight = weight }) entry left e
weight_is before other left entry e = absurd (cc e)

module _ (v : Version) (t : Tables) where
  -- the first line that is left is this one, of which a test holds
  pub record LineWas (left : Left) (line : Line) (test : Bool) : Type 0 where
    pub line_is : LineIs v t left line
    pub holds : test ≡ true

  said_was : {A : Type 0} (kind : Due) (say : Line → Left → Reading A) (left : Left) (entry : A) (told : Line) (test : Bool) → ((line : Line) → say line left ≡ Ok entry → Says line told test)
      → said_at (names v t) kind say left ≡ Ok entry → LineWas left told test
  unfolding said_at
  said_was kind say left entry told test tells e =
      let line = goes (line_due (names v t) kind left) _ entry e in
      let is = tells line.value line.on in
      record { line_is = subst (LineIs v t left) is.line_is (line_was v t kind left line.value line.is); holds = is.holds }

  pub scale_was : (left : Left) (z : ℤ) → scale_at (names v t) left ≡ Ok z → LineWas left (says.Scale z) true
  scale_was left z = said_was due.Scale scale_of left z (says.Scale z) true (λ line. scale_is line left z)

  pub mixed_scale_was : (left : Left) (z : ℤ) → mixed_scale_at (names v t) left ≡ Ok z → LineWas left (says.Mixed z) true
  mixed_scale_was left z = said_was due.Mixed mixed_scale_of left z (says.Mixed z) true (λ line. mixed_scale_is line left z)

  pub charge_was : (before : Option Charge) (left : Left) (entry : Charge) → charge_at (names v t) before left ≡ Ok entry → LineWas left (charge_line entry) (charge_follows before entry)
  charge_was before left entry = said_was due.Charge (charge_in_line before) left entry (charge_line entry) (charge_follows before entry) (λ line. charge_is before line left entry)

  pub weight_was : (before : Option Weight) (left : Left) (entry : Weight) → weight_at (names v t) before left ≡ Ok entry → LineWas left (weight_line entry) (weight_follows before entry)
  weight_was before left entry = said_was due.Weight (weight_of before) left entry (weight_line entry) (weight_follows before entry) (λ line. weight_is before line left entry)

  -- a rent

  pub record RentWas (least : ℕ) (left : Left) (f : ℕ) (z : ℤ) : Type 0 where
    pub line_is : LineIs v t left (says.Rent f z)
    pub later : least ≤ f
    pub not_0 : int_eq z (pos 0) ≡ false

  pub rent_was : (least : ℕ) (left : Left) (entry : ℕ × ℤ) → rent_at (names v t) least left ≡ Ok entry → RentWas least left entry.0 entry.1
  rent_was least left entry e =
      let was = said_was due.Rent (rent_in_line least) left entry (says.Rent entry.0 entry.1) (rent_follows least entry.0 entry.1) (λ line. rent_is least line left entry) e in
      record {
        line_is = was.line_is;
        later = grind (arith, nat_tests, first_true (nat_le least entry.0) (not (int_eq entry.1 (pos 0))) was.holds);
        not_0 = not_true (int_eq entry.1 (pos 0)) (second_true (nat_le least entry.0) (not (int_eq entry.1 (pos 0))) was.holds);
      }

  -- a step

  pub record StepWas (before : Option PriceStep) (left : Left) (step : PriceStep) : Type 0 where
    pub line_is : LineIs v t left (at_line step)
    pub order : IsStepInOrder t step
    pub follows : step_follows before step ≡ true
    pub needed : is_needless (names v t) step (drop 1 left) ≡ false

  pub step_was : (before : Option PriceStep) (left : Left) (step : PriceStep) → step_said (names v t) before left ≡ Ok step → StepWas before left step
  step_was before left step e =
      let needless = is_needless (names v t) step (drop 1 left) in
      let was = said_was due.Step (step_in_line (names v t) before) left step (at_line step) (step_follows before step && not needless) (λ line. step_is (names v t) before line left step) e in
      let of = was.line_is.of_tables in
      record {
        line_is = was.line_is;
        order = record { fleet = of.named.0; station = of.named.1; minute = of.figures.0; value = of.figures.1 };
        follows = first_true (step_follows before step) (not needless) was.holds;
        needed = not_true needless (second_true (step_follows before step) (not needless) was.holds);
      }
