-- What the text of a proof reads as, line by line, or where its first fault is.
use Rattle.std.specs.Prelude.{ℕ, ◌-◌, ◌==◌, ◌&&◌, nat_le, Bool, true, false, not, if◌then◌else◌, List, [], ◌∷◌, ◌++◌, length, drop, replicate, ℤ, pos, Option, Some, None, Ok, ⊤}
use Rattle.std.specs.Ordering.{int_eq}
use Rattle.proof_lines.specs.Forms.{form_in}
use Rattle.proof_lines.specs.Known.{Naming}
use Rattle.proof_lines.specs.Reading.{is_step_of}
use Rattle.proof_lines.specs.Words.{Word, words_of}
use Rattle.proof_lines.specs.declared.line.Line.{Line}
use Rattle.proof_lines.specs.declared.line.Line.TheVariants as line
use Rattle.bound_cert.specs.Lines.{Left, Reading, ◌>>=◌, fits, line_due, stopped}
use Rattle.bound_cert.specs.declared.faults.TheConstants.{TOO_DEEP, WRONG_ORDER, WRONG_WORD}
use Rattle.dual_bound.specs.Order.{charge_follows, step_follows, weight_follows}
use Rattle.dual_bound.specs.declared.trees.TheConstants.{MAX_DEPTH}
use Rattle.dual_bound.specs.declared.mixed.Mixed.{Mixed}
use Rattle.dual_bound.specs.declared.mixed.Weight.{Weight}
use Rattle.bound_cert.specs.declared.nodes.Alone.{Alone}
use Rattle.bound_cert.specs.declared.nodes.Alone.TheVariants as alone
use Rattle.bound_cert.specs.declared.nodes.Fraction.{Fraction}
use Rattle.bound_cert.specs.declared.nodes.Fraction.TheVariants as fraction
use Rattle.bound_cert.specs.declared.nodes.Head.{Head}
use Rattle.bound_cert.specs.declared.nodes.Head.TheVariants as head
use Rattle.dual_bound.specs.declared.nodes.Node.{Node}
use Rattle.dual_bound.specs.declared.nodes.Node.TheVariants as node
use Rattle.bound_cert.specs.declared.nodes.Priced.{Priced}
use Rattle.bound_cert.specs.declared.nodes.Priced.TheVariants as priced
use Rattle.dual_bound.specs.declared.prices.Charge.{Charge}
use Rattle.dual_bound.specs.declared.prices.Prices.{Prices}
use Rattle.dual_bound.specs.declared.prices.PriceStep.{PriceStep}
use Rattle.bound_cert.specs.declared.reading_lines.Due.{Due}
use Rattle.bound_cert.specs.declared.reading_lines.Due.TheVariants as due
use Rattle.dual_bound.specs.declared.trees.Cause.TheVariants as cause

-- what is in order goes on, and else the line is out of order
abbrev pub in_order : Bool → Left → Reading ⊤
in_order true left = Ok tt
in_order false left = stopped left WRONG_ORDER

-- a line of another form than is due
abbrev pub other_line : {A : Type 0} → Left → Reading A
other_line left = stopped left WRONG_WORD

-- what the first line that is left says, which is due to be of a kind
unfoldable pub said_at : {A : Type 0} → Naming → Due → (Line → Left → Reading A) → Left → Reading A
said_at n kind say left = line_due n kind left >>= λ line. say line left

-- a series of lines of one kind: what the next line says behind what is read so far, what is read with that, and what all of
-- it makes
pub record Series (S A B : Type 0) : Type 0 where
  pub names : Naming
  pub kind : Due
  pub say : S → Line → Left → Reading A
  pub grow : S → A → S
  pub all : S → B

abbrev pub entry_said : {S A B : Type 0} → Series S A B → S → Left → Reading A
entry_said s so_far = said_at s.names s.kind (s.say so_far)

-- what a series makes, from what is read so far, and what is left behind its lines
unfoldable pub entries_from : {S A B : Type 0} → Series S A B → S → Left → Reading (B × Left)
entries_from s so_far [] = Ok (s.all so_far, [])
entries_from s so_far (line ∷ rest) =
    if fits s.kind (form_in s.names.version (words_of line)) then (entry_said s so_far (line ∷ rest) >>= λ entry. entries_from s (s.grow so_far entry) rest)
    else Ok (s.all so_far, line ∷ rest)

-- the scale that a line of prices or of a fractional assignment says
abbrev pub scale_of : Line → Left → Reading ℤ
scale_of (line.Scale scale) left = Ok scale
scale_of other left = other_line left

abbrev pub mixed_scale_of : Line → Left → Reading ℤ
mixed_scale_of (line.Mixed scale) left = Ok scale
mixed_scale_of other left = other_line left

abbrev pub scale_at : Naming → Left → Reading ℤ
scale_at n = said_at n due.Scale scale_of

abbrev pub mixed_scale_at : Naming → Left → Reading ℤ
mixed_scale_at n = said_at n due.Mixed mixed_scale_of

-- a rent may follow: it isn't 0, and its fleet is no less than this one
abbrev pub rent_follows : ℕ → ℕ → ℤ → Bool
rent_follows least fleet rent = nat_le least fleet && not (int_eq rent (pos 0))

-- the rent that a line says in its order, with its fleet, which is no less than this one
abbrev pub rent_in_line : ℕ → Line → Left → Reading (ℕ × ℤ)
rent_in_line least (line.Rent fleet rent) left = in_order (rent_follows least fleet rent) left >>= λ order. Ok (fleet, rent)
rent_in_line least other left = other_line left

abbrev pub rent_at : Naming → ℕ → Left → Reading (ℕ × ℤ)
rent_at n least = said_at n due.Rent (rent_in_line least)

-- rents of so many fleets: those that are known, and 0 for the others
abbrev pub padded : List ℤ → ℕ → List ℤ
padded rents fleets = rents ++ replicate (fleets - length rents) (pos 0)

-- the rents of all fleets, from those that are read so far, and what is left behind their lines
abbrev pub rent_series : Naming → Series (List ℤ) (ℕ × ℤ) (List ℤ)
rent_series n = record {
  names = n;
  kind = due.Rent;
  say = λ rents. rent_in_line (length rents);
  grow = λ rents entry. padded rents entry.0 ++ entry.1 ∷ [];
  all = λ rents. padded rents (length n.fleets);
}

abbrev pub rents_from : Naming → List ℤ → Left → Reading (List ℤ × Left)
rents_from n = entries_from (rent_series n)

-- entries that are read so far, with one more, and the last of them
abbrev pub with_last : {A : Type 0} → List A × Option A → A → List A × Option A
with_last so_far entry = (so_far.0 ++ entry ∷ [], Some entry)

-- a series whose lines say an entry each, in its order behind the entry before
abbrev pub listed : {A : Type 0} → Naming → Due → (Option A → Line → Left → Reading A) → Series (List A × Option A) A (List A)
listed n kind say = record { names = n; kind = kind; say = λ so_far. say so_far.1; grow = with_last; all = λ so_far. so_far.0 }

-- the charge that a line says in its order, behind the charge before
abbrev pub charge_in_order : Option Charge → Charge → Left → Reading Charge
charge_in_order before entry left = in_order (charge_follows before entry) left >>= λ order. Ok entry

abbrev pub charge_in_line : Option Charge → Line → Left → Reading Charge
charge_in_line before (line.Charge station day charge) left = charge_in_order before (record { station = station; day = day; charge = charge }) left
charge_in_line before other left = other_line left

abbrev pub charge_at : Naming → Option Charge → Left → Reading Charge
charge_at n before = said_at n due.Charge (charge_in_line before)

-- the charges, from those that are read so far and the last of them, and what is left behind their lines
abbrev pub charge_series : Naming → Series (List Charge × Option Charge) Charge (List Charge)
charge_series n = listed n due.Charge charge_in_line

abbrev pub charges_from : Naming → List Charge → Option Charge → Left → Reading (List Charge × Left)
charges_from n charges before = entries_from (charge_series n) (charges, before)

-- the words of the first line that is left
abbrev pub first_words : Left → List Word
first_words [] = []
first_words (line ∷ rest) = words_of line

-- a step of value 0 at minute 0, behind which no other step of its place comes, not even a bad one
abbrev pub is_needless : Naming → PriceStep → Left → Bool
is_needless n step rest = (step.minute == 0) && int_eq step.value (pos 0) && not (is_step_of n step.fleet step.station (first_words rest))

-- the step that a line says in its order, behind the step before
abbrev pub step_in_order : Naming → Option PriceStep → PriceStep → Left → Reading PriceStep
step_in_order n before step left = in_order (step_follows before step && not (is_needless n step (drop 1 left))) left >>= λ order. Ok step

abbrev pub step_in_line : Naming → Option PriceStep → Line → Left → Reading PriceStep
step_in_line n before (line.At fleet station minute value) left = step_in_order n before (record { fleet = fleet; station = station; minute = minute; value = value }) left
step_in_line n before other left = other_line left

abbrev pub step_said : Naming → Option PriceStep → Left → Reading PriceStep
step_said n before = said_at n due.Step (step_in_line n before)

-- the steps, from those that are read so far and the last of them, and what is left behind their lines
abbrev pub step_series : Naming → Series (List PriceStep × Option PriceStep) PriceStep (List PriceStep)
step_series n = listed n due.Step (step_in_line n)

abbrev pub steps_from : Naming → List PriceStep → Option PriceStep → Left → Reading (List PriceStep × Left)
steps_from n steps before = entries_from (step_series n) (steps, before)

-- the prices that the next lines say, and what is left behind them
unfoldable pub prices_said : Naming → Left → Reading (Prices × Left)
prices_said n left = do
  scale ← scale_at n left
  rents ← rents_from n [] (drop 1 left)
  charges ← charges_from n [] None rents.1
  steps ← steps_from n [] None charges.1
  Ok (record { scale = scale; rents = rents.0; steps = steps.0; charges = charges.0 }, steps.1)

-- the weight that a line says in its order, behind the weight before
abbrev pub weight_in_order : Option Weight → Weight → Left → Reading Weight
weight_in_order before entry left = in_order (weight_follows before entry) left >>= λ order. Ok entry

abbrev pub weight_of : Option Weight → Line → Left → Reading Weight
weight_of before (line.Weight leg choice weight) left = weight_in_order before (record { leg = leg; choice = choice; weight = weight }) left
weight_of before other left = other_line left

abbrev pub weight_at : Naming → Option Weight → Left → Reading Weight
weight_at n before = said_at n due.Weight (weight_of before)

-- the weights, from those that are read so far and the last of them, and what is left behind their lines
abbrev pub weight_series : Naming → Series (List Weight × Option Weight) Weight (List Weight)
weight_series n = listed n due.Weight weight_of

abbrev pub weights_from : Naming → List Weight → Option Weight → Left → Reading (List Weight × Left)
weights_from n weights before = entries_from (weight_series n) (weights, before)

-- the fractional assignment that the next lines say, and what is left behind them
unfoldable pub mixed_said : Naming → Left → Reading (Mixed × Left)
mixed_said n left = do
  scale ← mixed_scale_at n left
  weights ← weights_from n [] None (drop 1 left)
  Ok (record { scale = scale; weights = weights.0 }, weights.1)

-- what the first line of a node says
abbrev pub head_of : Line → Left → Reading Head
head_of (line.Bare leg) left = Ok (head.Alone (alone.Bare leg))
head_of line.Sole left = Ok (head.Alone alone.Sole)
head_of line.Refuted left = Ok (head.Priced priced.Refuted)
head_of line.Priced left = Ok (head.Priced priced.Closed)
head_of line.OpenNodes left = Ok (head.Mixed fraction.Nodes)
head_of (line.OpenPivots made) left = Ok (head.Priced (priced.Pivots made))
head_of (line.OpenGrew pivots row column) left = Ok (head.Priced (priced.Grew pivots row column))
head_of (line.OpenLift step at) left = Ok (head.Priced (priced.Lift step at))
head_of (line.Trim leg choice) left = Ok (head.Alone (alone.Trim leg choice))
head_of (line.Split leg choice) left = Ok (head.Mixed (fraction.Split leg choice))
head_of other left = other_line left

-- a node goes on where no more trims and splits stand above it than may
abbrev pub deep_at : ℕ → Head → Left → Reading Head
deep_at above head left = if nat_le above MAX_DEPTH then Ok head else stopped left TOO_DEEP

-- the first line of a node below so many trims and splits
unfoldable pub head_at : Naming → ℕ → Left → Reading Head
head_at n above left = do
  line ← line_due n due.Node left
  head ← head_of line left
  deep_at above head left

-- a node by its one line
abbrev pub alone_node : Alone → Node
alone_node (alone.Bare leg) = node.Bare leg
alone_node alone.Sole = node.Sole
alone_node (alone.Trim leg choice) = node.Trim leg choice

-- a leaf by its first line and its prices
abbrev pub priced_node : Priced → Prices → Node
priced_node priced.Refuted prices = node.Refuted prices
priced_node priced.Closed prices = node.Priced prices
priced_node (priced.Pivots made) prices = node.Open prices (cause.Pivots made)
priced_node (priced.Grew pivots row column) prices = node.Open prices (cause.Grew pivots row column)
priced_node (priced.Lift step at) prices = node.Open prices (cause.Lift step at)

-- a node by its first line, its prices and its fractional assignment
abbrev pub mixed_node : Fraction → Prices → Mixed → Node
mixed_node fraction.Nodes prices mixed = node.Open prices (cause.Nodes mixed)
mixed_node (fraction.Split leg choice) prices mixed = node.Split leg choice prices mixed

-- a node, from what its first line says and the lines behind it
unfoldable pub body_at : Naming → Head → Left → Reading (Node × Left)
body_at n (head.Alone said) rest = Ok (alone_node said, rest)
body_at n (head.Priced said) rest = prices_said n rest >>= λ prices. Ok (priced_node said prices.0, prices.1)
body_at n (head.Mixed said) rest = prices_said n rest >>= λ prices. mixed_said n prices.1 >>= λ mixed. Ok (mixed_node said prices.0 mixed.0, mixed.1)

-- the next node, below so many trims and splits, and what is left behind it
unfoldable pub node_said : Naming → ℕ → Left → Reading (Node × Left)
node_said n above left = head_at n above left >>= λ head. body_at n head (drop 1 left)
