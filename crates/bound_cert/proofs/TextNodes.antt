-- Nodes that are read are in written order, and their lines are those that are read.
use Rattle.bound_cert.proofs.ReadBack.{either_way, goes, ok_same}
use Rattle.bound_cert.proofs.TextLines.{LineIs, line_was}
use Rattle.bound_cert.proofs.TextLists.{mixed_was, prices_were}
use Rattle.bound_cert.proofs.WrittenLines.{names, texts, texts_append}
use Rattle.bound_cert.proofs.WrittenNodes.{first_line}
use Rattle.bound_cert.specs.Lines.{Left, line_due}
use Rattle.bound_cert.specs.ProofText.{ArePricesIn, IsNodeIn, mixed_lines, price_lines, node_lines}
use Rattle.bound_cert.specs.Reading.{body_at, head_at, head_of, mixed_node, mixed_said, node_said, priced_node, prices_said}
use Rattle.bound_cert.specs.declared.nodes.Fraction.{Fraction}
use Rattle.bound_cert.specs.declared.nodes.Head.{Head}
use Rattle.bound_cert.specs.declared.nodes.Priced.{Priced}
use Rattle.dual_bound.specs.WrittenOrder.{ArePricesInOrder, IsMixedInOrder, IsNodeInOrder}
use Rattle.dual_bound.specs.declared.mixed.Mixed.{Mixed}
use Rattle.dual_bound.specs.declared.nodes.Node.{Node}
use Rattle.dual_bound.specs.declared.prices.Prices.{Prices}
use Rattle.dual_bound.specs.declared.trees.TheConstants.{MAX_DEPTH}
use Rattle.fleet_model.specs.declared.tables.Tables.{Tables}
use Rattle.proof_lines.specs.declared.line.Version.{Version}
use Rattle.proof_lines.specs.Laws.{IsLineOf}
use Rattle.proof_lines.specs.LineText.{line_bytes}
use Rattle.proof_lines.specs.Reading.{made}
use Rattle.proof_lines.specs.declared.line.Line.{Line}
use Rattle.std.proofs.Common.{[], ◌++◌, ◌∙◌, ◌∷◌, ◌≡◌, ◌≤◌, Ok, ap, append-nil, arith, drop, nat_le, refl, subst, sym, ℕ}
use Rattle.std.proofs.lemmas.Bool.Decides.{nat_tests}
use Rattle.bound_cert.specs.declared.nodes.Alone.TheVariants as alone
use Rattle.bound_cert.specs.declared.nodes.Fraction.TheVariants as fraction
use Rattle.bound_cert.specs.declared.nodes.Head.TheVariants as head
use Rattle.bound_cert.specs.declared.nodes.Priced.TheVariants as priced
use Rattle.bound_cert.specs.declared.reading_lines.Due.TheVariants as due
use Rattle.dual_bound.specs.declared.nodes.Node.TheVariants as node
use Rattle.proof_lines.specs.declared.line.Line.TheVariants as says

-- the first line of a node that was read
head_is : (line : Line) (left : Left) (h : Head) → head_of line left ≡ Ok h → line ≡ first_line h
head_is (says.Bare leg) left h e = ap first_line (ok_same (head.Alone (alone.Bare leg)) h e)
head_is says.Sole left h e = ap first_line (ok_same (head.Alone alone.Sole) h e)
head_is says.Refuted left h e = ap first_line (ok_same (head.Priced priced.Refuted) h e)
head_is says.Priced left h e = ap first_line (ok_same (head.Priced priced.Closed) h e)
head_is says.OpenNodes left h e = ap first_line (ok_same (head.Mixed fraction.Nodes) h e)
head_is (says.OpenPivots made) left h e = ap first_line (ok_same (head.Priced (priced.Pivots made)) h e)
head_is (says.OpenGrew pivots row column) left h e = ap first_line (ok_same (head.Priced (priced.Grew pivots row column)) h e)
head_is (says.OpenLift step at) left h e = ap first_line (ok_same (head.Priced (priced.Lift step at)) h e)
head_is (says.Trim leg choice) left h e = ap first_line (ok_same (head.Alone (alone.Trim leg choice)) h e)
head_is (says.Split leg choice) left h e = ap first_line (ok_same (head.Mixed (fraction.Split leg choice)) h e)
head_is other left h e = absurd (cc e)

-- a node that was read: it is in order, a text of the version tells it, its lines are those that are read, and it isn't
-- too deep
pub record NodeWas (v : Version) (t : Tables) (above : ℕ) (left : Left) (read : Node × Left) : Type 0 where
  pub order : IsNodeInOrder t read.0
  pub tells : IsNodeIn v read.0
  pub text : left ≡ texts t (node_lines t read.0) ++ read.1
  pub deep : above ≤ MAX_DEPTH

record BodyWas (v : Version) (t : Tables) (h : Head) (rest : Left) (read : Node × Left) : Type 0 where
  order : IsNodeInOrder t read.0
  tells : IsNodeIn v read.0
  text : line_bytes t (first_line h) ∷ rest ≡ texts t (node_lines t read.0) ++ read.1

module _ (v : Version) (t : Tables) where
  -- prices behind a first line, alone and with a fractional assignment
  prices_alone : (line : Line) (prices : Prices) (rest behind : Left) → rest ≡ texts t (price_lines t prices) ++ behind → line_bytes t line ∷ rest ≡ texts t (line ∷ (price_lines t prices ++ [])) ++ behind
  prices_alone line prices rest behind e =
      ap (λ rest. line_bytes t line ∷ rest) (e ∙ ap (λ lines. texts t lines ++ behind) (sym (append-nil (price_lines t prices))))

  prices_and_mixed : (line : Line) (prices : Prices) (mixed : Mixed) (rest middle behind : Left) → rest ≡ texts t (price_lines t prices) ++ middle → middle ≡ texts t (mixed_lines mixed) ++ behind
      → line_bytes t line ∷ rest ≡ texts t (line ∷ (price_lines t prices ++ mixed_lines mixed)) ++ behind
  prices_and_mixed line prices mixed rest middle behind e f =
      ap (λ rest. line_bytes t line ∷ rest) (e ∙ ap (λ rest. texts t (price_lines t prices) ++ rest) f ∙ sym (texts_append t (price_lines t prices) (mixed_lines mixed) behind))

  -- a leaf of which prices were read
  priced_was : (h : Priced) (prices : Prices) (rest behind : Left) → ArePricesInOrder t prices → ArePricesIn v prices → rest ≡ texts t (price_lines t prices) ++ behind → IsLineOf t (first_line (head.Priced h))
      → BodyWas v t (head.Priced h) rest (priced_node h prices, behind)
  priced_was priced.Refuted prices rest behind order tells e is = record { order = order; tells = tells; text = ap (λ rest. line_bytes t says.Refuted ∷ rest) e }
  priced_was priced.Closed prices rest behind order tells e is = record { order = order; tells = tells; text = ap (λ rest. line_bytes t says.Priced ∷ rest) e }
  priced_was (priced.Pivots made) prices rest behind order tells e is = record { order = (order, record { held = is.figures }); tells = tells; text = prices_alone (says.OpenPivots made) prices rest behind e }
  priced_was (priced.Grew pivots row column) prices rest behind order tells e is = record {
    order = (order, (record { held = is.figures.0 }, record { held = is.figures.1 }, record { held = is.figures.2 }));
    tells = tells;
    text = prices_alone (says.OpenGrew pivots row column) prices rest behind e;
  }
  priced_was (priced.Lift step at) prices rest behind order tells e is =
      record { order = (order, (record { held = is.figures.0 }, record { held = is.figures.1 })); tells = tells; text = prices_alone (says.OpenLift step at) prices rest behind e }

  -- a node of which prices and a fractional assignment were read
  mixed_node_was : (h : Fraction) (prices : Prices) (mixed : Mixed) (rest middle behind : Left) → ArePricesInOrder t prices → ArePricesIn v prices → IsMixedInOrder t mixed → rest ≡ texts t (price_lines t prices) ++ middle
      → middle ≡ texts t (mixed_lines mixed) ++ behind → IsLineOf t (first_line (head.Mixed h)) → BodyWas v t (head.Mixed h) rest (mixed_node h prices mixed, behind)
  mixed_node_was fraction.Nodes prices mixed rest middle behind order tells other e f is =
      record { order = (order, (other)); tells = tells; text = prices_and_mixed says.OpenNodes prices mixed rest middle behind e f }
  mixed_node_was (fraction.Split leg choice) prices mixed rest middle behind order tells other e f is =
      record { order = (is.named, order, other); tells = tells; text = prices_and_mixed (says.Split leg choice) prices mixed rest middle behind e f }

  body_was : (h : Head) (rest : Left) (read : Node × Left) → body_at (names v t) h rest ≡ Ok read → IsLineOf t (first_line h) → BodyWas v t h rest read
  unfolding body_at
  body_was (head.Alone (alone.Bare leg)) rest read e is = subst (λ r. BodyWas v t (head.Alone (alone.Bare leg)) rest r) (ok_same (node.Bare leg, rest) read e) (record { order = is.named; tells = tt; text = refl })
  body_was (head.Alone alone.Sole) rest read e is = subst (λ r. BodyWas v t (head.Alone alone.Sole) rest r) (ok_same (node.Sole, rest) read e) (record { order = tt; tells = tt; text = refl })
  body_was (head.Alone (alone.Trim leg choice)) rest read e is =
      subst (λ r. BodyWas v t (head.Alone (alone.Trim leg choice)) rest r) (ok_same (node.Trim leg choice, rest) read e) (record { order = is.named; tells = tt; text = refl })
  body_was (head.Priced h) rest read e is =
      let prices = goes (prices_said (names v t) rest) _ read e in
      let was = prices_were v t rest prices.value prices.is in
      subst (λ r. BodyWas v t (head.Priced h) rest r) (ok_same (priced_node h prices.value.0, prices.value.1) read prices.on)
      (priced_was h prices.value.0 rest prices.value.1 was.order was.tells was.text is)
  body_was (head.Mixed h) rest read e is =
      let prices = goes (prices_said (names v t) rest) _ read e in
      let mixed = goes (mixed_said (names v t) prices.value.1) _ read prices.on in
      let was = prices_were v t rest prices.value prices.is in
      let other = mixed_was v t prices.value.1 mixed.value mixed.is in
      subst (λ r. BodyWas v t (head.Mixed h) rest r) (ok_same (mixed_node h prices.value.0 mixed.value.0, mixed.value.1) read mixed.on)
      (mixed_node_was h prices.value.0 mixed.value.0 rest prices.value.1 mixed.value.1 was.order was.tells other.order was.text other.text is)

  pub node_was : (above : ℕ) (left : Left) (read : Node × Left) → node_said (names v t) above left ≡ Ok read → NodeWas v t above left read
  unfolding node_said head_at
  node_was above left read e =
      let h = goes (head_at (names v t) above left) _ read e in
      let line = goes (line_due (names v t) due.Node left) _ h.value h.is in
      let said = goes (head_of line.value left) _ h.value line.on in
      either_way (nat_le above MAX_DEPTH) _ _ h.value said.on
      (λ fit same.
      let first = subst (LineIs v t left) (head_is line.value left said.value said.is) (line_was v t due.Node left line.value line.is) in
      let body = body_was said.value (drop 1 left) read (ap (λ h. body_at (names v t) h (drop 1 left)) (ok_same said.value h.value same) ∙ h.on) first.of_tables in
      record { order = body.order; tells = body.tells; text = first.is ∙ body.text; deep = grind (arith, nat_tests, fit) })
      (λ fit same. absurd (cc same))
