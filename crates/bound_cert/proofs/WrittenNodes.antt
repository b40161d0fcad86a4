-- A node in written order is what its lines read as.
use Rattle.bound_cert.proofs.ReadOn.{bound}
use Rattle.proof_lines.proofs.Choosing.{chosen}
use Rattle.bound_cert.proofs.WrittenLines.{begins_else, line_read, names, texts, texts_append}
use Rattle.bound_cert.proofs.WrittenPrices.{IsBehind, mixed_read, prices_read, some_behind}
use Rattle.bound_cert.specs.Lines.{Left, line_due, may_stand}
use Rattle.bound_cert.specs.ProofText.{ArePricesIn, IsNodeIn, mixed_lines, node_lines, price_lines, weight_line}
use Rattle.bound_cert.specs.Reading.{alone_node, body_at, deep_at, head_at, head_of, mixed_node, mixed_said, node_said, priced_node, prices_said}
use Rattle.bound_cert.specs.declared.nodes.Alone.{Alone}
use Rattle.bound_cert.specs.declared.nodes.Fraction.{Fraction}
use Rattle.bound_cert.specs.declared.nodes.Head.{Head}
use Rattle.bound_cert.specs.declared.nodes.Priced.{Priced}
use Rattle.dual_bound.specs.WrittenOrder.{ArePricesInOrder, IsMixedInOrder, IsNodeInOrder}
use Rattle.dual_bound.specs.declared.mixed.Mixed.{Mixed}
use Rattle.dual_bound.specs.declared.nodes.Node.{Node}
use Rattle.dual_bound.specs.declared.prices.Prices.{Prices}
use Rattle.dual_bound.specs.declared.trees.TheConstants.{MAX_DEPTH}
use Rattle.fleet_model.specs.declared.tables.Tables.{Tables}
use Rattle.proof_lines.specs.declared.line.Version.{Version}
use Rattle.proof_lines.specs.Forms.{form_of, has_form}
use Rattle.proof_lines.specs.Known.{named}
use Rattle.proof_lines.specs.Laws.{IsLineOf}
use Rattle.proof_lines.specs.LineText.{IsNamed, line_bytes}
use Rattle.proof_lines.specs.Reading.{made}
use Rattle.proof_lines.specs.declared.forms.Form.{Form}
use Rattle.proof_lines.specs.declared.line.Line.{Line}
use Rattle.std.proofs.Common.{[], ◌++◌, ◌∙◌, ◌∷◌, ◌≡◌, ◌≤◌, List, Ok, ap, append-nil, arith, false, map, nat_le, refl, subst, sym, true, ℕ}
use Rattle.std.proofs.lemmas.Bool.Decides.{nat_tests}
use Rattle.bound_cert.specs.declared.nodes.Alone.TheVariants as alone
use Rattle.bound_cert.specs.declared.nodes.Fraction.TheVariants as fraction
use Rattle.bound_cert.specs.declared.nodes.Head.TheVariants as head
use Rattle.bound_cert.specs.declared.nodes.Priced.TheVariants as priced
use Rattle.bound_cert.specs.declared.reading_lines.Due.TheVariants as due
use Rattle.dual_bound.specs.declared.nodes.Node.TheVariants as node
use Rattle.dual_bound.specs.declared.trees.Cause.TheVariants as cause
use Rattle.proof_lines.specs.declared.line.Line.TheVariants as says

-- the first line of a node, by what it says
abbrev pub first_line : Head → Line
first_line (head.Alone (alone.Bare leg)) = says.Bare leg
first_line (head.Alone alone.Sole) = says.Sole
first_line (head.Alone (alone.Trim leg choice)) = says.Trim leg choice
first_line (head.Priced priced.Refuted) = says.Refuted
first_line (head.Priced priced.Closed) = says.Priced
first_line (head.Priced (priced.Pivots made)) = says.OpenPivots made
first_line (head.Priced (priced.Grew pivots row column)) = says.OpenGrew pivots row column
first_line (head.Priced (priced.Lift step at)) = says.OpenLift step at
first_line (head.Mixed fraction.Nodes) = says.OpenNodes
first_line (head.Mixed (fraction.Split leg choice)) = says.Split leg choice

head_read : (h : Head) (left : Left) → head_of (first_line h) left ≡ Ok h
head_read (head.Alone (alone.Bare leg)) left = refl
head_read (head.Alone alone.Sole) left = refl
head_read (head.Alone (alone.Trim leg choice)) left = refl
head_read (head.Priced priced.Refuted) left = refl
head_read (head.Priced priced.Closed) left = refl
head_read (head.Priced (priced.Pivots made)) left = refl
head_read (head.Priced (priced.Grew pivots row column)) left = refl
head_read (head.Priced (priced.Lift step at)) left = refl
head_read (head.Mixed fraction.Nodes) left = refl
head_read (head.Mixed (fraction.Split leg choice)) left = refl

-- it may stand where a node is due, in each version, and begins no rent, charge, step or weight
record BeginsNode (form : Form) : Type 0 where
  node : may_stand due.Node form ≡ true
  no_rent : may_stand due.Rent form ≡ false
  no_charge : may_stand due.Charge form ≡ false
  no_step : may_stand due.Step form ≡ false
  no_weight : may_stand due.Weight form ≡ false
  of_version : (v : Version) → has_form v form ≡ true

begins_node : (h : Head) → BeginsNode (form_of (first_line h))
begins_node (head.Alone (alone.Bare leg)) = record { node = refl; no_rent = refl; no_charge = refl; no_step = refl; no_weight = refl; of_version = λ v. refl }
begins_node (head.Alone alone.Sole) = record { node = refl; no_rent = refl; no_charge = refl; no_step = refl; no_weight = refl; of_version = λ v. refl }
begins_node (head.Alone (alone.Trim leg choice)) = record { node = refl; no_rent = refl; no_charge = refl; no_step = refl; no_weight = refl; of_version = λ v. refl }
begins_node (head.Priced priced.Refuted) = record { node = refl; no_rent = refl; no_charge = refl; no_step = refl; no_weight = refl; of_version = λ v. refl }
begins_node (head.Priced priced.Closed) = record { node = refl; no_rent = refl; no_charge = refl; no_step = refl; no_weight = refl; of_version = λ v. refl }
begins_node (head.Priced (priced.Pivots made)) = record { node = refl; no_rent = refl; no_charge = refl; no_step = refl; no_weight = refl; of_version = λ v. refl }
begins_node (head.Priced (priced.Grew pivots row column)) = record { node = refl; no_rent = refl; no_charge = refl; no_step = refl; no_weight = refl; of_version = λ v. refl }
begins_node (head.Priced (priced.Lift step at)) = record { node = refl; no_rent = refl; no_charge = refl; no_step = refl; no_weight = refl; of_version = λ v. refl }
begins_node (head.Mixed fraction.Nodes) = record { node = refl; no_rent = refl; no_charge = refl; no_step = refl; no_weight = refl; of_version = λ v. refl }
begins_node (head.Mixed (fraction.Split leg choice)) = record { node = refl; no_rent = refl; no_charge = refl; no_step = refl; no_weight = refl; of_version = λ v. refl }

module _ (v : Version) (t : Tables) where
  -- what the first line of a node says, and how its other lines read
  pub record NodeReads (n : Node) : Type 0 where
    pub first : Head
    pub others : List Line
    pub lines : node_lines t n ≡ first_line first ∷ others
    pub of_tables : IsLineOf t (first_line first)
    pub body : (behind : Left) → IsBehind behind → body_at (names v t) first (texts t others ++ behind) ≡ Ok (n, behind)

  pub behind_line : (line : Line) (rest : Left) → IsNamed t line → may_stand due.Rent (form_of line) ≡ false → may_stand due.Charge (form_of line) ≡ false → may_stand due.Step (form_of line) ≡ false
      → may_stand due.Weight (form_of line) ≡ false → IsBehind (line_bytes t line ∷ rest)
  behind_line line rest named no_rent no_charge no_step no_weight = record {
    some = omega arith;
    no_rent = λ v. begins_else v t line rest due.Rent named no_rent;
    no_charge = λ v. begins_else v t line rest due.Charge named no_charge;
    no_step = λ v. begins_else v t line rest due.Step named no_step;
    no_weight = λ v. begins_else v t line rest due.Weight named no_weight;
  }

  -- prices that nothing of a cause follows
  prices_alone : (prices : Prices) (behind : Left) → ArePricesInOrder t prices → ArePricesIn v prices → IsBehind behind → prices_said (names v t) (texts t (price_lines t prices ++ []) ++ behind) ≡ Ok (prices, behind)
  prices_alone prices behind are tells ends = ap (λ lines. prices_said (names v t) (texts t lines ++ behind)) (append-nil (price_lines t prices)) ∙ prices_read v t prices behind are tells ends

  before_mixed : (mixed : Mixed) (behind : Left) → IsBehind (texts t (mixed_lines mixed) ++ behind)
  before_mixed mixed behind = behind_line (says.Mixed mixed.scale) (texts t (map weight_line mixed.weights) ++ behind) tt refl refl refl refl

  prices_then : (prices : Prices) (mixed : Mixed) (behind : Left) → ArePricesInOrder t prices → ArePricesIn v prices
      → prices_said (names v t) (texts t (price_lines t prices ++ mixed_lines mixed) ++ behind) ≡ Ok (prices, texts t (mixed_lines mixed) ++ behind)
  prices_then prices mixed behind are tells =
      ap (prices_said (names v t)) (texts_append t (price_lines t prices) (mixed_lines mixed) behind)
      ∙ prices_read v t prices (texts t (mixed_lines mixed) ++ behind) are tells (before_mixed mixed behind)

  -- a leaf of which prices follow, and a node of which prices and a fractional assignment do
  priced_body : (said : Priced) (prices : Prices) (behind : Left) → ArePricesInOrder t prices → ArePricesIn v prices → IsBehind behind
      → body_at (names v t) (head.Priced said) (texts t (price_lines t prices ++ []) ++ behind) ≡ Ok (priced_node said prices, behind)
  unfolding body_at
  priced_body said prices behind are tells ends = bound (prices_said (names v t) (texts t (price_lines t prices ++ []) ++ behind)) (prices, behind) _ (prices_alone prices behind are tells ends)

  mixed_body : (said : Fraction) (prices : Prices) (mixed : Mixed) (behind : Left) → ArePricesInOrder t prices → ArePricesIn v prices → IsMixedInOrder t mixed → IsBehind behind
      → body_at (names v t) (head.Mixed said) (texts t (price_lines t prices ++ mixed_lines mixed) ++ behind) ≡ Ok (mixed_node said prices mixed, behind)
  unfolding body_at
  mixed_body said prices mixed behind are tells is ends =
      bound (prices_said (names v t) (texts t (price_lines t prices ++ mixed_lines mixed) ++ behind)) (prices, texts t (mixed_lines mixed) ++ behind) _ (prices_then prices mixed behind are tells)
      ∙ bound (mixed_said (names v t) (texts t (mixed_lines mixed) ++ behind)) (mixed, behind) _ (mixed_read v t mixed behind is ends)

  priced_reads : (said : Priced) (prices : Prices) → node_lines t (priced_node said prices) ≡ first_line (head.Priced said) ∷ (price_lines t prices ++ []) → IsLineOf t (first_line (head.Priced said)) → ArePricesInOrder t prices
      → ArePricesIn v prices → NodeReads (priced_node said prices)
  priced_reads said prices lines is are tells = record {
    first = head.Priced said;
    others = price_lines t prices ++ [];
    lines = lines;
    of_tables = is;
    body = λ behind ends. priced_body said prices behind are tells ends;
  }

  mixed_reads : (said : Fraction) (prices : Prices) (mixed : Mixed) → node_lines t (mixed_node said prices mixed) ≡ first_line (head.Mixed said) ∷ (price_lines t prices ++ mixed_lines mixed) → IsLineOf t (first_line (head.Mixed said))
      → ArePricesInOrder t prices → ArePricesIn v prices → IsMixedInOrder t mixed → NodeReads (mixed_node said prices mixed)
  mixed_reads said prices mixed lines is are tells of_mixed = record {
    first = head.Mixed said;
    others = price_lines t prices ++ mixed_lines mixed;
    lines = lines;
    of_tables = is;
    body = λ behind ends. mixed_body said prices mixed behind are tells of_mixed ends;
  }

  alone_reads : (said : Alone) → node_lines t (alone_node said) ≡ first_line (head.Alone said) ∷ [] → IsLineOf t (first_line (head.Alone said)) → NodeReads (alone_node said)
  unfolding body_at
  alone_reads said lines is = record { first = head.Alone said; others = []; lines = lines; of_tables = is; body = λ behind ends. refl }

  pub node_reads : (n : Node) → IsNodeInOrder t n → IsNodeIn v n → NodeReads n
  node_reads (node.Bare leg) is tells = alone_reads (alone.Bare leg) refl (record { named = is; figures = tt })
  node_reads node.Sole is tells = alone_reads alone.Sole refl (record { named = tt; figures = tt })
  node_reads (node.Trim leg choice) is tells = alone_reads (alone.Trim leg choice) refl (record { named = is; figures = tt })
  node_reads (node.Refuted prices) is tells = priced_reads priced.Refuted prices (ap (λ lines. says.Refuted ∷ lines) (sym (append-nil (price_lines t prices)))) (record { named = tt; figures = tt }) is tells
  node_reads (node.Priced prices) is tells = priced_reads priced.Closed prices (ap (λ lines. says.Priced ∷ lines) (sym (append-nil (price_lines t prices)))) (record { named = tt; figures = tt }) is tells
  node_reads (node.Open prices (cause.Nodes mixed)) is tells = mixed_reads fraction.Nodes prices mixed refl (record { named = tt; figures = tt }) is.0 tells is.1
  node_reads (node.Open prices (cause.Pivots made)) is tells = priced_reads (priced.Pivots made) prices refl (record { named = tt; figures = is.1.held }) is.0 tells
  node_reads (node.Open prices (cause.Grew pivots row column)) is tells =
      priced_reads (priced.Grew pivots row column) prices refl (record { named = tt; figures = (is.1.0.held, is.1.1.held, is.1.2.held) }) is.0 tells
  node_reads (node.Open prices (cause.Lift step at)) is tells = priced_reads (priced.Lift step at) prices refl (record { named = tt; figures = (is.1.0.held, is.1.1.held) }) is.0 tells
  node_reads (node.Split leg choice prices mixed) is tells = mixed_reads (fraction.Split leg choice) prices mixed refl (record { named = is.0; figures = tt }) is.1 tells is.2

  pub node_read : (above : ℕ) (n : Node) (behind : Left) → IsNodeInOrder t n → IsNodeIn v n → above ≤ MAX_DEPTH → IsBehind behind → node_said (names v t) above (texts t (node_lines t n) ++ behind) ≡ Ok (n, behind)
  unfolding node_said head_at
  node_read above n behind is tells shallow ends =
      let reads = node_reads n is tells in
      let line = first_line reads.first in
      let rest : Left = texts t reads.others ++ behind in
      let left : Left = line_bytes t line ∷ rest in
      let whole : texts t (node_lines t n) ++ behind ≡ left = ap (λ lines. texts t lines ++ behind) reads.lines in
      let deep : deep_at above reads.first left ≡ Ok reads.first = chosen (nat_le above MAX_DEPTH) _ _ (grind (arith, nat_tests, shallow)) in
      let first : head_at (names v t) above left ≡ Ok reads.first =
      bound (line_due (names v t) due.Node left) line _ (line_read v t due.Node line rest ((begins_node reads.first).of_version v) reads.of_tables (begins_node reads.first).node (some_behind t reads.others behind ends.some))
      ∙ bound (head_of line left) reads.first _ (head_read reads.first left) ∙ deep in
      ap (node_said (names v t) above) whole ∙ bound (head_at (names v t) above left) reads.first _ first ∙ reads.body behind ends

  -- a node's line is of another kind than a rent, a charge, a step or a weight
  pub before_node : (n : Node) (more : List Line) (behind : Left) → IsNodeInOrder t n → IsNodeIn v n → IsBehind (texts t (node_lines t n ++ more) ++ behind)
  before_node n more behind is tells =
      let reads = node_reads n is tells in
      let begins = begins_node reads.first in
      subst (λ lines. IsBehind (texts t (lines ++ more) ++ behind)) (sym reads.lines)
      (behind_line (first_line reads.first) (texts t (reads.others ++ more) ++ behind) reads.of_tables.named begins.no_rent begins.no_charge begins.no_step begins.no_weight)
