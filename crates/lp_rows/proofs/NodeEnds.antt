-- Nodes end one after another.
use Rattle.std.proofs.Common.{◌≡◌, ℕ, ◌+◌, ◌<◌, length, get_or, inl, inr, arith}
use Rattle.std.proofs.lemmas.Bool.{cases_lt}
use Rattle.fleet_model.specs.declared.tables.Tables.{Tables}
use Rattle.fleet_model.specs.Kept.{Domains}
use Rattle.node_aggregate.specs.Nodes.{AreNodesAt, end_in}
use Rattle.node_aggregate.proofs.Starts.{end_last, end_next, next_later, start_within}
use Rattle.lp_rows.specs.Layout.{Starts}

module _ (t : Tables) (keeps : Domains) (f s : ℕ) (starts : Starts) (at : AreNodesAt t keeps f s (starts f s)) where
  -- a node's end, and the next start
  pub next_start : (k : ℕ) → k + 1 < length (starts f s) → end_in t (starts f s) k + 1 ≡ get_or (starts f s) (k + 1) 0
  next_start k next = omega (arith, end_next t (starts f s) k next, next_later t keeps f s (starts f s) at k next)

  pub ends_rise : (k : ℕ) → k + 1 < length (starts f s) → end_in t (starts f s) k < end_in t (starts f s) (k + 1)
  ends_rise k next = elim (cases_lt (k + 1 + 1) (length (starts f s))) [
    | inl more ↦ omega (arith, next_start k next, end_next t (starts f s) (k + 1) more, next_later t keeps f s (starts f s) at (k + 1) more)
    | inr last ↦ omega (arith, next_start k next, end_last t (starts f s) (k + 1) last, start_within t keeps f s (starts f s) at (k + 1) next)
  ]
