use Rattle.std.proofs.Common.{◌≡◌, ℕ, ◌<◌, ◌≤◌, length}
use Rattle.lines_of_flying.specs.cycle_join.Labels.{label_of, relabelled}
use Rattle.lines_of_flying.proofs.cycle_join.labels.relabel.Given as goal

abbrev pub invariant-loop-label : goal.invariant-loop-label
invariant-loop-label l = record {
  same_length : length l.label-items ≡ length l.fn.labels.items;
  before : (k : ℕ) → k < l.label-index → label_of l.label-items k ≡ relabelled l.from l.to (label_of l.fn.labels.items k);
  after : (k : ℕ) → l.label-index ≤ k → label_of l.label-items k ≡ label_of l.fn.labels.items k;
}
