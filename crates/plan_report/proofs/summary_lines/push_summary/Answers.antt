use Rattle.std.proofs.Common.{◌≡◌, List, ℕ, ◌++◌, Result, Ok, Err, OnOk, ap, ◌∙◌, append_assoc, rules}
use Rattle.dual_bound.specs.Leaves.{counts_of}
use Rattle.entries.specs.declared.memory.NoMemory.{NoMemory}
use Rattle.dual_bound.specs.Solved.{tree_of}
use Rattle.plan_report.specs.Summary.{count_lines, plan_lines, result_lines, summary_text}
use Rattle.plan_report.proofs.summary_lines.push_summary.Goals as goal

-- three parts, appended one after the other
three_joined : {U : Type 0} (done : Result U NoMemory) (x₀ x₁ x₂ x₃ a b c : List ℕ) → x₁ ≡ x₀ ++ a → x₂ ≡ x₁ ++ b → OnOk done (x₃ ≡ x₂ ++ c) → OnOk done (x₃ ≡ x₀ ++ ((a ++ b) ++ c))
three_joined (Ok u) x₀ x₁ x₂ x₃ a b c e₁ e₂ e₃ = e₃ ∙ ap (λ x. x ++ c) (e₂ ∙ ap (λ x. x ++ b) e₁ ∙ append_assoc x₀ a b) ∙ append_assoc x₀ (a ++ b) c
three_joined (Err error) x₀ x₁ x₂ x₃ a b c e₁ e₂ e₃ = tt

pub returns : goal.returns
unfolding summary_text
returns c =
    let s = c.args.solved.now in
    let counts : c.counts.result ≡ counts_of (tree_of s) = search rules in
    three_joined c.push_plan.result c.args.text.now.items c.push_result.new.text.items c.push_counts.new.text.items c.push_plan.new.text.items
    (result_lines s) (count_lines (counts_of (tree_of s))) (plan_lines c.args.tables.now s c.args.rotations.now) c.in_ok-push_result.ensures
    (c.in_ok-push_counts.ensures ∙ ap (λ n. c.push_result.new.text.items ++ count_lines n) counts) c.push_plan.ensures
