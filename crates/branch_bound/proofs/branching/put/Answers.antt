use Rattle.std.proofs.Common.{◌≡◌, length, refl, rules}
use Rattle.branch_bound.specs.History.{IsPut}
use Rattle.branch_bound.specs.declared.search.Search.{Search}
use Rattle.branch_bound.proofs.Grown.{put_behind, where_ok}
use Rattle.branch_bound.proofs.branching.put.Goals as goal

pub returns : goal.returns
returns c =
    let there : c.len-number.result ≡ length c.args.search.now.made.items = search rules in
    let after : Search = record c.args.search.now { made = c.push.new.self; waiting = c.rank.new.waiting } in
    where_ok c.rank.result _ (IsPut c.args.search.now after c.args.origin c.args.state)
    (λ ranks. put_behind c.args.search.now after c.args.origin c.args.state _ _ refl refl refl refl c.in_ok-push.ensures.items there c.index.ensures ranks) c.rank.ensures
