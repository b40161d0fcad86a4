-- The removals of presolve, put above a tree, and what stands below them.
use Rattle.std.specs.Prelude.{Box, ◌≡◌, ◌<◌, true, false, List, [], ◌∷◌, ⊤}
use Rattle.std.specs.declared.alloc.Global.{Global}
use Rattle.fleet_model.specs.declared.limits.TheConstants.{MAX_CHOICES, MAX_LEGS}
use Rattle.fleet_model.specs.Kept.{Domains, all_pairs}
use Rattle.fleet_model.specs.declared.tables.Tables.{Tables}
use Rattle.dual_bound.specs.Bound.{part}
use Rattle.dual_bound.specs.declared.trees.Tree.{Tree, Trim}
use Rattle.dual_bound.specs.declared.trees.Tree.TheVariants as tree
use Rattle.presolve.specs.Removals.{AreRemovals, first_place}
use Rattle.presolve.specs.declared.trims.Trim.{Trim as Removal}
use Rattle.node_bounding.specs.Runs.{IsSearched}

-- a removal of a pair that there may be
pub record IsRemovalWithin (removal : Removal) : Type 0 where
  pub leg : removal.leg < MAX_LEGS
  pub choice : removal.choice < MAX_CHOICES

-- a tree below a removal: the part with the pair is refuted by its reason, and the tree is that of the other part
pub record IsBelow (removal : Removal) (rest whole : Tree) : Type 0 where
  pub with_pair : Box Tree Global
  pub without : Box Tree Global
  pub is : whole ≡ Trim removal.leg removal.choice with_pair without
  pub yes_is : with_pair.value ≡ tree.Refuted removal.reason
  pub no_is : without.value ≡ rest

-- a tree below removals, the first of them topmost
abbrev pub AreBelow : List Removal → Tree → Tree → Type 0
AreBelow [] rest whole = whole ≡ rest
AreBelow (removal ∷ removals) rest whole = (inner : Tree) × AreBelow removals rest inner × IsBelow removal inner whole

-- A part of a tree in which nothing is removed: its leaves that are refuted, priced or open, and its splits, are of
-- subproblems that are searched.
abbrev pub AreSearched : Tables → Domains → Tree → Type 0
AreSearched t keeps (tree.Bare leg) = ⊤
AreSearched t keeps tree.Sole = ⊤
AreSearched t keeps (tree.Refuted prices) = IsSearched t keeps
AreSearched t keeps (tree.Priced prices) = IsSearched t keeps
AreSearched t keeps (tree.Open prices why) = IsSearched t keeps
AreSearched t keeps (tree.Trim' leg choice p with_pair q without) = ⊥
AreSearched t keeps (tree.Split' leg choice prices mixed p with_pair q without) =
    IsSearched t keeps × AreSearched t (part keeps leg choice true) with_pair × AreSearched t (part keeps leg choice false) without

-- removals on top of a tree, in their order, each refuted by its reason, and below them nothing more is removed
abbrev pub AreOnTop : Tables → Domains → List Removal → Tree → Type 0
AreOnTop t keeps [] whole = AreSearched t keeps whole
AreOnTop t keeps (removal ∷ removals) (tree.Trim' leg choice p with_pair q without) =
    (leg ≡ removal.leg) × (choice ≡ removal.choice) × (with_pair ≡ tree.Refuted removal.reason) × AreOnTop t (part keeps leg choice false) removals without
AreOnTop t keeps (removal ∷ removals) other = ⊥

-- the trims of a tree are the removals that presolve gives for the tables
pub record IsTrimmed (t : Tables) (whole : Tree) : Type 0 where
  pub removals : List Removal
  pub given : AreRemovals t (all_pairs t) first_place removals
  pub on_top : AreOnTop t (all_pairs t) removals whole
