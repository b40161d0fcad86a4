use Rattle.std.proofs.Common.{◌≡◌, ℕ, List, sym, subst}
use Rattle.fleet_model.specs.declared.parts.Connection.{Connection}
use Rattle.fleet_model.specs.declared.tables.Tables.{Tables}
use Rattle.lines_of_flying.specs.Successors.{AreSuccessors}
use Rattle.lines_of_flying.proofs.mapping.successors.Goals as goal

-- the same turns, told of what was looked up
told_again : (t u : Tables) (a b : List ℕ) (f g : ℕ) (pairs given turns all : List Connection) → u ≡ t → b ≡ a → g ≡ f → given ≡ pairs → all ≡ turns → AreSuccessors u b g given turns → AreSuccessors t a f pairs all
told_again t u a b f g pairs given turns all tables plan fleet held same are =
    subst (AreSuccessors t a f pairs) (sym same) (subst (λ ps. AreSuccessors t a f ps turns) held
    (subst (λ n. AreSuccessors t a n given turns) fleet (subst (λ choices. AreSuccessors t choices g given turns) plan (subst (λ s. AreSuccessors s b g given turns) tables are))))

pub turns_of-requires-clause-held : goal.turns_of-requires-clause-held
turns_of-requires-clause-held c = let ground = c.in_ok-ground.ensures in rw (ground.tables, ground.plan, ground.fleet, ground.pairs) c.requires.held

pub returns-clause-fitting : goal.returns-clause-fitting
returns-clause-fitting c =
    let ground = c.in_ok-ground.ensures in (told_again _ _ _ _ _ _ _ _ _ _ ground.tables ground.plan ground.fleet ground.pairs c.from_vec.ensures c.in_ok-turns.ensures).fitting

pub returns-clause-holds : goal.returns-clause-holds
returns-clause-holds c =
    let ground = c.in_ok-ground.ensures in (told_again _ _ _ _ _ _ _ _ _ _ ground.tables ground.plan ground.fleet ground.pairs c.from_vec.ensures c.in_ok-turns.ensures).holds

pub returns-clause-first_out : goal.returns-clause-first_out
returns-clause-first_out c =
    let ground = c.in_ok-ground.ensures in (told_again _ _ _ _ _ _ _ _ _ _ ground.tables ground.plan ground.fleet ground.pairs c.from_vec.ensures c.in_ok-turns.ensures).first_out

pub returns-clause-order : goal.returns-clause-order
returns-clause-order c =
    let ground = c.in_ok-ground.ensures in (told_again _ _ _ _ _ _ _ _ _ _ ground.tables ground.plan ground.fleet ground.pairs c.from_vec.ensures c.in_ok-turns.ensures).order
