-- What is known of the legs and prefixes that were found, told of what was asked.
use Rattle.std.proofs.Common.{◌≡◌, ℕ, ◌*◌, ◌≤◌, List, Result, IfOk, sym, subst}
use Rattle.entries.specs.declared.memory.NoMemory.{NoMemory}
use Rattle.lines_of_flying.specs.cycle_join.Joins.{FliesSome, IsApart, IsJoined, Joins}
use Rattle.lines_of_flying.specs.declared.cycle_join.joined.Joined.{Joined}
use Rattle.lines_of_flying.specs.declared.cycle_join.joined.Joined.TheVariants as joined
use Rattle.euler_rotation.specs.declared.asked.Asked.{Asked}
use Rattle.euler_rotation.specs.declared.search.Found.{Found}
use Rattle.euler_rotation.specs.declared.search.Found.TheVariants as found
use Rattle.euler_rotation.specs.Answers.{AreEnough, AreVisited, IsNone, IsRightTour, IsSpent}
use Rattle.euler_rotation.specs.Searches.{IsFoundUnder, IsTourTold}
use Rattle.euler_rotation.specs.Tours.{IsKeptTour, IsTourWith, nights_maintained, nights_used}
use Rattle.euler_rotation.proofs.Answering.{found_for, kept_for}

-- what a search found, by its cases
pub tour_found : (asked : Asked) (order legs again : List ℕ) (visits : ℕ) (it : Found) → IsFoundUnder asked.tables.now asked.plan.now asked.fleet asked.pairs.now asked.days order visits it → it ≡ found.Tour legs → again ≡ legs
    → IsKeptTour asked.tables.now asked.plan.now asked.fleet asked.pairs.now asked.days again
unfolding found_for kept_for
tour_found asked order legs again visits it is e back = subst (kept_for asked) (sym back) (subst (found_for asked order visits) e is)

pub spent_found : (asked : Asked) (order prefix : List ℕ) (visits : ℕ) (it : Found) → IsFoundUnder asked.tables.now asked.plan.now asked.fleet asked.pairs.now asked.days order visits it → it ≡ found.Spent prefix
    → AreVisited asked.tables.now asked.plan.now asked.fleet asked.pairs.now asked.days visits order prefix
unfolding found_for
spent_found asked order prefix visits it is e = subst (found_for asked order visits) e is

unfoldable told_for : List ℕ → ℕ → Result Found NoMemory → Asked → Type 0
told_for tour visits it asked = IfOk it (IsTourTold asked tour visits)

-- what is told of the same that was asked
pub told_again : (asked other : Asked) (tour : List ℕ) (visits : ℕ) (it : Result Found NoMemory) → other ≡ asked → IfOk it (IsTourTold other tour visits) → IfOk it (IsTourTold asked tour visits)
unfolding told_for
told_again asked other tour visits it same is = subst (told_for tour visits it) same is

-- ---- what the joined cycles tell
pub are_enough : (asked : Asked) (have used : ℕ) → FliesSome asked.tables.now asked.plan.now asked.fleet → have ≡ nights_maintained asked.tables.now asked.plan.now asked.fleet
    → used ≡ nights_used asked.tables.now asked.plan.now asked.fleet → used ≤ have * asked.days → AreEnough asked.tables.now asked.plan.now asked.fleet asked.days
are_enough asked have used flies have_is used_is enough = record {
  flies = flies;
  enough = subst (λ n. n ≤ nights_maintained asked.tables.now asked.plan.now asked.fleet * asked.days) used_is (subst (λ n. used ≤ n * asked.days) have_is enough);
}

unfoldable joins_for : Asked → Joined → Type 0
joins_for asked it = Joins asked.tables.now asked.plan.now asked.fleet asked.pairs.now it

pub apart_answer : (asked : Asked) (it : Joined) (legs : List ℕ) → Joins asked.tables.now asked.plan.now asked.fleet asked.pairs.now it → it ≡ joined.Apart legs
    → IsApart asked.tables.now asked.plan.now asked.fleet asked.pairs.now legs
unfolding joins_for
apart_answer asked it legs joins e = subst (joins_for asked) e joins

pub joined_tour : (asked : Asked) (it : Joined) (legs : List ℕ) → Joins asked.tables.now asked.plan.now asked.fleet asked.pairs.now it → it ≡ joined.Tour legs
    → IsTourWith asked.tables.now asked.plan.now asked.fleet asked.pairs.now legs
unfolding joins_for
joined_tour asked it legs joins e = let is : IsJoined asked.tables.now asked.plan.now asked.fleet asked.pairs.now legs = subst (joins_for asked) e joins in record { tour = is.tour; holds = is.holds }

-- what is told, by its cases
unfoldable pub is_told : Asked → List ℕ → ℕ → Found → Type 0
is_told asked tour visits it = IsTourTold asked tour visits it

module _ (asked : Asked) (tour : List ℕ) (visits : ℕ) (it : Found) (told : IsTourTold asked tour visits it) where
  pub tour_told : (legs : List ℕ) → it ≡ found.Tour legs → IsRightTour asked.tables.now asked.plan.now asked.fleet asked.pairs.now asked.days legs
  unfolding is_told
  tour_told legs e = subst (is_told asked tour visits) e told

  pub none_told : it ≡ found.Nothing → IsNone asked.tables.now asked.plan.now asked.fleet asked.pairs.now asked.days
  unfolding is_told
  none_told e = subst (is_told asked tour visits) e told

  pub spent_told : (prefix : List ℕ) → it ≡ found.Spent prefix → IsSpent asked.tables.now asked.plan.now asked.fleet asked.pairs.now asked.days visits tour prefix
  unfolding is_told
  spent_told prefix e = subst (is_told asked tour visits) e told
