-- The steps of a walk over prefixes.
use Rattle.std.proofs.Common.{◌≡◌, ℕ, ◌+◌, ◌<◌, ◌≤◌, Bool, true, false, ◌&&◌, ◌==◌, not, if◌then◌else◌, Option, Some, None, All, List, [], ◌∷◌, ◌++◌, get_or, length, set, slice_index, slice_index_or, refl, sym, ◌∙◌, ap, subst, arith}
use Rattle.std.specs.List.{filter}
use Rattle.std.proofs.lemmas.List.{drop_all, drop_more, get_or_default, length-set}
use Rattle.std.proofs.lemmas.List.Elements.{All-filter}
use mathlib.Core.Bool.{and-false}
use Rattle.sums.proofs.Places.{get_or-list_below, length-list_below}
use Rattle.sums.proofs.Tests.{both_true, none_some, not_true, parts_true, some_is}
use Rattle.fleet_model.specs.declared.parts.Connection.{Connection}
use Rattle.fleet_model.specs.declared.tables.Tables.{Tables}
use Rattle.fleet_model.specs.Counts.{choice_at}
use Rattle.fleet_model.specs.Schedule.{legs_in}
use Rattle.lines_of_flying.specs.ground_turns.Nights.{nights_in_turn}
use Rattle.euler_rotation.specs.declared.field.Field.{Field}
use Rattle.euler_rotation.specs.declared.path.Level.{Level}
use Rattle.euler_rotation.specs.declared.walk.Walk.{Walk}
use Rattle.euler_rotation.specs.Asked.{followers_of}
use Rattle.euler_rotation.specs.Often.{GoesOn, stays_below}
use Rattle.euler_rotation.specs.Prefixes.{has_leg, may_turn, nights_along, turn_to}
use Rattle.euler_rotation.specs.Walks.{AreLevels, GoesDeeper, IsField, IsLevel, IsNextLevel, IsOpening, IsWalk, Opens, OpensFirst, OpensOrNot, WalkStandsAt, followers_from, legs_of_path, opens_in, pending_in, preorder_in, tail_of, top_of}
use Rattle.euler_rotation.proofs.Along.{goes_on}
use Rattle.euler_rotation.proofs.Extending.{first_extends, none_open, pending_deeper, preorder_first}
use Rattle.euler_rotation.proofs.Marks.{marks_entered}
use Rattle.euler_rotation.proofs.TourTurns.{own_leg}

-- ---- the last level of a path
module _ (t : Tables) (a : List ℕ) (f days : ℕ) where
  top_level : (path : List Level) (top : Level) → AreLevels t a f days path → top_of path ≡ Some top → IsLevel t a f days (legs_of_path (tail_of path)) top
  top_level [] top levels is = absurd (none_some is)
  top_level (x ∷ outer) top levels is = subst (IsLevel t a f days (legs_of_path outer)) (some_is x top is) levels.0

top_legs : (path : List Level) (top : Level) → top_of path ≡ Some top → legs_of_path path ≡ legs_of_path (tail_of path) ++ top.leg ∷ []
top_legs [] top is = absurd (none_some is)
top_legs (x ∷ outer) top is = ap (λ y. legs_of_path outer ++ y.leg ∷ []) (some_is x top is)

module _ (field : Field) where
  abbrev t : Tables
  t = field.clean.now.asked.now.tables.now

  abbrev a : List ℕ
  a = field.clean.now.asked.now.plan.now

  abbrev f : ℕ
  f = field.clean.now.asked.now.fleet

  abbrev pairs : List Connection
  pairs = field.clean.now.asked.now.pairs.now

  abbrev days : ℕ
  days = field.clean.now.asked.now.days

  abbrev order : List ℕ
  order = field.order.now

  -- ---- followers
  module _ (is_field : IsField field) where
    pub followers_long : length field.followers.items ≡ legs_in t
    followers_long = ap length is_field.followers ∙ length-list_below (followers_of t a f pairs order) (legs_in t)

    pub followers_read : (l : ℕ) (entry : List ℕ) → l < legs_in t → entry ≡ get_or field.followers.items l entry → entry ≡ followers_of t a f pairs order l
    followers_read l entry lt read =
        read ∙ ap (λ all. get_or all l entry) is_field.followers ∙ get_or-list_below (followers_of t a f pairs order) (legs_in t) l entry lt

    -- a leg of the order
    pub record IsOwn (l : ℕ) : Type 0 where
      pub known : l < legs_in t
      pub own : choice_at a l ≡ f

    all_own : All IsOwn order
    all_own k d lt =
        subst IsOwn (get_or_default order k 0 d lt) (record { known = is_field.order.known k lt; own = own_leg t a f order is_field.order k lt })

    pub follower_own : (l k : ℕ) → k < length (followers_of t a f pairs order l) → IsOwn (slice_index (followers_of t a f pairs order l) k)
    follower_own l k lt = by_kind (choice_at a l == f) refl
      where
        by_kind : (b : Bool) → (choice_at a l == f) ≡ b → IsOwn (slice_index (followers_of t a f pairs order l) k)
        by_kind true e =
            let is : followers_of t a f pairs order l ≡ filter (may_turn t a f pairs l) order = ap (λ b. if b then filter (may_turn t a f pairs l) order else []) e in
            subst (λ (legs : List ℕ). IsOwn (slice_index legs k)) (sym is) (All-filter (may_turn t a f pairs l) IsOwn order all_own k 0 (omega (arith, lt, ap length is)))
        by_kind false e =
            let is : followers_of t a f pairs order l ≡ [] = ap (λ b. if b then filter (may_turn t a f pairs l) order else []) e in
            absurd (omega (arith, lt, ap length is))

  -- ---- whether a leg may follow
  pub opened : (walk : Walk) (top : Level) (leg : ℕ) (more : Option ℕ) → IsWalk field walk → top_of walk.path ≡ Some top → leg < legs_in t → slice_index_or walk.used.items leg false ≡ false
      → GoesOn t days top.since (nights_in_turn t f (turn_to top.leg leg)) more → OpensOrNot field walk.path leg more
  opened walk top leg more is_walk is lt unused goes = told more
      (subst (λ (legs : List ℕ). GoesOn t days 0 (nights_along t f (legs ++ leg ∷ [])) more) (sym (top_legs walk.path top is))
      (goes_on (legs_of_path (tail_of walk.path)) top.leg leg t f days top.since level.often level.since more goes))
    where
      level : IsLevel t a f days (legs_of_path (tail_of walk.path)) top
      level = top_level t a f days walk.path top is_walk.levels is

      new : not (has_leg (legs_of_path walk.path) leg) ≡ true
      new = ap not (sym (is_walk.marks leg lt) ∙ unused)

      told : (more : Option ℕ) → GoesOn t days 0 (nights_along t f (legs_of_path walk.path ++ leg ∷ [])) more → OpensOrNot field walk.path leg more
      told None over = ap (λ b. not (has_leg (legs_of_path walk.path) leg) && b) over ∙ and-false (not (has_leg (legs_of_path walk.path) leg))
      told (Some since) stays = record {
        opens = both_true (not (has_leg (legs_of_path walk.path) leg)) (stays_below t days 0 (nights_along t f (legs_of_path walk.path ++ leg ∷ []))) new stays.below;
        below = stays;
      }

  -- ---- the first that may
  module _ (is_field : IsField field) (path : List Level) (top : Level) (place : ℕ) (low : place < length (followers_of t a f pairs order top.leg)) where
    here : followers_from field top place ≡ slice_index (followers_of t a f pairs order top.leg) place ∷ followers_from field top (place + 1)
    here = drop_more (followers_of t a f pairs order top.leg) place 0 low

    kept_if : (b : Bool) → opens_in field path (slice_index (followers_of t a f pairs order top.leg) place) ≡ b
        → filter (opens_in field path) (followers_from field top place)
        ≡ (if b then slice_index (followers_of t a f pairs order top.leg) place ∷ filter (opens_in field path) (followers_from field top (place + 1)) else filter (opens_in field path) (followers_from field top (place + 1)))
    kept_if b e =
        ap (filter (opens_in field path)) here
        ∙ ap (λ c. if c then slice_index (followers_of t a f pairs order top.leg) place ∷ filter (opens_in field path) (followers_from field top (place + 1)) else filter (opens_in field path) (followers_from field top (place + 1))) e

    pub passed_by : (leg : ℕ) → leg ≡ slice_index (followers_of t a f pairs order top.leg) place → opens_in field path leg ≡ false
        → filter (opens_in field path) (followers_from field top place) ≡ filter (opens_in field path) (followers_from field top (place + 1))
    passed_by leg is closed = kept_if false (ap (opens_in field path) (sym is) ∙ closed)

    pub opens_first : (from leg since : ℕ) → leg ≡ slice_index (followers_of t a f pairs order top.leg) place
        → filter (opens_in field path) (followers_from field top from) ≡ filter (opens_in field path) (followers_from field top place)
        → Opens field path leg since → OpensFirst field path top from (record { leg = leg; next = place + 1; since = since })
    opens_first from leg since is same opens = record {
      first = same ∙ kept_if true (ap (opens_in field path) (sym is) ∙ opens.opens) ∙ ap (λ l. l ∷ filter (opens_in field path) (followers_from field top (place + 1))) (sym is);
      fits = record {
        known = own.known;
        own = own.own;
        new = not_true (has_leg (legs_of_path path) leg) (parts_true (not (has_leg (legs_of_path path) leg)) (stays_below t days 0 (nights_along t f (legs_of_path path ++ leg ∷ []))) opens.opens).0;
        often = opens.below.below;
        since = opens.below.since_is;
        few = opens.below.few;
      };
    }
      where
        own : IsOwn is_field leg
        own = subst (IsOwn is_field) (sym is) (follower_own is_field top.leg place low)

  pub none_left : (path : List Level) (top : Level) (place : ℕ) → length (followers_of t a f pairs order top.leg) ≤ place → filter (opens_in field path) (followers_from field top place) ≡ []
  none_left path top place le = ap (filter (opens_in field path)) (drop_all place (followers_of t a f pairs order top.leg) le)

  -- ---- the next level
  pub next_told : (path : List Level) (top : Level) (from : ℕ) (next : Option Level) → top_of path ≡ Some top → length path < length order → IsOpening field path top from next → IsNextLevel field path from next
  next_told path top from None is less opening = none_open t a f pairs days order path top from is opening
  next_told path top from (Some level) is less opening = record {
    first = first_extends t a f pairs days order path top level from is less opening.fits.own opening.first;
    fits = opening.fits;
  }

  -- ---- into a prefix and out of it
  pub entered : (old new : Walk) (top level : Level) (from : ℕ) (visits : List (List ℕ)) → IsWalk field old → top_of old.path ≡ Some top → visits ≡ pending_in field old.path from → GoesDeeper field old.path from level
      → new.path ≡ level ∷ old.path → new.used.items ≡ set old.used.items level.leg true → WalkStandsAt field visits new
  entered old new top level from visits is_walk is same deeper path used = record {
    walk = record {
      levels = subst (AreLevels t a f days) (sym path) (deeper.fits, is_walk.levels);
      each_leg = ap length used ∙ length-set old.used.items level.leg true ∙ is_walk.each_leg;
      marks = λ l lt. ap (λ items. slice_index_or items l false) used
          ∙ marks_entered old.used.items (legs_of_path old.path) level.leg (omega (arith, is_walk.each_leg, deeper.fits.known)) (λ k low. is_walk.marks k (omega (arith, low, is_walk.each_leg))) l (omega (arith, lt, is_walk.each_leg))
          ∙ ap (λ p. has_leg (legs_of_path p) l) (sym path);
    };
    first = same ∙ pending_deeper t a f pairs days order old.path top level from is deeper.first ∙ ap (λ p. legs_of_path p ∷ pending_in field p 0) (sym path);
  }

  pub top_known : (walk : Walk) (top : Level) → IsWalk field walk → top_of walk.path ≡ Some top → top.leg < legs_in t
  top_known walk top is_walk is = (top_level t a f days walk.path top is_walk.levels is).known

  -- ---- the first prefix
  pub begun : (walk : Walk) (level : Level) (none : List Bool) → IsField field → length none ≡ legs_in t → ((k : ℕ) → k < legs_in t → slice_index_or none k false ≡ false)
      → walk.path ≡ level ∷ [] → walk.used.items ≡ set none level.leg true → level.leg ≡ slice_index order 0 → level.since ≡ 0 → WalkStandsAt field (preorder_in field) walk
  begun walk level none is_field size unset path used is since = record {
    walk = record {
      levels = subst (AreLevels t a f days) (sym path) (fits, tt);
      each_leg = ap length used ∙ length-set none level.leg true ∙ size;
      marks = λ l lt. ap (λ items. slice_index_or items l false) used
          ∙ marks_entered none [] level.leg (omega (arith, size, known)) (λ k low. unset k (omega (arith, low, size))) l (omega (arith, lt, size))
          ∙ ap (λ p. has_leg (legs_of_path p) l) (sym path);
    };
    first = preorder_first t a f pairs days order level is_field.some own is ∙ ap (λ p. legs_of_path p ∷ pending_in field p 0) (sym path);
  }
    where
      known : level.leg < legs_in t
      known = subst (λ (l : ℕ). l < legs_in t) (sym is) (is_field.order.known 0 is_field.some)

      own : choice_at a level.leg ≡ f
      own = ap (choice_at a) is ∙ own_leg t a f order is_field.order 0 is_field.some

      fits : IsLevel t a f days [] level
      fits = record { known = known; own = own; new = refl; often = refl; since = since; few = omega (arith, since, is_field.clean.asked.some_days) }
