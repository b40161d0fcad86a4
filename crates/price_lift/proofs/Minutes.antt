-- In which node a minute lies.
use Rattle.std.proofs.Common.{◌≡◌, ℕ, zero, suc, ◌+◌, ◌-◌, ◌<◌, ◌≤◌, true, ◌&&◌, nat_le, List, length, get_or, sym, subst, inl, inr, arith}
use Rattle.std.proofs.lemmas.Bool.{cases_lt, cases_order}
use Rattle.std.proofs.lemmas.Bool.Decides.{nat_tests}
use Rattle.fleet_model.specs.declared.tables.Tables.{Tables}
use Rattle.fleet_model.specs.Kept.{Domains}
use Rattle.fleet_model.specs.Schedule.{last_of}
use Rattle.node_aggregate.specs.Nodes.{AreNodesAt, end_in}
use Rattle.node_aggregate.proofs.Starts.{end_last, end_next, next_later}
use Rattle.lp_rows.specs.Entries.{is_in_node}

-- each start is later than those before, and the first is 0
pub record Rise (starts : List ℕ) : Type 0 where
  pub first : get_or starts 0 0 ≡ 0
  pub next : (k : ℕ) → k + 1 < length starts → get_or starts k 0 < get_or starts (k + 1) 0

pub nodes_rise : (t : Tables) (keeps : Domains) (f s : ℕ) (starts : List ℕ) → AreNodesAt t keeps f s starts → Rise starts
nodes_rise t keeps f s starts at = record { first = at.nodes.first; next = next_later t keeps f s starts at }

pub later : (starts : List ℕ) → Rise starts → (i j : ℕ) → i < j → j < length starts → get_or starts i 0 < get_or starts j 0
later starts rise i zero order within = absurd (omega arith)
later starts rise i (suc j) order within =
    let next : j + 1 ≡ suc j = omega arith in
    let step : get_or starts j 0 < get_or starts (suc j) 0 = subst (λ n. get_or starts j 0 < get_or starts n 0) next (rise.next j (omega arith)) in
    elim (cases_lt i j) [
      | inl before ↦ omega (arith, step, later starts rise i j before (omega arith))
      | inr same ↦ let at : i ≡ j = omega arith in subst (λ n. get_or starts n 0 < get_or starts (suc j) 0) (sym at) step
    ]

-- the node of a place has begun by the minute, and no later one has
pub record IsAtPlace (starts : List ℕ) (minute place : ℕ) : Type 0 where
  pub within : place < length starts
  pub begun : get_or starts place 0 ≤ minute
  pub last : (k : ℕ) → place < k → k < length starts → minute < get_or starts k 0

-- the last place below a number
last_below : (starts : List ℕ) (minute n : ℕ) → get_or starts 0 0 ≤ minute
    → (place : ℕ) × (place ≤ n) × (get_or starts place 0 ≤ minute) × ((k : ℕ) → place < k → k ≤ n → minute < get_or starts k 0)
last_below starts minute zero begun = (0, omega arith, begun, λ k above within. absurd (omega arith))
last_below starts minute (suc n) begun = elim (cases_lt minute (get_or starts (suc n) 0)) [
  | inl not_yet ↦
      let p = last_below starts minute n begun in (
        p.0,
        omega (arith, p.1),
        p.2,
        λ k above within. elim (cases_lt k (suc n)) [
          | inl less ↦ p.3 k above (omega arith)
          | inr same ↦ let at : k ≡ suc n = omega arith in subst (λ j. minute < get_or starts j 0) (sym at) not_yet
        ],
      )
  | inr has_begun ↦ (suc n, omega arith, has_begun, λ k above within. absurd (omega arith))
]

pub some_place : (starts : List ℕ) (minute : ℕ) → Rise starts → 0 < length starts → (place : ℕ) × IsAtPlace starts minute place
some_place starts minute rise some =
    let p = last_below starts minute (length starts - 1) (omega (arith, rise.first)) in
    (p.0, record { within = omega (arith, p.1); begun = p.2; last = λ k above within. p.3 k above (omega arith) })

-- what a test on a node says of its place
test_parts : (a m b : ℕ) → (nat_le a m && nat_le m b) ≡ true → (a ≤ m) × (m ≤ b)
test_parts a m b h = (grind (arith, nat_tests), grind (arith, nat_tests))

pub test_of : (a m b : ℕ) → a ≤ m → m ≤ b → (nat_le a m && nat_le m b) ≡ true
test_of a m b low high = grind (arith, nat_tests)

pub at_place : (t : Tables) (starts : List ℕ) (minute place : ℕ) → Rise starts → place < length starts → is_in_node t starts place minute ≡ true → IsAtPlace starts minute place
at_place t starts minute place rise within test =
    let parts = test_parts (get_or starts place 0) minute (end_in t starts place) test in
    record {
      within = within;
      begun = parts.0;
      last = λ k above below.
          let next : place + 1 < length starts = omega arith in
          let end = end_next t starts place next in
          let step = rise.next place next in
          elim (cases_lt (place + 1) k) [
            | inl more ↦ omega (arith, parts.1, end, step, later starts rise (place + 1) k more below)
            | inr same ↦ let at : k ≡ place + 1 = omega arith in subst (λ j. minute < get_or starts j 0) (sym at) (omega (arith, parts.1, end, step))
          ];
    }

pub in_node : (t : Tables) (starts : List ℕ) (minute place : ℕ) → minute ≤ last_of t → IsAtPlace starts minute place → is_in_node t starts place minute ≡ true
in_node t starts minute place period at = test_of (get_or starts place 0) minute (end_in t starts place) at.begun (elim (cases_lt (place + 1) (length starts)) [
  | inl more ↦ omega (arith, end_next t starts place more, at.last (place + 1) (omega arith) more)
  | inr none ↦ omega (arith, end_last t starts place none)
])

pub one_place : (starts : List ℕ) (minute p q : ℕ) → IsAtPlace starts minute p → IsAtPlace starts minute q → p ≡ q
one_place starts minute p q one other = elim (cases_order p q) [
  | inl same ↦ same
  | inr differ ↦ elim differ [
    | inl before ↦ absurd (omega (arith, one.last q before other.within, other.begun))
    | inr after ↦ absurd (omega (arith, other.last p after one.within, one.begun))
  ]
]
