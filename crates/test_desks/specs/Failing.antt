-- Which calls are to fail, and what they leave.
use Rattle.std.specs.Prelude.{◌==◌, ℕ, List, Option, option_map, IsSome}
use Rattle.std.specs.List.{find}
use Rattle.test_desks.specs.declared.failing.FailingCall.{FailingCall}

-- how many first bytes the call of this number leaves, by its first entry in the list
abbrev pub bytes_left : ℕ → List FailingCall → Option ℕ
bytes_left call failing = option_map (λ entry. entry.bytes) (find (λ entry. entry.call == call) failing)

-- the call of this number is in the list
abbrev pub IsListed : ℕ → List FailingCall → Type 0
IsListed call failing = IsSome (bytes_left call failing)
