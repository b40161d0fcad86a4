-- Names by their places in a list.
use Rattle.std.specs.Prelude.{ℕ, Bool, List, Option, Vec, bytes_eq, position}
use Rattle.std.specs.List.{list_any}
use Rattle.std.specs.declared.alloc.Global.{Global}

-- the name is one of the list
abbrev pub is_among : List ℕ → List (List ℕ) → Bool
is_among name names = list_any (bytes_eq name) names

-- the place of the name in the list, where it is there
abbrev pub number_of_name : List ℕ → List (List ℕ) → Option ℕ
number_of_name name names = position (bytes_eq name) names

-- the bytes of a name
abbrev pub bytes_of : Vec ℕ Global → List ℕ
bytes_of name = name.items
