-- How a put changes the output, and facts by a sink's answer.
use Rattle.std.specs.Prelude.{◌≡◌, ℕ, List, ◌++◌, length, take, Option, option_map, Result, Ok, Err}
use Rattle.std.specs.Io.KnownBytes.{Appends}
use Rattle.plan_desk.specs.Counts.{counted}
use Rattle.plan_desk.specs.declared.sink.SinkError.{SinkError}
use Rattle.plan_desk.specs.declared.sink.SinkError.TheVariants.{Failed, NoMemory}

-- the output with this piece appended, where the sink tells
abbrev pub output_with : Option (List ℕ) → List ℕ → Option (List ℕ)
output_with output piece = option_map (λ put. put ++ piece) output

-- some first bytes of the piece were appended, and no others
abbrev pub AppendsPrefix : List ℕ → Option (List ℕ) → Option (List ℕ) → Type 0
AppendsPrefix piece old new = (n : ℕ) × (new ≡ output_with old (take n piece))

-- a piece's bytes more than before, where the sink counts those that it is handed
abbrev pub handed_with : Option ℕ → List ℕ → Option ℕ
handed_with handed piece = option_map (λ n. counted n (length piece)) handed

-- what a writer of std holds, where that is known, grew by some first bytes of the piece, and by no others
abbrev pub TakesFront : Option (List ℕ) → Option (List ℕ) → List ℕ → Type 0
TakesFront old new piece = (n : ℕ) × Appends old new (take n piece)

-- P where the answer is `Failed`, and Q where it is any other
abbrev pub MatchPutFailed : {T : Type 0} → Result T SinkError → Type 0 → Type 0 → Type 0
MatchPutFailed (Ok _) P Q = Q
MatchPutFailed (Err Failed) P Q = P
MatchPutFailed (Err NoMemory) P Q = Q

-- P where the answer is `Failed`
abbrev pub OnPutFailed : {T : Type 0} → Result T SinkError → Type 0 → Type 0
OnPutFailed result P = MatchPutFailed result P (Unit {0})

-- the answer is `Failed`
abbrev pub IsPutFailed : {T : Type 0} → Result T SinkError → Type 0
IsPutFailed result = MatchPutFailed result (Unit {0}) ⊥

-- the answer isn't `Failed`
abbrev pub IsPutNotFailed : {T : Type 0} → Result T SinkError → Type 0
IsPutNotFailed result = OnPutFailed result ⊥

-- P where the answer is want of memory
abbrev pub OnPutNoMemory : {T : Type 0} → Result T SinkError → Type 0 → Type 0
OnPutNoMemory (Ok _) P = Unit {0}
OnPutNoMemory (Err Failed) P = Unit {0}
OnPutNoMemory (Err NoMemory) P = P
