-- What a desk holds, how a write changes it, and facts by a desk's answer.
use Rattle.std.specs.Prelude.{◌≡◌, ℕ, List, Option, None, option_map, Result, Ok, Err}
use Rattle.std.specs.Map.{update}
use Rattle.std.specs.Str.{bytes_eq}
use Rattle.plan_desk.specs.declared.desk.DeskError.{DeskError}
use Rattle.plan_desk.specs.declared.desk.DeskError.TheVariants.{Failed, TooLong, NoMemory}

-- what stands under each name
abbrev pub Files : Type 0
Files = List ℕ → Option (List ℕ)

-- nothing stands under any name
abbrev pub no_files : Files
no_files name = None

-- the files with other bytes, or nothing, under one name
abbrev pub with_file : Files → List ℕ → Option (List ℕ) → Files
with_file files name bytes = update bytes_eq files name bytes

-- the same of what a desk holds, where it tells
abbrev pub held_with : Option Files → List ℕ → Option (List ℕ) → Option Files
held_with held name bytes = option_map (λ files. with_file files name bytes) held

-- the name may hold anything or nothing now, and all other names hold what they held
abbrev pub ChangesOnly : List ℕ → Option Files → Option Files → Type 0
ChangesOnly name old new = (left : Option (List ℕ)) × (new ≡ held_with old name left)

-- P where the answer is `Failed`, and Q where it is any other
abbrev pub MatchFailed : {T : Type 0} → Result T DeskError → Type 0 → Type 0 → Type 0
MatchFailed (Ok _) P Q = Q
MatchFailed (Err Failed) P Q = P
MatchFailed (Err TooLong) P Q = Q
MatchFailed (Err NoMemory) P Q = Q

-- a fact for each answer
abbrev pub MatchAnswer : {T : Type 0} → Result T DeskError → (T → Type 0) → Type 0 → Type 0 → Type 0 → Type 0
MatchAnswer (Ok x) done failed too_long memory = done x
MatchAnswer (Err Failed) done failed too_long memory = failed
MatchAnswer (Err TooLong) done failed too_long memory = too_long
MatchAnswer (Err NoMemory) done failed too_long memory = memory

-- P where the answer is `TooLong`
abbrev pub OnTooLong : {T : Type 0} → Result T DeskError → Type 0 → Type 0
OnTooLong (Ok _) P = Unit {0}
OnTooLong (Err Failed) P = Unit {0}
OnTooLong (Err TooLong) P = P
OnTooLong (Err NoMemory) P = Unit {0}

-- P where it is any other
abbrev pub OnNotTooLong : {T : Type 0} → Result T DeskError → Type 0 → Type 0
OnNotTooLong result P = MatchAnswer result (λ x. P) P (Unit {0}) P

-- P where the answer is want of memory
abbrev pub OnNoMemory : {T : Type 0} → Result T DeskError → Type 0 → Type 0
OnNoMemory (Ok _) P = Unit {0}
OnNoMemory (Err Failed) P = Unit {0}
OnNoMemory (Err TooLong) P = Unit {0}
OnNoMemory (Err NoMemory) P = P

-- P where the answer is `Failed`
abbrev pub OnFailed : {T : Type 0} → Result T DeskError → Type 0 → Type 0
OnFailed result P = MatchFailed result P (Unit {0})

-- the answer is `Failed`
abbrev pub IsFailed : {T : Type 0} → Result T DeskError → Type 0
IsFailed result = MatchFailed result (Unit {0}) ⊥

-- the answer isn't `Failed`
abbrev pub IsNotFailed : {T : Type 0} → Result T DeskError → Type 0
IsNotFailed result = OnFailed result ⊥
