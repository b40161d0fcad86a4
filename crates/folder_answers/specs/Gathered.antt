-- Reading the files of a list, in their order.
use Rattle.std.specs.Prelude.{◌≡◌, ◌≢◌, ◌<◌, ◌≤◌, ℕ, List, length, slice_index_or, Option, Some, None, IfSome, IsSomeAnd, Result, Ok, Err}
use Rattle.plan_desk.specs.Desk.{Files}
use Rattle.plan_desk.specs.DeskFile.{path_of}
use Rattle.plan_desk.specs.declared.file.DeskFile.{DeskFile}
use Rattle.plan_desk.specs.declared.file.DeskFile.TheVariants as desk_file
use Rattle.plan_desk.specs.declared.file.TheConstants.{PROOF_LIMIT, TABLE_LIMIT}
use Rattle.folder_answers.specs.Contents.{FileBytes, bytes_in}
use Rattle.folder_answers.specs.declared.gathering.Stop.{Stop}
use Rattle.folder_answers.specs.declared.gathering.Stop.TheVariants as stop

-- the most bytes of a file that are read
unfoldable pub limit_of : DeskFile → ℕ
limit_of desk_file.Proof = PROOF_LIMIT
limit_of other = TABLE_LIMIT

-- these bytes stand in the folder's file, and are within its limit
pub record IsHeldWithin (held : Files) (dir : List ℕ) (file : DeskFile) (bytes : List ℕ) : Type 0 where
  pub stands : held (path_of dir file) ≡ Some bytes
  pub within : length bytes ≤ limit_of file

-- the first n of these files hold these bytes, each within its limit
pub record FrontHeld (held : Files) (dir : List ℕ) (names : List DeskFile) (n : ℕ) (bytes : FileBytes) : Type 0 where
  pub each : (k : ℕ) (d : DeskFile) → k < n → IsHeldWithin held dir (slice_index_or names k d) (bytes (slice_index_or names k d))

-- all of them do
abbrev pub AllHeld : Files → List ℕ → List DeskFile → FileBytes → Type 0
AllHeld held dir names bytes = FrontHeld held dir names (length names) bytes

-- all of them stand there, each within its limit
abbrev pub AllStand : Files → List ℕ → List DeskFile → Type 0
AllStand held dir names = AllHeld held dir names (bytes_in held dir)

-- reading these files comes to this one: those before it stand there within their limits
pub record ComesTo (held : Files) (dir : List ℕ) (names : List DeskFile) (file : DeskFile) : Type 0 where
  pub place : ℕ
  pub within : place < length names
  pub is : (d : DeskFile) → file ≡ slice_index_or names place d
  pub front : FrontHeld held dir names place (bytes_in held dir)

-- a file that reading comes to is longer than its limit
pub record IsFirstTooLong (held : Files) (dir : List ℕ) (comes : DeskFile → Type 0) (file : DeskFile) : Type 0 where
  pub reached : comes file
  pub longer : IsSomeAnd (held (path_of dir file)) (λ bytes. limit_of file < length bytes)

-- a file that reading comes to is missing
pub record IsFirstMissing (held : Files) (dir : List ℕ) (comes : DeskFile → Type 0) (file : DeskFile) : Type 0 where
  pub reached : comes file
  pub missing : held (path_of dir file) ≡ None

-- the file is one of these
pub record IsAmong (names : List DeskFile) (file : DeskFile) : Type 0 where
  pub place : ℕ
  pub within : place < length names
  pub is : (d : DeskFile) → file ≡ slice_index_or names place d

-- a file that is read, and not the proof, is called too long, where more than its limit was taken
pub record CalledTooLong (longer : Type 0) (is_read : DeskFile → Type 0) (file : DeskFile) : Type 0 where
  pub taken : longer
  pub read : is_read file
  pub not_proof : file ≢ desk_file.Proof

-- reading failed at the file that the desk blames, which is one of those that are read; a desk that is steady and tells
-- what it holds fails at one that is missing alone
pub record ReadFails (steady : Type 0) (told : Option Files) (is_read : DeskFile → Type 0) (is_missing : Files → DeskFile → Type 0) (blamed : Option DeskFile) : Type 0 where
  pub file : DeskFile
  pub blame : blamed ≡ Some file
  pub read : is_read file
  pub missing : steady → IfSome told (λ held. is_missing held file)

-- the same of files that are read in this order
abbrev pub ReadFailsAmong : Type 0 → Option Files → List ℕ → List DeskFile → Option DeskFile → Type 0
ReadFailsAmong steady told dir names blamed = ReadFails steady told (IsAmong names) (λ held. IsFirstMissing held dir (ComesTo held dir names)) blamed

-- a fact for each way to stop
abbrev pub MatchStop : {T : Type 0} → Result T Stop → (T → Type 0) → Type 0 → (DeskFile → Type 0) → Type 0 → Type 0
MatchStop (Ok x) done fault too_long memory = done x
MatchStop (Err stop.Fault) done fault too_long memory = fault
MatchStop (Err (stop.TooLong file)) done fault too_long memory = too_long file
MatchStop (Err stop.NoMemory) done fault too_long memory = memory
