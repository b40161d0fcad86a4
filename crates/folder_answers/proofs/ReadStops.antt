-- Where reading stops: which file is too long, which is called so, and which is blamed.
use Rattle.std.proofs.Common.{◌≡◌, ◌≢◌, ℕ, ◌<◌, ◌≤◌, List, length, Option, Some, None, IfSome, IsSome, IsSomeAnd, Err, refl, arith}
use Rattle.std.specs.Prelude.{⊤}
use Rattle.plan_desk.specs.Counts.{RoseBy}
use Rattle.plan_desk.specs.Desk.{Files}
use Rattle.plan_desk.specs.DeskFile.{path_of}
use Rattle.plan_desk.specs.declared.file.DeskFile.{DeskFile}
use Rattle.plan_desk.specs.declared.file.DeskFile.TheVariants as desk_file
use Rattle.folder_answers.specs.Gathered.{CalledTooLong, IsFirstMissing, IsFirstTooLong, MatchStop, ReadFails, limit_of}
use Rattle.folder_answers.specs.declared.gathering.Stop.{Stop}
use Rattle.folder_answers.specs.declared.gathering.Stop.TheVariants as stop

-- more bytes taken from here on are more taken from before
pub rose_before : (n before here now : ℕ) → before ≤ here → RoseBy n here now → RoseBy n before now
rose_before n before here now order rose = omega arith

-- ---- one file that was to be read

module _ (file : DeskFile) (S T : Type 0) where
  -- reading came to it, and it is too long
  pub too_long : (told : Option Files) (dir : List ℕ) (comes : Files → DeskFile → Type 0) (Q : Files → S → Type 0) (R : S → Type 0) (P : Files → T → Type 0) (why : Stop) → IfSome told (λ held. comes held file)
      → IfSome told (λ held. MatchStop {T = S} (Err why) (Q held) ⊤ (λ long. IsSomeAnd (held (path_of dir file)) (λ bytes. limit_of file < length bytes)) ⊤)
      → MatchStop {T = S} (Err why) R ⊤ (λ long. long ≡ file) ⊤
      → IfSome told (λ held. MatchStop {T = T} (Err why) (P held) ⊤ (IsFirstTooLong held dir (comes held)) ⊤)
  too_long None dir comes Q R P why reached long same = tt
  too_long (Some held) dir comes Q R P stop.Fault reached long same = tt
  too_long (Some held) dir comes Q R P (stop.TooLong other) reached long same = record { reached = rw same reached; longer = rw same long }
  too_long (Some held) dir comes Q R P stop.NoMemory reached long same = tt

  -- it is called too long
  pub called : (is_read : DeskFile → Type 0) (R : S → Type 0) (more now : Type 0) (why : Stop) → is_read file → (now → more)
      → MatchStop {T = S} (Err why) (λ _. ⊤) ⊤ (λ _. now) ⊤ → MatchStop {T = S} (Err why) (λ _. ⊤) ⊤ (λ _. file ≢ desk_file.Proof) ⊤
      → MatchStop {T = S} (Err why) R ⊤ (λ long. long ≡ file) ⊤ → MatchStop {T = T} (Err why) (λ _. ⊤) ⊤ (CalledTooLong more is_read) ⊤
  called is_read R more now stop.Fault read weaker taken differs same = tt
  called is_read R more now (stop.TooLong other) read weaker taken differs same = record { taken = weaker taken; read = rw same read; not_proof = rw same differs }
  called is_read R more now stop.NoMemory read weaker taken differs same = tt

  -- the desk fails at it, and blames it
  pub fails : (told : Option Files) (dir : List ℕ) (is_read : DeskFile → Type 0) (comes : Files → DeskFile → Type 0) (steady now : Type 0) (blamed : Option DeskFile) (why : Stop) → is_read file → (steady → now)
      → IfSome told (λ held. comes held file) → MatchStop {T = S} (Err why) (λ _. ⊤) (blamed ≡ Some file) (λ _. ⊤) ⊤
      → MatchStop {T = S} (Err why) (λ _. ⊤) (now → IfSome told (λ held. held (path_of dir file) ≡ None)) (λ _. ⊤) ⊤
      → MatchStop {T = T} (Err why) (λ _. ⊤) (ReadFails steady told is_read (λ held. IsFirstMissing held dir (comes held)) blamed) (λ _. ⊤) ⊤
  fails told dir is_read comes steady now blamed stop.Fault read keeps reached blame gone =
      record { file = file; blame = blame; read = read; missing = λ s. by_told told reached (gone (keeps s)) }
    where
      by_told : (o : Option Files) → IfSome o (λ held. comes held file) → IfSome o (λ held. held (path_of dir file) ≡ None) → IfSome o (λ held. IsFirstMissing held dir (comes held) file)
      by_told None r g = tt
      by_told (Some held) r g = record { reached = r; missing = g }
  fails told dir is_read comes steady now blamed (stop.TooLong other) read keeps reached blame gone = tt
  fails told dir is_read comes steady now blamed stop.NoMemory read keeps reached blame gone = tt

-- what is true holds of a desk that may not tell
pub told_true : (told : Option Files) → IfSome told (λ held. ⊤)
told_true None = tt
told_true (Some held) = tt

-- a name under which not something stands is missing, where the desk tells
pub none_missing : (told : Option Files) (name : List ℕ) → ¬ (IsSomeAnd told (λ held. IsSome (held name))) → IfSome told (λ held. held name ≡ None)
none_missing None name never = tt
none_missing (Some held) name never = by_name (held name) never
  where
    by_name : (o : Option (List ℕ)) → ¬ (IsSome o) → o ≡ None
    by_name None never = refl
    by_name (Some bytes) never = absurd (never refl)

-- ---- the first files of a command are among those that it reads

pub weaker_long : (T : Type 0) (told : Option Files) (dir : List ℕ) (one other : Files → DeskFile → Type 0) (P : Files → T → Type 0) (why : Stop) → ((held : Files) (f : DeskFile) → one held f → other held f)
    → IfSome told (λ held. MatchStop {T = T} (Err why) (P held) ⊤ (IsFirstTooLong held dir (one held)) ⊤) → IfSome told (λ held. MatchStop {T = T} (Err why) (λ _. ⊤) ⊤ (IsFirstTooLong held dir (other held)) ⊤)
weaker_long T None dir one other P why weaker long = tt
weaker_long T (Some held) dir one other P stop.Fault weaker long = tt
weaker_long T (Some held) dir one other P (stop.TooLong f) weaker long = record { reached = weaker held f long.reached; longer = long.longer }
weaker_long T (Some held) dir one other P stop.NoMemory weaker long = tt

pub weaker_called : (T : Type 0) (longer : Type 0) (one other : DeskFile → Type 0) (why : Stop) → ((f : DeskFile) → one f → other f)
    → MatchStop {T = T} (Err why) (λ _. ⊤) ⊤ (CalledTooLong longer one) ⊤ → MatchStop {T = T} (Err why) (λ _. ⊤) ⊤ (CalledTooLong longer other) ⊤
weaker_called T longer one other stop.Fault weaker called = tt
weaker_called T longer one other (stop.TooLong f) weaker called = record { taken = called.taken; read = weaker f called.read; not_proof = called.not_proof }
weaker_called T longer one other stop.NoMemory weaker called = tt

pub weaker_fails : (T : Type 0) (steady : Type 0) (told : Option Files) (dir : List ℕ) (is_read may_read : DeskFile → Type 0) (one other : Files → DeskFile → Type 0) (blamed : Option DeskFile) (why : Stop)
    → ((f : DeskFile) → is_read f → may_read f) → ((held : Files) (f : DeskFile) → one held f → other held f)
    → MatchStop {T = T} (Err why) (λ _. ⊤) (ReadFails steady told is_read (λ held. IsFirstMissing held dir (one held)) blamed) (λ _. ⊤) ⊤
    → MatchStop {T = T} (Err why) (λ _. ⊤) (ReadFails steady told may_read (λ held. IsFirstMissing held dir (other held)) blamed) (λ _. ⊤) ⊤
weaker_fails T steady told dir is_read may_read one other blamed stop.Fault read weaker fails =
    record { file = fails.file; blame = fails.blame; read = read fails.file fails.read; missing = λ s. by_told told (fails.missing s) }
  where
    by_told : (o : Option Files) → IfSome o (λ held. IsFirstMissing held dir (one held) fails.file) → IfSome o (λ held. IsFirstMissing held dir (other held) fails.file)
    by_told None m = tt
    by_told (Some held) m = record { reached = weaker held fails.file m.reached; missing = m.missing }
weaker_fails T steady told dir is_read may_read one other blamed (stop.TooLong f) read weaker fails = tt
weaker_fails T steady told dir is_read may_read one other blamed stop.NoMemory read weaker fails = tt
