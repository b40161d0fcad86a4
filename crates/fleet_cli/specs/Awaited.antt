-- A command whose first files ask for the plan.
use Rattle.std.specs.Prelude.{◌≡◌, ℕ, List, Option, IfSome}
use Rattle.command_words.specs.Words.{Asked}
use Rattle.plan_desk.specs.Desk.{Files}
use Rattle.folder_answers.specs.Contents.{FileBytes}
use Rattle.folder_answers.specs.Gathered.{AllHeld}
use Rattle.fleet_cli.specs.Opened.{Awaits}
use Rattle.fleet_cli.specs.Reading.{first_files, folder_of}
use Rattle.folder_answers.specs.declared.opened.Checking.{Checking}

-- the first files of what is asked hold these bytes in this folder, and ask for the plan
pub record AwaitsThere (told : Option Files) (dir : List ℕ) (asked : Option Asked) (bytes : FileBytes) (checking : Checking) : Type 0 where
  pub awaits : Awaits asked bytes checking
  pub folder : dir ≡ folder_of asked
  pub first : IfSome told (λ held. AllHeld held (folder_of asked) (first_files asked) bytes)
