-- The names of the files.
use Rattle.std.specs.Prelude.{ℕ, List, ◌++◌, codes}
use Rattle.plan_desk.specs.declared.file.DeskFile.{DeskFile}
use Rattle.plan_desk.specs.declared.file.DeskFile.TheVariants.{Stations, Fleets, Legs, Costs, Throughs, Windows, Optional, Tails, Plan, Proof, Rotation}

-- the file's name in its folder
abbrev pub file_name : DeskFile → List ℕ
file_name Stations = codes "stations.csv"
file_name Fleets = codes "fleets.csv"
file_name Legs = codes "legs.csv"
file_name Costs = codes "costs.csv"
file_name Throughs = codes "throughs.csv"
file_name Windows = codes "windows.csv"
file_name Optional = codes "optional.csv"
file_name Tails = codes "tails.csv"
file_name Plan = codes "plan.csv"
file_name Proof = codes "proof.txt"
file_name Rotation = codes "rotation.csv"

-- the name under which a desk holds a file of the folder dir: the folder, a slash and the file's name
abbrev pub path_of : List ℕ → DeskFile → List ℕ
path_of dir file = dir ++ codes "/" ++ file_name file
