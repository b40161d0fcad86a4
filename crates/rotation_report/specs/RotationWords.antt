-- What becomes of a fleet's rotation, in words.
use Rattle.std.specs.Prelude.{ℕ, List, ◌++◌, ◌*◌, length, codes, Option, Some, None}
use Rattle.std.specs.Fmt.{decimal}
use Rattle.euler_rotation.specs.declared.rotation.Rotation.{Rotation}
use Rattle.euler_rotation.specs.declared.rotation.Rotation.TheVariants as rotation
use Rattle.fleet_model.specs.Counts.{weights_of}
use Rattle.fleet_model.specs.Schedule.{days_in}
use Rattle.fleet_model.specs.Use.{used_of}
use Rattle.fleet_model.specs.declared.tables.Tables.{Tables}
use Rattle.euler_rotation.specs.declared.fleet_rotation.FleetRotation.{FleetRotation}

-- the days in which an aircraft comes round a tour: those of the period, for each aircraft that the fleet uses
abbrev pub days_used : Tables → List ℕ → ℕ → ℕ
days_used t a f = used_of t (weights_of a) f * days_in t

-- a rotation in words, in whose tour an aircraft comes round in so many days
abbrev pub words_of_rotation : ℕ → Rotation → List ℕ
words_of_rotation days rotation.Unused = codes "unused"
words_of_rotation days (rotation.TooFewNights have used) = codes "too few nights " ++ decimal have ++ codes " of " ++ decimal used
words_of_rotation days (rotation.Apart legs) = codes "apart " ++ decimal (length legs) ++ codes " legs"
words_of_rotation days (rotation.Tour tour) = codes "tour of " ++ decimal (length tour) ++ codes " legs in " ++ decimal days ++ codes " days"
words_of_rotation days rotation.None = codes "none"
words_of_rotation days (rotation.Spent order prefix) = codes "visits spent"

-- the words of the rotation that counts: where through pairs were given up, that without them, and that they were
abbrev pub chosen_words : ℕ → Rotation → Option Rotation → List ℕ
chosen_words days first None = words_of_rotation days first
chosen_words days first (Some second) = words_of_rotation days second ++ codes " without throughs"

unfoldable pub rotation_words : Tables → FleetRotation → List ℕ
rotation_words t made = chosen_words (made.used * days_in t) made.first made.second
