-- Labels of legs, by number: legs of one cycle have the same, others don't.
use Rattle.std.specs.Prelude.{◌≡◌, ℕ, zero, suc, ◌<◌, Bool, ◌==◌, if◌then◌else◌, List, [], ◌∷◌, ◌++◌, length, slice_index}
use Rattle.sums.specs.Below.{sum_below}
use Rattle.fleet_model.specs.declared.parts.Connection.{Connection}
use Rattle.lines_of_flying.specs.ground_turns.Maps.{turn_at}
use Rattle.lines_of_flying.specs.ground_turns.Parts.{KeepsPart}

abbrev pub label_of : List ℕ → ℕ → ℕ
label_of labels l = slice_index labels l

-- a label for each leg, of which each is a leg's number
pub record AreLabels (labels : List ℕ) (legs : ℕ) : Type 0 where
  pub each_leg : length labels ≡ legs
  pub few : (l : ℕ) → l < legs → label_of labels l < legs

-- all labels, added up
abbrev pub total_of : List ℕ → ℕ
total_of labels = sum_below (label_of labels) (length labels)

-- one label became another
abbrev pub relabelled : ℕ → ℕ → ℕ → ℕ
relabelled from to label = if label == from then to else label

pub record AreRelabelled (old new : List ℕ) (from to : ℕ) : Type 0 where
  pub same_length : length new ≡ length old
  pub each : (l : ℕ) → l < length old → label_of new l ≡ relabelled from to (label_of old l)

-- a part has all legs of a label or none
pub record IsOfLabels (labels : List ℕ) (inside : ℕ → Bool) : Type 0 where
  pub each : (l k : ℕ) → l < length labels → k < length labels → label_of labels l ≡ label_of labels k → inside l ≡ inside k

-- each of the first turns is between legs of one label, and legs of one label are in each part together that the map keeps
pub record AreLinked (turns : List Connection) (labels : List ℕ) (first : ℕ) : Type 0 where
  pub linked : (k : ℕ) → k < first → label_of labels (turn_at turns k).arriving ≡ label_of labels (turn_at turns k).departing
  pub whole : (inside : ℕ → Bool) → KeepsPart turns inside → IsOfLabels labels inside

-- the legs of a label, by number
abbrev pub legs_labelled : List ℕ → ℕ → ℕ → List ℕ
legs_labelled labels label zero = []
legs_labelled labels label (suc n) = legs_labelled labels label n ++ (if label_of labels n == label then n ∷ [] else [])
