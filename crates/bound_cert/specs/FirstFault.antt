-- What the first fault of a text rests on, the lines up to its own, and behind a step of 0 at minute 0 the next one;
-- and what the lines before it are.
use Rattle.std.specs.Prelude.{◌≡◌, ◌≤◌, ℕ, ◌+◌, ◌&&◌, ◌||◌, Bool, true, List, ◌∷◌, ◌++◌, length, count_by, codes, Ok}
use Rattle.fleet_model.specs.declared.tables.Tables.{Tables}
use Rattle.bound_cert.specs.Lines.{Left}
use Rattle.proof_lines.specs.Words.{stands, words_of}
use Rattle.bound_cert.specs.Nodes.{proof_at}
use Rattle.bound_cert.specs.ReadProof.{IsFirstProofFault}
use Rattle.bound_cert.specs.declared.faults.CertFault.{CertFault}
use Rattle.dual_bound.specs.declared.trees.TheConstants.{MAX_DEPTH}
use Rattle.dual_bound.specs.declared.nodes.Node.{Node}

-- the words are those of a step of value 0 at minute 0, which is needless if no other step of its place follows
abbrev pub is_zero_step : List (List ℕ) → Bool
is_zero_step words = stands words 0 (codes "at") && stands words 3 (codes "0") && stands words 4 (codes "0")

-- Texts that have the same lines up to and with that of the first fault of one have the same first fault, where each
-- has the line feed of that line. Behind a step of value 0 at minute 0 they have the same next line too.
abbrev pub FirstFaultIsFixed : Type 0
FirstFaultIsFixed = (t : Tables) (before : Left) (line next other : List ℕ) (rest others : Left) (fault : CertFault)
    → (is_zero_step (words_of line) ≡ true → next ≡ other) → fault.line ≡ length before + 1
    → IsFirstProofFault t (before ++ line ∷ next ∷ rest) fault → IsFirstProofFault t (before ++ line ∷ other ∷ others) fault

-- some lines go on from these, and all of them read as a proof
pub record BeginProof (t : Tables) (before : Left) : Type 0 where
  pub more : Left
  pub planned : Bool
  pub nodes : List Node
  pub reads : proof_at t (before ++ more) ≡ Ok (planned, nodes)

-- the line is a trim's or a split's
abbrev pub is_inner_line : List ℕ → Bool
is_inner_line line = stands (words_of line) 0 (codes "trim") || stands (words_of line) 0 (codes "split")

-- The lines before the first fault begin a proof, where no more of them are trims and splits than may stand above a
-- node.
abbrev pub LinesBeforeBeginProof : Type 0
LinesBeforeBeginProof = (t : Tables) (before after : Left) (line : List ℕ) (fault : CertFault) → fault.line ≡ length before + 1 → count_by is_inner_line before ≤ MAX_DEPTH
    → IsFirstProofFault t (before ++ line ∷ after) fault → BeginProof t before
