-- The proof that a text reads as, or its first fault by its line.
use Rattle.std.specs.Prelude.{◌≡◌, ℕ, ◌+◌, ◌-◌, Bool, List, length, Result, Ok, Err, ⊤}
use Rattle.fleet_model.specs.declared.tables.Tables.{Tables}
use Rattle.bound_cert.specs.Lines.{Left, left_of}
use Rattle.bound_cert.specs.Nodes.{proof_at}
use Rattle.dual_bound.specs.Nodes.{nodes_of}
use Rattle.bound_cert.specs.ProofText.{CanTell, text_in}
use Rattle.dual_bound.specs.WrittenOrder.{InWrittenOrder, IsShallow}
use Rattle.bound_cert.specs.declared.faults.CertError.{CertError}
use Rattle.bound_cert.specs.declared.faults.CertError.TheVariants as cert
use Rattle.bound_cert.specs.declared.faults.CertFault.{CertFault}
use Rattle.bound_cert.specs.declared.faults.Stop.{Stop}
use Rattle.bound_cert.specs.declared.faults.Stop.TheVariants as stop
use Rattle.bound_cert.specs.declared.reading.Proof.{Proof}
use Rattle.dual_bound.specs.declared.trees.Tree.{Tree}
use Rattle.proof_lines.specs.Forms.{has_shifts}
use Rattle.proof_lines.specs.declared.line.Version.{Version}

-- the fault comes where reading stops: its line is the first that is left there
pub record IsFirstProofFault (t : Tables) (all : Left) (fault : CertFault) : Type 0 where
  pub left : ℕ
  pub stops : proof_at t all ≡ Err (record { left = left; kind = fault.kind })
  pub line : fault.line ≡ length all - left + 1

-- the error is the first fault of lines, unless memory ran out
abbrev pub FaultIn : Tables → Left → CertError → Type 0
FaultIn t all (cert.Fault fault) = IsFirstProofFault t all fault
FaultIn t all cert.NoMemory = ⊤

-- the error is the first fault of the text, unless memory ran out
abbrev pub FaultOf : Tables → List ℕ → CertError → Type 0
FaultOf t text = FaultIn t (left_of text)

-- the lines read as this proof
abbrev pub LinesRead : Tables → Left → Proof → Type 0
LinesRead t all proof = proof_at t all ≡ Ok (proof.planned, nodes_of proof.tree)

-- the text reads as this proof
abbrev pub ReadsAs : Tables → List ℕ → Proof → Type 0
ReadsAs t text = LinesRead t (left_of text)

-- what was read of so many lines, with the number of the line at which it stopped
abbrev pub proof_answer : ℕ → Result Proof Stop → Result Proof CertError
proof_answer lines (Ok proof) = Ok proof
proof_answer lines (Err stop.NoMemory) = Err cert.NoMemory
proof_answer lines (Err (stop.Fault left kind)) = Err (cert.Fault (record { line = lines - left + 1; kind = kind }))

-- the text is that of a proof in some version, which has shifts just where the tables have windows, and the proof's tree is in written order and no deeper than a reader takes
pub record IsTextOf (t : Tables) (text : List ℕ) (planned : Bool) (tree : Tree) : Type 0 where
  pub version : Version
  pub shifts : has_shifts version ≡ t.windows
  pub tells : CanTell version tree
  pub is : text ≡ text_in version t planned tree
  pub order : InWrittenOrder t tree
  pub shallow : IsShallow tree

-- the answer is this proof, node by node, unless memory ran out
abbrev pub AnswersProof : Bool → Tree → Result Proof CertError → Type 0
AnswersProof planned tree (Ok proof) = (proof.planned ≡ planned) × (nodes_of proof.tree ≡ nodes_of tree)
AnswersProof planned tree (Err (cert.Fault fault)) = ⊥
AnswersProof planned tree (Err cert.NoMemory) = ⊤
