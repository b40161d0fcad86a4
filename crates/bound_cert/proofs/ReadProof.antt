-- What reading by the definition says of the answer.
use Rattle.bound_cert.proofs.ReadBack.{ok_same}
use Rattle.bound_cert.proofs.TextTrees.{text_of_reading}
use Rattle.bound_cert.proofs.WrittenTrees.{in_order_of_tables, reads_in}
use Rattle.bound_cert.specs.Lines.{Gives, left_of}
use Rattle.bound_cert.specs.Nodes.{proof_at}
use Rattle.bound_cert.specs.ReadProof.{AnswersProof, FaultIn, FaultOf, IsTextOf, LinesRead, ReadsAs, proof_answer}
use Rattle.bound_cert.specs.declared.faults.CertError.{CertError}
use Rattle.bound_cert.specs.declared.faults.Stop.{Stop}
use Rattle.bound_cert.specs.declared.reading.Proof.{Proof}
use Rattle.dual_bound.specs.Nodes.{nodes_of}
use Rattle.dual_bound.specs.OfTables.{IsOfTables}
use Rattle.dual_bound.specs.declared.trees.Tree.{Tree}
use Rattle.fleet_model.specs.declared.tables.Tables.{Tables}
use Rattle.proof_lines.specs.Words.{seen}
use Rattle.std.proofs.Common.{◌+◌, ◌-◌, ◌∙◌, ◌≡◌, Bool, Bor, Err, List, Ok, Result, ap, length, subst, sym, ℕ}
use Rattle.std.proofs.lemmas.List.{length-map}
use Rattle.std.specs.Prelude.{IfOk, MatchResult}
use Rattle.bound_cert.specs.declared.faults.CertError.TheVariants as cert
use Rattle.bound_cert.specs.declared.faults.Stop.TheVariants as stop

-- the answer to what was read of lines
pub answered : (t : Tables) (lines : List (Bor (List ℕ))) (read : Result Proof Stop) (result : Result Proof CertError) → Gives (λ proof. (proof.planned, nodes_of proof.tree)) read (proof_at t (seen lines))
    → result ≡ proof_answer (length lines) read → MatchResult result (LinesRead t (seen lines)) (FaultIn t (seen lines))
answered t lines read result gives is = subst (λ r. MatchResult r (LinesRead t (seen lines)) (FaultIn t (seen lines))) (sym is) (by_read read gives)
  where
    by_read : (read : Result Proof Stop) → Gives (λ proof. (proof.planned, nodes_of proof.tree)) read (proof_at t (seen lines))
        → MatchResult (proof_answer (length lines) read) (LinesRead t (seen lines)) (FaultIn t (seen lines))
    by_read (Ok proof) gives = gives
    by_read (Err stop.NoMemory) gives = tt
    by_read (Err (stop.Fault left kind)) gives = record { left = left; stops = gives; line = ap (λ n. n - left + 1) (sym (length-map lines (λ (slice : Bor (List ℕ)). slice.now))) }

pub of_tables : (t : Tables) (text : List ℕ) (result : Result Proof CertError) → MatchResult result (ReadsAs t text) (FaultOf t text) → IfOk result (λ proof. IsOfTables t proof.tree)
of_tables t text (Ok proof) reads = in_order_of_tables t proof.tree (text_of_reading t text proof.planned proof.tree reads).order
of_tables t text (Err error) reads = tt

pub exactly : (t : Tables) (text : List ℕ) (result : Result Proof CertError) → MatchResult result (ReadsAs t text) (FaultOf t text) → IfOk result (λ proof. IsTextOf t text proof.planned proof.tree)
exactly t text (Ok proof) reads = text_of_reading t text proof.planned proof.tree reads
exactly t text (Err error) reads = tt

-- a text of a proof reads as that proof
pub reads_each_version : (t : Tables) (bytes : List ℕ) (planned : Bool) (whole : Tree) → IsTextOf t bytes planned whole → proof_at t (left_of bytes) ≡ Ok (planned, nodes_of whole)
reads_each_version t bytes planned whole text = ap (λ text. proof_at t (left_of text)) text.is ∙ reads_in text.version t planned whole text.shifts text.tells text.order text.shallow

pub complete : (t : Tables) (text : List ℕ) (result : Result Proof CertError) → MatchResult result (ReadsAs t text) (FaultOf t text) → (planned : Bool) (whole : Tree) → IsTextOf t text planned whole
    → AnswersProof planned whole result
complete t text (Ok proof) reads planned whole is =
    let one : (proof.planned, nodes_of proof.tree) ≡ (planned, nodes_of whole) =
    ok_same (proof.planned, nodes_of proof.tree) (planned, nodes_of whole)
    (sym reads ∙ reads_each_version t text planned whole is) in
    (ap (λ p. p.0) one, ap (λ p. p.1) one)
complete t text (Err (cert.Fault fault)) reads planned whole is =
    let stopped = sym reads.stops ∙ reads_each_version t text planned whole is in
    absurd (cc stopped)
complete t text (Err cert.NoMemory) reads planned whole is = tt
