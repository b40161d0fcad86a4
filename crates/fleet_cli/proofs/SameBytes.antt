-- The answer to a command rests on the bytes of the files that it reads, and on nothing else.
use mathlib.Core.Bool.{false≢true}
use Rattle.std.proofs.Common.{◌≡◌, ℕ, Bool, true, false, List, [], ◌∷◌, ◌++◌, Option, Some, None, inl, inr, refl, sym, subst, arith}
use Rattle.std.specs.Prelude.{IsSome}
use Rattle.bound_cert.specs.declared.reading.Proof.{Proof}
use Rattle.command_words.specs.Words.{Asked, check, due, judge, make, solve, tails, whatif}
use Rattle.fleet_model.specs.declared.options.TableOptions.{TableOptions}
use Rattle.fleet_model.specs.declared.tables.Tables.{Tables}
use Rattle.plan_desk.specs.declared.file.DeskFile.{DeskFile}
use Rattle.plan_desk.specs.declared.file.DeskFile.TheVariants as file
use Rattle.bound_cert.specs.ReadProof.{ReadsAs}
use Rattle.sched_read.proofs.Unasked.{AreAlike, bad_alike, read_alike}
use Rattle.sched_read.specs.Files.{AllBytes, FilesRead}
use Rattle.folder_answers.proofs.Members.{among_left, among_right}
use Rattle.folder_answers.proofs.Skeletons.{map_fleet, map_proof, map_tables}
use Rattle.fleet_cli.specs.Answer.{AnswersOf, GivesSolution}
use Rattle.folder_answers.specs.Commands.{Asks, AsksOn, Checks, DueOf, DueOn, Judges, JudgesOn, TailsOf, TailsOn, TellsOn, TellsProof, TellsRead}
use Rattle.folder_answers.specs.Contents.{FileBytes, table_bytes}
use Rattle.folder_answers.specs.Gathered.{IsAmong}
use Rattle.fleet_cli.specs.Reading.{IsReadAfter, WantsPlan, WantsPlanOf, first_files}
use Rattle.folder_answers.specs.FileLists.{five_tables, tables_and, tables_of, where_asked}
use Rattle.folder_answers.specs.Refusals.{fleet_named}
use Rattle.folder_answers.specs.Skeletons.{OnTables}
use Rattle.folder_answers.specs.declared.answer.Answer.{Answer}
use Rattle.folder_answers.specs.declared.opened.Question.{Question}
use Rattle.folder_answers.specs.declared.opened.Question.TheVariants as question

-- a table that is asked for is among the tables
in_asked : (asked : Bool) (f : DeskFile) → asked ≡ true → IsAmong (where_asked asked f) f
in_asked true f is = record { place = 0; within = omega arith; is = λ d. refl }
in_asked false f is = absurd (false≢true is)

module _ (reading : TableOptions) where
  abbrev further : List DeskFile
  further = where_asked reading.windows file.Windows ++ where_asked reading.optional file.Optional

  -- the tables that are asked for
  tables_alike : (bytes other : FileBytes) → ((f : DeskFile) → IsAmong (tables_of reading) f → bytes f ≡ other f) → AreAlike reading (table_bytes bytes) (table_bytes other)
  tables_alike bytes other same = record {
    five = rw (
      same file.Stations (among_left five_tables further file.Stations (record { place = 0; within = omega arith; is = λ d. refl })),
      same file.Fleets (among_left five_tables further file.Fleets (record { place = 1; within = omega arith; is = λ d. refl })),
      same file.Legs (among_left five_tables further file.Legs (record { place = 2; within = omega arith; is = λ d. refl })),
      same file.Costs (among_left five_tables further file.Costs (record { place = 3; within = omega arith; is = λ d. refl })),
      same file.Throughs (among_left five_tables further file.Throughs (record { place = 4; within = omega arith; is = λ d. refl })),
    ) refl;
    windows = λ asked. same file.Windows
        (among_right five_tables further file.Windows (among_left (where_asked reading.windows file.Windows) (where_asked reading.optional file.Optional) file.Windows (in_asked reading.windows file.Windows asked)));
    optional = λ asked. same file.Optional
        (among_right five_tables further file.Optional (among_right (where_asked reading.windows file.Windows) (where_asked reading.optional file.Optional) file.Optional (in_asked reading.optional file.Optional asked)));
  }

  -- a list that begins with the tables, and goes on with others
  front_alike : (bytes other : FileBytes) (more : List DeskFile) → ((f : DeskFile) → IsAmong (tables_and reading more) f → bytes f ≡ other f) → AreAlike reading (table_bytes bytes) (table_bytes other)
  front_alike bytes other more same = tables_alike bytes other (λ f among. same f (among_left (tables_of reading) more f among))

  further_same : (bytes other : FileBytes) (more : List DeskFile) → ((f : DeskFile) → IsAmong (tables_and reading more) f → bytes f ≡ other f) → (f : DeskFile) → IsAmong more f → bytes f ≡ other f
  further_same bytes other more same f among = same f (among_right (tables_of reading) more f among)

  last_same : (bytes other : FileBytes) (last : DeskFile) → ((f : DeskFile) → IsAmong (tables_and reading (last ∷ [])) f → bytes f ≡ other f) → bytes last ≡ other last
  last_same bytes other last same = further_same bytes other (last ∷ []) same last (record { place = 0; within = omega arith; is = λ d. refl })

  -- what is answered on tables, by bytes that are alike
  module _ (one other : AllBytes) (alike : AreAlike reading one other) where
    on_alike : (finish : Tables → Answer → Type 0) (answer : Answer) → OnTables reading one finish answer → OnTables reading other finish answer
    on_alike finish answer (inl x) = inl (record { file = x.file; row = x.row; kind = x.kind; bad = bad_alike reading one other alike x.file x.row x.kind x.bad; is = x.is })
    on_alike finish answer (inr x) = inr (record { tables = x.tables; reads = read_alike reading one other alike x.tables x.reads; finishes = x.finishes })

    wants_alike : (text : List ℕ) → WantsPlan reading one text → WantsPlan reading other text
    wants_alike text wants = record {
      tables = wants.tables;
      proof = wants.proof;
      reads = read_alike reading one other alike wants.tables wants.reads;
      proof_reads = wants.proof_reads;
      planned = wants.planned;
    }

-- the plan is looked at only where the proof says that one comes with it
module _ (reading : TableOptions) (bytes : AllBytes) (text plan other : List ℕ) (answer : Answer) where
  module _ (t : Tables) (asks : Question) (reads : FilesRead bytes reading t) (same : (wants : WantsPlan reading bytes text) → wants.tables ≡ t → plan ≡ other) where
    by_says : (proof : Proof) (planned : Bool) → ReadsAs t text proof → proof.planned ≡ planned → TellsProof t asks planned proof.tree plan answer → TellsProof t asks planned proof.tree other answer
    by_says proof false text_reads says tells = tells
    by_says proof true text_reads says tells =
        subst (λ p. TellsProof t asks true proof.tree p answer) (same (record { tables = t; proof = proof; reads = reads; proof_reads = text_reads; planned = says }) refl) tells

    on_proof : TellsOn asks text plan t answer → TellsOn asks text other t answer
    on_proof = map_proof answer t text (TellsRead t asks plan) (TellsRead t asks other) (λ proof text_reads. by_says proof proof.planned text_reads refl)

  pub other_plan : (WantsPlan reading bytes text → plan ≡ other) → Checks reading bytes text plan answer → Checks reading bytes text other answer
  other_plan same =
      map_tables answer reading bytes (TellsOn question.Holds text plan) (TellsOn question.Holds text other) (λ t reads. on_proof t question.Holds reads (λ wants is. same wants))

  pub other_plan_of : (name : List ℕ) (count : ℕ) → (WantsPlanOf name reading bytes text → plan ≡ other) → Asks reading name count bytes text plan answer → Asks reading name count bytes text other answer
  other_plan_of name count same =
      map_tables answer reading bytes (AsksOn name count text plan) (AsksOn name count text other)
      (λ t reads. map_fleet answer t name (λ fleet. TellsOn (question.OtherSize fleet count) text plan t) (λ fleet. TellsOn (question.OtherSize fleet count) text other t)
      (λ fleet known. on_proof t (question.OtherSize fleet count) reads
      (λ wants is. same (record { wants = wants; known = subst (λ u. IsSome (fleet_named u name)) (sym is) (subst IsSome (sym known) refl) }))))

pub same_follows : (asked : Option Asked) (bytes other : FileBytes) → ((f : DeskFile) → IsAmong (first_files asked) f → bytes f ≡ other f) → (f : DeskFile) → IsReadAfter asked bytes f → IsReadAfter asked other f
unfolding wants_alike
same_follows None bytes other same f follows = follows
same_follows (Some (judge dir reading)) bytes other same f follows = follows
same_follows (Some (solve dir reading options)) bytes other same f follows = follows
same_follows (Some (check dir reading)) bytes other same f follows = (
  follows.0,
  wants_alike reading (table_bytes bytes) (table_bytes other) (front_alike reading bytes other (file.Proof ∷ []) same) (other file.Proof)
      (subst (λ p. WantsPlan reading (table_bytes bytes) p) (last_same reading bytes other file.Proof same) follows.1),
)
same_follows (Some (tails dir reading limits dates)) bytes other same f follows = follows
same_follows (Some (due dir reading limits dates)) bytes other same f follows = follows
same_follows (Some (make dir number legs)) bytes other same f follows = follows
same_follows (Some (whatif dir reading name count)) bytes other same f follows =
    let wants = subst (λ p. WantsPlanOf name reading (table_bytes bytes) p) (last_same reading bytes other file.Proof same) follows.1 in (
      follows.0,
      record { wants = wants_alike reading (table_bytes bytes) (table_bytes other) (front_alike reading bytes other (file.Proof ∷ []) same) (other file.Proof) wants.wants; known = wants.known },
    )

-- the one file that is read after the first is the plan
pub follows_plan : (asked : Option Asked) (bytes : FileBytes) (f : DeskFile) → IsReadAfter asked bytes f → f ≡ file.Plan
follows_plan None bytes f follows = absurd follows
follows_plan (Some (judge dir reading)) bytes f follows = absurd follows
follows_plan (Some (solve dir reading options)) bytes f follows = absurd follows
follows_plan (Some (check dir reading)) bytes f follows = follows.0
follows_plan (Some (tails dir reading limits dates)) bytes f follows = absurd follows
follows_plan (Some (due dir reading limits dates)) bytes f follows = absurd follows
follows_plan (Some (make dir number legs)) bytes f follows = absurd follows
follows_plan (Some (whatif dir reading name count)) bytes f follows = follows.0

pub same_answer : (asked : Option Asked) (bytes other : FileBytes) → ((f : DeskFile) → IsAmong (first_files asked) f → bytes f ≡ other f) → ((f : DeskFile) → IsReadAfter asked bytes f → bytes f ≡ other f)
    → (answer : Answer) → AnswersOf asked bytes answer → AnswersOf asked other answer
same_answer None bytes other first further answer x = x
same_answer (Some (judge dir reading)) bytes other first further answer x =
    on_alike reading (table_bytes bytes) (table_bytes other) (front_alike reading bytes other (file.Plan ∷ []) first) (JudgesOn (other file.Plan)) answer
    (subst (λ p. Judges reading (table_bytes bytes) p answer) (last_same reading bytes other file.Plan first) x)
same_answer (Some (solve dir reading options)) bytes other first further answer x =
    on_alike reading (table_bytes bytes) (table_bytes other) (tables_alike reading bytes other first) (GivesSolution options) answer x
same_answer (Some (check dir reading)) bytes other first further answer x =
    on_alike reading (table_bytes bytes) (table_bytes other) (front_alike reading bytes other (file.Proof ∷ []) first) (TellsOn question.Holds (other file.Proof) (other file.Plan)) answer
    (subst (λ p. Checks reading (table_bytes bytes) p (other file.Plan) answer) (last_same reading bytes other file.Proof first)
    (other_plan reading (table_bytes bytes) (bytes file.Proof) (bytes file.Plan) (other file.Plan) answer (λ wants. further file.Plan (refl, wants)) x))
same_answer (Some (tails dir reading limits dates)) bytes other first further answer x =
    on_alike reading (table_bytes bytes) (table_bytes other) (front_alike reading bytes other (file.Plan ∷ []) first) (TailsOn limits dates (other file.Plan)) answer
    (subst (λ p. TailsOf reading limits dates (table_bytes bytes) p answer) (last_same reading bytes other file.Plan first) x)
same_answer (Some (due dir reading limits dates)) bytes other first further answer x =
    let more = further_same reading bytes other (file.Tails ∷ file.Plan ∷ []) first in
    on_alike reading (table_bytes bytes) (table_bytes other) (front_alike reading bytes other (file.Tails ∷ file.Plan ∷ []) first) (DueOn limits dates (other file.Tails) (other file.Plan)) answer
    (subst (λ s. DueOf reading limits dates (table_bytes bytes) s (other file.Plan) answer) (more file.Tails (record { place = 0; within = omega arith; is = λ d. refl }))
    (subst (λ p. DueOf reading limits dates (table_bytes bytes) (bytes file.Tails) p answer) (more file.Plan (record { place = 1; within = omega arith; is = λ d. refl })) x))
same_answer (Some (make dir number legs)) bytes other first further answer x = x
same_answer (Some (whatif dir reading name count)) bytes other first further answer x =
    on_alike reading (table_bytes bytes) (table_bytes other) (front_alike reading bytes other (file.Proof ∷ []) first) (AsksOn name count (other file.Proof) (other file.Plan)) answer
    (subst (λ p. Asks reading name count (table_bytes bytes) p (other file.Plan) answer) (last_same reading bytes other file.Proof first)
    (other_plan_of reading (table_bytes bytes) (bytes file.Proof) (bytes file.Plan) (other file.Plan) answer name count (λ wants. further file.Plan (refl, wants)) x))
