-- What holds of the words of a call, where they are given.
use Rattle.std.proofs.Common.{◌≡◌, ℕ, List, Option, Some, None, IfSome, inl, refl, sym, ◌∙◌, subst}
use Rattle.command_words.specs.Words.{Asked, asked}
use Rattle.folder_answers.proofs.CallCounts.{no_calls}
use Rattle.fleet_cli.proofs.Others.{nothing_written}
use Rattle.fleet_cli.proofs.RunFacts.{fault_not_memory, usage_known}
use Rattle.fleet_cli.specs.Ran.{Ran, Told}
use Rattle.fleet_cli.specs.Reading.{folder_of, written_files}
use Rattle.folder_answers.specs.declared.status.TheConstants.{NO_MEMORY}

-- what holds of the words in hand, holds of those that were given
pub of_given : (P : List (List ℕ) → Type 0) (given : Option (List (List ℕ))) (words : List (List ℕ)) → IfSome given (λ all. words ≡ all) → P words → IfSome given P
of_given P None words same holds = tt
of_given P (Some all) words same holds = subst P same holds

-- what holds of any words, holds of those that were given
pub of_any : (P : List (List ℕ) → Type 0) (given : Option (List (List ℕ))) → ((words : List (List ℕ)) → P words) → IfSome given P
of_any P None holds = tt
of_any P (Some all) holds = holds all

-- what a run over the words in hand is, by the words that were given and the status that the system sees
pub ran_on : (steady_desk steady_sink : Type 0) (given : Option (List (List ℕ))) (words same : List (List ℕ)) (code exit : ℕ) (before after : Told) → IfSome given (λ all. words ≡ all) → same ≡ words → exit ≡ code
    → Ran steady_desk steady_sink (asked same) code before after → IfSome given (λ all. Ran steady_desk steady_sink (asked all) exit before after)
ran_on steady_desk steady_sink given words same code exit before after taken alike is ran =
    of_given (λ all. Ran steady_desk steady_sink (asked all) exit before after) given words taken
    (subst (λ xs. Ran steady_desk steady_sink (asked xs) exit before after) alike (subst (λ n. Ran steady_desk steady_sink (asked same) n before after) (sym is) ran))

-- a run that did nothing for want of memory
pub did_nothing : (steady_desk steady_sink : Type 0) (asked : Option Asked) (code : ℕ) (told : Told) → code ≡ NO_MEMORY → Ran steady_desk steady_sink asked code told told
did_nothing steady_desk steady_sink asked code told is = record {
  answer = λ quiet memory. absurd (memory is);
  headline = λ quiet memory. absurd (memory is);
  exactly = λ quiet memory. absurd (memory is);
  complete = λ quiet memory. absurd (memory is);
  some_answer = λ quiet memory. absurd (memory is);
  usage = λ none quiet memory. absurd (memory is);
  only_usage = λ usage. absurd (usage_known code usage is);
  usage_line = λ usage. absurd (usage_known code usage is);
  one_fault = λ fault. absurd (fault_not_memory (sym fault ∙ is));
  quiet_desk = λ quiet. refl;
  quiet_sink = λ quiet. refl;
  steady = λ desk sink there fault. fault_not_memory (sym fault ∙ is);
  missing = λ fault. absurd (fault_not_memory (sym fault ∙ is));
  fault_line = λ fault. absurd (fault_not_memory (sym fault ∙ is));
  no_memory = λ memory. inl refl;
  nothing_put = λ memory. refl;
  one_put = λ memory. absurd (memory is);
  one_put_at_most = inl refl;
  refusals = λ refused. refl;
  calls = no_calls _ told.calls;
  files = nothing_written (folder_of asked) (written_files asked) told.holds told.holds refl;
}
