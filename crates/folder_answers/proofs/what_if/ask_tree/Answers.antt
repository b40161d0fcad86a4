use Rattle.std.proofs.lemmas.Result.{IfOk-weaker}
use Rattle.cert_check.proofs.SplitsAbove.{are_sound_but_priced}
use Rattle.cert_check.specs.declared.checked.Checked.TheVariants as checked
use Rattle.folder_answers.proofs.what_if.ask_tree.Goals as goal

pub say_of_other-requires-clause-sound : goal.say_of_other-requires-clause-sound
say_of_other-requires-clause-sound c = let holds = rw c.in-Holds.is at c.check_with_cost.ensures.verdict in are_sound_but_priced _ _ _ _ holds.sound

pub returns-in-Holds : goal.returns-in-Holds
returns-in-Holds c = IfOk-weaker c.say_of_other.result _ _ (λ answer says. record { verdict = checked.Holds _; checked = rw c.in-Holds.is at c.check_with_cost.ensures.verdict; asks = says }) c.say_of_other.ensures
