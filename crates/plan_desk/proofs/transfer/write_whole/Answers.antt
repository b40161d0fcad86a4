use Rattle.std.proofs.Common.{◌≡◌, ◌∙◌, sym, ap, ℕ, ◌-◌, List, ◌++◌, length, take, drop, append_assoc, take-append-drop}
use Rattle.std.proofs.lemmas.List.{take_rest}
use Rattle.std.proofs.KnownBytes.{Appends-trans}
use Rattle.plan_desk.proofs.Fronts.{anyway, stopped, stopped_later}
use Rattle.plan_desk.proofs.transfer.write_whole.Goals as goal

-- the first n bytes of the rest join what is done
moved : (all done rest : List ℕ) (n : ℕ) → all ≡ done ++ rest → all ≡ (done ++ take n rest) ++ take (length rest - n) (drop n rest)
moved all done rest n split =
    split ∙ ap (λ l. done ++ l) (sym (take-append-drop n rest)) ∙ sym (append_assoc done (take n rest) (drop n rest)) ∙ ap (λ l. (done ++ take n rest) ++ l) (sym (take_rest rest n))

pub loop-rest-preserved : goal.loop-rest-preserved
loop-rest-preserved g c =
    let (done, split, appended) = c.loop-rest.invariant in
    let rest = c.loop-rest.rest.now in
    let n = c.in_ok-n.n in
    (done ++ take n rest, moved _ done rest n split, Appends-trans _ _ _ _ _ appended c.in_ok-n.ensures.bytes)

pub returns-in_err-n-clause-part : goal.returns-in_err-n-clause-part
returns-in_err-n-clause-part g c =
    let (done, split, appended) = c.loop-rest.invariant in
    anyway c.from_residual.result _ (stopped _ _ _ _ done _ split appended c.in_err-n.ensures.bytes)

pub returns-then-n-eq0-clause-part : goal.returns-then-n-eq0-clause-part
returns-then-n-eq0-clause-part g c =
    let (done, split, appended) = c.loop-rest.invariant in
    stopped_later _ _ _ _ done _ c.in_ok-n.n split appended c.in_ok-n.ensures.bytes

pub returns-clause-part : goal.returns-clause-part
returns-clause-part g c =
    let (done, split, appended) = c.loop-rest.invariant in
    anyway c.flush.result _ (stopped _ _ _ _ done _ split appended c.flush.ensures.bytes)
