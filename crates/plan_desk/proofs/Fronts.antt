-- What a writer has taken when writing stops: some first bytes of the piece.
use Rattle.std.proofs.Common.{◌≡◌, ◌∙◌, sym, ap, subst, ℕ, List, ◌++◌, length, take, drop, Option, Result, Ok, Err, OnErr, append_assoc, take-append-drop}
use lib.Seq.{take-append_seam}
use Rattle.std.specs.Io.KnownBytes.{Appends, Keeps}
use Rattle.std.proofs.KnownBytes.{Appends-kept, Appends-trans}
use Rattle.plan_desk.specs.Sink.{TakesFront}

-- what is so anyway is so of an error
pub anyway : {T E : Type 0} (result : Result T E) (P : Type 0) → P → OnErr result P
anyway (Ok x) P fact = tt
anyway (Err e) P fact = fact

-- a part from the front on
pub took_front : (old new : Option (List ℕ)) (all done rest : List ℕ) → all ≡ done ++ rest → Appends old new done → TakesFront old new all
took_front old new all done rest split appended =
    let front : take (length done) all ≡ done = ap (take (length done)) split ∙ take-append_seam done rest in
    (length done, subst (Appends old new) (sym front) appended)

-- nothing came after it
pub stopped : (old mid new : Option (List ℕ)) (all done rest : List ℕ) → all ≡ done ++ rest → Appends old mid done → Keeps mid new → TakesFront old new all
stopped old mid new all done rest split appended kept = took_front old new all done rest split (Appends-kept old mid new done appended kept)

-- a part of the rest came after it
pub stopped_later : (old mid new : Option (List ℕ)) (all done rest : List ℕ) (n : ℕ) → all ≡ done ++ rest → Appends old mid done → Appends mid new (take n rest)
    → TakesFront old new all
stopped_later old mid new all done rest n split appended more =
    let same : all ≡ (done ++ take n rest) ++ drop n rest =
    split ∙ ap (λ l. done ++ l) (sym (take-append-drop n rest)) ∙ sym (append_assoc done (take n rest) (drop n rest)) in
    took_front old new all (done ++ take n rest) (drop n rest) same (Appends-trans old mid new done (take n rest) appended more)
