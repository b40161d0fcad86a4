-- A member of a part of an appended list.
use Rattle.std.proofs.Common.{◌≡◌, ◌+◌, ◌-◌, List, ◌++◌, length, length-append, get_or, refl, sym, ap, ◌∙◌, arith}
use Rattle.std.proofs.lemmas.List.{get_or_append_left, get_or-append_right}
use Rattle.plan_desk.specs.declared.file.DeskFile.{DeskFile}
use Rattle.folder_answers.specs.Gathered.{IsAmong}

pub among_left : (xs ys : List DeskFile) (f : DeskFile) → IsAmong xs f → IsAmong (xs ++ ys) f
among_left xs ys f x =
    let below = x.within in
    record { place = x.place; within = omega (arith, length-append xs ys); is = λ d. x.is d ∙ sym (get_or_append_left xs ys d x.place x.within) }

pub among_right : (xs ys : List DeskFile) (f : DeskFile) → IsAmong ys f → IsAmong (xs ++ ys) f
among_right xs ys f x =
    let below = x.within in
    let back : length xs + x.place - length xs ≡ x.place = omega arith in
    record {
      place = length xs + x.place;
      within = omega (arith, length-append xs ys);
      is = λ d. x.is d ∙ sym (get_or-append_right xs ys (length xs) (length xs + x.place) d refl (omega arith) ∙ ap (λ k. get_or ys k d) back);
    }
