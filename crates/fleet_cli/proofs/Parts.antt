-- What a put of a text comes to: all of it or a part, and one fault at most.
use Rattle.std.proofs.Common.{◌≡◌, ℕ, List, Option, Result, Ok, Err, OnOk, OnErr, length, inl, inr}
use Rattle.std.proofs.Math.Seq.{take-length}
use Rattle.plan_desk.specs.Counts.{IsOneMoreAtMost, counted}
use Rattle.plan_desk.specs.Sink.{AppendsPrefix, MatchPutFailed, output_with}
use Rattle.plan_desk.specs.declared.sink.SinkError.{SinkError}
use Rattle.plan_desk.specs.declared.sink.SinkError.TheVariants as sink_error

pub full_part : (text : List ℕ) (before after : Option (List ℕ)) → after ≡ output_with before text → AppendsPrefix text before after
full_part text before after put = (length text, rw (take-length text) put)

pub some_part : (r : Result (Unit {0}) SinkError) (text : List ℕ) (before after : Option (List ℕ)) → OnOk r (after ≡ output_with before text) → OnErr r (AppendsPrefix text before after)
    → AppendsPrefix text before after
some_part (Ok x) text before after full part = full_part text before after full
some_part (Err e) text before after full part = part

-- whatever a put answers, it counts one fault at most
pub one_more_at_most : (r : Result (Unit {0}) SinkError) (before now : ℕ) → MatchPutFailed r (now ≡ counted before 1) (now ≡ before) → IsOneMoreAtMost before now
one_more_at_most (Ok x) before now same = inl same
one_more_at_most (Err sink_error.Failed) before now more = inr more
one_more_at_most (Err sink_error.NoMemory) before now same = inl same
