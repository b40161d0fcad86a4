use Rattle.std.specs.Vec.Iter.{into_iter_items, into_iter_len}
use Rattle.fleet_cli.proofs.WordFacts.{Taken}
use Rattle.fleet_cli.proofs.calling.all_of.Given as goal

-- what was taken and what is left are all words
abbrev pub invariant-loop-word : goal.invariant-loop-word
invariant-loop-word l =
    Taken l.words.items l.yielded (into_iter_items l.word-iterator) (into_iter_items l.initial.word-iterator) (into_iter_len l.word-iterator) (into_iter_len l.initial.word-iterator)
