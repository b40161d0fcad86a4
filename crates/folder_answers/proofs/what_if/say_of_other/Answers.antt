use Rattle.folder_answers.proofs.AskedTrees.{says_of}
use Rattle.folder_answers.proofs.what_if.say_of_other.Goals as goal

pub returns : goal.returns
returns c = says_of _ _ _ c.requires.can c.args.tree.now _ c.whatif-what.ensures.asked _ (rw (c.in_ok-text.ensures, c.status_of.ensures) at c.says.ensures)
