use Rattle.test_desks.proofs.FilesLemmas.{files_in-updates}
use Rattle.test_desks.proofs.memory_desk.lay_down.Goals as goal

pub returns-clause-laid_down : goal.returns-clause-laid_down
returns-clause-laid_down c = files_in-updates c.args.files.now c.insert.new.self _ c.args.bytes c.in_ok-insert.ensures.updates
