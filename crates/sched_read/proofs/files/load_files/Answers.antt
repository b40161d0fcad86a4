use Rattle.sched_read.proofs.Steps.{none_optional, optional_asked}
use Rattle.sched_read.specs.Files.{all_bytes}
use Rattle.sched_read.proofs.files.load_files.Goals as goal

pub returns-then-options : goal.returns-then-options
returns-then-options c =
    optional_asked (all_bytes c.args.texts.now) c.args.options c.in_ok-moved.moved c.add_optional.result c.if-options.true c.in_ok-moved.ensures (rw c.as_slice.ensures at c.add_optional.ensures)

pub returns : goal.returns
returns c = none_optional (all_bytes c.args.texts.now) c.args.options c.in_ok-moved.moved c.if-options.false c.in_ok-moved.ensures
