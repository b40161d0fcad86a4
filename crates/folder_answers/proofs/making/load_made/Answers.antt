use Rattle.std.proofs.Common.{rules, ◌≡◌}
use Rattle.fleet_model.specs.declared.refusals.LoadError.TheVariants as load
use Rattle.folder_answers.proofs.MadeStand.{never_bad}
use Rattle.folder_answers.proofs.making.load_made.Goals as goal

pub unreachable-requires : goal.unreachable-requires
unreachable-requires c =
    let same : c.in-Err-Bad.field-0 ≡ load.Bad c.in-Err-Bad.field-0-0 = search rules in
    never_bad c.args.number c.args.legs c.args.made.now c.load-loaded.result c.in-Err-Bad.field-0 c.in-Err-Bad.field-0-0 c.requires.can c.requires.made
    (rw (c.as_slice.ensures, c.as_slice-2.ensures, c.as_slice-3.ensures, c.as_slice-4.ensures, c.as_slice-5.ensures) at c.load-loaded.ensures) c.in-Err-Bad.is same
