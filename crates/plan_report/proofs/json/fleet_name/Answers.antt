use Rattle.std.proofs.Common.{subst, sym}
use Rattle.std.specs.Str.{IsUtf8}
use Rattle.std.proofs.lemmas.Str.{IsUtf8-from_is_utf8}
use Rattle.plan_text.proofs.NameText.{name_is_text}
use Rattle.plan_report.proofs.json.fleet_name.Goals as goal

pub unreachable-requires : goal.unreachable-requires
unreachable-requires c =
    let name = c.fleet.result.now.name in
    let text : IsUtf8 name = IsUtf8-from_is_utf8 name (name_is_text name c.fleet.ensures.fits.name) in
    c.in-Err.ensures.cases.0 (subst IsUtf8 (sym c.as_slice.ensures) text)
