-- A file reads as optional legs in one way at most, or has one first fault at most, and not both.
use Rattle.std.proofs.Common.{◌≡◌, List, sym, ap, ◌∙◌, inl, inr}
use Rattle.csv_fields.specs.Record.{records_of}
use Rattle.fleet_model.specs.Schedule.{legs_in}
use Rattle.fleet_model.specs.declared.tables.Tables.{Tables}
use Rattle.fleet_model.proofs.TablesSame.{tables_same}
use Rattle.sums.specs.Places.{list_below}
use Rattle.table_rows.proofs.OneReading.{table_bad_same, table_end_exists, table_reads_no_fault, table_reads_same}
use Rattle.sched_read.specs.optional_legs.Optional.{optional_key, optional_beside, optional_header}
use Rattle.sched_read.specs.optional_legs.Laws.{OneFirstOptionalFault, OneOptionalReading, OptionalOrFault, OptionalOrFaultNotBoth}
use Rattle.sched_read.specs.optional_legs.Adding.{HaveOptional, leg_with_skip}
use Rattle.sched_read.specs.declared.optional_legs.optional.OptionalLeg.{OptionalLeg}
use Rattle.sched_read.proofs.optional_legs.TablesWith.{tables_with, they_have}
use Rattle.sched_read.proofs.optional_legs.OptionalFit.{optional_keep}

pub optional_or_fault : OptionalOrFault
optional_or_fault t bytes = elim (table_end_exists optional_key (optional_beside t) optional_header (records_of bytes)) [
  | inl found ↦
      let are = optional_keep t (records_of bytes) found.0 found.1 in
      inl (record { tables = tables_with t found.0 are; reads = record { optional = found.0; read = found.1; have = they_have t found.0 are } })
  | inr fault ↦ inr (record { row = fault.0; kind = fault.1; bad = fault.2 })
]

pub not_both : OptionalOrFaultNotBoth
not_both t bytes reads fault = table_reads_no_fault optional_key (optional_beside t) optional_header (records_of bytes) reads.reads.optional fault.row fault.kind reads.reads.read fault.bad

-- with the same optional legs the tables are the same
have_same : (t u v : Tables) (optional other : List OptionalLeg) → optional ≡ other → HaveOptional t optional u → HaveOptional t other v → u ≡ v
have_same t u v optional other same a b =
    let legs : u.legs ≡ v.legs = a.legs ∙ ap (λ (ws : List OptionalLeg). list_below (leg_with_skip t ws) (legs_in t)) same ∙ sym b.legs in
    tables_same u v (a.stations ∙ sym b.stations) (a.fleets ∙ sym b.fleets) legs (a.costs ∙ sym b.costs) (a.throughs ∙ sym b.throughs) (a.settings ∙ sym b.settings)
    (a.windows ∙ sym b.windows) (a.asked ∙ sym b.asked)

pub one_reading : OneOptionalReading
one_reading t u v bytes a b =
    have_same t u v a.optional b.optional (table_reads_same optional_key (optional_beside t) optional_header (records_of bytes) a.optional b.optional a.read b.read) a.have b.have

pub one_first_fault : OneFirstOptionalFault
one_first_fault t bytes row other kind other_kind bad found = table_bad_same optional_key (optional_beside t) optional_header (records_of bytes) row other kind other_kind bad found
