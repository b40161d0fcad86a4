use Rattle.std.proofs.Common.{Bor, List, ℕ, ◌≡◌, ◌∙◌, sym, refl, rules, inl, inr, true, Some, []}
use Rattle.std.specs.Result.{is_ok}
use Rattle.std.proofs.lemmas.List.{map-append}
use Rattle.csv.specs.Reading.{Reached, default_config, strip_bom}
use Rattle.csv.specs.Records.{fields_of}
use Rattle.csv.specs.declared.parser.State.TheVariants as st
use Rattle.csv.proofs.ReadFacts.{rows-end, rows-more}
use Rattle.csv_fields.specs.Record.{records_of, rows_of}
use Rattle.csv_fields.proofs.AllRecords.{all_records}
use Rattle.csv_fields.proofs.ReadErrors.{only_memory}
use Rattle.csv_fields.proofs.record.records.Goals as goal

pub loop-record-init : goal.loop-record-init
unfolding Reached
loop-record-init c =
    let made = rw (c.flexible.ensures, c.has_headers.ensures) at c.from_reader-reader.ensures in
    let start = c.into_iter-record-iterator.ensures.into_iter_gives ∙ refl in
    let rdr = c.into_byte_records-record-items.ensures.rdr in
    let left = c.into_byte_records-record-items.ensures.left in
    rw (start, rdr, c.new-rows.ensures.items) (record {
      trims_nothing = made.trim ∙ c.new.ensures.trim;
      ready = inr (inr (made.has_headers, made.headers));
      turns_left = left;
      by_default = made.config ∙ c.new.ensures.config;
      flexible = made.flexible;
      unread = strip_bom c.args.bytes.now;
      source = made.source;
      reached = (sym made.state, refl);
    })

pub loop-record-preserved : goal.loop-record-preserved
loop-record-preserved c =
    let inv = c.loop-record.invariant in
    let step = rw (c.in-Some.is, c.in-Ok.is) at (c.next.ensures.steps inv.turns_left inv.trims_nothing) in
    let (took, first, left) = step.0 inv.ready in
    let good : is_ok c.push.result ≡ true = search rules in
    let items = rw good at c.push.ensures.items in
    let (unread, source, reached) = rows-more (λ (s : Bor (List ℕ)). Some s.now) c.loop-record.record-iterator.rdr c.next.new.self.rdr (fields_of c.in-Ok.record) default_config st.StartRecord (strip_bom c.args.bytes.now) inv.unread (rows_of c.loop-record.rows) inv.by_default inv.source inv.reached took in
    record {
      trims_nothing = took.3 ∙ inv.trims_nothing;
      ready = inl first;
      turns_left = left;
      by_default = took.2 ∙ inv.by_default;
      flexible = step.3 ∙ inv.flexible;
      unread = unread;
      source = source;
      reached = rw (items, map-append, c.in_ok-row-in-Ok.ensures) reached;
    }

pub unreachable-requires : goal.unreachable-requires
unreachable-requires c =
    let inv = c.loop-record.invariant in
    let steps = rw (c.in-Some.is, c.in-Err.is) at (c.next.ensures.steps inv.turns_left inv.trims_nothing) in
    let why = c.into_kind.ensures in
    only_memory (λ (s : Bor (List ℕ)). Some s.now) c.loop-record.record-iterator.rdr c.next.new.self.rdr c.in-Err.error.kind inv.flexible (steps.0 inv.ready)
    (λ e. c.in_default.not-OutOfMemory (why ∙ e)) (λ x e. c.in_default.not-Io x (why ∙ e))

pub returns : goal.returns
unfolding records_of
returns c =
    let inv = c.loop-record.invariant in
    let step = rw c.in-None.is at ((c.next.ensures.steps inv.turns_left inv.trims_nothing).0 inv.ready) in
    all_records default_config (strip_bom c.args.bytes.now) (rows_of c.loop-record.rows)
    (c.loop-record.record-iterator.rdr.state, inv.unread, inv.reached, rows-end (λ (s : Bor (List ℕ)). Some s.now) c.loop-record.record-iterator.rdr c.next.new.self.rdr [] default_config inv.unread inv.by_default inv.source step)
