-- Reading record by record to the end of a text gives all of its records.
use Rattle.std.proofs.Common.{◌≡◌, ◌<◌, ◌≤◌, ◌+◌, ◌-◌, ◌==◌, ◌&&◌, ℕ, Bool, List, [], ◌∷◌, ◌++◌, Some, None, true, false, zero, suc, length, refl, ap, arith, inl, inr}
use Rattle.std.specs.Prelude.{if◌then◌else◌}
use Rattle.std.proofs.lemmas.Bool.{cases_Bool}
use Rattle.csv.specs.Machine.{Read, after_end, ends_at_end, ends_with, field_after, fields_after, in_field, is_byte, is_end, next_record, start_field, start_record, step}
use Rattle.csv.specs.Reading.{AreRecords, Reached, records, records_from}
use Rattle.csv.specs.declared.parser.Action.{Action}
use Rattle.csv.specs.declared.parser.Config.{Config}
use Rattle.csv.specs.declared.parser.State.{State}
use Rattle.csv.specs.declared.parser.State.TheVariants as st
use Rattle.csv.specs.declared.parser.Terminator.{Terminator}
use Rattle.csv.specs.declared.parser.Terminator.TheVariants as term

-- a step that ends a record leaves a state in which the end of the text ends none
pub record EndsClean (move : State × Action) : Type 0 where
  clean : is_end move.1 ≡ true → ends_at_end move.0 ≡ false

goes_on : (s : State) (a : Action) → is_end a ≡ false → EndsClean (s, a)
goes_on s a on = record { clean = λ e. cc (e, on) }

either : (b : Bool) (x y : State × Action) → EndsClean x → EndsClean y → EndsClean (if b then x else y)
either true x y p q = p
either false x y p q = q

after_end_clean : (t : Terminator) (c : ℕ) → ends_at_end (after_end t c) ≡ false
after_end_clean term.CRLF c = elim (cases_Bool (c == 13)) [ inl e ↦ rw e refl | inr e ↦ rw e refl ]
after_end_clean (term.Any t) c = refl

in_field_clean : (cfg : Config) (c : ℕ) → EndsClean (in_field cfg c)
in_field_clean cfg c =
    either (c == cfg.delimiter) _ _ (goes_on _ _ refl)
    (either (ends_with cfg.terminator c) _ _ (record { clean = λ e. after_end_clean cfg.terminator c }) (goes_on _ _ refl))

start_field_clean : (cfg : Config) (c : ℕ) → EndsClean (start_field cfg c)
start_field_clean cfg c = either (cfg.quoting && (c == cfg.quote)) _ _ (goes_on _ _ refl) (in_field_clean cfg c)

start_record_clean : (cfg : Config) (c : ℕ) → EndsClean (start_record cfg c)
start_record_clean cfg c =
    either (ends_with cfg.terminator c) _ _ (goes_on _ _ refl)
    (either (is_byte cfg.comment c) _ _ (goes_on _ _ refl) (start_field_clean cfg c))

step_clean : (cfg : Config) (s : State) (c : ℕ) → EndsClean (step cfg s c)
step_clean cfg st.StartRecord c = start_record_clean cfg c
step_clean cfg st.StartField c = start_field_clean cfg c
step_clean cfg st.InField c = in_field_clean cfg c
step_clean cfg st.InQuoted c =
    either (cfg.quoting && (c == cfg.quote)) _ _ (goes_on _ _ refl)
    (either (cfg.quoting && is_byte cfg.escape c) _ _ (goes_on _ _ refl) (goes_on _ _ refl))
step_clean cfg st.InEscape c = goes_on _ _ refl
step_clean cfg st.AfterQuote c = either (cfg.quoting && cfg.double_quote && (c == cfg.quote)) _ _ (goes_on _ _ refl) (in_field_clean cfg c)
step_clean cfg st.InComment c = either (c == 10) _ _ (goes_on _ _ refl) (goes_on _ _ refl)
step_clean cfg st.AfterCr c = either (c == 10) _ _ (goes_on _ _ refl) (start_record_clean cfg c)

-- what a read leaves: at most so many bytes, in such a state
pub record Leaves (p : Read) (most : ℕ) : Type 0 where
  fewer : length p.2 ≤ most
  clean : ends_at_end p.1 ≡ false

read_leaves : (cfg : Config) (s : State) (fields : List (List ℕ)) (field xs : List ℕ) (p : Read) → next_record cfg s fields field xs ≡ Some p → Leaves p (length xs - 1)
unfolding next_record
read_leaves cfg s fields field [] p found = elim (cases_Bool (ends_at_end s)) [
  | inl ends ↦ (let e : p ≡ (fields ++ (field ∷ []), st.StartRecord, []) = (let h = rw ends at found in cc h) in rw e (record { fewer = omega arith; clean = refl }))
  | inr open_end ↦ (let h = rw open_end at found in cc h)
]
read_leaves cfg s fields field (c ∷ rest) p found = elim (cases_Bool (is_end (step cfg s c).1)) [
  | inl ends ↦
      let e : p ≡ (fields_after (step cfg s c).1 fields field, (step cfg s c).0, rest) = (let h = rw ends at found in cc h) in
      rw e (record { fewer = omega arith; clean = (step_clean cfg s c).clean ends })
  | inr more ↦
      let left = read_leaves cfg (step cfg s c).0 (fields_after (step cfg s c).1 fields field) (field_after (step cfg s c).1 c field) rest p (rw more at found) in
      record { fewer = omega (arith, left.fewer); clean = left.clean }
]

-- from a state in which the end of the text ends no record, a read takes a byte
read_takes : (cfg : Config) (s : State) (xs : List ℕ) (p : Read) → ends_at_end s ≡ false → next_record cfg s [] [] xs ≡ Some p → length p.2 < length xs
unfolding next_record
read_takes cfg s [] p clean found = let h = rw clean at found in cc h
read_takes cfg s (c ∷ rest) p clean found = let left = read_leaves cfg s [] [] (c ∷ rest) p found in omega (arith, left.fewer)

-- the records that take a text to its end are all of its records
reached_all : (cfg : Config) (rows : List (List (List ℕ))) (n : ℕ) (s s2 : State) (xs ys : List ℕ) → ends_at_end s ≡ false → length xs < n
    → Reached cfg s xs rows s2 ys → next_record cfg s2 [] [] ys ≡ None → rows ≡ records_from cfg n s xs
unfolding Reached records_from
reached_all cfg rows zero s s2 xs ys clean enough reached over = absurd (omega arith)
reached_all cfg [] (suc n) s s2 xs ys clean enough reached over = rw (reached.0, reached.1, over) refl
reached_all cfg (r ∷ rs) (suc n) s s2 xs ys clean enough reached over =
    let (p, found, same, others) = reached in
    let left = read_leaves cfg s [] [] xs p found in
    let takes = read_takes cfg s xs p clean found in
    rw (found, same) (ap (λ rest. p.0 ∷ rest) (reached_all cfg rs n p.1 s2 p.2 ys left.clean (omega (arith, takes)) others over))

pub all_records : (cfg : Config) (xs : List ℕ) (rows : List (List (List ℕ))) → AreRecords cfg st.StartRecord xs rows → rows ≡ records cfg xs
all_records cfg xs rows are = reached_all cfg rows (length xs + 1) st.StartRecord are.0 xs are.1 refl (omega arith) are.2 are.3
