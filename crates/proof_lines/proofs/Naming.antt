-- The numbers of names, and the names of numbers; and the pairs that words tell.
use Rattle.std.proofs.Common.{◌≡◌, ◌≢◌, ℕ, zero, suc, ◌+◌, ◌<◌, ◌&&◌, Bool, true, false, cond, List, [], ◌∷◌, ◌++◌, length, map, slice_index_or, bytes_eq, codes, nat_lt, ℤ, Option, Some, None, Result, Ok, Err, AllPairs, refl, sym, ap, subst, ◌∙◌, arith}
use Rattle.std.specs.Fmt.{signed_decimal}
use Rattle.std.specs.List.{position, position_or_len}
use Rattle.std.specs.Prelude.{All}
use Rattle.std.proofs.lemmas.Bool.Decides.{nat_tests}
use Rattle.std.proofs.lemmas.List.{get_or-map, length-map}
use Rattle.std.proofs.lemmas.List.Quantifiers.{position-Some}
use Rattle.entries.specs.Names.{IsName, IsNameByte}
use Rattle.fleet_model.specs.Schedule.{IsPair, fleet_by, fleet_names, fleets_in, leg_on, legs_in, no_fleet, no_leg, no_station, stations_in}
use Rattle.fleet_model.specs.declared.parts.Pair.{Pair}
use Rattle.fleet_model.specs.declared.tables.Tables.{Tables}
use Rattle.sums.proofs.Tests.{both_true}
use Rattle.table_rows.specs.Names.{number_of_name}
use Rattle.table_rows.proofs.Numbered.{bytes_eq-differ}
use Rattle.proof_lines.specs.Choices.{choice_told}
use Rattle.proof_lines.specs.Figures.{figure, signed_in}
use Rattle.proof_lines.specs.Known.{a_fleet, codes_of, fleet_in, flier_in, flights_of, leg_in, minutes_in, named, names_in, pair_in, pair_of, paired, station_in}
use Rattle.proof_lines.specs.Flaws.{both}
use Rattle.proof_lines.specs.LineText.{fleet_word, flier_word, is_flown, leg_word, minutes_by, shift_words, station_word}
use Rattle.proof_lines.specs.Words.{Word, word_at}
use Rattle.proof_lines.specs.declared.flaws.Flaw.{Flaw}
use Rattle.proof_lines.specs.declared.line.Version.{Version}
use Rattle.proof_lines.proofs.Choosing.{both_read, chosen, figure_some, named_some}
use Rattle.proof_lines.proofs.FigureWords.{bytes_same, same_bytes}
use Rattle.proof_lines.proofs.ToldChoices.{ToldBy, choice_back, fleet_told, flier_of, minutes_few, minutes_none, none_told, out_told}
use Rattle.proof_lines.proofs.WrittenNumbers.{number_read, number_written}

place_is : {E : Type 0} (name_of : E → List ℕ) (entries : List E) (d : E) (k : ℕ) → AllPairs (λ a b. name_of a ≢ name_of b) entries → k < length entries
    → position_or_len (bytes_eq (name_of (slice_index_or entries k d))) (map name_of entries) ≡ k
place_is name_of [] d k apart within = absurd (omega (arith, within))
place_is name_of (entry ∷ entries) d zero apart within = rw (bytes_same (name_of entry) (name_of entry) refl) refl
place_is name_of (entry ∷ entries) d (suc k) apart within =
    rw (bytes_eq-differ (name_of (slice_index_or entries k d)) (name_of entry) (λ same. apart 0 (suc k) d (omega arith) within (sym same)))
    (ap (λ n. 1 + n) (place_is name_of entries d k (λ i j d before within. apart (suc i) (suc j) d (omega arith) (omega arith)) (omega arith)) ∙ omega arith)

named_at : {E : Type 0} (name_of : E → List ℕ) (entries : List E) (d : E) (k : ℕ) → AllPairs (λ a b. name_of a ≢ name_of b) entries → k < length entries
    → position (bytes_eq (name_of (slice_index_or entries k d))) (map name_of entries) ≡ Some k
named_at name_of entries d k apart within =
    rw (place_is name_of entries d k apart within, length-map entries name_of) (by_test (nat_lt k (length entries)) (grind (arith, nat_tests, within)))
  where
    by_test : (b : Bool) → b ≡ true → cond b (Some k) None ≡ Some k
    by_test true e = refl
    by_test false e = absurd (cc e)

-- a word that is known is the name of its number
pub record NameOf (word name : List ℕ) (number many : ℕ) : Type 0 where
  pub is : word ≡ name
  pub known : number < many

name_of_number : {E : Type 0} (name_of : E → List ℕ) (entries : List E) (d : E) (word : List ℕ) (k : ℕ) → position (bytes_eq word) (map name_of entries) ≡ Some k
    → NameOf word (name_of (slice_index_or entries k d)) k (length entries)
name_of_number name_of entries d word k is =
    let found = position-Some (bytes_eq word) (map name_of entries) k [] is in
    let within : k < length entries = subst (λ n. k < n) (length-map entries name_of) found.0 in
    record { is = same_bytes word (name_of (slice_index_or entries k d)) (ap (bytes_eq word) (sym (get_or-map name_of entries k d [] within)) ∙ found.1); known = within }

module _ (v : Version) (t : Tables) where
  pub leg_written : (l : ℕ) → l < legs_in t → leg_in (names_in v t) (leg_word t l) ≡ Ok l
  leg_written l is = ap named (named_at (λ leg. leg.flight) t.legs no_leg l t.in_range.legs_fit.differ is)

  pub fleet_written : (f : ℕ) → f < fleets_in t → fleet_in (names_in v t) (fleet_word t f) ≡ Ok f
  fleet_written f is = ap named (named_at (λ fleet. fleet.name) t.fleets no_fleet f t.in_range.fleets_fit.differ is)

  pub station_written : (s : ℕ) → s < stations_in t → station_in (names_in v t) (station_word t s) ≡ Ok s
  station_written s is = ap named (named_at (λ station. station.code) t.stations no_station s t.in_range.stations_fit.differ is)

  pub leg_read : (word : List ℕ) (l : ℕ) → leg_in (names_in v t) word ≡ Ok l → NameOf word (leg_word t l) l (legs_in t)
  leg_read word l is = name_of_number (λ leg. leg.flight) t.legs no_leg word l (named_some (number_of_name word (flights_of t)) l is)

  pub fleet_read : (word : List ℕ) (f : ℕ) → fleet_in (names_in v t) word ≡ Ok f → NameOf word (fleet_word t f) f (fleets_in t)
  fleet_read word f is = name_of_number (λ fleet. fleet.name) t.fleets no_fleet word f (named_some (number_of_name word (fleet_names t)) f is)

  pub station_read : (word : List ℕ) (s : ℕ) → station_in (names_in v t) word ≡ Ok s → NameOf word (station_word t s) s (stations_in t)
  station_read word s is = name_of_number (λ station. station.code) t.stations no_station word s (named_some (number_of_name word (codes_of t)) s is)

  -- ---- what flies a leg, and its minutes
  name_apart : (f : ℕ) → f < fleets_in t → bytes_eq (fleet_word t f) (codes "-") ≡ false
  name_apart f known = bytes_eq-differ (fleet_word t f) (codes "-") (λ same. other (t.in_range.fleets_fit.each f no_fleet known).name same)
    where
      other : IsName (fleet_word t f) → fleet_word t f ≡ codes "-" → ⊥
      other name same = let byte : IsNameByte 45 = subst (All IsNameByte) same name.2 0 0 (omega arith) in grind (arith, nat_tests, byte)

  flier_written : (l c : ℕ) → IsPair t (leg_on l c) → flier_in (names_in v t) (flier_word t l c) ≡ Ok (flier_of t l c)
  flier_written l c pair = by_flown (is_flown t l c) refl
    where
      no_out : {A : Type 0} (b : Bool) (x y : A) → cond (b && false) x y ≡ y
      no_out true x y = refl
      no_out false x y = refl

      by_flown : (b : Bool) → is_flown t l c ≡ b → flier_in (names_in v t) (cond b (fleet_word t (fleet_by t (leg_on l c))) (codes "-")) ≡ Ok (cond b (Some (fleet_by t (leg_on l c))) None)
      by_flown true is =
          let f = fleet_by t (leg_on l c) in
          let known : f < fleets_in t = grind (arith, nat_tests, is) in
          ap (λ b. cond (t.optional && b) (Ok None) (a_fleet (fleet_in (names_in v t) (fleet_word t f)))) (name_apart f known) ∙ no_out t.optional _ _ ∙ ap a_fleet (fleet_written f known)
      by_flown false is = chosen (t.optional && bytes_eq (codes "-") (codes "-")) _ _ (both_true t.optional (bytes_eq (codes "-") (codes "-")) (out_told t l c pair is) (bytes_same (codes "-") (codes "-") refl))

  minutes_written : (l c : ℕ) (rest : List Word) → l < legs_in t → minutes_in t.windows (word_at (shift_words t.windows (signed_decimal (minutes_by t l c)) ++ rest) 0) ≡ Ok (minutes_by t l c)
  minutes_written l c rest below = by_windows t.windows refl
    where
      by_windows : (b : Bool) → t.windows ≡ b → minutes_in b (word_at (shift_words b (signed_decimal (minutes_by t l c)) ++ rest) 0) ≡ Ok (minutes_by t l c)
      by_windows true is = ap figure (number_written (minutes_by t l c) (minutes_few t l c below))
      by_windows false is = ap (λ z. Ok z) (sym (minutes_none t l c below is))

  -- the words are those of a pair of the tables, where the shift is one of them
  pub record PairWas (flight flier shift : Word) (pair : Pair) : Type 0 where
    pub leg_is : flight ≡ leg_word t pair.leg
    pub flier_is : flier ≡ flier_word t pair.leg pair.choice
    pub shift_is : shift_words t.windows shift ≡ shift_words t.windows (signed_decimal (minutes_by t pair.leg pair.choice))
    pub known : IsPair t (leg_on pair.leg pair.choice)

  abbrev FlierWas : Word → Option ℕ → Type 0
  FlierWas name (Some f) = NameOf name (fleet_word t f) f (fleets_in t)
  FlierWas name None = (name ≡ codes "-") × (t.optional ≡ true)

  flier_read : (name : Word) (flier : Option ℕ) → flier_in (names_in v t) name ≡ Ok flier → FlierWas name flier
  flier_read name flier e = by_out t.optional (bytes_eq name (codes "-")) refl refl e
    where
      by_fleet : (r : Result ℕ Flaw) → fleet_in (names_in v t) name ≡ r → a_fleet r ≡ Ok flier → FlierWas name flier
      by_fleet (Ok f) is e = let same : Some f ≡ flier = cc e in subst (FlierWas name) same (fleet_read name f is)
      by_fleet (Err flaw) is e = absurd (cc e)

      by_out : (a b : Bool) → t.optional ≡ a → bytes_eq name (codes "-") ≡ b → cond (a && b) (Ok None) (a_fleet (fleet_in (names_in v t) name)) ≡ Ok flier → FlierWas name flier
      by_out true true asked is e = let same : None ≡ flier = cc e in subst (FlierWas name) same (same_bytes name (codes "-") is, asked)
      by_out true false asked is e = by_fleet (fleet_in (names_in v t) name) refl e
      by_out false b asked is e = by_fleet (fleet_in (names_in v t) name) refl e

  shift_read : (b : Bool) (shift : Word) (minutes own : ℤ) → minutes_in b shift ≡ Ok minutes → minutes ≡ own → shift_words b shift ≡ shift_words b (signed_decimal own)
  shift_read true shift minutes own e same = ap (shift_words true) ((number_read minutes shift (figure_some (signed_in shift) minutes e)).word_is ∙ ap signed_decimal same)
  shift_read false shift minutes own e same = refl

  told_choice : (name : Word) (flier : Option ℕ) (minutes : ℤ) (l c : ℕ) → l < legs_in t → FlierWas name flier → choice_told t l flier minutes ≡ Some c → ToldBy t name minutes l c
  told_choice name (Some f) minutes l c below was e = subst (λ name. ToldBy t name minutes l c) (sym was.is) (fleet_told t l f minutes c below was.known e)
  told_choice name None minutes l c below was e = subst (λ name. ToldBy t name minutes l c) (sym was.0) (none_told t l minutes c below was.1 e)

  pair_told : (flight name shift : Word) (pair : Pair) (r : Result ((ℕ × Option ℕ) × ℤ) Flaw)
      → both (both (leg_in (names_in v t) flight) (flier_in (names_in v t) name)) (minutes_in t.windows shift) ≡ r → pair_of (names_in v t) r ≡ Ok pair → PairWas flight name shift pair
  pair_told flight name shift pair (Ok told) is e =
      let all = both_read (both (leg_in (names_in v t) flight) (flier_in (names_in v t) name)) (minutes_in t.windows shift) told is in
      let two = both_read (leg_in (names_in v t) flight) (flier_in (names_in v t) name) told.0 all.first in
      let leg = leg_read flight told.0.0 two.first in
      by_choice leg (flier_read name told.0.1 two.second) all.second (choice_told t told.0.0 told.0.1 told.1) refl e
    where
      by_choice : NameOf flight (leg_word t told.0.0) told.0.0 (legs_in t) → FlierWas name told.0.1 → minutes_in t.windows shift ≡ Ok told.1
          → (o : Option ℕ) → choice_told t told.0.0 told.0.1 told.1 ≡ o → paired told.0.0 (named o) ≡ Ok pair → PairWas flight name shift pair
      by_choice leg flier minutes None is e = absurd (cc e)
      by_choice leg flier minutes (Some c) is e =
          let same : leg_on told.0.0 c ≡ pair = cc e in
          let was = told_choice name told.0.1 told.1 told.0.0 c leg.known flier is in
          subst (PairWas flight name shift) same
          (record { leg_is = leg.is; flier_is = was.flier_is; shift_is = shift_read t.windows shift told.1 (minutes_by t told.0.0 c) minutes was.minutes_is; known = was.pair })
  pair_told flight name shift pair (Err flaw) is e = absurd (cc e)

  pub pair_read : (flight name shift : Word) (pair : Pair) → pair_in (names_in v t) flight name shift ≡ Ok pair → PairWas flight name shift pair
  pair_read flight name shift pair e =
      pair_told flight name shift pair (both (both (leg_in (names_in v t) flight) (flier_in (names_in v t) name)) (minutes_in t.windows shift)) refl e

  pub pair_written : (l c : ℕ) (rest : List Word) → IsPair t (leg_on l c)
      → pair_in (names_in v t) (leg_word t l) (flier_word t l c) (word_at (shift_words t.windows (signed_decimal (minutes_by t l c)) ++ rest) 0) ≡ Ok (leg_on l c)
  pair_written l c rest is =
      let n = names_in v t in
      let shift = word_at (shift_words t.windows (signed_decimal (minutes_by t l c)) ++ rest) 0 in
      ap (λ r. pair_of n (both (both r (flier_in n (flier_word t l c))) (minutes_in t.windows shift))) (leg_written l is.leg)
      ∙ ap (λ r. pair_of n (both (both (Ok l) r) (minutes_in t.windows shift))) (flier_written l c is)
      ∙ ap (λ r. pair_of n (both (Ok (l, flier_of t l c)) r)) (minutes_written l c rest is.leg)
      ∙ ap (λ o. paired l (named o)) (choice_back t l c is)
