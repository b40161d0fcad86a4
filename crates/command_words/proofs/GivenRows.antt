-- An option that was given has its row until the end of the walk.
use Rattle.std.proofs.Common.{◌≡◌, ◌∙◌, ◌&&◌, ◌||◌, ◌⊎◌, ◌+◌, min, ℕ, zero, suc, true, false, List, [], ◌∷◌, ◌++◌, Option, Some, None, refl, sym, ap, subst, codes, bytes_eq, if◌then◌else◌, inl, inr, length, slice_get, chars}
use Rattle.std.specs.Prelude.{drop, encode_utf8}
use Rattle.std.proofs.lemmas.Bool.{cases_Bool, or_cases, or_left, or_right, true≢false}
use Rattle.std.proofs.lemmas.Slice.Eq.{bytes_eq-Decides}
use Rattle.clap.specs.Walk.{Held, Outcome, Row, Rule, Step, Text, Waiting, Walk, action_of, after_flag, after_step, arg_by_id, arg_by_index, arg_by_long, arg_by_short, at_row, attached_value, bundle, bundle_met, bundle_step, count_of, counted, done, flag_met, has_row, idle, is_pending, long_met, long_or_other, more_values, new_count, next, option, option_met, option_word, plain, plain_word, positional, pushed, reacted, reading_by, refused, settled, settled_rows, short_met, short_or_plain, subcommand, takes_several, takes_values, to_positional, trailing, used, used_as, used_by_id, value, values_or_missing, waits, walked, with_count, with_values, without}
use Rattle.clap.specs.Lexer.{long_of, short_of}
use Rattle.clap.specs.declared.builder.action.ArgAction.{ArgAction}
use Rattle.clap.specs.declared.builder.action.ArgAction.TheVariants.{Set, Append, SetTrue, SetFalse, Count, Help, HelpShort, HelpLong, Version}
use Rattle.clap.specs.declared.builder.value_parser.Reading.{Reading}
use Rattle.clap.specs.declared.parser.matches.ValueSource.{ValueSource}
use Rattle.clap.specs.declared.parser.matches.ValueSource.TheVariants.{CommandLine}
use Rattle.command_words.proofs.Fails.{GoesOn, is_untrailed, stays_on, walked_is}

-- ---- rows that stay

module _ (name id : Text) (change : Row → List Row) (new : Row) (keeps : (r : Row) (rest : List Row) → has_row name (change r ++ rest) ≡ (bytes_eq r.id name || has_row name rest)) where
  row_stays : (rows : List Row) → has_row name rows ≡ true → has_row name (at_row id change (new ∷ []) rows) ≡ true
  row_stays [] has = absurd (true≢false (sym has))
  row_stays (r ∷ rows) has = elim (bytes_eq r.id id) as (λ b. has_row name (if b then change r ++ rows else r ∷ at_row id change (new ∷ []) rows) ≡ true) [
    | true ↦ keeps r rows ∙ has
    | false ↦ elim (or_cases (bytes_eq r.id name) (has_row name rows) has) [
      | inl here ↦ or_left (bytes_eq r.id name) _ here
      | inr later ↦ or_right (bytes_eq r.id name) _ (row_stays rows later)
    ]
  ]

  row_comes : id ≡ name → bytes_eq new.id name ≡ true → (rows : List Row) → has_row name (at_row id change (new ∷ []) rows) ≡ true
  row_comes same there [] = or_left (bytes_eq new.id name) false there
  row_comes same there (r ∷ rows) = elim (cases_Bool (bytes_eq r.id id)) [
    | inl here ↦ ap (λ b. has_row name (if b then change r ++ rows else r ∷ at_row id change (new ∷ []) rows)) here ∙ keeps r rows
        ∙ or_left (bytes_eq r.id name) _ (subst (λ text. bytes_eq r.id text ≡ true) same here)
    | inr other ↦ ap (λ b. has_row name (if b then change r ++ rows else r ∷ at_row id change (new ∷ []) rows)) other
        ∙ or_right (bytes_eq r.id name) _ (row_comes same there rows)
  ]

-- where a row is taken away, it was the option's own
row_leaves : (name id : Text) (rows : List Row) → has_row name rows ≡ true → (id ≡ name) ⊎ (has_row name (without id rows) ≡ true)
row_leaves name id [] has = absurd (true≢false (sym has))
row_leaves name id (r ∷ rows) has = elim (or_cases (bytes_eq r.id name) (has_row name rows) has) [
  | inl here ↦ elim (cases_Bool (bytes_eq r.id id)) [
    | inl own ↦ inl (sym ((bytes_eq-Decides r.id id).0 own) ∙ (bytes_eq-Decides r.id name).0 here)
    | inr other ↦ inr (ap (λ b. has_row name (if b then rows else r ∷ without id rows)) other ∙ or_left (bytes_eq r.id name) _ here)
  ]
  | inr later ↦ elim (cases_Bool (bytes_eq r.id id)) [
    | inl own ↦ inr (ap (λ b. has_row name (if b then rows else r ∷ without id rows)) own ∙ later)
    | inr other ↦ elim (row_leaves name id rows later) [
      | inl same ↦ inl same
      | inr stays ↦ inr (ap (λ b. has_row name (if b then rows else r ∷ without id rows)) other ∙ or_right (bytes_eq r.id name) _ stays)
    ]
  ]
]

same_text : (name id : Text) → id ≡ name → bytes_eq id name ≡ true
same_text name id same = (bytes_eq-Decides id name).1 same

values_stay : (name id : Text) (how : Reading) (source : ValueSource) (values : List Text) (rows : List Row) → has_row name rows ≡ true
    → has_row name (with_values id how source values rows) ≡ true
values_stay name id how source values rows has = row_stays name id (more_values source values) _ (λ r rest. refl) rows has

pub values_come : (name id : Text) (how : Reading) (source : ValueSource) (values : List Text) (rows : List Row) → id ≡ name
    → has_row name (with_values id how source values rows) ≡ true
values_come name id how source values rows same = row_comes name id (more_values source values) _ (λ r rest. refl) same (same_text name id same) rows

count_stays : (name id : Text) (how : Reading) (source : ValueSource) (n : ℕ) (rows : List Row) → has_row name rows ≡ true
    → has_row name (with_count id how source n rows) ≡ true
count_stays name id how source n rows has = row_stays name id (new_count source n) _ (λ r rest. refl) rows has

count_comes : (name id : Text) (how : Reading) (source : ValueSource) (n : ℕ) (rows : List Row) → id ≡ name
    → has_row name (with_count id how source n rows) ≡ true
count_comes name id how source n rows same = row_comes name id (new_count source n) _ (λ r rest. refl) same (same_text name id same) rows

-- what a use takes away it puts back
use_stays : (name id : Text) (how : Reading) (values : List Text) (rows : List Row) → has_row name rows ≡ true
    → has_row name (with_values id how CommandLine values (without id rows)) ≡ true
use_stays name id how values rows has = elim (row_leaves name id rows has) [
  | inl same ↦ values_come name id how CommandLine values (without id rows) same
  | inr stays ↦ values_stay name id how CommandLine values (without id rows) stays
]

counted_stays : (name id : Text) (how : Reading) (values : List Text) (rows : List Row) → has_row name rows ≡ true → has_row name (counted id how values rows) ≡ true
counted_stays name id how [] rows has = elim (row_leaves name id rows has) [
  | inl same ↦ count_comes name id how CommandLine (min (count_of id rows + 1) 255) (without id rows) same
  | inr stays ↦ count_stays name id how CommandLine (min (count_of id rows + 1) 255) (without id rows) stays
]
counted_stays name id how (text ∷ values) rows has = use_stays name id how (text ∷ values) rows has

used_stays : (name : Text) (action : ArgAction) (id : Text) (how : Reading) (values : List Text) (rows : List Row) → has_row name rows ≡ true
    → has_row name (used_as action id how values rows) ≡ true
used_stays name Set id how values rows has = use_stays name id how values rows has
used_stays name SetTrue id how values rows has = use_stays name id how values rows has
used_stays name SetFalse id how values rows has = use_stays name id how values rows has
used_stays name Append id how values rows has = values_stay name id how CommandLine values rows has
used_stays name Count id how values rows has = counted_stays name id how values rows has
used_stays name Help id how values rows has = has
used_stays name HelpShort id how values rows has = has
used_stays name HelpLong id how values rows has = has
used_stays name Version id how values rows has = has

-- ---- a walk that keeps a row

module _ (name : Text) (c : List Rule) where
  abbrev pub Has : Held → Type 0
  Has h = has_row name h.rows ≡ true

  use_has : (a : Rule) (values : List Text) (rows : List Row) → has_row name rows ≡ true → has_row name (used a values rows) ≡ true
  use_has a values rows has = used_stays name (action_of a) a.id (reading_by a) (values_or_missing a values) rows has

  id_has : (arg : Option Rule) (values : List Text) (rows : List Row) → has_row name rows ≡ true → has_row name (used_by_id arg values rows) ≡ true
  id_has None values rows has = has
  id_has (Some a) values rows has = use_has a values rows has

  pending_has : (pending : Option (Text × List Text)) (rows : List Row) → has_row name rows ≡ true → has_row name (settled_rows c pending rows) ≡ true
  pending_has None rows has = has
  pending_has (Some p) rows has = id_has (arg_by_id c p.0) p.1 rows has

  pub settled_has : (h : Held) → Has h → Has (settled c h)
  settled_has h has = pending_has h.pending h.rows has

  reacted_has : (a : Rule) (values : List Text) (h : Held) → Has h → Has (reacted c a values h)
  reacted_has a values h has = use_has a values (settled c h).rows (settled_has h has)

  option_has : (a : Rule) (given : Option Text) (h : Held) → Has h → Has (option_met c a given h).0
  option_has a (Some text) h has = reacted_has a (text ∷ []) h has
  option_has a None h has = settled_has h has

  flag_has : (a : Rule) (given : Option Text) (h : Held) → Has h → Has (flag_met c a given h).0
  flag_has a (Some text) h has = has
  flag_has a None h has = reacted_has a [] h has

  long_has : (arg : Option Rule) (given : Option Text) (h : Held) → Has h → Has (long_met c arg given h).0
  long_has None given h has = has
  long_has (Some a) given h has = elim (takes_values a) as (λ b. Has (if b then option_met c a given h else flag_met c a given h).0) [
    | true ↦ option_has a given h has
    | false ↦ flag_has a given h has
  ]

  short_has : (arg : Option Rule) (rest : Text) (h : Held) (after : Held → Held × Outcome) → ((h : Held) → Has h → Has (after h).0) → Has h
      → Has (short_met c arg rest h after).0
  short_has None rest h after goes has = has
  short_has (Some a) rest h after goes has = elim (takes_values a) as (λ b. Has (if b then option_met c a (attached_value rest) h else after (reacted c a [] h)).0) [
    | true ↦ option_has a (attached_value rest) h has
    | false ↦ goes (reacted c a [] h) (reacted_has a [] h has)
  ]

  character_has : (k : ℕ) (first : Option ℕ) (flags : Text) (skip : ℕ) (so_far : Outcome) (h : Held)
      → ((flags : Text) (skip : ℕ) (so_far : Outcome) (h : Held) → Has h → Has (bundle_met c k flags skip so_far h).0) → Has h
      → Has (bundle_step c first flags skip so_far h (bundle_met c k)).0
  character_has k None flags skip so_far h goes has = has
  character_has k (Some x) flags zero so_far h goes has =
      let rest : Text = drop (length (encode_utf8 x)) flags in
      short_has (arg_by_short c x) rest h (bundle_met c k rest 0 done) (goes rest 0 done) has
  character_has k (Some x) flags (suc skip) so_far h goes has = goes (drop (length (encode_utf8 x)) flags) skip so_far h has

  bundle_has : (k : ℕ) (flags : Text) (skip : ℕ) (so_far : Outcome) (h : Held) → Has h → Has (bundle_met c k flags skip so_far h).0
  unfolding bundle_met
  bundle_has zero flags skip so_far h has = has
  bundle_has (suc k) flags skip so_far h has = character_has k (slice_get (chars flags) 0) flags skip so_far h (bundle_has k) has

  plain_has : (waiting : Waiting) (word : Text) (h : Held) → Has h → Has (plain_word c waiting word h).0
  plain_has idle word h has = has
  plain_has positional word h has = has
  plain_has (option id) word h has = waits_has (arg_by_id c id)
    where
      waits_has : (arg : Option Rule) → Has (option_word arg id word h).0
      waits_has None = has
      waits_has (Some a) = has

  after_has : (waiting : Waiting) (word : Text) (h : Held) (outcome : Outcome) → Has h → Has (after_flag c waiting word h outcome).0
  after_has waiting word h done has = has
  after_has waiting word h (waits id) has = has
  after_has waiting word h plain has = plain_has waiting word h has
  after_has waiting word h refused has = plain_has waiting word h has

  other_has : (waiting : Waiting) (word : Text) (short : Option Text) (h : Held) → Has h → Has (short_or_plain c waiting word short h).0
  other_has waiting word None h has = plain_has waiting word h has
  other_has waiting word (Some flags) h has = after_has waiting word (bundle c flags h).0 (bundle c flags h).1 (bundle_has (length flags) flags h.skip plain (record h { skip = 0 }) has)

  word_has : (waiting : Waiting) (word : Text) (long : Option (Text × Option Text)) (h : Held) → Has h → Has (long_or_other c waiting word long h).0
  word_has waiting word None h has = other_has waiting word (short_of word) h has
  word_has waiting word (Some long) h has =
      after_has waiting word (long_met c (arg_by_long c long.0) long.1 h).0 (long_met c (arg_by_long c long.0) long.1 h).1 (long_has (arg_by_long c long.0) long.1 h has)

  argument_has : (arg : Option Rule) (word : Text) (w : Walk) (h : Held) → Has h → Has (to_positional c arg word w h).held
  argument_has None word w h has = has
  argument_has (Some a) word w h has = elim (is_pending a h.pending && takes_several a) as (λ b. Has (pushed a.id word (if b then h else settled c h))) [
    | true ↦ has
    | false ↦ settled_has h has
  ]

  step_has : (word : Text) (w : Walk) (h : Held) (step : Step) → Has h → Has (after_step c word w h step).held
  step_has word w h (next waiting) has = has
  step_has word w h (trailing position) has = has
  step_has word w h (subcommand below) has = has
  step_has word w h value has = argument_has (arg_by_index c w.position) word w h has

  -- the walk goes on, and the option was given
  pub record IsGiven (w : Walk) : Type 0 where
    pub goes : GoesOn w
    pub given : has_row name w.held.rows ≡ true

  pub stays_given : is_untrailed c ≡ true → (w : Walk) (word : Text) → bytes_eq word (codes "--") ≡ false → IsGiven w → IsGiven (walked c [] w word)
  stays_given untrailed w word other is = record {
    goes = stays_on c w word untrailed other is.goes;
    given = subst (λ (after : Walk). Has after.held) (sym (walked_is c w word other is.goes))
        (step_has word w _ (long_or_other c w.waiting word (long_of word) w.held).1 (word_has w.waiting word (long_of word) w.held is.given));
  }
