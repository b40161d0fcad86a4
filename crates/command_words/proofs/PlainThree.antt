-- Three words of a command that are no options need no `--` before them.
use Rattle.std.proofs.Common.{◌≡◌, ◌∙◌, true, [], ◌∷◌, Option, Some, refl, codes}
use Rattle.calendar_dates.specs.Reading.{date_read}
use Rattle.clap.proofs.OnLiterals.{clap_on_literals}
use Rattle.clap.specs.Simple.{App}
use Rattle.clap.specs.Walk.{Text, nothing_held, walk}
use Rattle.command_words.specs.Arguments.{aircraft_read, count_read, dates_at, legs_read, made_number_read}
use Rattle.command_words.specs.Found.{found}
use Rattle.command_words.specs.Plain.{AsksPlainly, DuePlainly, MakesPlainly, TailsPlainly, default_reading, default_rotations, is_plain_name}
use Rattle.command_words.specs.Program.{due_app, make_app, our_app, tails_app, whatif_app}
use Rattle.command_words.specs.Words.{Asked, asked, due_at, make_at, tails_at, whatif_at}
use Rattle.command_words.proofs.PlainFolder.{answer, built_command, is_plain, rows_by}
use Rattle.command_words.proofs.PlainWords.{TakesThree, level_of, three_plainly, with_three}

-- the command takes three words, and asks for this by them
record AsksByThree (command : Text) (app : App) (wanted : Text → Text → Text → Option Asked) (one two three : Text) : Type 0 where
  takes : TakesThree (built_command app) one two three
  parts : (program : Text) → asked (program ∷ command ∷ one ∷ two ∷ three ∷ [])
      ≡ answer (level_of (built_command app) (one ∷ two ∷ three ∷ [])) (rows_by (built_command app) (walk (built_command app).rules [] nothing_held (one ∷ two ∷ three ∷ [])))
  answers : answer [] (rows_by (built_command app) (with_three (built_command app) one two three)) ≡ wanted one two three

asks_plainly_by : (command : Text) (app : App) (wanted : Text → Text → Text → Option Asked) → ((one two three : Text) → AsksByThree command app wanted one two three) → (program one two three : Text)
    → is_plain_name one ≡ true → is_plain_name two ≡ true → is_plain_name three ≡ true → asked (program ∷ command ∷ one ∷ two ∷ three ∷ []) ≡ wanted one two three
asks_plainly_by command app wanted asks program one two three plain_one plain_two plain_three =
    let it = asks one two three in
    it.parts program ∙ three_plainly (built_command app) one two three it.takes (is_plain one plain_one) (is_plain two plain_two) (is_plain three plain_three) ∙ it.answers

tails_asks : (dir date count : Text) → AsksByThree (codes "tails") tails_app (λ dir date count. tails_at default_reading default_rotations (dates_at (date_read date) (count_read count) (Some 0)) dir) dir date count
unfolding asked found our_app clap_on_literals
tails_asks dir date count = record { takes = record { one_stays = refl; two_stays = refl; three_stays = refl; one_step = refl; two_step = refl; ends = refl }; parts = λ program. refl; answers = refl }

pub tails_plainly : TailsPlainly
tails_plainly = asks_plainly_by (codes "tails") tails_app _ tails_asks

due_asks : (dir date count : Text) → AsksByThree (codes "due") due_app (λ dir date count. due_at default_reading default_rotations (dates_at (date_read date) (count_read count) (Some 0)) dir) dir date count
unfolding asked found our_app clap_on_literals
due_asks dir date count = record { takes = record { one_stays = refl; two_stays = refl; three_stays = refl; one_step = refl; two_step = refl; ends = refl }; parts = λ program. refl; answers = refl }

pub due_plainly : DuePlainly
due_plainly = asks_plainly_by (codes "due") due_app _ due_asks

make_asks : (dir number legs : Text) → AsksByThree (codes "make") make_app (λ dir number legs. make_at (made_number_read number) (legs_read legs) dir) dir number legs
unfolding asked found our_app clap_on_literals
make_asks dir number legs = record { takes = record { one_stays = refl; two_stays = refl; three_stays = refl; one_step = refl; two_step = refl; ends = refl }; parts = λ program. refl; answers = refl }

pub makes_plainly : MakesPlainly
makes_plainly = asks_plainly_by (codes "make") make_app _ make_asks

whatif_asks : (dir fleet count : Text) → AsksByThree (codes "whatif") whatif_app (λ dir fleet count. whatif_at default_reading (Some fleet) (aircraft_read count) dir) dir fleet count
unfolding asked found our_app clap_on_literals
whatif_asks dir fleet count = record { takes = record { one_stays = refl; two_stays = refl; three_stays = refl; one_step = refl; two_step = refl; ends = refl }; parts = λ program. refl; answers = refl }

pub asks_plainly : AsksPlainly
asks_plainly = asks_plainly_by (codes "whatif") whatif_app _ whatif_asks
