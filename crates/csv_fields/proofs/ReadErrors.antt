-- What a reader that takes records of any length, and bytes that are no text, may fail of.
use Rattle.std.proofs.Common.{◌≡◌, ℕ, List, Option, true, false, refl}
use Rattle.csv.specs.Reading.{ExplainsRead, is_flexible}
use Rattle.csv.specs.declared.error.ErrorKind.{ErrorKind}
use Rattle.csv.specs.declared.error.ErrorKind.TheVariants as kind
use Rattle.csv.specs.declared.reader.Reader.{Reader}

pub only_memory : {R : Type 0} (rem : R → Option (List ℕ)) (old new : Reader R) (why : ErrorKind) → is_flexible old ≡ true → ExplainsRead rem old new false why
    → (why ≡ kind.OutOfMemory → ⊥) → ((e : _) → why ≡ kind.Io e → ⊥) → ⊥
only_memory rem old new (kind.Io e) flexible explained memory reader = reader e refl
only_memory rem old new (kind.Utf8 pos err) flexible explained memory reader = cc (explained.0)
only_memory rem old new (kind.UnequalLengths pos expected len) flexible explained memory reader = cc (flexible, explained.0)
only_memory rem old new (kind.Serialize why) flexible explained memory reader = explained
only_memory rem old new (kind.Deserialize pos err) flexible explained memory reader = explained
only_memory rem old new kind.OutOfMemory flexible explained memory reader = memory refl
