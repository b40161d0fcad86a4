-- What stands under each name of a map, after a change at one name.
use Rattle.std.proofs.Common.{◌≡◌, ◌∙◌, ap, sym, refl, ℕ, Bool, true, false, cond, List, Option, Some, Vec, String, string_bytes, option_map}
use Rattle.std.specs.declared.alloc.Global.{Global}
use Rattle.std.specs.Ordering.{nat_cmp}
use Rattle.std.specs.Cmp.Lexicographic.{slice_cmp}
use Rattle.std.specs.String.{string_cmp}
use Rattle.std.specs.Str.{bytes_eq}
use Rattle.std.specs.BTreeMap.{BTreeMap, UpdatesBy, get_by_text}
use Rattle.std.proofs.lemmas.Map.Text.{btree_map_updates_text}
use Rattle.std.proofs.lemmas.Slice.Eq.{bytes_eq-Decides}
use Rattle.plan_desk.specs.Desk.{Files, with_file, ChangesOnly}
use Rattle.test_desks.specs.Memory.{files_in}

-- the bytes of a choice are the choice of the bytes
option_map-cond : (b : Bool) (new : Vec ℕ Global) (old : Option (Vec ℕ Global)) → option_map (λ v. v.items) (cond b (Some new) old) ≡ cond b (Some new.items) (option_map (λ v. v.items) old)
option_map-cond true new old = refl
option_map-cond false new old = refl

-- a map that has other bytes at one name holds the same files, but for these bytes under that name
pub files_in-updates : (old new : BTreeMap (String Global) (Vec ℕ Global)) (name : List ℕ) (bytes : Vec ℕ Global) → UpdatesBy string_cmp (λ key. slice_cmp nat_cmp name (string_bytes key)) old new (Some bytes) → files_in new ≡ with_file (files_in old) name (Some bytes.items)
files_in-updates old new name bytes updates =
    let here : (other : List ℕ) → files_in new other ≡ with_file (files_in old) name (Some bytes.items) other =
    λ other. ap (option_map (λ (v : Vec ℕ Global). v.items)) (btree_map_updates_text name old new (Some bytes) updates other) ∙ option_map-cond (bytes_eq name other) bytes (get_by_text old other)
    in λ i other. here other i

-- what stands under a name, put there again, changes nothing
with_file-same : (files : Files) (name other : List ℕ) (b : Bool) → (b ≡ true → name ≡ other) → cond b (files name) (files other) ≡ files other
with_file-same files name other true same = ap files (same refl)
with_file-same files name other false same = refl

-- a call that changes nothing changes only what stands under one name
pub unchanged_changes_only : (name : List ℕ) (old new : Files) → new ≡ old → ChangesOnly name (Some old) (Some new)
unchanged_changes_only name old new same =
    let here : (other : List ℕ) → new other ≡ with_file old name (old name) other =
    λ other. ap (λ (files : Files). files other) same ∙ sym (with_file-same old name other (bytes_eq name other) (bytes_eq-Decides name other).0)
    in (old name, λ i. Some (λ other. here other i))
