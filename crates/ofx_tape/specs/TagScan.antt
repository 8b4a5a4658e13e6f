-- What follows the `<` of a tag.
use Rattle.std.specs.Prelude.{◌≡◌, ℕ, ◌<◌, ◌≤◌, ◌⊎◌, ◌-◌, ◌==◌, ◌&&◌, Bool, true, false, List, [], ◌∷◌, ◌++◌, length}
use Rattle.std.specs.List.{list_all}
use Rattle.ofx_types.specs.TagNames.{is_name, is_name_byte}
use Rattle.ofx_types.specs.TagFault.{at_offset, no_tag, pieces_after}
use Rattle.ofx_tape.specs.declared.scan.NameAt.{NameAt}
use Rattle.ofx_tape.specs.declared.scan.NameAt.TheVariants as names
use Rattle.ofx_tape.specs.declared.scan.TagAt.{TagAt}
use Rattle.ofx_tape.specs.declared.scan.TagAt.TheVariants as tags

-- Too many bytes of a name, or some of a name and then a byte of another kind, which doesn't end a name.
pub record IsNoName (bytes : List ℕ) : Type 0 where
  pub name : List ℕ
  pub of_name : list_all is_name_byte name ≡ true
  pub ends : ((bytes ≡ name) × (32 < length name))
      ⊎ ((b : ℕ) × (more : List ℕ) × (bytes ≡ name ++ b ∷ more) × (is_name_byte b ≡ false) × (((b == 62) && is_name name) ≡ false))

abbrev pub IsNameAt : List ℕ → NameAt → Type 0
IsNameAt bytes (names.Whole name suffix) = (is_name name.now ≡ true) × (bytes ≡ name.now ++ 62 ∷ suffix.now)
IsNameAt bytes names.Unfinished = (list_all is_name_byte bytes ≡ true) × (length bytes ≤ 32)
IsNameAt bytes names.Broken = IsNoName bytes

-- The `<` begins no tag, and is the last piece of a body of any size.
abbrev pub BeginsNoTag : Bool → List ℕ → Type 0
BeginsNoTag is_unfinished bytes = (size : ℕ) → pieces_after size bytes ≡ at_offset (size - length bytes) (no_tag is_unfinished) ∷ []

abbrev pub IsTagAfter : List ℕ → TagAt → Type 0
IsTagAfter bytes (tags.Start name suffix) = (is_name name.now ≡ true) × (bytes ≡ name.now ++ 62 ∷ suffix.now)
IsTagAfter bytes (tags.End name suffix) = (is_name name.now ≡ true) × (bytes ≡ 47 ∷ (name.now ++ 62 ∷ suffix.now))
IsTagAfter bytes tags.Unfinished = BeginsNoTag true (60 ∷ bytes)
IsTagAfter bytes tags.Broken = BeginsNoTag false (60 ∷ bytes)
