-- The words of a setup and the digits of a token are texts.
use Rattle.std.proofs.Common.{◌≡◌, ℕ, zero, suc, ◌<◌, ◌≤◌, true, ◌&&◌, List, [], ◌∷◌, length, arith}
use Rattle.std.specs.Prelude.{nat_le}
use Rattle.std.specs.Fmt.{decimal}
use Rattle.std.specs.List.{AllByRecursion, list_all, slice_get}
use Rattle.std.proofs.lemmas.Bool.{and_parts, leb-true}
use Rattle.std.proofs.lemmas.Fmt.{decimal_nonempty, length-decimal-le}
use Rattle.ofx_types.specs.declared.number.UserId.{UserId}
use Rattle.bank_model.specs.declared.setup.Setup.{Setup}
use Rattle.bank_model.specs.declared.setup.User.{User}
use Rattle.bank_model.specs.SetupForm.{is_word_byte, IsWord, IsUser, IsWithinLimits}
use Rattle.bank_model.specs.SetupLookups.{name_in, user_name}
use Rattle.msg_parts.specs.SoundParts.{IsTextWithin}
use Rattle.bank_model.proofs.Visible.{IsVisible, visible_clean, decimal_visible, visible_trimmed}

pub visible_text : (most : ℕ) (bytes : List ℕ) → IsVisible bytes → 0 < length bytes → length bytes ≤ most → most ≤ 64 → IsTextWithin most bytes
visible_text most bytes p some short small = record {
  is_text = record {
    is_trimmed = visible_trimmed bytes p;
    is_clean = visible_clean bytes p;
    is_short = omega arith;
  };
  is_there = some;
  is_within = short;
}

-- ---- tokens

pub token_within : (n : ℕ) → n ≤ 9999999999 → IsTextWithin 64 (decimal n)
token_within n most =
    let short = length-decimal-le 10 n (omega arith) (omega arith) (omega arith) in
    visible_text 64 (decimal n) (decimal_visible n (omega arith)) (decimal_nonempty n (omega arith)) (omega arith) (omega arith)

-- ---- the names of users

pub word_visible : (word : List ℕ) → list_all is_word_byte word ≡ true → IsVisible word
word_visible [] all = tt
word_visible (b ∷ word) all =
    let both = and_parts (is_word_byte b) (list_all is_word_byte word) all in
    let plain = and_parts (nat_le 33 b && nat_le b 126) _ both.0 in
    let low = leb-true 33 b (and_parts (nat_le 33 b) (nat_le b 126) plain.0).0 in
    (omega arith, word_visible word both.1)

word_within : (word : List ℕ) → IsWord word → IsTextWithin 32 word
word_within word is = visible_text 32 word (word_visible word is.is_plain) is.is_there is.is_within (omega arith)

name_within : (users : List User) (occurrence : ℕ) → occurrence < length users → AllByRecursion IsUser users → IsTextWithin 32 (name_in (slice_get users occurrence))
name_within [] occurrence below all = absurd (omega arith)
name_within (user ∷ users) zero below all = word_within user.name all.0.name
name_within (user ∷ users) (suc occurrence) below all = name_within users occurrence (omega arith) all.1

pub user_within : (setup : Setup) (user : UserId) → IsWithinLimits setup → user.0 < length setup.users → IsTextWithin 32 (user_name setup user)
user_within setup user within known = name_within setup.users user.0 known within.lines.users
