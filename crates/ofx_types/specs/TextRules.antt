-- The bytes of texts and uids.
use Rattle.std.specs.Prelude.{◌≡◌, ℕ, ◌<◌, ◌≤◌, ◌^◌, Bool, ◌&&◌, ◌||◌, ◌==◌, nat_lt, not, List, [], ◌∷◌, length, reverse, position, None, ◌≢◌, codes, if◌then◌else◌}

-- White space is space, tab, CR and LF.
abbrev pub is_white : ℕ → Bool
is_white b = (b == 32) || (b == 9) || (b == 13) || (b == 10)

-- bytes without the white space at their start
abbrev pub trim_start : List ℕ → List ℕ
trim_start [] = []
trim_start (b ∷ bs) = if is_white b then trim_start bs else b ∷ bs

-- bytes without the white space at their end
abbrev pub trim_end : List ℕ → List ℕ
trim_end bytes = reverse (trim_start (reverse bytes))

-- bytes without the white space at both ends
abbrev pub trimmed : List ℕ → List ℕ
trimmed bytes = trim_end (trim_start bytes)

-- A byte below 0x20 is a control byte. Tab, LF and CR may be inside a text, and no other control byte may.
abbrev pub is_refused_in_text : ℕ → Bool
is_refused_in_text b = nat_lt b 32 && not (is_white b)

-- A file uid is on one line of a header, so no control byte at all may be in it.
abbrev pub is_refused_in_uid : ℕ → Bool
is_refused_in_uid b = nat_lt b 32

-- what a text is: nothing is left to trim, no byte is refused, and it is shorter than 2^32
pub record IsText (text : List ℕ) : Type 0 where
  pub is_trimmed : trimmed text ≡ text
  pub is_clean : position is_refused_in_text text ≡ None
  pub is_short : length text < 2 ^ 32

-- A transaction uid is a text of 1 to 36 bytes.
pub record IsTrnUid (uid : List ℕ) : Type 0 where
  pub is_text : IsText uid
  pub is_there : 0 < length uid
  pub is_within : length uid ≤ 36

-- A file uid has 1 to 36 bytes, none of them a control byte, and isn't the word for none.
pub record IsFileUid (uid : List ℕ) : Type 0 where
  pub is_trimmed : trimmed uid ≡ uid
  pub is_clean : position is_refused_in_uid uid ≡ None
  pub is_there : 0 < length uid
  pub is_within : length uid ≤ 36
  pub is_some : uid ≢ codes "NONE"
