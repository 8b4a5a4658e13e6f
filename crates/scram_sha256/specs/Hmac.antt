-- HMAC over SHA-256 (RFC 2104).
use Rattle.std.specs.Prelude.{ℕ, ◌-◌, List, [], ◌∷◌, ◌++◌, length, map, replicate, bit_xor, nat_lt, if◌then◌else◌}
use Rattle.sha2.specs.Sha256.{sha256}

-- A key longer than a block of 64 bytes is replaced by its digest.
unfoldable pub short_key : List ℕ → List ℕ
short_key key = if nat_lt 64 (length key) then sha256 key else key

-- The key with zeros up to a block, and the pad in each byte of it.
abbrev pub padded : (pad : ℕ) → List ℕ → List ℕ
padded pad key = map (λ b. bit_xor b pad) key ++ replicate (64 - length key) pad

abbrev pub inner_block : List ℕ → List ℕ
inner_block key = padded 54 (short_key key)

abbrev pub outer_block : List ℕ → List ℕ
outer_block key = padded 92 (short_key key)

unfoldable pub hmac : (key text : List ℕ) → List ℕ
hmac key text = sha256 (outer_block key ++ sha256 (inner_block key ++ text))
