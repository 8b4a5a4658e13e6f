-- The four messages of a sign-on (RFC 5802, RFC 7677).
use Rattle.std.specs.Prelude.{◌≡◌, ℕ, List, [], ◌∷◌, ◌++◌, length, drop, codes, Bool, true, false, nat_eq, nat_lt, nat_le, ◌==◌, ◌&&◌, if◌then◌else◌, Option, None, Some, Result, Ok, Err}
use Rattle.std.specs.List.{before_first, after_first, flat_map, starts_with}
use Rattle.ofx_types.specs.TextRules.{trimmed}
use Rattle.ofx_types.specs.NumberReading.{number_at}
use Rattle.base64.specs.Engines.{standard}
use Rattle.base64.specs.GeneralPurpose.{encode_of, decode_of}
use Rattle.base64.specs.declared.decode.DecodeError.{DecodeError}
use Rattle.sha2.specs.Sha256.{sha256}
use Rattle.scram_sha256.specs.Hmac.{hmac}
use Rattle.scram_sha256.specs.Salted.{xor, salted}

-- ---- what the client says first

-- A comma ends an attribute, so in a user's name it is escaped as =2C, and an equals sign as =3D (RFC 5802, section 5.1).
abbrev pub escaped_byte : ℕ → List ℕ
escaped_byte b = if b == 61 then codes "=3D" else (if b == 44 then codes "=2C" else b ∷ [])

abbrev pub escaped : List ℕ → List ℕ
escaped user = flat_map escaped_byte user

abbrev pub first_bare : (user nonce : List ℕ) → List ℕ
first_bare user nonce = codes "n=" ++ escaped user ++ codes ",r=" ++ nonce

-- Nothing of the connection is bound in: there is no TLS.
abbrev pub client_first : (user nonce : List ℕ) → List ℕ
client_first user nonce = codes "n,," ++ first_bare user nonce

-- ---- what the server asks

-- A nonce, a salt, and how many rounds.
pub record Challenge : Type 0 where
  pub nonce : List ℕ
  pub salt : List ℕ
  pub rounds : ℕ

infixl 10 ◌>>=◌
abbrev pub ◌>>=◌ : {A B : Type 0} → Option A → (A → Option B) → Option B
None >>= f = None
(Some x) >>= f = f x

abbrev pub is_comma : ℕ → Bool
is_comma b = b == 44

-- An attribute is a letter, an equals sign, and what precedes the next comma.
abbrev pub attribute : (letter : ℕ) → List ℕ → Option (List ℕ × List ℕ)
attribute letter [] = None
attribute letter (x ∷ []) = None
attribute letter (x ∷ y ∷ rest) = if x == letter && y == 61 then Some (before_first is_comma rest, after_first is_comma rest) else None

abbrev pub decoded : Result (List ℕ) DecodeError → Option (List ℕ)
decoded (Ok bytes) = Some bytes
decoded (Err e) = None

-- Fewer rounds than RFC 7677 asks for are no protection, and too many would hold the client up.
abbrev pub within_bounds : ℕ → Option ℕ
within_bounds rounds = if nat_le 4096 rounds && nat_le rounds 1000000 then Some rounds else None

abbrev pub rounds_in : List ℕ → Option ℕ
rounds_in digits = number_at 9 (trimmed digits) >>= within_bounds

unfoldable pub challenge : List ℕ → Option Challenge
challenge text = do
  nonce ← attribute 114 text
  salt ← attribute 115 nonce.1
  bytes ← decoded (decode_of standard salt.0)
  rounds ← attribute 105 salt.1
  count ← (if length rounds.1 == 0 then rounds_in rounds.0 else None)
  Some (record { nonce = nonce.0; salt = bytes; rounds = count })

-- ---- what both prove

abbrev pub without_proof : (nonce : List ℕ) → List ℕ
without_proof nonce = codes "c=biws,r=" ++ nonce

-- All that was said before the proof.
abbrev pub said : (user nonce first : List ℕ) (asked : Challenge) → List ℕ
said user nonce first asked = first_bare user nonce ++ codes "," ++ first ++ codes "," ++ without_proof asked.nonce

unfoldable pub proof : (key said : List ℕ) → List ℕ
proof key said = xor (hmac key (codes "Client Key")) (hmac (sha256 (hmac key (codes "Client Key"))) said)

-- The client proves that it has the salted password. The proof shows nobody what that is.
abbrev pub client_last : (key said : List ℕ) (asked : Challenge) → List ℕ
client_last key said asked = without_proof asked.nonce ++ codes ",p=" ++ encode_of standard (proof key said)

-- The server proves that it has it too.
abbrev pub server_last : (key said : List ℕ) → List ℕ
server_last key said = codes "v=" ++ encode_of standard (hmac (hmac key (codes "Server Key")) said)

-- ---- the answer to a challenge

-- The client's last message, and the server's that has to come then.
pub record Replies : Type 0 where
  pub last : List ℕ
  pub wanted : List ℕ

-- The challenge's nonce goes on from the client's own, and is longer.
abbrev pub goes_on : (nonce : List ℕ) → Challenge → Bool
goes_on nonce asked = starts_with nat_eq asked.nonce nonce && nat_lt (length nonce) (length asked.nonce)

abbrev pub replies_to : (user password nonce first : List ℕ) → Challenge → Option Replies
replies_to user password nonce first asked =
    if goes_on nonce asked
    then Some (record {
      last = client_last (salted password asked.salt asked.rounds) (said user nonce first asked) asked;
      wanted = server_last (salted password asked.salt asked.rounds) (said user nonce first asked);
    })
    else None

unfoldable pub replies : (user password nonce first : List ℕ) → Option Replies
replies user password nonce first = challenge first >>= replies_to user password nonce first
