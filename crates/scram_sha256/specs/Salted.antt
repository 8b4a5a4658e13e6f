-- The salted password (RFC 5802, section 2.2).
use Rattle.std.specs.Prelude.{ℕ, zero, suc, ◌-◌, List, [], ◌∷◌, ◌++◌, bit_xor}
use Rattle.scram_sha256.specs.Hmac.{hmac}

abbrev pub xor : List ℕ → List ℕ → List ℕ
xor [] ys = []
xor (x ∷ xs) [] = []
xor (x ∷ xs) (y ∷ ys) = bit_xor x y ∷ xor xs ys

-- So many rounds more: each authenticates what the round before gave, and all are put together.
unfoldable pub rounds_from : (password last total : List ℕ) → ℕ → List ℕ
rounds_from password last total zero = total
rounds_from password last total (suc more) = rounds_from password (hmac password last) (xor total (hmac password last)) more

-- The first round is of the salt, with the number of the block after it.
unfoldable pub salted : (password salt : List ℕ) (rounds : ℕ) → List ℕ
salted password salt rounds =
    rounds_from password (hmac password (salt ++ 0 ∷ 0 ∷ 0 ∷ 1 ∷ [])) (hmac password (salt ++ 0 ∷ 0 ∷ 0 ∷ 1 ∷ [])) (rounds - 1)
