-- What the bytes of a file of records are read as.
use Rattle.std.proofs.Common.{◌≡◌, ◌≢◌, ◌⊎◌, inl, inr, ℕ, zero, suc, ◌+◌, ◌-◌, ◌<◌, ◌≤◌, ◌^◌, List, [], ◌∷◌, ◌++◌, length, take, drop, get_or, Bool, true, false, ◌&&◌, Option, Some, None, Result, Ok, Err, refl, sym, ◌∙◌, ap, subst, arith, append_assoc, length-append, take-append-drop}
use Rattle.std.specs.Prelude.{nat_le}
use Rattle.std.specs.Int.{w64, to_be_bytes, from_be_bytes}
use Rattle.std.specs.Result.{result_ok}
use Rattle.std.proofs.lemmas.List.{append-nil, take_at, drop_at, get_or_at}
use Rattle.std.proofs.lemmas.Bool.{cases_eq}
use Rattle.std.proofs.lemmas.Bool.Decides.{nat_tests}
use Rattle.std.proofs.lemmas.Nat.{from_be_bytes-to_be_bytes_8, be_bytes_8}
use Rattle.disk_keeper.specs.File.{mark, size_bytes, size_of, next_size, is_whole, joined, records_from, found_in, has_mark, listed}
use Rattle.disk_keeper.specs.Layout.{block, blocks, prefix, HaveSizes, IsFile}

pub length-size_bytes : (size : ℕ) → length (size_bytes size) ≡ 8
unfolding size_bytes
length-size_bytes size = refl

pub size_bytes_are : (size : ℕ) → to_be_bytes w64 size ≡ size_bytes size
unfolding size_bytes
size_bytes_are size = refl

pub size_of_is : (bytes : List ℕ) → from_be_bytes w64 bytes ≡ size_of bytes
unfolding size_of
size_of_is bytes = refl

pub size_of-size_bytes : (size : ℕ) → size < 2 ^ 64 → size_of (size_bytes size) ≡ size
unfolding size_bytes size_of
size_of-size_bytes size fits = from_be_bytes-to_be_bytes_8 size fits

-- eight bytes are those of their length
pub size_bytes-size_of : (bytes : List ℕ) (size : ℕ) → length bytes ≡ 8 → ((i : ℕ) → get_or bytes i 0 < 256) → size ≡ from_be_bytes w64 bytes → size_bytes size ≡ bytes
unfolding size_bytes
size_bytes-size_of bytes size long fits is = be_bytes_8 bytes size long fits is

-- records before what follows them
abbrev pub all_joined : List (List ℕ) → Result (List (List ℕ)) ℕ → Result (List (List ℕ)) ℕ
all_joined [] rest = rest
all_joined (r ∷ rs) rest = joined r (all_joined rs rest)

pub all_joined-Ok : (rs : List (List ℕ)) → all_joined rs (Ok []) ≡ Ok rs
all_joined-Ok [] = refl
all_joined-Ok (r ∷ rs) = ap (joined r) (all_joined-Ok rs)

pub all_joined-Err : (rs : List (List ℕ)) (number : ℕ) → all_joined rs (Err number) ≡ Err number
all_joined-Err [] number = refl
all_joined-Err (r ∷ rs) number = ap (joined r) (all_joined-Err rs number)

-- one gate more for each record
abbrev pub gates : List (List ℕ) → ℕ → ℕ
gates [] most = most
gates (r ∷ rs) most = suc (gates rs most)

pub gates_is : (rs : List (List ℕ)) (most : ℕ) → gates rs most ≡ length rs + most
gates_is [] most = omega arith
gates_is (r ∷ rs) most = omega (arith, gates_is rs most)

-- a record is read where it is whole, and then what follows it
step : (suffix r rest : List ℕ) (most number : ℕ) → is_whole suffix ≡ true → take (next_size suffix) (drop 8 suffix) ≡ r → drop (8 + next_size suffix) suffix ≡ rest
    → records_from (suc most) number (1 ∷ suffix) ≡ joined r (records_from most (number + 1) rest)
unfolding records_from
step suffix r rest most number whole is_r is_rest = rw (whole, is_r, is_rest) refl

module _ (r : List ℕ) (rest : List ℕ) (fits : length r < 2 ^ 64) where
  size : List ℕ
  size = size_bytes (length r)

  pub size_is : next_size (size_bytes (length r) ++ r ++ rest) ≡ length r
  size_is =
      ap size_of (ap (take 8) (append_assoc (size_bytes (length r)) r rest) ∙ take_at (size_bytes (length r)) (r ++ rest) 8 (length-size_bytes (length r)))
      ∙ size_of-size_bytes (length r) fits

  size_length : length (size_bytes (length r) ++ r ++ rest) ≡ 8 + length r + length rest
  size_length = omega (arith, length-append (size_bytes (length r) ++ r) rest, length-append (size_bytes (length r)) r, length-size_bytes (length r))

  whole : is_whole (size_bytes (length r) ++ r ++ rest) ≡ true
  whole = rw (size_is, size_length) (grind (arith, nat_tests))

  pub bytes_are : take (next_size (size_bytes (length r) ++ r ++ rest)) (drop 8 (size_bytes (length r) ++ r ++ rest)) ≡ r
  bytes_are =
      rw size_is (
      ap (λ (l : List ℕ). take (length r) (drop 8 l)) (append_assoc (size_bytes (length r)) r rest)
      ∙ ap (take (length r)) (drop_at (size_bytes (length r)) (r ++ rest) 8 (length-size_bytes (length r)))
      ∙ take_at r rest (length r) refl
      )

  rest_is : drop (8 + next_size (size_bytes (length r) ++ r ++ rest)) (size_bytes (length r) ++ r ++ rest) ≡ rest
  rest_is =
      rw size_is (drop_at (size_bytes (length r) ++ r) rest (8 + length r) (omega (arith, length-append (size_bytes (length r)) r, length-size_bytes (length r))))

  -- a record after an open gate is read, and then what follows it
  pub record_read : (most number : ℕ) → records_from (suc most) number (block r ++ rest) ≡ joined r (records_from most (number + 1) rest)
  record_read most number = step (size_bytes (length r) ++ r ++ rest) r rest most number whole bytes_are rest_is

-- records are read, and then what follows them
pub records_read : (rs : List (List ℕ)) (rest : List ℕ) (most number : ℕ) → HaveSizes rs
    → records_from (gates rs most) number (blocks rs ++ rest) ≡ all_joined rs (records_from most (number + length rs) rest)
records_read [] rest most number sizes = ap (λ n. records_from most n rest) (omega arith)
records_read (r ∷ rs) rest most number sizes =
    ap (records_from (suc (gates rs most)) number) (append_assoc (block r) (blocks rs) rest)
    ∙ record_read r (blocks rs ++ rest) sizes.0 (gates rs most) number
    ∙ ap (joined r) (records_read rs rest most (number + 1) sizes.1 ∙ ap (λ n. all_joined rs (records_from most n rest)) (omega arith))

-- a record that passes the end, and a gate that does
pub cut_read : (most number : ℕ) (suffix : List ℕ) → is_whole suffix ≡ false → records_from (suc most) number (1 ∷ suffix) ≡ Err number
unfolding records_from
cut_read most number suffix cut = rw cut refl

pub end_read : (most number : ℕ) → records_from most number [] ≡ Err number
unfolding records_from
end_read zero number = refl
end_read (suc most) number = refl

shut_read : (most number gate : ℕ) (suffix : List ℕ) → gate ≢ 1 → records_from (suc most) number (gate ∷ suffix) ≡ Ok []
unfolding records_from
shut_read most number gate suffix shut = grind (arith, nat_tests)

pub length-prefix : (rs : List (List ℕ)) → length (prefix rs) ≡ 8 + length (blocks rs)
length-prefix rs = omega (arith, length-append mark (blocks rs))

-- each record has a gate and a length
pub length-blocks : (rs : List (List ℕ)) → length rs ≤ length (blocks rs)
length-blocks [] = omega arith
length-blocks (r ∷ rs) = omega (arith, length-blocks rs, length-append (block r) (blocks rs))

pub marked : (rs : List (List ℕ)) (rest : List ℕ) → has_mark (prefix rs ++ rest) ≡ true
marked rs rest = refl

-- what is found in a file of records and more
pub found_after : (rs : List (List ℕ)) (rest : List ℕ) → HaveSizes rs → (most : ℕ) → most ≡ length (prefix rs ++ rest) - length rs
    → found_in (prefix rs ++ rest) ≡ all_joined rs (records_from most (1 + length rs) rest)
found_after rs rest sizes most is =
    let long = length-append (prefix rs) rest in
    let prefix_long = length-prefix rs in
    let few = length-blocks rs in
    let enough : length (prefix rs ++ rest) ≡ gates rs most = omega (arith, gates_is rs most, is, long, prefix_long, few) in
    ap (λ n. records_from n 1 (blocks rs ++ rest)) enough ∙ records_read rs rest most 1 sizes

-- A file of records is read as these.
pub listed_file : (rs : List (List ℕ)) (offset : ℕ) (file : List ℕ) → IsFile rs offset file → listed file ≡ Some rs
listed_file rs offset file is =
    let rest = is.gate ∷ is.suffix in
    let most = length (prefix rs ++ rest) - length rs - 1 in
    let long = length-append (prefix rs) rest in
    let prefix_long = length-prefix rs in
    let few = length-blocks rs in
    let some_left : length (prefix rs ++ rest) - length rs ≡ suc most = omega (arith, long, prefix_long, few) in
    let found : found_in (prefix rs ++ rest) ≡ Ok rs =
    found_after rs rest is.sizes (suc most) (sym some_left) ∙ ap (all_joined rs) (shut_read most (1 + length rs) is.gate is.suffix is.shut) ∙ all_joined-Ok rs in
    ap listed is.bytes ∙ ap result_ok found
