-- Bytes split at the first one that doesn't pass a test.
use Rattle.std.proofs.Common.{◌≡◌, ℕ, suc, ◌-◌, ◌≤◌, Bool, true, false, cond, not, ◌&&◌, nat_lt, nat_le, List, [], ◌∷◌, ◌++◌, length, take, drop, get_or, position, None, Some, inr, refl, sym, ap, ap₂, ◌∙◌, ◌==◌, ne_eqb, one-add, arith}
use Rattle.std.proofs.lemmas.List.{take-append-drop, take_all, drop_all}
use Rattle.std.proofs.lemmas.Bool.{ltb-false}
use Rattle.std.specs.List.{list_all, position_or_len}
use Rattle.ofx_types.specs.TagNames.{is_name, is_name_byte}
use Rattle.ofx_tape.specs.TagScan.{IsNoName}
use Rattle.ofx_tape.specs.OpenAggregates.{prefix_of, after_prefix}

-- where the first byte that doesn't pass is, the bytes are split
found_at : (there : Bool) (n i : ℕ) → cond there (Some n) None ≡ Some i → n ≡ i
found_at true n i e = cc
found_at false n i e = cc

pub split_at_position : (passes : ℕ → Bool) (bytes : List ℕ) (i : ℕ) → position (λ b. not (passes b)) bytes ≡ Some i →
    (prefix_of passes bytes ≡ take i bytes) × (after_prefix passes bytes ≡ drop i bytes)
split_at_position passes bytes i e =
    let n = position_or_len (λ b. not (passes b)) bytes in
    let is : n ≡ i = found_at (nat_lt n (length bytes)) n i e in
    (ap (λ k. take k bytes) is, ap (λ k. drop k bytes) is)

-- where each byte passes, they are all at the start
none_found : (there : Bool) (n : ℕ) → cond there (Some n) None ≡ None → there ≡ false
none_found true n e = cc
none_found false n e = refl

pub split_at_none : (passes : ℕ → Bool) (bytes : List ℕ) → position (λ b. not (passes b)) bytes ≡ None →
    (prefix_of passes bytes ≡ bytes) × (after_prefix passes bytes ≡ [])
split_at_none passes bytes e =
    let n = position_or_len (λ b. not (passes b)) bytes in
    let past : length bytes ≤ n = ltb-false n (length bytes) (none_found (nat_lt n (length bytes)) n e) in
    (take_all n bytes past, drop_all n bytes past)

pub ruleset splits = (split_at_position, split_at_none)

-- each byte at the start passes
prefix_all : (passes : ℕ → Bool) (bytes : List ℕ) → list_all passes (prefix_of passes bytes) ≡ true
prefix_all passes [] = refl
prefix_all passes (b ∷ bytes) = by_cases (passes b) refl (prefix_all passes bytes)
  where
    by_cases : (p : Bool) → passes b ≡ p → list_all passes (prefix_of passes bytes) ≡ true → list_all passes (prefix_of passes (b ∷ bytes)) ≡ true
    by_cases true e again = rw (e, one-add) (rw e again)
    by_cases false e again = rw e refl

pub prefix_passes : (passes : ℕ → Bool) (bytes prefix : List ℕ) → prefix ≡ prefix_of passes bytes → list_all passes prefix ≡ true
prefix_passes passes bytes prefix is = rw is (prefix_all passes bytes)

-- and the first byte after it doesn't
after_stops : (passes : ℕ → Bool) (bytes : List ℕ) (b : ℕ) (more : List ℕ) → after_prefix passes bytes ≡ b ∷ more → passes b ≡ false
after_stops passes [] b more is = cc
after_stops passes (c ∷ bytes) b more is = by_cases (passes c) refl (after_stops passes bytes b more)
  where
    by_cases : (p : Bool) → passes c ≡ p → (after_prefix passes bytes ≡ b ∷ more → passes b ≡ false) → passes b ≡ false
    by_cases true e again = again (rw (e, one-add) at is)
    by_cases false e again = let same : c ∷ bytes ≡ b ∷ more = rw e at is in let first : c ≡ b = cc in ap passes (sym first) ∙ e

pub split_whole : (passes : ℕ → Bool) (bytes prefix suffix : List ℕ) → prefix ≡ prefix_of passes bytes → suffix ≡ after_prefix passes bytes → bytes ≡ prefix ++ suffix
split_whole passes bytes prefix suffix prefix_is after_is =
    sym (take-append-drop (position_or_len (λ b. not (passes b)) bytes) bytes) ∙ sym (ap₂ (λ f r. f ++ r) prefix_is after_is)

-- ---- names

-- a name is too long or too short, or another byte than `>` comes after it
pub no_name_at : (bytes name rest : List ℕ) (b : ℕ) (more : List ℕ) → name ≡ prefix_of is_name_byte bytes → rest ≡ after_prefix is_name_byte bytes → rest ≡ b ∷ more →
    ((b == 62) && is_name name) ≡ false → IsNoName bytes
no_name_at bytes name rest b more name_is rest_is first other = record {
  name = name;
  of_name = prefix_passes is_name_byte bytes name name_is;
  ends = inr (
    b,
    more,
    split_whole is_name_byte bytes name rest name_is rest_is ∙ ap (λ r. name ++ r) first,
    after_stops is_name_byte bytes b more (sym rest_is ∙ first),
    other,
  );
}

pub name_at_is : (bytes name rest more : List ℕ) → name ≡ prefix_of is_name_byte bytes → rest ≡ after_prefix is_name_byte bytes → rest ≡ 62 ∷ more →
    (nat_le 1 (length name) && nat_le (length name) 32) ≡ true → (is_name name ≡ true) × (bytes ≡ name ++ 62 ∷ more)
name_at_is bytes name rest more name_is rest_is first short =
    (rw (short, prefix_passes is_name_byte bytes name name_is) refl, split_whole is_name_byte bytes name rest name_is rest_is ∙ ap (λ r. name ++ r) first)

-- a list that isn't empty, by its first element and the others
pub first_then : (bytes : List ℕ) → 1 ≤ length bytes → bytes ≡ get_or bytes 0 0 ∷ take (length bytes - 1) (drop 1 bytes)
first_then [] h = absurd (omega arith)
first_then (b ∷ bytes) h = ap (λ l. b ∷ l) (sym (take_all (suc (length bytes) - 1) bytes (omega arith)))

pub first_is : (bytes : List ℕ) (b : ℕ) → 1 ≤ length bytes → get_or bytes 0 0 ≡ b → bytes ≡ b ∷ take (length bytes - 1) (drop 1 bytes)
first_is bytes b some is = first_then bytes some ∙ ap (λ f. f ∷ take (length bytes - 1) (drop 1 bytes)) is

-- another byte than `>` comes after a name
pub no_name_other : (bytes name rest : List ℕ) → name ≡ prefix_of is_name_byte bytes → rest ≡ after_prefix is_name_byte bytes → 1 ≤ length rest →
    (get_or rest 0 0 ≡ 62 → ⊥) → IsNoName bytes
no_name_other bytes name rest name_is rest_is some other =
    no_name_at bytes name rest (get_or rest 0 0) (take (length rest - 1) (drop 1 rest)) name_is rest_is (first_then rest some)
    (rw (ne_eqb (get_or rest 0 0) 62 other) refl)

-- a name is too long, or there is none
pub no_name_short : (bytes name rest : List ℕ) → name ≡ prefix_of is_name_byte bytes → rest ≡ after_prefix is_name_byte bytes → 1 ≤ length rest →
    get_or rest 0 0 ≡ 62 → (nat_le 1 (length name) && nat_le (length name) 32) ≡ false → IsNoName bytes
no_name_short bytes name rest name_is rest_is some is long =
    no_name_at bytes name rest 62 (take (length rest - 1) (drop 1 rest)) name_is rest_is (first_is rest 62 some is)
    (rw long refl)
