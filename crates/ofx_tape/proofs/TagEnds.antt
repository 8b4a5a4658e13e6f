-- A `<` after which no name ends with a `>` begins no tag.
use Rattle.std.proofs.Common.{◌≡◌, ℕ, suc, ◌-◌, ◌<◌, ◌≤◌, Bool, true, false, ◌==◌, ◌&&◌, nat_le, List, [], ◌∷◌, ◌++◌, length, get_or, ne_eqb, ◌⊎◌, inl, inr, refl, ap, ◌∙◌, arith}
use Rattle.std.proofs.lemmas.Bool.{le-leb, lt-leb, and_left}
use Rattle.std.specs.List.{list_all}
use Rattle.ofx_types.specs.TagNames.{is_name, is_name_byte}
use Rattle.ofx_types.specs.TagFault.{at_offset, no_tag, pieces_after}
use Rattle.ofx_tape.specs.TagScan.{IsNoName, BeginsNoTag}
use Rattle.ofx_tape.proofs.Pieces.{broken_start, broken_end, unfinished_start, unfinished_end}

unfinished_is : (size : ℕ) (bytes : List ℕ) (n : ℕ) (b : Bool) → nat_le n 32 ≡ b →
    pieces_after size bytes ≡ at_offset (size - length bytes) (no_tag (nat_le n 32)) ∷ [] → pieces_after size bytes ≡ at_offset (size - length bytes) (no_tag b) ∷ []
unfinished_is size bytes n b is here = here ∙ ap (λ u. at_offset (size - length bytes) (no_tag u) ∷ []) is

pub start_unfinished : (bytes : List ℕ) → (list_all is_name_byte bytes ≡ true) × (length bytes ≤ 32) → BeginsNoTag true (60 ∷ bytes)
start_unfinished bytes h size = unfinished_is size (60 ∷ bytes) (length bytes) true (le-leb (length bytes) 32 h.1) (unfinished_start size bytes h.0)

pub end_unfinished : (inside : List ℕ) → (list_all is_name_byte inside ≡ true) × (length inside ≤ 32) → BeginsNoTag true (60 ∷ 47 ∷ inside)
end_unfinished inside h size =
    unfinished_is size (60 ∷ 47 ∷ inside) (length inside) true (le-leb (length inside) 32 h.1) (unfinished_end size inside h.0)

pub nothing_unfinished : (bytes : List ℕ) → length bytes < 1 → BeginsNoTag true (60 ∷ bytes)
nothing_unfinished [] none = start_unfinished [] (refl, omega arith)
nothing_unfinished (b ∷ bytes) none = absurd (omega arith)

slash_elsewhere : (bytes name : List ℕ) (b : ℕ) (more : List ℕ) → (get_or bytes 0 0 ≡ 47 → ⊥) → bytes ≡ name ++ b ∷ more → ((length name == 0) && (b == 47)) ≡ false
slash_elsewhere bytes [] b more other is = ne_eqb b 47 (λ e. other (ap (λ l. get_or l 0 0) is ∙ e))
slash_elsewhere bytes (c ∷ name) b more other is = and_left (suc (length name) == 0) (b == 47) (ne_eqb (suc (length name)) 0 (λ e. omega arith))

pub start_broken : (bytes : List ℕ) → (get_or bytes 0 0 ≡ 47 → ⊥) → IsNoName bytes → BeginsNoTag false (60 ∷ bytes)
start_broken bytes other none size = go none.ends
  where
    go : ((bytes ≡ none.name) × (32 < length none.name))
        ⊎ ((b : ℕ) × (more : List ℕ) × (bytes ≡ none.name ++ b ∷ more) × (is_name_byte b ≡ false) × (((b == 62) && is_name none.name) ≡ false)) →
        pieces_after size (60 ∷ bytes) ≡ at_offset (size - length (60 ∷ bytes)) (no_tag false) ∷ []
    go (inl (is, long)) = rw is (unfinished_is size (60 ∷ none.name) (length none.name) false (lt-leb (length none.name) 32 long) (unfinished_start size none.name none.of_name))
    go (inr (b, more, is, refused, stops)) =
        let elsewhere = slash_elsewhere bytes none.name b more other is in
        rw is (broken_start size none.name b more none.of_name refused stops elsewhere)

pub end_broken : (inside : List ℕ) → IsNoName inside → BeginsNoTag false (60 ∷ 47 ∷ inside)
end_broken inside none size = go none.ends
  where
    go : ((inside ≡ none.name) × (32 < length none.name))
        ⊎ ((b : ℕ) × (more : List ℕ) × (inside ≡ none.name ++ b ∷ more) × (is_name_byte b ≡ false) × (((b == 62) && is_name none.name) ≡ false)) →
        pieces_after size (60 ∷ 47 ∷ inside) ≡ at_offset (size - length (60 ∷ 47 ∷ inside)) (no_tag false) ∷ []
    go (inl (is, long)) = rw is (unfinished_is size (60 ∷ 47 ∷ none.name) (length none.name) false (lt-leb (length none.name) 32 long) (unfinished_end size none.name none.of_name))
    go (inr (b, more, is, refused, stops)) = rw is (broken_end size none.name b more none.of_name refused stops)
