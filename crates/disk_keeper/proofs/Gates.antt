-- What a gate that is torn open makes of a file.
use Rattle.std.proofs.Common.{◌≡◌, ◌≢◌, ◌⊎◌, inl, inr, ℕ, zero, suc, ◌+◌, ◌-◌, ◌<◌, ◌≤◌, ◌^◌, List, [], ◌∷◌, ◌++◌, length, take, drop, get_or, refl, sym, ◌∙◌, ap, subst, arith, append_assoc, length-append, take-append-drop}
use Rattle.std.proofs.lemmas.List.{append-nil, take_at, drop_at, drop_more, get_or_at}
use Rattle.std.proofs.lemmas.Bool.{cases_eq}
use Rattle.disk_keeper.specs.Disk.{overlaid, Torn}
use Rattle.disk_keeper.specs.File.{mark, size_bytes}
use Rattle.disk_keeper.specs.Layout.{block, blocks, prefix, HaveSizes, IsFile, MayHave}
use Rattle.disk_keeper.proofs.FileLemmas.{length-size_bytes}

blocks_push : (rs : List (List ℕ)) (r rest : List ℕ) → blocks (rs ++ r ∷ []) ++ rest ≡ blocks rs ++ (block r ++ rest)
blocks_push [] r rest = ap (λ (l : List ℕ). l ++ rest) (append-nil (block r))
blocks_push (s ∷ rs) r rest =
    append_assoc (block s) (blocks (rs ++ r ∷ [])) rest ∙ ap (λ (l : List ℕ). block s ++ l) (blocks_push rs r rest) ∙ sym (append_assoc (block s) (blocks rs) (block r ++ rest))

-- a record more before of what is there after
pub prefix_push : (rs : List (List ℕ)) (r rest : List ℕ) → prefix (rs ++ r ∷ []) ++ rest ≡ prefix rs ++ 1 ∷ (size_bytes (length r) ++ r ++ rest)
prefix_push rs r rest =
    append_assoc mark (blocks (rs ++ r ∷ [])) rest ∙ ap (λ (l : List ℕ). mark ++ l) (blocks_push rs r rest) ∙ sym (append_assoc mark (blocks rs) (block r ++ rest))

pub length-prefix_push : (rs : List (List ℕ)) (r : List ℕ) → length (prefix (rs ++ r ∷ [])) ≡ length (prefix rs) + 9 + length r
length-prefix_push rs r =
    let whole = ap length (sym (append-nil (prefix (rs ++ r ∷ []))) ∙ prefix_push rs r []) in
    omega (
      arith,
      whole,
      length-append (prefix rs) (1 ∷ (size_bytes (length r) ++ r ++ [])),
      length-append (size_bytes (length r) ++ r) [],
      length-append (size_bytes (length r)) r,
      length-size_bytes (length r),
    )

pub sizes_push : (rs : List (List ℕ)) (r : List ℕ) → HaveSizes rs → length r < 2 ^ 64 → HaveSizes (rs ++ r ∷ [])
sizes_push [] r sizes fits = (fits, tt)
sizes_push (s ∷ rs) r sizes fits = (sizes.0, sizes_push rs r sizes.1 fits)

-- a file with the same front has the same records
pub same_prefix : (rs : List (List ℕ)) (offset : ℕ) (file other : List ℕ) → IsFile rs offset file → take (offset + 1) other ≡ take (offset + 1) file → IsFile rs offset other
same_prefix rs offset file other is same = record {
  gate = is.gate;
  suffix = drop (offset + 1) other;
  shut = is.shut;
  bytes =
      sym (take-append-drop (offset + 1) other)
      ∙ ap (λ (l : List ℕ). l ++ drop (offset + 1) other) (same ∙ ap (take (offset + 1)) (is.bytes ∙ split) ∙ take_at (prefix rs ++ is.gate ∷ []) is.suffix (offset + 1) long)
      ∙ append_assoc (prefix rs) (is.gate ∷ []) (drop (offset + 1) other);
  offset_is = is.offset_is;
  sizes = is.sizes;
}
  where
    split : prefix rs ++ is.gate ∷ is.suffix ≡ (prefix rs ++ is.gate ∷ []) ++ is.suffix
    split = sym (append_assoc (prefix rs) (is.gate ∷ []) is.suffix)

    long : length (prefix rs ++ is.gate ∷ []) ≡ offset + 1
    long = omega (arith, length-append (prefix rs) (is.gate ∷ []), is.offset_is)

-- the length of a file with records
pub within_file : (rs : List (List ℕ)) (offset : ℕ) (file : List ℕ) → IsFile rs offset file → offset < length file
within_file rs offset file is = omega (arith, ap length is.bytes, is.offset_is, length-append (prefix rs) (is.gate ∷ is.suffix))

module _ (rs : List (List ℕ)) (r rest : List ℕ) (offset : ℕ) (at : offset ≡ length (prefix rs)) (sizes : HaveSizes rs) (fits : length r < 2 ^ 64) where
  body : List ℕ
  body = size_bytes (length r) ++ r ++ 0 ∷ rest

  -- after an open gate the record counts
  pub opened : (file : List ℕ) → file ≡ prefix rs ++ 1 ∷ (size_bytes (length r) ++ r ++ 0 ∷ rest) → IsFile (rs ++ r ∷ []) (offset + 9 + length r) file
  opened file is = record {
    gate = 0;
    suffix = rest;
    shut = omega arith;
    bytes = is ∙ sym (prefix_push rs r (0 ∷ rest));
    offset_is = omega (arith, at, length-prefix_push rs r);
    sizes = sizes_push rs r sizes fits;
  }

  -- and after another it doesn't
  any_gate : (gate : ℕ) (file : List ℕ) → file ≡ prefix rs ++ gate ∷ (size_bytes (length r) ++ r ++ 0 ∷ rest) → MayHave rs r offset (offset + 9 + length r) file
  any_gate gate file is = elim (cases_eq gate 1) [
    | inl is_open ↦ inr (opened file (is ∙ ap (λ g. prefix rs ++ g ∷ (size_bytes (length r) ++ r ++ 0 ∷ rest)) is_open))
    | inr shut ↦ inl (record { gate = gate; suffix = size_bytes (length r) ++ r ++ 0 ∷ rest; shut = shut; bytes = is; offset_is = at; sizes = sizes })
  ]

  -- a gate that is torn
  pub torn_gate : (gate : ℕ) (old new : List ℕ) → old ≡ prefix rs ++ gate ∷ (size_bytes (length r) ++ r ++ 0 ∷ rest) → Torn offset 1 old new
      → MayHave rs r offset (offset + 9 + length r) new
  torn_gate gate old new is torn =
      let tail = size_bytes (length r) ++ r ++ 0 ∷ rest in
      let old_length = ap length is ∙ length-append (prefix rs) (gate ∷ tail) in
      let prefix_is : take offset new ≡ prefix rs = torn.before ∙ ap (take offset) is ∙ take_at (prefix rs) (gate ∷ tail) offset (sym at) in
      let split : prefix rs ++ gate ∷ tail ≡ (prefix rs ++ gate ∷ []) ++ tail = sym (append_assoc (prefix rs) (gate ∷ []) tail) in
      let after_is : drop (offset + 1) new ≡ tail =
      torn.suffix ∙ ap (drop (offset + 1)) (is ∙ split) ∙ drop_at (prefix rs ++ gate ∷ []) tail (offset + 1) (omega (arith, length-append (prefix rs) (gate ∷ []), at)) in
      let some : offset < length new = omega (arith, torn.no_shorter, old_length, at) in
      let whole : new ≡ prefix rs ++ get_or new offset 0 ∷ tail =
      sym (take-append-drop offset new)
      ∙ ap (λ (l : List ℕ). l ++ drop offset new) prefix_is
      ∙ ap (λ (l : List ℕ). prefix rs ++ l) (drop_more new offset 0 some ∙ ap (λ (l : List ℕ). get_or new offset 0 ∷ l) after_is) in
      any_gate (get_or new offset 0) new whole

  -- a gate that is opened
  pub gate_opened : (gate : ℕ) (old : List ℕ) → old ≡ prefix rs ++ gate ∷ (size_bytes (length r) ++ r ++ 0 ∷ rest)
      → IsFile (rs ++ r ∷ []) (offset + 9 + length r) (overlaid old offset (1 ∷ []))
  gate_opened gate old is =
      let tail = size_bytes (length r) ++ r ++ 0 ∷ rest in
      let split : prefix rs ++ gate ∷ tail ≡ (prefix rs ++ gate ∷ []) ++ tail = sym (append_assoc (prefix rs) (gate ∷ []) tail) in
      let prefix_is : take offset old ≡ prefix rs = ap (take offset) is ∙ take_at (prefix rs) (gate ∷ tail) offset (sym at) in
      let after_is : drop (offset + 1) old ≡ tail =
      ap (drop (offset + 1)) (is ∙ split) ∙ drop_at (prefix rs ++ gate ∷ []) tail (offset + 1) (omega (arith, length-append (prefix rs) (gate ∷ []), at)) in
      opened _ (
      ap (λ (l : List ℕ). l ++ (1 ∷ []) ++ drop (offset + 1) old) prefix_is
      ∙ ap (λ (l : List ℕ). prefix rs ++ (1 ∷ []) ++ l) after_is
      ∙ append_assoc (prefix rs) (1 ∷ []) tail
      )
