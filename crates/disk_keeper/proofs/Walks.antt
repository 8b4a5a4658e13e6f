-- What is after the gates that were passed.
use Rattle.std.proofs.Common.{◌≡◌, ◌≢◌, ℕ, zero, suc, ◌+◌, ◌-◌, ◌<◌, ◌≤◌, ◌^◌, List, [], ◌∷◌, ◌++◌, length, take, drop, get_or, true, false, Option, Some, None, Result, Ok, Err, refl, sym, ◌∙◌, ap, subst, arith, append_assoc, length-append, length-take, length-drop, take-append-drop}
use Rattle.std.proofs.lemmas.List.{append-nil, take_at, drop_at, drop_more, drop_all, drop-drop, length-take-le, length_push}
use Rattle.std.proofs.lemmas.Bool.Decides.{nat_tests}
use Rattle.ofx_types.proofs.Bytes.{bytes_eq_is}
use Rattle.disk_keeper.specs.File.{mark, size_bytes, size_of, next_size, is_whole, records_from, found_in, has_mark}
use Rattle.disk_keeper.specs.Layout.{blocks, prefix, HaveSizes, IsFile}
use Rattle.disk_keeper.specs.Reading.{IsSize, Walked, IsStep, IsFound}
use Rattle.disk_keeper.specs.declared.reading.Gate.{Gate}
use Rattle.disk_keeper.specs.declared.reading.Found.TheVariants.{Past}
use Rattle.disk_keeper.proofs.FileLemmas.{all_joined, all_joined-Err, found_after, cut_read, end_read, length-prefix, length-blocks, marked}
use Rattle.disk_keeper.proofs.Gates.{prefix_push, length-prefix_push, sizes_push}

whole_long : (suffix : List ℕ) (size : ℕ) → is_whole suffix ≡ true → next_size suffix ≡ size → 8 + size ≤ length suffix
whole_long suffix size whole is = grind (arith, nat_tests)

module _ (gate : Gate) (file : List ℕ) (walked : Walked gate file) (within : gate.offset < length file) where
  here : drop gate.offset file ≡ get_or file gate.offset 0 ∷ drop (gate.offset + 1) file
  here = drop_more file gate.offset 0 within

  pub whole_is : file ≡ prefix walked.records ++ get_or file gate.offset 0 ∷ drop (gate.offset + 1) file
  whole_is = walked.bytes ∙ ap (λ (l : List ℕ). prefix walked.records ++ l) here

  -- after a gate that is shut there are no more records
  pub walked_last : get_or file gate.offset 0 ≢ 1 → IsFile walked.records gate.offset file
  walked_last shut = record { gate = get_or file gate.offset 0; suffix = drop (gate.offset + 1) file; shut = shut; bytes = whole_is; offset_is = walked.offset_is; sizes = walked.sizes }

  -- after one that is open there is a record, and the next gate
  module _ (size : ℕ) (is_open : get_or file gate.offset 0 ≡ 1) (read : IsSize (drop (gate.offset + 1) file) (Some size)) where
    suffix : List ℕ
    suffix = drop (gate.offset + 1) file

    record_bytes : List ℕ
    record_bytes = take size (drop 8 (drop (gate.offset + 1) file))

    long : 8 + size ≤ length (drop (gate.offset + 1) file)
    long = whole_long (drop (gate.offset + 1) file) size read.0 read.1

    length_is : length (take size (drop 8 (drop (gate.offset + 1) file))) ≡ size
    length_is = length-take-le size (drop 8 (drop (gate.offset + 1) file)) (omega (arith, length-drop 8 (drop (gate.offset + 1) file), long))

    after_is : drop (gate.offset + 1) file
        ≡ size_bytes (length (take size (drop 8 (drop (gate.offset + 1) file)))) ++ take size (drop 8 (drop (gate.offset + 1) file)) ++ drop size (drop 8 (drop (gate.offset + 1) file))
    after_is =
        sym (take-append-drop 8 (drop (gate.offset + 1) file))
        ∙ ap (λ (l : List ℕ). l ++ drop 8 (drop (gate.offset + 1) file)) (sym read.2 ∙ ap size_bytes (sym length_is))
        ∙ ap (λ (l : List ℕ). size_bytes (length (take size (drop 8 (drop (gate.offset + 1) file)))) ++ l) (sym (take-append-drop size (drop 8 (drop (gate.offset + 1) file))))
        ∙ sym (append_assoc (size_bytes (length (take size (drop 8 (drop (gate.offset + 1) file))))) (take size (drop 8 (drop (gate.offset + 1) file))) (drop size (drop 8 (drop (gate.offset + 1) file))))

    longer_prefix : file ≡ prefix (walked.records ++ take size (drop 8 (drop (gate.offset + 1) file)) ∷ []) ++ drop size (drop 8 (drop (gate.offset + 1) file))
    longer_prefix =
        whole_is
        ∙ ap (λ g. prefix walked.records ++ g ∷ drop (gate.offset + 1) file) is_open
        ∙ ap (λ (l : List ℕ). prefix walked.records ++ 1 ∷ l) after_is
        ∙ sym (prefix_push walked.records (take size (drop 8 (drop (gate.offset + 1) file))) (drop size (drop 8 (drop (gate.offset + 1) file))))

    prefix_length : length (prefix (walked.records ++ take size (drop 8 (drop (gate.offset + 1) file)) ∷ [])) ≡ gate.offset + 9 + size
    prefix_length =
        omega (arith, length-prefix_push walked.records (take size (drop 8 (drop (gate.offset + 1) file))), length_is, walked.offset_is)

    pub walked_next : (next : Gate) → next.records ≡ gate.records + 1 → next.offset ≡ gate.offset + 9 + size → Walked next file
    walked_next next counts offsets = record {
      records = walked.records ++ take size (drop 8 (drop (gate.offset + 1) file)) ∷ [];
      bytes =
          longer_prefix
          ∙ ap (λ (l : List ℕ). prefix (walked.records ++ take size (drop 8 (drop (gate.offset + 1) file)) ∷ []) ++ l)
          (sym (ap (drop next.offset) longer_prefix ∙ drop_at (prefix (walked.records ++ take size (drop 8 (drop (gate.offset + 1) file)) ∷ [])) (drop size (drop 8 (drop (gate.offset + 1) file))) next.offset (omega (arith, prefix_length, offsets))));
      offset_is = omega (arith, prefix_length, offsets);
      count = omega (arith, counts, walked.count, length_push walked.records (take size (drop 8 (drop (gate.offset + 1) file))));
      sizes = sizes_push walked.records _ walked.sizes (omega (arith, length_is, read.3));
    }

  -- or one that passes the end
  pub walked_cut : get_or file gate.offset 0 ≡ 1 → is_whole (drop (gate.offset + 1) file) ≡ false → IsFound file (Past (gate.records + 1))
  walked_cut is_open cut =
      let rest = get_or file gate.offset 0 ∷ drop (gate.offset + 1) file in
      let rs = walked.records in
      let most = length (prefix rs ++ rest) - length rs - 1 in
      let some_left : length (prefix rs ++ rest) - length rs ≡ suc most = omega (arith, length-append (prefix rs) rest, length-prefix rs, length-blocks rs) in
      let one : records_from (suc most) (1 + length rs) rest ≡ Err (1 + length rs) =
      ap (λ g. records_from (suc most) (1 + length rs) (g ∷ drop (gate.offset + 1) file)) is_open ∙ cut_read most (1 + length rs) (drop (gate.offset + 1) file) cut in (
        ap has_mark whole_is ∙ marked rs rest,
        ap found_in whole_is
            ∙ found_after rs rest walked.sizes (suc most) (sym some_left)
            ∙ ap (all_joined rs) one
            ∙ all_joined-Err rs (1 + length rs)
            ∙ ap Err (omega (arith, walked.count)),
      )

-- Where a gate passes the end, it is the first.
pub walked_past : (gate : Gate) (file : List ℕ) → Walked gate file → length file ≤ gate.offset → IsFound file (Past (gate.records + 1))
walked_past gate file walked past =
    let rs = walked.records in
    let whole : file ≡ prefix rs ++ [] = walked.bytes ∙ ap (λ (l : List ℕ). prefix rs ++ l) (drop_all gate.offset file past) in (
      ap has_mark whole ∙ marked rs [],
      ap found_in whole
          ∙ found_after rs [] walked.sizes (length (prefix rs ++ []) - length rs) refl
          ∙ ap (all_joined rs) (end_read (length (prefix rs ++ []) - length rs) (1 + length rs))
          ∙ all_joined-Err rs (1 + length rs)
          ∙ ap Err (omega (arith, walked.count)),
    )

-- the mark alone, and no gate passed
pub walked_first : (gate : Gate) (file : List ℕ) → gate.records ≡ 0 → gate.offset ≡ 8 → has_mark file ≡ true → Walked gate file
walked_first gate file none offset marked_is = record {
  records = [];
  bytes = sym (take-append-drop gate.offset file) ∙ ap (λ (l : List ℕ). l ++ drop gate.offset file) (ap (λ n. take n file) offset ∙ is_mark);
  offset_is = offset;
  count = none;
  sizes = tt;
}
  where
    is_mark : take 8 file ≡ mark
    is_mark = bytes_eq_is (take 8 file) mark marked_is

-- the length that was read after a gate
pub size_read : (file bytes : List ℕ) (offset size : ℕ) → offset + 9 ≤ length file → length bytes ≡ 8 → bytes ≡ take (length bytes) (drop (offset + 1) file)
    → size ≡ size_of bytes → size_bytes size ≡ bytes → (next_size (drop (offset + 1) file) ≡ size) × (size_bytes size ≡ take 8 (drop (offset + 1) file))
size_read file bytes offset size within long is size_is again =
    let eight : bytes ≡ take 8 (drop (offset + 1) file) = is ∙ ap (λ n. take n (drop (offset + 1) file)) long in (
      ap size_of (sym eight) ∙ sym size_is,
      again ∙ eight,
    )

pub size_fits : (file : List ℕ) (offset size : ℕ) → next_size (drop (offset + 1) file) ≡ size → offset + 9 + size ≤ length file → is_whole (drop (offset + 1) file) ≡ true
size_fits file offset size is within =
    let long : length (drop (offset + 1) file) ≡ length file - (offset + 1) = length-drop (offset + 1) file in
    rw (is, long) (grind (arith, nat_tests))

pub size_passes : (file : List ℕ) (offset size : ℕ) → next_size (drop (offset + 1) file) ≡ size → length file < offset + 9 + size → is_whole (drop (offset + 1) file) ≡ false
size_passes file offset size is past =
    let long : length (drop (offset + 1) file) ≡ length file - (offset + 1) = length-drop (offset + 1) file in
    rw (is, long) (grind (arith, nat_tests))
