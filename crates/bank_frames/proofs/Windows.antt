-- The part of a buffer that is in use.
use Rattle.std.proofs.Common.{◌≡◌, ℕ, ◌<◌, ◌≤◌, ◌+◌, ◌-◌, List, ◌++◌, length, length-drop, Option, take, drop, arith, sym, ap, ◌∙◌}
use Rattle.std.proofs.lemmas.List.{drop-take, drop-drop, length-take-le}
use Rattle.std.specs.Io.KnownBytes.{Consumes, IsAtEnd}
use Rattle.bank_frames.specs.Reads.{ReadsMore}
use Rattle.std.proofs.Math.Seq.{take-add}

-- the part between two offsets, from the start that ends at the second
prefix_part : (start size : ℕ) (xs ys : List ℕ) → take (start + size) xs ≡ take (start + size) ys → take size (drop start xs) ≡ take size (drop start ys)
prefix_part start size xs ys kept = sym (drop-take start size xs) ∙ (ap (drop start) kept ∙ drop-take start size ys)

read_on : (start size count : ℕ) (old new : List ℕ) → take (start + size) new ≡ take (start + size) old → take (size + count) (drop start new) ≡ take size (drop start old) ++ take count (drop (start + size) new)
read_on start size count old new kept =
    take-add size count (drop start new)
    ∙ (ap (λ (l : List ℕ). l ++ take count (drop size (drop start new))) (prefix_part start size new old kept)
    ∙ ap (λ (l : List ℕ). take size (drop start old) ++ take count l) (drop-drop size start new))

-- what is read after the part in use is at its end
pub read_after : (start end count : ℕ) (old new : List ℕ) → start ≤ end → take end new ≡ take end old → take (end + count - start) (drop start new) ≡ take (end - start) (drop start old) ++ take count (drop end new)
read_after start end count old new ordered kept =
    let whole : start + (end - start) ≡ end = omega arith in
    let size : end + count - start ≡ (end - start) + count = omega arith in
    let kept' : take (start + (end - start)) new ≡ take (start + (end - start)) old = rw whole kept in
    rw size (rw whole at (read_on start (end - start) count old new kept'))

-- the part in use without its first bytes
pub used_up : (start end count : ℕ) (buffer : List ℕ) → count ≤ end - start → take (end - (start + count)) (drop (start + count) buffer) ≡ drop count (take (end - start) (drop start buffer))
used_up start end count buffer within =
    let size : end - start ≡ count + (end - (start + count)) = omega arith in
    rw size (ap (take (end - (start + count))) (sym (drop-drop count start buffer)) ∙ sym (drop-take count (end - (start + count)) (drop start buffer)))

-- reading after the part in use reads more
pub reads_more : (start end count : ℕ) (used moved new : List ℕ) (before after : Option (List ℕ)) →
    start ≤ end → end < length moved → length new ≡ length moved → take (end - start) (drop start moved) ≡ used → take end new ≡ take end moved → end + count ≤ length new →
    Consumes before after (take count (drop end new)) → (count ≡ 0 → 0 < length (drop end new) → IsAtEnd after) →
    ReadsMore used (take (end + count - start) (drop start new)) before after count
reads_more start end count used moved new before after ordered room same same_use kept fits consumed at_end = record {
  bytes = take count (drop end new);
  counted = length-take-le count (drop end new) (omega (arith, length-drop end new));
  ahead = read_after start end count moved new ordered kept ∙ ap (λ (l : List ℕ). l ++ take count (drop end new)) same_use;
  consumed = consumed;
  at_end = λ none. at_end none (omega (arith, length-drop end new));
}
