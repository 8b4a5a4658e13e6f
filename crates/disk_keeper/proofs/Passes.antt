-- Records and gates in the middle of a file.
use Rattle.std.proofs.Common.{◌≡◌, ℕ, ◌+◌, ◌<◌, ◌≤◌, ◌^◌, List, [], ◌∷◌, ◌++◌, length, take, drop, Option, Some, refl, sym, ◌∙◌, ap, subst, arith, append_assoc, length-append}
use Rattle.std.specs.Prelude.{slice_get}
use Rattle.std.proofs.lemmas.List.{append-nil, drop_at, drop-drop, length_push}
use Rattle.disk_keeper.specs.File.{mark, size_bytes, next_size}
use Rattle.disk_keeper.specs.Layout.{block, blocks, prefix, HaveSizes, IsFile, MayHave}
use Rattle.disk_keeper.specs.Reading.{IsSize, IsRecord}
use Rattle.disk_keeper.specs.Passing.{Holds, Passed}
use Rattle.disk_keeper.specs.declared.reading.Gate.{Gate}
use Rattle.disk_keeper.proofs.FileLemmas.{size_is, bytes_are}
use Rattle.disk_keeper.proofs.Gates.{length-prefix_push}

blocks_append : (ps qs : List (List ℕ)) → blocks (ps ++ qs) ≡ blocks ps ++ blocks qs
blocks_append [] qs = refl
blocks_append (p ∷ ps) qs = ap (λ (l : List ℕ). block p ++ l) (blocks_append ps qs) ∙ sym (append_assoc (block p) (blocks ps) (blocks qs))

-- a record, and what is around it
prefix_around : (ps rest : List (List ℕ)) (r x : List ℕ) → prefix (ps ++ r ∷ rest) ++ x ≡ (prefix ps ++ 1 ∷ []) ++ (size_bytes (length r) ++ r ++ (blocks rest ++ x))
prefix_around ps rest r x =
    ap (λ (l : List ℕ). mark ++ l ++ x) (blocks_append ps (r ∷ rest))
    ∙ ap (λ (l : List ℕ). mark ++ l) (append_assoc (blocks ps) (block r ++ blocks rest) x ∙ ap (λ (l : List ℕ). blocks ps ++ l) (append_assoc (block r) (blocks rest) x))
    ∙ sym (append_assoc mark (blocks ps) (block r ++ (blocks rest ++ x)))
    ∙ sym (append_assoc (prefix ps) (1 ∷ []) (size_bytes (length r) ++ r ++ (blocks rest ++ x)))

sizes_in : (ps rest : List (List ℕ)) (r : List ℕ) → HaveSizes (ps ++ r ∷ rest) → length r < 2 ^ 64
sizes_in [] rest r sizes = sizes.0
sizes_in (p ∷ ps) rest r sizes = sizes_in ps rest r sizes.1

get_in : (ps rest : List (List ℕ)) (r : List ℕ) → slice_get (ps ++ r ∷ rest) (length ps) ≡ Some r
get_in [] rest r = refl
get_in (p ∷ ps) rest r = get_in ps rest r

-- the record after a gate that has one
pub record After (rs : List (List ℕ)) (gate : Gate) (file : List ℕ) : Type 0 where
  pub bytes : List ℕ
  pub size : next_size (drop (gate.offset + 1) file) ≡ length bytes
  pub is : (taken : List ℕ) → IsRecord (drop (gate.offset + 1) file) taken → taken ≡ bytes
  pub within : gate.offset < length file
  pub found : slice_get rs gate.records ≡ Some bytes
  pub next : (next : Gate) → next.records ≡ gate.records + 1 → next.offset ≡ gate.offset + 9 + length bytes → Passed rs next

module _ (rs : List (List ℕ)) (gate : Gate) (file : List ℕ) (holds : Holds rs file) where
  around : (ps rest : List (List ℕ)) (r : List ℕ) → rs ≡ ps ++ r ∷ rest → gate.records ≡ length ps → gate.offset ≡ length (prefix ps) → After rs gate file
  around ps rest r split count offset = record {
    bytes = r;
    size = ap next_size after_is ∙ size_is r (blocks rest ++ tail) fits;
    is = λ taken record_is. record_is ∙ ap (λ (l : List ℕ). take (next_size l) (drop 8 l)) after_is ∙ bytes_are r (blocks rest ++ tail) fits;
    within = omega (arith, ap length file_is, length-append (prefix ps ++ 1 ∷ []) (size_bytes (length r) ++ r ++ (blocks rest ++ tail)), length-append (prefix ps) (1 ∷ []), offset);
    found = ap (slice_get rs) count ∙ ap (λ (l : List (List ℕ)). slice_get l (length ps)) split ∙ get_in ps rest r;
    next = λ next counts offsets. record {
      passed = ps ++ r ∷ [];
      rest = rest;
      split = split ∙ sym (append_assoc ps (r ∷ []) rest);
      count = omega (arith, counts, count, length_push ps r);
      offset = omega (arith, offsets, offset, length-prefix_push ps r);
    };
  }
    where
      tail : List ℕ
      tail = holds.some ∷ holds.suffix

      fits : length r < 2 ^ 64
      fits = sizes_in ps rest r (subst HaveSizes split holds.sizes)

      file_is : file ≡ (prefix ps ++ 1 ∷ []) ++ (size_bytes (length r) ++ r ++ (blocks rest ++ tail))
      file_is = holds.bytes ∙ ap (λ (l : List (List ℕ)). prefix l ++ tail) split ∙ prefix_around ps rest r tail

      after_is : drop (gate.offset + 1) file ≡ size_bytes (length r) ++ r ++ (blocks rest ++ tail)
      after_is =
          ap (drop (gate.offset + 1)) file_is
          ∙ drop_at (prefix ps ++ 1 ∷ []) (size_bytes (length r) ++ r ++ (blocks rest ++ tail)) (gate.offset + 1) (omega (arith, offset, length-append (prefix ps) (1 ∷ [])))

  some_rest : (ps rest : List (List ℕ)) → rs ≡ ps ++ rest → gate.records ≡ length ps → gate.offset ≡ length (prefix ps) → gate.records < length rs → After rs gate file
  some_rest ps [] split count offset more = absurd (omega (arith, ap length split, count, more, length-append ps []))
  some_rest ps (r ∷ rest) split count offset more = around ps rest r split count offset

  pub after_gate : Passed rs gate → gate.records < length rs → After rs gate file
  after_gate passed more = some_rest passed.passed passed.rest passed.split passed.count passed.offset more

  -- the gate that comes after the record
  pub passed_on : Passed rs gate → gate.records < length rs → (size : ℕ) → (gate.offset < length file → IsSize (drop (gate.offset + 1) file) (Some size))
      → (next : Gate) → next.records ≡ gate.records + 1 → next.offset ≡ gate.offset + 9 + size → Passed rs next
  passed_on passed more size read next counts offsets =
      let b = after_gate passed more in
      let r = read b.within in
      b.next next counts (omega (arith, offsets, b.size, r.1))

  -- the record that was read after the gate
  pub record_found : Passed rs gate → gate.records < length rs → (taken : List ℕ) → (gate.offset < length file → IsRecord (drop (gate.offset + 1) file) taken)
      → slice_get rs gate.records ≡ Some taken
  record_found passed more taken read =
      let b = after_gate passed more in
      b.found ∙ ap Some (sym (b.is taken (read b.within)))

-- the prefix of a file of records
pub held : (rs : List (List ℕ)) (offset : ℕ) (file : List ℕ) → IsFile rs offset file → Holds rs file
held rs offset file is = record { suffix = is.suffix; some = is.gate; bytes = is.bytes; sizes = is.sizes }

-- the first gate
pub passed_none : (rs : List (List ℕ)) → Passed rs (record { records = 0; offset = 8 })
passed_none rs = record { passed = []; rest = rs; split = refl; count = refl; offset = refl }

-- one record more after the gates
pub passed_push : (rs : List (List ℕ)) (r : List ℕ) (gate : Gate) → Passed rs gate → Passed (rs ++ r ∷ []) gate
passed_push rs r gate passed = record {
  passed = passed.passed;
  rest = passed.rest ++ r ∷ [];
  split = ap (λ (l : List (List ℕ)). l ++ r ∷ []) passed.split ∙ append_assoc passed.passed passed.rest (r ∷ []);
  count = passed.count;
  offset = passed.offset;
}

-- the bytes after a gate and a length
pub record_at : (file : List ℕ) (offset size : ℕ) (taken : List ℕ) → next_size (drop (offset + 1) file) ≡ size → length taken ≡ size → taken ≡ take (length taken) (drop (offset + 9) file)
    → IsRecord (drop (offset + 1) file) taken
record_at file offset size taken size_is long is =
    is
    ∙ ap (λ n. take n (drop (offset + 9) file)) (long ∙ sym size_is)
    ∙ ap (take (next_size (drop (offset + 1) file))) (ap (λ n. drop n file) (omega arith) ∙ sym (drop-drop 8 (offset + 1) file))
