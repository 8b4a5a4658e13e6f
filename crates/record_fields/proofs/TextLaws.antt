-- A text or a uid that is read is the one that was written.
use Rattle.std.proofs.Common.{◌≡◌, ◌≢◌, ℕ, ◌^◌, ◌<◌, ◌≤◌, true, cond, nat_eq, List, [], ◌∷◌, length, codes, Option, None, Some, is_none, Ok, Err, refl, sym, ap, subst, ◌∙◌, arith, inl, inr}
use Rattle.std.specs.Prelude.{IfSome}
use Rattle.std.specs.Str.{bytes_eq}
use Rattle.std.proofs.lemmas.List.{nil_from_length}
use Rattle.std.proofs.lemmas.Bool.{eqb-true, and_parts}
use Rattle.ofx_types.specs.TextRules.{trimmed, is_refused_in_text, is_refused_in_uid, IsText, IsTrnUid, IsFileUid}
use Rattle.ofx_types.specs.TextOutcome.{text_fault, trnuid_fault, file_uid_fault}
use Rattle.ofx_types.specs.declared.text.TextFault.TheVariants.{Empty}
use Rattle.ofx_types.proofs.Trimming.{faultless, guard_none, no_text_fault, not_empty}
use Rattle.ofx_types.proofs.Bytes.{bytes_eq_is, bytes_eq_self, bytes_eq_other, not_zero, none_is, went}
use Rattle.bank_model.specs.Sound.{IsTextWithin, IsClientUid}
use Rattle.record_fields.specs.FieldCoding.{u16_bytes, text_bytes, uid_bytes, file_uid_bytes}
use Rattle.record_fields.specs.FieldReading.{◌>>=◌, bytes_at, is_text, text_at, filled_text_at, is_trnuid, trnuid_at, given_uid_at, is_file_uid, file_uid_at}
use Rattle.record_fields.specs.Fields.{IsCodedAt, IsField}
use Rattle.record_fields.proofs.Steps.{bind_ok, guard_ok, pass_ok, ok_is, holds_then, apart, step}
use Rattle.record_fields.proofs.NumberLaws.{u8_field, bytes_hold, bytes_again}
use Rattle.record_fields.proofs.BoundedLaws.{u16_field}

-- ---- which bytes are texts and uids as they are

text_is : (most : ℕ) (text : List ℕ) → most < 2 ^ 32 → is_text most text ≡ true → (length text ≤ most) × IsText text
text_is most text small h =
    let b = and_parts (bytes_eq (trimmed text) text) (is_none (text_fault is_refused_in_text most text)) h in
    let clean = faultless is_refused_in_text most text (none_is _ b.1) in
    (clean.0, record { is_trimmed = bytes_eq_is _ _ b.0; is_clean = clean.1; is_short = omega (arith, clean.0) })

is_text-true : (most : ℕ) (text : List ℕ) → length text ≤ most → IsText text → is_text most text ≡ true
is_text-true most text short fits =
    let same : bytes_eq (trimmed text) text ≡ true = ap (λ (t : List ℕ). bytes_eq t text) fits.is_trimmed ∙ bytes_eq_self text in
    rw (same, no_text_fault is_refused_in_text most text short fits.is_clean) refl

trnuid_is : (uid : List ℕ) → is_trnuid uid ≡ true → IsTrnUid uid
trnuid_is uid h =
    let b = and_parts (bytes_eq (trimmed uid) uid) (is_none (trnuid_fault uid)) h in
    let there = guard_none (nat_eq (length uid) 0) Empty (text_fault is_refused_in_text 36 uid) (sym (none_is _ b.1)) in
    let clean = faultless is_refused_in_text 36 uid there.1 in
    record {
      is_text = record { is_trimmed = bytes_eq_is _ _ b.0; is_clean = clean.1; is_short = omega (arith, clean.0) };
      is_there = not_empty uid there.0;
      is_within = clean.0;
    }

is_trnuid-true : (uid : List ℕ) → IsTrnUid uid → is_trnuid uid ≡ true
is_trnuid-true uid fits =
    let same : bytes_eq (trimmed uid) uid ≡ true = ap (λ (t : List ℕ). bytes_eq t uid) fits.is_text.is_trimmed ∙ bytes_eq_self uid in
    rw (same, not_zero (length uid) fits.is_there, no_text_fault is_refused_in_text 36 uid fits.is_within fits.is_text.is_clean) refl

file_uid_is : (uid : List ℕ) → is_file_uid uid ≡ true → IsFileUid uid
file_uid_is uid h =
    let b = and_parts (bytes_eq (trimmed uid) uid) (is_none (file_uid_fault uid)) h in
    let there = guard_none (nat_eq (length uid) 0) Empty (cond (bytes_eq uid (codes "NONE")) (Some Empty) (text_fault is_refused_in_uid 36 uid)) (sym (none_is _ b.1)) in
    let named = guard_none (bytes_eq uid (codes "NONE")) Empty (text_fault is_refused_in_uid 36 uid) (sym there.1) in
    let clean = faultless is_refused_in_uid 36 uid named.1 in
    record {
      is_trimmed = bytes_eq_is _ _ b.0;
      is_clean = clean.1;
      is_there = not_empty uid there.0;
      is_within = clean.0;
      is_some = λ same. let word : bytes_eq uid (codes "NONE") ≡ true = ap (λ (t : List ℕ). bytes_eq t (codes "NONE")) same in cc;
    }

is_file_uid-true : (uid : List ℕ) → IsFileUid uid → is_file_uid uid ≡ true
is_file_uid-true uid fits =
    let same : bytes_eq (trimmed uid) uid ≡ true = ap (λ (t : List ℕ). bytes_eq t uid) fits.is_trimmed ∙ bytes_eq_self uid in
    rw (same, not_zero (length uid) fits.is_there, bytes_eq_other uid (codes "NONE") fits.is_some, no_text_fault is_refused_in_uid 36 uid fits.is_within fits.is_clean) refl

-- ---- texts

pub text_field : (most : ℕ) → most < 2 ^ 16 → IsField (text_at most) text_bytes (λ text. (length text ≤ most) × IsText text)
unfolding text_at text_bytes
text_field most small = record {
  holds = λ rec at found bytes le e.
      let s = step u16_field rec at (λ size. bytes_at size.0 rec at size.1 >>= λ text. cond (is_text most text.0) (Ok text) (Err at)) found bytes le e in
      let b = bind_ok (bytes_at s.value rec at s.next) (λ text. cond (is_text most text.0) (Ok text) (Err at)) found s.rest in
      let cut = bytes_hold s.value rec at s.next b.0 bytes b.1 in
      let g = pass_ok (is_text most b.0.0) at (Ok b.0) found b.2 in
      let head : IsCodedAt rec at (u16_bytes (length b.0.0)) s.next = subst (λ (n : ℕ). IsCodedAt rec at (u16_bytes n) s.next) (sym cut.sized) s.holds in
      subst (λ (f : List ℕ × ℕ). IsCodedAt rec at (text_bytes f.0) f.1 × ((length f.0 ≤ most) × IsText f.0)) (ok_is b.0 found g.1)
      (holds_then rec at (u16_bytes (length b.0.0)) s.next b.0.0 b.0.1 head cut.holds, text_is most b.0.0 (omega arith) g.0);
  again = λ rec at text next le p fits.
      let a = apart rec at (u16_bytes (length text)) text next le p in
      rw (u16_field.again rec at (length text) a.mid le a.first (omega (arith, fits.0)), bytes_again (length text) rec at a.mid text next a.first.within a.second refl, is_text-true most text fits.0 fits.1) refl;
}

pub filled_field : (most : ℕ) → most < 2 ^ 16 → IsField (filled_text_at most) text_bytes (IsTextWithin most)
unfolding filled_text_at
filled_field most small = record {
  holds = λ rec at found bytes le e.
      let s = step (text_field most small) rec at (λ text. cond (nat_eq (length text.0) 0) (Err at) (Ok text)) found bytes le e in
      let g = guard_ok (nat_eq (length s.value) 0) at (Ok (s.value, s.next)) found s.rest in
      subst (λ (f : List ℕ × ℕ). IsCodedAt rec at (text_bytes f.0) f.1 × IsTextWithin most f.0) (ok_is (s.value, s.next) found g.1)
      (s.holds, record { is_text = s.fits.1; is_there = not_empty s.value g.0; is_within = s.fits.0 });
  again = λ rec at text next le p fits.
      rw ((text_field most small).again rec at text next le p (fits.is_within, fits.is_text), not_zero (length text) fits.is_there) refl;
}

-- ---- uids

pub trnuid_field : IsField trnuid_at uid_bytes IsTrnUid
unfolding trnuid_at uid_bytes
trnuid_field = record {
  holds = λ rec at found bytes le e.
      let s = step u8_field rec at (λ size. bytes_at size.0 rec at size.1 >>= λ uid. cond (is_trnuid uid.0) (Ok uid) (Err at)) found bytes le e in
      let b = bind_ok (bytes_at s.value rec at s.next) (λ uid. cond (is_trnuid uid.0) (Ok uid) (Err at)) found s.rest in
      let cut = bytes_hold s.value rec at s.next b.0 bytes b.1 in
      let g = pass_ok (is_trnuid b.0.0) at (Ok b.0) found b.2 in
      let head : IsCodedAt rec at (length b.0.0 ∷ []) s.next = subst (λ (n : ℕ). IsCodedAt rec at (n ∷ []) s.next) (sym cut.sized) s.holds in
      subst (λ (f : List ℕ × ℕ). IsCodedAt rec at (uid_bytes f.0) f.1 × IsTrnUid f.0) (ok_is b.0 found g.1)
      (holds_then rec at (length b.0.0 ∷ []) s.next b.0.0 b.0.1 head cut.holds, trnuid_is b.0.0 g.0);
  again = λ rec at uid next le p fits.
      let a = apart rec at (length uid ∷ []) uid next le p in
      rw (u8_field.again rec at (length uid) a.mid le a.first (omega (arith, fits.is_within)), bytes_again (length uid) rec at a.mid uid next a.first.within a.second refl, is_trnuid-true uid fits) refl;
}

pub given_uid_field : IsField given_uid_at uid_bytes IsClientUid
unfolding given_uid_at
given_uid_field = record {
  holds = λ rec at found bytes le e.
      let s = step trnuid_field rec at (λ uid. cond (bytes_eq uid.0 (codes "0")) (Err at) (Ok uid)) found bytes le e in
      let g = guard_ok (bytes_eq s.value (codes "0")) at (Ok (s.value, s.next)) found s.rest in
      let differ : s.value ≢ codes "0" = λ same. let word : bytes_eq s.value (codes "0") ≡ true = ap (λ (t : List ℕ). bytes_eq t (codes "0")) same in cc in
      subst (λ (f : List ℕ × ℕ). IsCodedAt rec at (uid_bytes f.0) f.1 × IsClientUid f.0) (ok_is (s.value, s.next) found g.1)
      (s.holds, (differ, s.fits));
  again = λ rec at uid next le p fits.
      rw (trnuid_field.again rec at uid next le p fits.1, bytes_eq_other uid (codes "0") fits.0) refl;
}

file_uid_went : (rec : List ℕ) (at size next : ℕ) (uid : List ℕ × ℕ) (found : Option (List ℕ) × ℕ) → IsCodedAt rec at (size ∷ []) next → IsCodedAt rec next uid.0 uid.1 → length uid.0 ≡ size
    → cond (nat_eq size 0) (Ok (None, uid.1)) (cond (is_file_uid uid.0) (Ok (Some uid.0, uid.1)) (Err at)) ≡ Ok found
    → IsCodedAt rec at (file_uid_bytes found.0) found.1 × IfSome found.0 IsFileUid
unfolding uid_bytes
file_uid_went rec at size next uid found p q sized e =
    elim (went (nat_eq size 0) (Ok (None, uid.1)) (cond (is_file_uid uid.0) (Ok (Some uid.0, uid.1)) (Err at)) (Ok found) e) [
      | inl h ↦
          let none : size ≡ 0 = eqb-true _ _ h.0 in
          let made : Option (List ℕ) × ℕ = (None, uid.1) in
          let nothing : uid.0 ≡ [] = nil_from_length uid.0 (sized ∙ none) in
          let head : IsCodedAt rec at (0 ∷ []) next = subst (λ (n : ℕ). IsCodedAt rec at (n ∷ []) next) none p in
          let tail : IsCodedAt rec next [] uid.1 = subst (λ (t : List ℕ). IsCodedAt rec next t uid.1) nothing q in
          subst (λ (f : Option (List ℕ) × ℕ). IsCodedAt rec at (file_uid_bytes f.0) f.1 × IfSome f.0 IsFileUid) (ok_is made found h.1)
          (holds_then rec at (0 ∷ []) next [] uid.1 head tail, tt)
      | inr h ↦
          let g = pass_ok (is_file_uid uid.0) at (Ok (Some uid.0, uid.1)) found h.1 in
          let made : Option (List ℕ) × ℕ = (Some uid.0, uid.1) in
          let head : IsCodedAt rec at (length uid.0 ∷ []) next = subst (λ (n : ℕ). IsCodedAt rec at (n ∷ []) next) (sym sized) p in
          subst (λ (f : Option (List ℕ) × ℕ). IsCodedAt rec at (file_uid_bytes f.0) f.1 × IfSome f.0 IsFileUid) (ok_is made found g.1)
          (holds_then rec at (length uid.0 ∷ []) next uid.0 uid.1 head q, file_uid_is uid.0 g.0)
    ]

-- nothing is at each place
pub nothing_holds : (rec : List ℕ) (next : ℕ) → next ≤ length rec → IsCodedAt rec next [] next
nothing_holds rec next le = record { parts = refl; within = le }

file_uid_again : (rec : List ℕ) (at : ℕ) (uid : Option (List ℕ)) (next : ℕ) → at ≤ length rec → IsCodedAt rec at (file_uid_bytes uid) next → IfSome uid IsFileUid → file_uid_at rec at ≡ Ok (uid, next)
unfolding file_uid_at uid_bytes
file_uid_again rec at None next le p fits =
    rw (u8_field.again rec at 0 next le p (omega arith), bytes_again 0 rec at next [] next p.within (nothing_holds rec next p.within) refl) refl
file_uid_again rec at (Some uid) next le p fits =
    let a = apart rec at (length uid ∷ []) uid next le p in
    rw (u8_field.again rec at (length uid) a.mid le a.first (omega (arith, fits.is_within)), bytes_again (length uid) rec at a.mid uid next a.first.within a.second refl, is_file_uid-true uid fits, not_zero (length uid) fits.is_there) refl

pub file_uid_field : IsField file_uid_at file_uid_bytes (λ uid. IfSome uid IsFileUid)
unfolding file_uid_at
file_uid_field = record {
  holds = λ rec at found bytes le e.
      let s = step u8_field rec at (λ size. bytes_at size.0 rec at size.1 >>= λ uid. cond (nat_eq size.0 0) (Ok (None, uid.1)) (cond (is_file_uid uid.0) (Ok (Some uid.0, uid.1)) (Err at))) found bytes le e in
      let b = bind_ok (bytes_at s.value rec at s.next) (λ uid. cond (nat_eq s.value 0) (Ok (None, uid.1)) (cond (is_file_uid uid.0) (Ok (Some uid.0, uid.1)) (Err at))) found s.rest in
      let cut = bytes_hold s.value rec at s.next b.0 bytes b.1 in
      file_uid_went rec at s.value s.next b.0 found s.holds cut.holds cut.sized b.2;
  again = λ rec at uid next le p fits. file_uid_again rec at uid next le p fits;
}
