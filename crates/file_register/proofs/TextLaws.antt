-- A saved text reads back as what was saved, and what is read was saved so.
use Rattle.std.proofs.Common.{◌≡◌, ℕ, zero, suc, ◌<◌, ◌≤◌, ◌^◌, true, nat_eq, leb, List, [], ◌∷◌, ◌++◌, length, drop, Option, None, Some, Ok, refl, sym, ap, subst, ◌∙◌, arith}
use Rattle.std.specs.List.{flat_map, AllByRecursion}
use Rattle.std.specs.List.Sorted.{IsStrictlySortedBy}
use Rattle.std.specs.Ordering.{is_lt}
use Rattle.std.specs.declared.cmp.Ordering.{Ordering}
use Rattle.std.specs.declared.cmp.Ordering.TheVariants.{Less, Equal, Greater}
use Rattle.std.proofs.lemmas.Bool.{eqb-true, eq-eqb, leb-true, le-leb}
use Rattle.std.proofs.lemmas.List.{append-nil, drop_all}
use Rattle.std.proofs.lemmas.List.Concat.{flat_map-cons}
use Rattle.ofx_types.specs.declared.account.AcctName.{AcctName}
use Rattle.bank_model.specs.Sound.{IsSoundAccount}
use Rattle.record_fields.specs.FieldCoding.{u8_bytes, u32_bytes, u64_bytes, i64_bytes, moment_bytes, acct_bytes}
use Rattle.record_fields.specs.Fields.{IsBytes, IsCodedAt, IsField}
use Rattle.record_fields.proofs.Steps.{bind_ok, pass_ok, ok_is, joined, apart, step}
use Rattle.record_fields.proofs.NumberLaws.{u8_field, next_is}
use Rattle.record_fields.proofs.BoundedLaws.{u32_field, u64_field, amount_field, moment_field}
use Rattle.record_fields.proofs.TextLaws.{nothing_holds}
use Rattle.record_fields.proofs.PartLaws.{acct_field}
use Rattle.file_register.specs.Order.{line_cmp, line_total}
use Rattle.file_register.specs.Lines.{IsSoundLine}
use Rattle.file_register.specs.Registers.{IsRising, IsRegister}
use Rattle.file_register.specs.Coding.{line_bytes, register_text}
use Rattle.file_register.specs.Reading.{is_above, entry_at, line_at, lines_from, count_at, coding_at, register_at, register_read}
use Rattle.file_register.specs.SavedText.{IsSavedText}
use Rattle.file_register.specs.declared.line.Line.{Line}
use Rattle.file_register.proofs.SortedLists.{each_of, each_by}

-- ---- one line

abbrev entry_bytes : AcctName × ℕ → List ℕ
entry_bytes entry = acct_bytes entry.0 ++ u64_bytes entry.1

record IsNextEntry (before : Option Line) (entry : AcctName × ℕ) : Type 0 where
  account : IsSoundAccount entry.0
  fitid : entry.1 < 2 ^ 64
  above : is_above before entry.0 entry.1 ≡ true

entry_field : (before : Option Line) → IsField (entry_at before) entry_bytes (IsNextEntry before)
unfolding entry_at
entry_field before = record {
  holds = λ rec at found bytes le e.
      let account = step acct_field rec at _ found bytes le e in
      let fitid = step u64_field rec account.next _ found bytes account.holds.within account.rest in
      let made : (AcctName × ℕ) × ℕ = ((account.value, fitid.value), fitid.next) in
      let g = pass_ok (is_above before account.value fitid.value) at (Ok made) found fitid.rest in
      let fits : IsNextEntry before (account.value, fitid.value) = record { account = account.fits; fitid = fitid.fits; above = g.0 } in
      subst (λ (f : (AcctName × ℕ) × ℕ). IsCodedAt rec at (entry_bytes f.0) f.1 × IsNextEntry before f.0) {x = made} (ok_is made found g.1)
      (joined account.holds fitid.holds, fits);
  again = λ rec at entry next le p fits.
      let b = apart rec at (acct_bytes entry.0) (u64_bytes entry.1) next le p in
      rw (
        acct_field.again rec at entry.0 b.mid le b.first fits.account,
        u64_field.again rec b.mid entry.1 next b.first.within b.second fits.fitid,
        fits.above,
      ) refl;
}

record IsNextLine (before : Option Line) (line : Line) : Type 0 where
  sound : IsSoundLine line
  above : is_above before line.account line.fitid ≡ true

line_field : (before : Option Line) → IsField (line_at before) line_bytes (IsNextLine before)
unfolding line_at line_bytes
line_field before = record {
  holds = λ rec at found bytes le e.
      let entry = step (entry_field before) rec at _ found bytes le e in
      let posted = step moment_field rec entry.next _ found bytes entry.holds.within entry.rest in
      let amount = step amount_field rec posted.next _ found bytes posted.holds.within posted.rest in
      let line : Line = record { account = entry.value.0; fitid = entry.value.1; posted = posted.value; amount = amount.value } in
      let made : Line × ℕ = (line, amount.next) in
      let sound : IsSoundLine line = record { account = entry.fits.account; fitid = entry.fits.fitid; posted = posted.fits; amount = amount.fits } in
      let fits : IsNextLine before line = record { sound = sound; above = entry.fits.above } in
      subst (λ (f : Line × ℕ). IsCodedAt rec at (line_bytes f.0) f.1 × IsNextLine before f.0) {x = made} (ok_is made found amount.rest)
      (joined (joined entry.holds posted.holds) amount.holds, fits);
  again = λ rec at line next le p fits.
      let d = apart rec at (acct_bytes line.account ++ u64_bytes line.fitid ++ moment_bytes line.posted) (i64_bytes line.amount.0) next le p in
      let c = apart rec at (acct_bytes line.account ++ u64_bytes line.fitid) (moment_bytes line.posted) d.mid le d.first in
      let entry : IsNextEntry before (line.account, line.fitid) = record { account = fits.sound.account; fitid = fits.sound.fitid; above = fits.above } in
      rw (
        (entry_field before).again rec at (line.account, line.fitid) c.mid le c.first entry,
        moment_field.again rec c.mid line.posted d.mid c.first.within c.second fits.sound.posted,
        amount_field.again rec d.mid line.amount next d.first.within d.second fits.sound.amount,
      ) refl;
}

-- ---- many lines

-- each line is above the one before it
abbrev IsChain : Option Line → List Line → Type 0
IsChain before [] = Unit {0}
IsChain before (line ∷ lines) = (is_above before line.account line.fitid ≡ true) × IsChain (Some line) lines

record LinesStand (n : ℕ) (before : Option Line) (rec : List ℕ) (at : ℕ) (found : List Line × ℕ) : Type 0 where
  holds : IsCodedAt rec at (flat_map line_bytes found.0) found.1
  counted : length found.0 ≡ n
  sound : AllByRecursion IsSoundLine found.0
  chain : IsChain before found.0

lines_stand : (n : ℕ) (before : Option Line) (rec : List ℕ) (at : ℕ) (found : List Line × ℕ) → IsBytes rec → at ≤ length rec → lines_from n before rec at ≡ Ok found
    → LinesStand n before rec at found
unfolding lines_from
lines_stand zero before rec at found bytes le e =
    let made : List Line × ℕ = ([], at) in
    subst (LinesStand zero before rec at) {x = made} (ok_is made found e) (record { holds = nothing_holds rec at le; counted = refl; sound = tt; chain = tt })
lines_stand (suc n) before rec at found bytes le e =
    let a = step (line_field before) rec at _ found bytes le e in
    let b = bind_ok (lines_from n (Some a.value) rec a.next) (λ others. Ok (a.value ∷ others.0, others.1)) found a.rest in
    let rest = lines_stand n (Some a.value) rec a.next b.0 bytes a.holds.within b.1 in
    let made : List Line × ℕ = (a.value ∷ b.0.0, b.0.1) in
    let whole : IsCodedAt rec at (flat_map line_bytes (a.value ∷ b.0.0)) b.0.1 =
    subst (λ (t : List ℕ). IsCodedAt rec at t b.0.1) (sym (flat_map-cons line_bytes a.value b.0.0)) (joined a.holds rest.holds) in
    subst (LinesStand (suc n) before rec at) {x = made} (ok_is made found b.2) (record {
      holds = whole;
      counted = ap suc rest.counted;
      sound = (a.fits.sound, rest.sound);
      chain = (a.fits.above, rest.chain);
    })

lines_again : (before : Option Line) (rec : List ℕ) (at : ℕ) (lines : List Line) (next : ℕ) → at ≤ length rec → IsCodedAt rec at (flat_map line_bytes lines) next
    → AllByRecursion IsSoundLine lines → IsChain before lines → lines_from (length lines) before rec at ≡ Ok (lines, next)
unfolding lines_from
lines_again before rec at [] next le p sound chain = ap (λ (n : ℕ). Ok ([], n)) (sym (same_offset rec at next le p))
  where
    same_offset : (rec : List ℕ) (at next : ℕ) → at ≤ length rec → IsCodedAt rec at [] next → next ≡ at
    same_offset rec at next le p = omega (arith, next_is rec at [] next le p)
lines_again before rec at (line ∷ lines) next le p sound chain =
    let q : IsCodedAt rec at (line_bytes line ++ flat_map line_bytes lines) next = subst (λ (t : List ℕ). IsCodedAt rec at t next) (flat_map-cons line_bytes line lines) p in
    let a = apart rec at (line_bytes line) (flat_map line_bytes lines) next le q in
    let fits : IsNextLine before line = record { sound = sound.0; above = chain.0 } in
    rw ((line_field before).again rec at line a.mid le a.first fits, lines_again (Some line) rec a.mid lines next a.first.within a.second sound.1 chain.1) refl

-- ---- chains are lists in order

less_is : (r : Ordering) → is_lt r ≡ true → r ≡ Less
less_is Less h = refl
less_is Equal h = absurd cc
less_is Greater h = absurd cc

above_less : (line other : Line) → is_above (Some line) other.account other.fitid ≡ true → line_cmp line other ≡ Less
unfolding is_above line_cmp
above_less line other h = less_is _ h

less_above : (line other : Line) → line_cmp line other ≡ Less → is_above (Some line) other.account other.fitid ≡ true
unfolding is_above line_cmp
less_above line other h = ap is_lt h

chain_rising : (line : Line) (lines : List Line) → IsChain (Some line) lines → AllByRecursion (λ other. line_cmp line other ≡ Less) lines × IsRising lines
unfolding IsStrictlySortedBy
chain_rising line [] chain = (tt, tt)
chain_rising line (other ∷ lines) chain =
    let less = above_less line other chain.0 in
    let rest = chain_rising other lines chain.1 in
    let far = each_by (λ (z : Line). line_cmp line z ≡ Less) lines (λ z there. line_total.trans line other z less (each_of (λ (z : Line). line_cmp other z ≡ Less) lines z rest.0 there)) in
    ((less, far), (rest.0, rest.1))

rising_chain : (line : Line) (lines : List Line) → AllByRecursion (λ other. line_cmp line other ≡ Less) lines → IsRising lines → IsChain (Some line) lines
unfolding IsStrictlySortedBy
rising_chain line [] less rising = tt
rising_chain line (other ∷ lines) less rising = (less_above line other less.0, rising_chain other lines rising.0 rising.1)

first_chain : (lines : List Line) → IsChain None lines → IsRising lines
unfolding IsStrictlySortedBy
first_chain [] chain = tt
first_chain (line ∷ lines) chain = chain_rising line lines chain.1

chain_of : (lines : List Line) → IsRising lines → IsChain None lines
unfolding IsStrictlySortedBy is_above
chain_of [] rising = tt
chain_of (line ∷ lines) rising = (refl, rising_chain line lines rising.0 rising.1)

-- ---- whole texts

coding_field : IsField coding_at u8_bytes (λ n. n ≡ 1)
unfolding coding_at
coding_field = record {
  holds = λ rec at found bytes le e.
      let s = step u8_field rec at _ found bytes le e in
      let g = pass_ok (nat_eq s.value 1) at (Ok (s.value, s.next)) found s.rest in
      subst (λ (f : ℕ × ℕ). IsCodedAt rec at (u8_bytes f.0) f.1 × (f.0 ≡ 1)) (ok_is (s.value, s.next) found g.1) (s.holds, eqb-true _ _ g.0);
  again = λ rec at n next le p fits.
      let one : nat_eq n 1 ≡ true = eq-eqb _ _ fits in
      rw (u8_field.again rec at n next le p (omega (arith, fits)), one) refl;
}

count_field : IsField count_at u32_bytes (λ n. n ≤ 500000)
unfolding count_at
count_field = record {
  holds = λ rec at found bytes le e.
      let s = step u32_field rec at _ found bytes le e in
      let g = pass_ok (leb s.value 500000) at (Ok (s.value, s.next)) found s.rest in
      subst (λ (f : ℕ × ℕ). IsCodedAt rec at (u32_bytes f.0) f.1 × (f.0 ≤ 500000)) (ok_is (s.value, s.next) found g.1) (s.holds, leb-true _ _ g.0);
  again = λ rec at n next le p fits.
      let few : leb n 500000 ≡ true = le-leb _ _ fits in
      rw (u32_field.again rec at n next le p (omega (arith, fits)), few) refl;
}

register_field : IsField register_at register_text IsRegister
unfolding register_at register_text
register_field = record {
  holds = λ rec at found bytes le e.
      let coding = step coding_field rec at _ found bytes le e in
      let count = step count_field rec coding.next _ found bytes coding.holds.within coding.rest in
      let lines = lines_stand count.value None rec count.next found bytes count.holds.within count.rest in
      let lead : IsCodedAt rec at (1 ∷ []) coding.next = subst (λ (n : ℕ). IsCodedAt rec at (n ∷ []) coding.next) coding.fits coding.holds in
      let head : IsCodedAt rec coding.next (u32_bytes (length found.0)) count.next = subst (λ (n : ℕ). IsCodedAt rec coding.next (u32_bytes n) count.next) (sym lines.counted) count.holds in
      let is : IsRegister found.0 = record {
        rising = first_chain found.0 lines.chain;
        few = subst (λ (n : ℕ). n ≤ 500000) (sym lines.counted) count.fits;
        sound = lines.sound;
      } in
      (joined (joined lead head) lines.holds, is);
  again = λ rec at lines next le p is.
      let c = apart rec at (1 ∷ u32_bytes (length lines)) (flat_map line_bytes lines) next le p in
      let b = apart rec at (1 ∷ []) (u32_bytes (length lines)) c.mid le c.first in
      rw (
        coding_field.again rec at 1 b.mid le b.first refl,
        count_field.again rec b.mid (length lines) c.mid b.first.within b.second is.few,
        lines_again None rec c.mid lines next c.first.within c.second is.sound (chain_of lines is.rising),
      ) refl;
}

-- nothing comes after the end
end_is : (text : List ℕ) → drop (length text) text ≡ []
end_is text = drop_all (length text) text (omega arith)

pub read_was_saved : (text : List ℕ) (lines : List Line) → IsBytes text → register_read text ≡ Ok lines → IsSavedText text lines
unfolding register_read
read_was_saved text lines bytes e =
    let s = step register_field text 0 _ lines bytes (omega arith) e in
    let g = pass_ok (nat_eq s.next (length text)) s.next (Ok s.value) lines s.rest in
    let at_end : s.next ≡ length text = eqb-true _ _ g.0 in
    let rest : drop s.next text ≡ [] = ap (λ (n : ℕ). drop n text) at_end ∙ end_is text in
    let spelled : text ≡ register_text s.value = s.holds.parts ∙ ap (λ (t : List ℕ). register_text s.value ++ t) rest ∙ append-nil _ in
    let saved : IsSavedText text s.value = record { is_register = s.fits; spelled = spelled } in
    subst (IsSavedText text) (ok_is s.value lines g.1) saved

pub saved_is_read : (text : List ℕ) (lines : List Line) → IsSavedText text lines → register_read text ≡ Ok lines
unfolding register_read
saved_is_read text lines saved =
    let whole : text ≡ register_text lines ++ drop (length text) text = saved.spelled ∙ sym (append-nil _) ∙ ap (λ (t : List ℕ). register_text lines ++ t) (sym (end_is text)) in
    let holds : IsCodedAt text 0 (register_text lines) (length text) = record { parts = whole; within = omega arith } in
    let at_end : nat_eq (length text) (length text) ≡ true = eq-eqb _ _ refl in
    rw (register_field.again text 0 lines (length text) (omega arith) holds saved.is_register, at_end) refl
