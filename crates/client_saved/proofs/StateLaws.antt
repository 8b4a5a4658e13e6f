-- A saved text reads back as what was saved, and what is read was saved so.
use Rattle.std.proofs.Common.{◌≡◌, ℕ, true, nat_eq, List, [], ◌∷◌, ◌++◌, length, drop, Option, Result, Ok, Err, refl, sym, ap, subst, ◌∙◌, ◌⊎◌, inl, inr, arith}
use Rattle.std.specs.Prelude.{IfSome, IfOk, IsErrAnd}
use Rattle.std.specs.List.{list_all}
use Rattle.std.specs.Char.{is_ascii_alphanumeric}
use Rattle.std.proofs.lemmas.Bool.{eqb-true, eq-eqb}
use Rattle.std.proofs.lemmas.List.{append-nil, drop_all}
use Rattle.record_fields.specs.FieldCoding.{u8_bytes, u64_bytes, text_bytes, file_uid_bytes, optional_bytes}
use Rattle.record_fields.specs.FieldReading.{optional_at}
use Rattle.record_fields.specs.Fields.{IsBytes, IsCodedAt, IsField}
use Rattle.record_fields.proofs.Steps.{pass_ok, ok_is, joined, apart, step}
use Rattle.record_fields.proofs.NumberLaws.{u8_field, optional_field}
use Rattle.record_fields.proofs.BoundedLaws.{id_field}
use Rattle.record_fields.proofs.TextLaws.{filled_field, file_uid_field}
use Rattle.record_fields.proofs.PartLaws.{text32}
use Rattle.client_saved.specs.Bounds.{IsName, IsSoundOutstanding, IsSoundState}
use Rattle.client_saved.specs.Coding.{outstanding_bytes, store_bytes, counted_bytes, state_text}
use Rattle.client_saved.specs.Reading.{name_at, coding_at, outstanding_at, state_at, state_read}
use Rattle.client_saved.specs.SavedText.{IsCounted, IsSavedText, IsFirstFault, GivesState}
use Rattle.client_saved.specs.declared.state.Outstanding.{Outstanding}
use Rattle.client_saved.specs.declared.state.ClientState.{ClientState}
use Rattle.client_saved.specs.declared.state.StoreFault.{StoreFault}
use Rattle.client_saved.specs.declared.state.StoreFault.TheVariants as faults
use Rattle.client_saved.proofs.StoreLaws.{AreStores, stores_field}
use Rattle.client_saved.proofs.OutstandingLaws.{outstanding_field}

-- ---- the first fields

coding_field : IsField coding_at u8_bytes (λ n. n ≡ 1)
unfolding coding_at
coding_field = record {
  holds = λ rec at found bytes le e.
      let s = step u8_field rec at _ found bytes le e in
      let g = pass_ok (nat_eq s.value 1) at (Ok (s.value, s.next)) found s.rest in
      subst (λ (f : ℕ × ℕ). IsCodedAt rec at (u8_bytes f.0) f.1 × (f.0 ≡ 1)) (ok_is (s.value, s.next) found g.1) (s.holds, eqb-true _ _ g.0);
  again = λ rec at n next le p fits.
      let one : nat_eq n 1 ≡ true = eq-eqb _ _ fits in
      rw (u8_field.again rec at n next le p (omega (arith, fits)), one) refl;
}

name_field : IsField name_at text_bytes IsName
unfolding name_at
name_field = record {
  holds = λ rec at found bytes le e.
      let s = step (filled_field 12 (omega arith)) rec at _ found bytes le e in
      let g = pass_ok (list_all is_ascii_alphanumeric s.value) at (Ok (s.value, s.next)) found s.rest in
      subst (λ (f : List ℕ × ℕ). IsCodedAt rec at (text_bytes f.0) f.1 × IsName f.0) (ok_is (s.value, s.next) found g.1) (s.holds, (s.fits, g.0));
  again = λ rec at name next le p fits. rw ((filled_field 12 (omega arith)).again rec at name next le p fits.0, fits.1) refl;
}

abbrev IsMaybeSent : List ℕ → Option Outstanding → Type 0
IsMaybeSent user outstanding = IfSome outstanding (IsSoundOutstanding user)

optional_outstanding : (user : List ℕ) → IsField (optional_at (outstanding_at user)) (optional_bytes outstanding_bytes) (IsMaybeSent user)
optional_outstanding user = optional_field (outstanding_field user)

-- ---- what a client knows

abbrev IsKept : ClientState → Type 0
IsKept state = IsSoundState state × IsCounted state.stores

state_field : IsField state_at state_text IsKept
unfolding state_at state_text
state_field = record {
  holds = λ rec at found bytes le e.
      let coding = step coding_field rec at _ found bytes le e in
      let name = step name_field rec coding.next _ found bytes coding.holds.within coding.rest in
      let user = step text32 rec name.next _ found bytes name.holds.within name.rest in
      let number = step id_field rec user.next _ found bytes user.holds.within user.rest in
      let done = step file_uid_field rec number.next _ found bytes number.holds.within number.rest in
      let sent = step (optional_outstanding user.value) rec done.next _ found bytes done.holds.within done.rest in
      let stores = step stores_field rec sent.next _ found bytes sent.holds.within sent.rest in
      let state : ClientState = record { name = name.value; user = user.value; next = number.value; done = done.value; outstanding = sent.value; stores = stores.value } in
      let made : ClientState × ℕ = (state, stores.next) in
      let sound : IsSoundState state = record { name = name.fits; user = user.fits; next = number.fits; done = done.fits; outstanding = sent.fits; stores = stores.fits.sound; distinct = stores.fits.distinct } in
      let lead : IsCodedAt rec at (1 ∷ []) coding.next = subst (λ (n : ℕ). IsCodedAt rec at (n ∷ []) coding.next) coding.fits coding.holds in
      subst (λ (f : ClientState × ℕ). IsCodedAt rec at (state_text f.0) f.1 × IsKept f.0) {x = made} (ok_is made found stores.rest)
      (joined (joined (joined (joined (joined (joined lead name.holds) user.holds) number.holds) done.holds) sent.holds) stores.holds, (sound, stores.fits.counted));
  again = λ rec at s next le p fits.
      let g = apart rec at (1 ∷ text_bytes s.name ++ text_bytes s.user ++ u64_bytes s.next ++ file_uid_bytes s.done ++ optional_bytes outstanding_bytes s.outstanding) (counted_bytes store_bytes s.stores) next le p in
      let f = apart rec at (1 ∷ text_bytes s.name ++ text_bytes s.user ++ u64_bytes s.next ++ file_uid_bytes s.done) (optional_bytes outstanding_bytes s.outstanding) g.mid le g.first in
      let e = apart rec at (1 ∷ text_bytes s.name ++ text_bytes s.user ++ u64_bytes s.next) (file_uid_bytes s.done) f.mid le f.first in
      let d = apart rec at (1 ∷ text_bytes s.name ++ text_bytes s.user) (u64_bytes s.next) e.mid le e.first in
      let c = apart rec at (1 ∷ text_bytes s.name) (text_bytes s.user) d.mid le d.first in
      let b = apart rec at (1 ∷ []) (text_bytes s.name) c.mid le c.first in
      let stores : AreStores s.stores = record { counted = fits.1; sound = fits.0.stores; distinct = fits.0.distinct } in
      rw (
        coding_field.again rec at 1 b.mid le b.first refl,
        name_field.again rec b.mid s.name c.mid b.first.within b.second fits.0.name,
        text32.again rec c.mid s.user d.mid c.first.within c.second fits.0.user,
        id_field.again rec d.mid s.next e.mid d.first.within d.second fits.0.next,
        file_uid_field.again rec e.mid s.done f.mid e.first.within e.second fits.0.done,
        (optional_outstanding s.user).again rec f.mid s.outstanding g.mid f.first.within f.second fits.0.outstanding,
        stores_field.again rec g.mid s.stores next g.first.within g.second stores,
      ) refl;
}

-- ---- whole texts

-- nothing comes after the end
end_is : (text : List ℕ) → drop (length text) text ≡ []
end_is text = drop_all (length text) text (omega arith)

pub read_was_saved : (text : List ℕ) (state : ClientState) → IsBytes text → state_read text ≡ Ok state → IsSavedText text state
unfolding state_read
read_was_saved text state bytes e =
    let s = step state_field text 0 _ state bytes (omega arith) e in
    let g = pass_ok (nat_eq s.next (length text)) s.next (Ok s.value) state s.rest in
    let at_end : s.next ≡ length text = eqb-true _ _ g.0 in
    let suffix : drop s.next text ≡ [] = ap (λ (n : ℕ). drop n text) at_end ∙ end_is text in
    let spelled : text ≡ state_text s.value = s.holds.parts ∙ ap (λ (t : List ℕ). state_text s.value ++ t) suffix ∙ append-nil _ in
    let saved : IsSavedText text s.value = record { sound = s.fits.0; counted = s.fits.1; spelled = spelled } in
    subst (IsSavedText text) (ok_is s.value state g.1) saved

pub saved_is_read : (text : List ℕ) (state : ClientState) → IsSavedText text state → state_read text ≡ Ok state
unfolding state_read
saved_is_read text state saved =
    let whole : text ≡ state_text state ++ drop (length text) text = saved.spelled ∙ sym (append-nil _) ∙ ap (λ (t : List ℕ). state_text state ++ t) (sym (end_is text)) in
    let holds : IsCodedAt text 0 (state_text state) (length text) = record { parts = whole; within = omega arith } in
    let at_end : nat_eq (length text) (length text) ≡ true = eq-eqb _ _ refl in
    rw (state_field.again text 0 state (length text) (omega arith) holds (saved.sound, saved.counted), at_end) refl

-- ---- what is reported of a text

abbrev given : ClientState → Result ClientState ℕ
given state = Ok state

abbrev located : ℕ → Result ClientState ℕ
located at = Err at

pub found_was_saved : (text : List ℕ) (r : Result ClientState StoreFault) → IsBytes text → GivesState r (state_read text) → IfOk r (λ state. IsSavedText text state)
found_was_saved text (Ok state) bytes h = read_was_saved text state bytes h
found_was_saved text (Err fault) bytes h = tt

pub saved_is_found : (text : List ℕ) (r : Result ClientState StoreFault) (state : ClientState) → GivesState r (state_read text) → IsSavedText text state → GivesState r (Ok state)
saved_is_found text r state h saved = subst (GivesState r) (saved_is_read text state saved) h

pub refused_at_fault : (text : List ℕ) (r : Result ClientState StoreFault) (at : ℕ) → GivesState r (state_read text) → r ≡ Err (faults.Bad at) → IsFirstFault text at
refused_at_fault text r at h is = subst (λ (q : Result ClientState StoreFault). GivesState q (state_read text)) is h

pub fault_is_refused : (text : List ℕ) (r : Result ClientState StoreFault) (at : ℕ) → GivesState r (state_read text) → IsFirstFault text at
    → IsErrAnd r (λ reported. (reported ≡ faults.Bad at) ⊎ (reported ≡ faults.OutOfMemory))
fault_is_refused text (Ok state) at h fault = let both : given state ≡ located at = sym h ∙ fault in absurd cc
fault_is_refused text (Err (faults.Bad offset)) at h fault = let both : located offset ≡ located at = sym h ∙ fault in let same : offset ≡ at = cc in inl (ap faults.Bad same)
fault_is_refused text (Err faults.OutOfMemory) at h fault = inr refl

-- ---- one state, or one fault

pub one_state : (text : List ℕ) (state other : ClientState) → IsSavedText text state → IsSavedText text other → state ≡ other
one_state text state other p q = given_is (sym (saved_is_read text state p) ∙ saved_is_read text other q)
  where
    given_is : given state ≡ given other → state ≡ other
    given_is h = cc

pub one_fault : (text : List ℕ) (at other : ℕ) → IsFirstFault text at → IsFirstFault text other → at ≡ other
one_fault text at other p q = let both : located at ≡ located other = sym p ∙ q in cc

pub faults_save_nothing : (text : List ℕ) (at : ℕ) (state : ClientState) → IsFirstFault text at → IsSavedText text state → ⊥
faults_save_nothing text at state p q = let both : located at ≡ given state = sym p ∙ saved_is_read text state q in cc

abbrev IsSavedOrFaulty : List ℕ → Type 0
IsSavedOrFaulty text = ((state : ClientState) × IsSavedText text state) ⊎ ((at : ℕ) × IsFirstFault text at)

pub saved_or_faulty : (text : List ℕ) → IsBytes text → ((state : ClientState) × IsSavedText text state) ⊎ ((at : ℕ) × IsFirstFault text at)
saved_or_faulty text bytes = by_cases (state_read text) refl
  where
    by_cases : (r : Result ClientState ℕ) → state_read text ≡ r → IsSavedOrFaulty text
    by_cases (Ok state) h = inl (state, read_was_saved text state bytes h)
    by_cases (Err at) h = inr (at, h)
