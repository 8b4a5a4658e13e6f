-- A uid works once: a deed with one that is used does nothing, and a deed that adds entries had a new one.
use Rattle.std.proofs.Common.{◌≡◌, ◌≢◌, ℕ, Bool, true, false, cond, eqb, List, [], ◌∷◌, ◌++◌, Option, refl, ap}
use Rattle.std.proofs.lemmas.Bool.{eqb-true}
use Rattle.std.proofs.lemmas.List.{append-nil}
use Rattle.ofx_types.specs.declared.number.AcctId.{AcctId}
use Rattle.ofx_types.specs.declared.number.Moment.{Moment}
use Rattle.ofx_types.specs.declared.number.UserId.{UserId}
use Rattle.ofx_types.specs.declared.transfer.Deed.{Deed}
use Rattle.bank_model.specs.declared.entry.Entry.{Entry}
use Rattle.bank_model.specs.declared.setup.Setup.{Setup}
use Rattle.bank_model.specs.declared.event.State.{State}
use Rattle.bank_model.specs.Once.{is_used}
use Rattle.bank_model.specs.Deeds.{done, code_of, used_up, answer_with, deed_answer}
use Rattle.bank_invariants.proofs.StateLemmas.{IsAllowed-from_code}

pub used_code-is : (setup : Setup) (S : State) (user : UserId) (only : Option AcctId) (at : Moment) (trnuid : List ℕ) (deed : Deed) → is_used user trnuid S.used ≡ true → code_of setup S user only at trnuid deed ≡ 2019
unfolding code_of
used_code-is setup S user only at trnuid deed used = rw used refl

abbrev with_entries : State → List Entry → State
with_entries S entries = record S { entries = entries }

nothing_done : (setup : Setup) (S : State) (user : UserId) (at : Moment) (trnuid : List ℕ) (deed : Deed) (code : ℕ) → code ≡ 2019 → (answer_with setup S user at trnuid deed code).after ≡ S
nothing_done setup S user at trnuid deed code used = rw used (ap (with_entries S) (append-nil S.entries))

pub used_uid-code : (setup : Setup) (S : State) (user : UserId) (only : Option AcctId) (at : Moment) (trnuid : List ℕ) (deed : Deed) → is_used user trnuid S.used ≡ true → (deed_answer setup S user only at trnuid deed).reply.code ≡ 2019
unfolding deed_answer
used_uid-code setup S user only at trnuid deed used = used_code-is setup S user only at trnuid deed used

pub used_uid-state : (setup : Setup) (S : State) (user : UserId) (only : Option AcctId) (at : Moment) (trnuid : List ℕ) (deed : Deed) → is_used user trnuid S.used ≡ true → (deed_answer setup S user only at trnuid deed).after ≡ S
unfolding deed_answer
used_uid-state setup S user only at trnuid deed used =
    nothing_done setup S user at trnuid deed (code_of setup S user only at trnuid deed) (used_code-is setup S user only at trnuid deed used)

code_zero : (entries more : List Entry) (code : ℕ) (zero : Bool) → eqb code 0 ≡ zero → (entries ++ cond zero more []) ≢ entries → code ≡ 0
code_zero entries more code true is added = eqb-true code 0 is
code_zero entries more code false is added = absurd (added (append-nil entries))

-- only a deed with code 0 adds entries
added_code : (setup : Setup) (S : State) (user : UserId) (only : Option AcctId) (at : Moment) (trnuid : List ℕ) (deed : Deed) → (deed_answer setup S user only at trnuid deed).after.entries ≢ S.entries → code_of setup S user only at trnuid deed ≡ 0
unfolding deed_answer
added_code setup S user only at trnuid deed added =
    let code : ℕ = code_of setup S user only at trnuid deed in
    code_zero S.entries (done setup S user at trnuid deed) code (eqb code 0) refl added

pub added-unused : (setup : Setup) (S : State) (user : UserId) (only : Option AcctId) (at : Moment) (trnuid : List ℕ) (deed : Deed) → (deed_answer setup S user only at trnuid deed).after.entries ≢ S.entries → is_used user trnuid S.used ≡ false
added-unused setup S user only at trnuid deed added =
    (IsAllowed-from_code setup S user only at trnuid deed (added_code setup S user only at trnuid deed added)).unused

pub added-used : (setup : Setup) (S : State) (user : UserId) (only : Option AcctId) (at : Moment) (trnuid : List ℕ) (deed : Deed) → (deed_answer setup S user only at trnuid deed).after.entries ≢ S.entries → (deed_answer setup S user only at trnuid deed).after.used ≡ S.used ++ record { user = user; trnuid = trnuid } ∷ []
unfolding deed_answer
added-used setup S user only at trnuid deed added =
    ap (λ (code : ℕ). used_up code user trnuid S.used) (added_code setup S user only at trnuid deed added)
