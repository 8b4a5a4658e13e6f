-- The bodies of messages are read as they are written.
use Rattle.std.proofs.Common.{◌≡◌, ℕ, ◌<◌, ◌^◌, Bool, true, false, cond, nat_eq, List, [], ◌∷◌, ◌++◌, length, Result, Ok, Err, refl, sym, ap, subst, ◌∙◌, arith, Option, Some}
use Rattle.std.specs.List.{flat_map}
use Rattle.std.proofs.lemmas.List.{append-nil}
use Rattle.std.proofs.lemmas.Bool.{eqb-true}
use Rattle.postgres_messages.specs.declared.kind.Kind.{Kind}
use Rattle.postgres_messages.specs.declared.kind.Kind.TheVariants as kinds
use Rattle.postgres_messages.specs.Fields.{◌>>=◌, u16_bytes, u32_bytes, text_bytes, texts_bytes, value_bytes, u16_in, u32_in, text_in, after_texts, texts_of, after_values, values_of}
use Rattle.postgres_messages.specs.Messages.{Message, SignedOn, Methods, Challenge, Verifier, ProcessKey, Setting, Ready, Parsed, Bound, Row, Completed, Failed, Notice, body_bytes, kind_byte}
use Rattle.postgres_messages.specs.Reading.{kind_of, ended, report_in, sign_on_in, authentication_in, key_data_in, setting_in, ready_in, row_in, completed_in, body_in}
use Rattle.postgres_messages.specs.Laws.{IsBytes, IsField, AreTexts, AreValues, Fits}
use Rattle.postgres_messages.proofs.FieldLaws.{bind_ok, ok_is, IsBytes-rest, u16_field, u32_field, text_field}
use Rattle.postgres_messages.proofs.ListLaws.{texts_short, after_texts_again, texts_again, texts_hold, after_values_again, values_again, values_hold}

abbrev pub kind_in_code : Message → Kind
kind_in_code SignedOn = kinds.Authentication
kind_in_code (Methods names) = kinds.Authentication
kind_in_code (Challenge text) = kinds.Authentication
kind_in_code (Verifier text) = kinds.Authentication
kind_in_code (ProcessKey process key) = kinds.KeyData
kind_in_code (Setting name value) = kinds.ParameterStatus
kind_in_code Ready = kinds.ReadyForQuery
kind_in_code Parsed = kinds.ParseComplete
kind_in_code Bound = kinds.BindComplete
kind_in_code (Row values) = kinds.DataRow
kind_in_code (Completed tag) = kinds.CommandComplete
kind_in_code (Failed report) = kinds.ErrorResponse
kind_in_code (Notice report) = kinds.NoticeResponse

pub kind_named : (m : Message) → kind_of (kind_byte m) ≡ Some (kind_in_code m)
kind_named SignedOn = refl
kind_named (Methods names) = refl
kind_named (Challenge text) = refl
kind_named (Verifier text) = refl
kind_named (ProcessKey process key) = refl
kind_named (Setting name value) = refl
kind_named Ready = refl
kind_named Parsed = refl
kind_named Bound = refl
kind_named (Row values) = refl
kind_named (Completed tag) = refl
kind_named (Failed report) = refl
kind_named (Notice report) = refl

-- the same, of a field that is the last
alone : {A : Type 0} {read : List ℕ → Result (A × List ℕ) ℕ} {coding : A → List ℕ} {Bounds : A → Type 0} → IsField read coding Bounds → (value : A) → Bounds value → read (coding value) ≡ Ok (value, [])
alone {A} {read} {coding} {Bounds} field value fits =
    subst (λ (t : List ℕ). read t ≡ Ok (value, [])) (append-nil (coding value)) (field.again value [] fits)

report_again : (report : List (List ℕ)) → AreTexts report → report_in (texts_bytes report) ≡ Ok report
report_again report fits =
    let same : texts_bytes report ++ [] ≡ texts_bytes report = append-nil (texts_bytes report) in
    let short : length report < length (texts_bytes report) = subst (λ (t : List ℕ). length report < length t) same (texts_short report []) in
    let after : after_texts (length (texts_bytes report)) (texts_bytes report) ≡ Ok [] =
    subst (λ (t : List ℕ). after_texts (length (texts_bytes report)) t ≡ Ok []) same (after_texts_again report [] (length (texts_bytes report)) fits short) in
    let found : texts_of (length (texts_bytes report)) (texts_bytes report) ≡ report =
    subst (λ (t : List ℕ). texts_of (length (texts_bytes report)) t ≡ report) same (texts_again report [] (length (texts_bytes report)) fits short) in
    rw (after, found) refl

row_again : (values : List (Option (List ℕ))) → (length values < 2 ^ 16) × AreValues values → row_in (body_bytes (Row values)) ≡ Ok (Row values)
row_again values fits =
    let same : flat_map value_bytes values ++ [] ≡ flat_map value_bytes values = append-nil (flat_map value_bytes values) in
    let after : after_values (length values) (flat_map value_bytes values) ≡ Ok [] =
    subst (λ (t : List ℕ). after_values (length values) t ≡ Ok []) same (after_values_again values [] fits.1) in
    let found : values_of (length values) (flat_map value_bytes values) ≡ values =
    subst (λ (t : List ℕ). values_of (length values) t ≡ values) same (values_again values [] fits.1) in
    rw (u16_field.again (length values) (flat_map value_bytes values) fits.0, after, found) refl

pub body_again : (m : Message) → Fits m → body_in (kind_in_code m) (body_bytes m) ≡ Ok m
unfolding body_in
body_again SignedOn fits = rw (alone u32_field 0 (omega arith)) refl
body_again (Methods names) fits = rw (u32_field.again 10 (texts_bytes names) (omega arith), report_again names fits) refl
body_again (Challenge text) fits = rw (u32_field.again 11 text (omega arith)) refl
body_again (Verifier text) fits = rw (u32_field.again 12 text (omega arith)) refl
body_again (ProcessKey process key) fits = rw (u32_field.again process (u32_bytes key) fits.0, alone u32_field key fits.1) refl
body_again (Setting name value) fits = rw (text_field.again name (text_bytes value) fits.0, alone text_field value fits.1) refl
body_again Ready fits = refl
body_again Parsed fits = refl
body_again Bound fits = refl
body_again (Row values) fits = row_again values fits
body_again (Completed tag) fits = rw (alone text_field tag fits) refl
body_again (Failed report) fits = rw (report_again report fits) refl
body_again (Notice report) fits = rw (report_again report fits) refl

-- ---- what is read

abbrev BodyHolds : Kind → List ℕ → Message → Type 0
BodyHolds kind body m = (body ≡ body_bytes m) × Fits m × (kind ≡ kind_in_code m)

pub ended_ok : {A : Type 0} (x : A) (rest : List ℕ) (y : A) → ended x rest ≡ Ok y → (rest ≡ []) × (x ≡ y)
ended_ok x [] y e = (refl, ok_is x y e)
ended_ok x (b ∷ rest) y e = absurd cc

report_holds : (body : List ℕ) (report : List (List ℕ)) → IsBytes body → report_in body ≡ Ok report → (body ≡ texts_bytes report) × AreTexts report
report_holds body report fits e =
    let s = bind_ok (after_texts (length body) body) (λ rest. ended (texts_of (length body) body) rest) report e in
    let last = ended_ok (texts_of (length body) body) s.0 report s.2 in
    let found = texts_hold (length body) body s.0 fits s.1 in
    subst (λ (ts : List (List ℕ)). (body ≡ texts_bytes ts) × AreTexts ts) last.1
    (found.0 ∙ ap (λ (t : List ℕ). texts_bytes (texts_of (length body) body) ++ t) last.0 ∙ append-nil (texts_bytes (texts_of (length body) body)), found.1)

sign_on_4 : (left code : ℕ) (rest body : List ℕ) (m : Message) (b : Bool) → nat_eq code 12 ≡ b → body ≡ u32_bytes code ++ rest → cond b (Ok (Verifier rest)) (Err left) ≡ Ok m → BodyHolds kinds.Authentication body m
sign_on_4 left code rest body m false h parts e = absurd cc
sign_on_4 left code rest body m true h parts e =
    subst (BodyHolds kinds.Authentication body) (ok_is (Verifier rest) m e) (parts ∙ ap (λ (n : ℕ). u32_bytes n ++ rest) (eqb-true code 12 h), tt, refl)

sign_on_3 : (left code : ℕ) (rest body : List ℕ) (m : Message) (b : Bool) → nat_eq code 11 ≡ b → body ≡ u32_bytes code ++ rest
    → cond b (Ok (Challenge rest)) (cond (nat_eq code 12) (Ok (Verifier rest)) (Err left)) ≡ Ok m → BodyHolds kinds.Authentication body m
sign_on_3 left code rest body m false h parts e = sign_on_4 left code rest body m (nat_eq code 12) refl parts e
sign_on_3 left code rest body m true h parts e =
    subst (BodyHolds kinds.Authentication body) (ok_is (Challenge rest) m e) (parts ∙ ap (λ (n : ℕ). u32_bytes n ++ rest) (eqb-true code 11 h), tt, refl)

sign_on_2 : (left code : ℕ) (rest body : List ℕ) (m : Message) (b : Bool) → IsBytes rest → nat_eq code 10 ≡ b → body ≡ u32_bytes code ++ rest
    → cond b (report_in rest >>= λ names. Ok (Methods names)) (cond (nat_eq code 11) (Ok (Challenge rest)) (cond (nat_eq code 12) (Ok (Verifier rest)) (Err left))) ≡ Ok m → BodyHolds kinds.Authentication body m
sign_on_2 left code rest body m false fits h parts e = sign_on_3 left code rest body m (nat_eq code 11) refl parts e
sign_on_2 left code rest body m true fits h parts e =
    let s = bind_ok (report_in rest) (λ names. Ok (Methods names)) m e in
    let r = report_holds rest s.0 fits s.1 in
    subst (BodyHolds kinds.Authentication body) (ok_is (Methods s.0) m s.2) (parts ∙ ap (λ (n : ℕ). u32_bytes n ++ rest) (eqb-true code 10 h) ∙ ap (λ (t : List ℕ). u32_bytes 10 ++ t) r.0, r.1, refl)

sign_on_1 : (left code : ℕ) (rest body : List ℕ) (m : Message) (b : Bool) → IsBytes rest → nat_eq code 0 ≡ b → body ≡ u32_bytes code ++ rest
    → cond b (ended SignedOn rest) (cond (nat_eq code 10) (report_in rest >>= λ names. Ok (Methods names)) (cond (nat_eq code 11) (Ok (Challenge rest)) (cond (nat_eq code 12) (Ok (Verifier rest)) (Err left)))) ≡ Ok m
    → BodyHolds kinds.Authentication body m
sign_on_1 left code rest body m false fits h parts e = sign_on_2 left code rest body m (nat_eq code 10) fits refl parts e
sign_on_1 left code rest body m true fits h parts e =
    let last = ended_ok SignedOn rest m e in
    subst (BodyHolds kinds.Authentication body) last.1
    (parts ∙ ap (λ (n : ℕ). u32_bytes n ++ rest) (eqb-true code 0 h) ∙ ap (λ (t : List ℕ). u32_bytes 0 ++ t) last.0 ∙ append-nil (u32_bytes 0), tt, refl)

authentication_holds : (body : List ℕ) (m : Message) → IsBytes body → authentication_in body ≡ Ok m → BodyHolds kinds.Authentication body m
authentication_holds body m fits e =
    let s = bind_ok (u32_in body) (λ code. sign_on_in (length body) code.0 code.1) m e in
    let f = u32_field.holds body s.0 fits s.1 in
    sign_on_1 (length body) s.0.0 s.0.1 body m (nat_eq s.0.0 0) (IsBytes-rest (u32_bytes s.0.0) s.0.1 body f.0 fits) refl f.0 s.2

key_data_holds : (body : List ℕ) (m : Message) → IsBytes body → key_data_in body ≡ Ok m → BodyHolds kinds.KeyData body m
key_data_holds body m fits e =
    let s = bind_ok (u32_in body) (λ process. u32_in process.1 >>= λ key. ended (ProcessKey process.0 key.0) key.1) m e in
    let a = u32_field.holds body s.0 fits s.1 in
    let t = bind_ok (u32_in s.0.1) (λ key. ended (ProcessKey s.0.0 key.0) key.1) m s.2 in
    let b = u32_field.holds s.0.1 t.0 (IsBytes-rest (u32_bytes s.0.0) s.0.1 body a.0 fits) t.1 in
    let last = ended_ok (ProcessKey s.0.0 t.0.0) t.0.1 m t.2 in
    subst (BodyHolds kinds.KeyData body) last.1
    (a.0 ∙ ap (λ (t : List ℕ). u32_bytes s.0.0 ++ t) (b.0 ∙ ap (λ (r : List ℕ). u32_bytes t.0.0 ++ r) last.0 ∙ append-nil (u32_bytes t.0.0)), (a.1, b.1), refl)

setting_holds : (body : List ℕ) (m : Message) → IsBytes body → setting_in body ≡ Ok m → BodyHolds kinds.ParameterStatus body m
setting_holds body m fits e =
    let s = bind_ok (text_in body) (λ name. text_in name.1 >>= λ value. ended (Setting name.0 value.0) value.1) m e in
    let a = text_field.holds body s.0 fits s.1 in
    let t = bind_ok (text_in s.0.1) (λ value. ended (Setting s.0.0 value.0) value.1) m s.2 in
    let b = text_field.holds s.0.1 t.0 (IsBytes-rest (text_bytes s.0.0) s.0.1 body a.0 fits) t.1 in
    let last = ended_ok (Setting s.0.0 t.0.0) t.0.1 m t.2 in
    subst (BodyHolds kinds.ParameterStatus body) last.1
    (a.0 ∙ ap (λ (t : List ℕ). text_bytes s.0.0 ++ t) (b.0 ∙ ap (λ (r : List ℕ). text_bytes t.0.0 ++ r) last.0 ∙ append-nil (text_bytes t.0.0)), (a.1, b.1), refl)

ready_went : (status : ℕ) (rest : List ℕ) (m : Message) (b : Bool) → nat_eq status 73 ≡ b → cond b (ended Ready rest) (Err (length (status ∷ rest))) ≡ Ok m → BodyHolds kinds.ReadyForQuery (status ∷ rest) m
ready_went status rest m false h e = absurd cc
ready_went status rest m true h e =
    let last = ended_ok Ready rest m e in
    subst (BodyHolds kinds.ReadyForQuery (status ∷ rest)) last.1 (ap (λ (n : ℕ). n ∷ rest) (eqb-true status 73 h) ∙ ap (λ (t : List ℕ). 73 ∷ t) last.0, tt, refl)

ready_holds : (body : List ℕ) (m : Message) → ready_in body ≡ Ok m → BodyHolds kinds.ReadyForQuery body m
ready_holds [] m e = absurd cc
ready_holds (status ∷ rest) m e = ready_went status rest m (nat_eq status 73) refl e

row_holds : (body : List ℕ) (m : Message) → IsBytes body → row_in body ≡ Ok m → BodyHolds kinds.DataRow body m
row_holds body m fits e =
    let s = bind_ok (u16_in body) (λ count. after_values count.0 count.1 >>= λ rest. ended (Row (values_of count.0 count.1)) rest) m e in
    let a = u16_field.holds body s.0 fits s.1 in
    let t = bind_ok (after_values s.0.0 s.0.1) (λ rest. ended (Row (values_of s.0.0 s.0.1)) rest) m s.2 in
    let v = values_hold s.0.0 s.0.1 t.0 (IsBytes-rest (u16_bytes s.0.0) s.0.1 body a.0 fits) t.1 in
    let last = ended_ok (Row (values_of s.0.0 s.0.1)) t.0 m t.2 in
    let found = values_of s.0.0 s.0.1 in
    let count = v.count_is in
    let small = a.1 in
    subst (BodyHolds kinds.DataRow body) last.1
    (a.0 ∙ ap (λ (t : List ℕ). u16_bytes s.0.0 ++ t) (v.parts ∙ ap (λ (r : List ℕ). flat_map value_bytes found ++ r) last.0 ∙ append-nil (flat_map value_bytes found)) ∙ ap (λ (n : ℕ). u16_bytes n ++ flat_map value_bytes found) (sym count), (omega arith, v.fits), refl)

completed_holds : (body : List ℕ) (m : Message) → IsBytes body → completed_in body ≡ Ok m → BodyHolds kinds.CommandComplete body m
completed_holds body m fits e =
    let s = bind_ok (text_in body) (λ tag. ended (Completed tag.0) tag.1) m e in
    let a = text_field.holds body s.0 fits s.1 in
    let last = ended_ok (Completed s.0.0) s.0.1 m s.2 in
    subst (BodyHolds kinds.CommandComplete body) last.1 (a.0 ∙ ap (λ (t : List ℕ). text_bytes s.0.0 ++ t) last.0 ∙ append-nil (text_bytes s.0.0), a.1, refl)

pub body_holds : (kind : Kind) (body : List ℕ) (m : Message) → IsBytes body → body_in kind body ≡ Ok m → BodyHolds kind body m
unfolding body_in
body_holds kinds.Authentication body m fits e = authentication_holds body m fits e
body_holds kinds.KeyData body m fits e = key_data_holds body m fits e
body_holds kinds.ParameterStatus body m fits e = setting_holds body m fits e
body_holds kinds.ReadyForQuery body m fits e = ready_holds body m e
body_holds kinds.ParseComplete body m fits e = let last = ended_ok Parsed body m e in subst (BodyHolds kinds.ParseComplete body) last.1 (last.0, tt, refl)
body_holds kinds.BindComplete body m fits e = let last = ended_ok Bound body m e in subst (BodyHolds kinds.BindComplete body) last.1 (last.0, tt, refl)
body_holds kinds.DataRow body m fits e = row_holds body m fits e
body_holds kinds.CommandComplete body m fits e = completed_holds body m fits e
body_holds kinds.ErrorResponse body m fits e =
    let s = bind_ok (report_in body) (λ report. Ok (Failed report)) m e in
    let r = report_holds body s.0 fits s.1 in
    subst (BodyHolds kinds.ErrorResponse body) (ok_is (Failed s.0) m s.2) (r.0, r.1, refl)
body_holds kinds.NoticeResponse body m fits e =
    let s = bind_ok (report_in body) (λ report. Ok (Notice report)) m e in
    let r = report_holds body s.0 fits s.1 in
    subst (BodyHolds kinds.NoticeResponse body) (ok_is (Notice s.0) m s.2) (r.0, r.1, refl)
