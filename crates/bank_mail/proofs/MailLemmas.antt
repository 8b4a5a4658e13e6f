-- The mails of an object in the stead of those before, or after all others, and one entry more.
use Rattle.std.proofs.Common.{◌≡◌, ℕ, ◌+◌, ◌<◌, ◌≤◌, Bool, true, false, cond, eqb, nat_lt, List, [], ◌∷◌, ◌++◌, length, get_or, set, filter, Option, None, Some, refl, sym, ap, ◌∙◌, subst, arith}
use Rattle.std.proofs.lemmas.Bool.{eqb-true, eq-eqb, ltb-false}
use Rattle.std.proofs.lemmas.List.Elements.{filter-append}
use Rattle.std.proofs.lemmas.Grind.{flat_map-append}
use Rattle.std.proofs.lemmas.List.{append-nil}
use Rattle.std.proofs.lemmas.List.Folds.{find-append, find-set, find_past, find_at}
use Rattle.std.proofs.lemmas.List.Quantifiers.{position-Some}
use Rattle.std.proofs.lemmas.Option.{slice_get_past, slice_get-get_or}
use Rattle.std.specs.Option.{option_or}
use Rattle.std.specs.List.{flat_map, position, position_or_len, slice_get}
use Rattle.ofx_types.specs.declared.number.ObjectId.{ObjectId}
use Rattle.ofx_types.specs.declared.mail.MailRow.{MailRow}
use Rattle.ofx_types.specs.declared.transfer.Change.{Change}
use Rattle.ofx_types.specs.declared.transfer.Change.TheVariants.{NewMail}
use Rattle.bank_model.specs.declared.entry.Entry.{Entry}
use Rattle.bank_model.specs.Objects.{belongs_to, history_of}
use Rattle.bank_mail.specs.MailsView.{ObjectMails, is_of, mails_found, rows_in, room_in, rows_found, room_found, mail_in, mails_of, Represents}

-- ---- the mails of an object in the stead of those before, or after all others

-- All mails are as they were, but for those of one object.
abbrev pub IsNow : ObjectId → ObjectMails → List ObjectMails → List ObjectMails → Type 0
IsNow object one old new = (other : ObjectId) → mails_found other new ≡ cond (eqb object.0 other.0) (Some one) (mails_found other old)

found_of : (object : ObjectId) (one : ObjectMails) (mails : List ObjectMails) → mails_found object mails ≡ Some one → one.object.0 ≡ object.0
found_of object one [] found = cc
found_of object one (m ∷ mails) found = (elim (eqb m.object.0 object.0) as (λ b. eqb m.object.0 object.0 ≡ b → cond b (Some m) (mails_found object mails) ≡ Some one → one.object.0 ≡ object.0) [
  | true ↦ (λ e is. let same : m ≡ one = cc in ap (λ (o : ObjectMails). o.object.0) (sym same) ∙ eqb-true m.object.0 object.0 e)
  | false ↦ (λ e is. found_of object one mails is)
]) refl found

-- where the mails of an object stand
pub record IsAt (object : ObjectId) (at : ℕ) (one : ObjectMails) (mails : List ObjectMails) : Type 0 where
  pub index : at ≡ position_or_len (is_of object) mails
  pub within : at < length mails
  pub found : mails_found object mails ≡ Some one
  pub element : get_or mails at one ≡ one

pub is_at : (object : ObjectId) (at : ℕ) (one : ObjectMails) (mails seen : List ObjectMails) (where_is : Option ℕ) → where_is ≡ position (is_of object) seen → seen ≡ mails → where_is ≡ Some at → one ≡ get_or mails at one → IsAt object at one mails
is_at object at one mails seen where_is looked same is element =
    let located : position (is_of object) mails ≡ Some at = sym (looked ∙ ap (position (is_of object)) same) ∙ is in
    let facts = position-Some (is_of object) mails at one located in
    let index : at ≡ position_or_len (is_of object) mails = first (nat_lt (position_or_len (is_of object) mails) (length mails)) (position_or_len (is_of object) mails) located in
    record {
      index = index;
      within = facts.0;
      found = find_at (is_of object) mails ∙ ap (slice_get mails) (sym index) ∙ slice_get-get_or mails at one facts.0 ∙ ap (λ (o : ObjectMails). Some o) (sym element);
      element = sym element;
    }
  where
    first : (b : Bool) (n : ℕ) → cond b (Some n) None ≡ Some at → at ≡ n
    first true n is = cc
    first false n is = cc

now_set : (object : ObjectId) (at : ℕ) (one new : ObjectMails) (mails : List ObjectMails) → IsAt object at one mails → new.object ≡ one.object → IsNow object new mails (set mails at new)
now_set object at one new mails there same other = named (eqb object.0 other.0) refl
  where
    own : one.object.0 ≡ object.0
    own = found_of object one mails there.found

    new_own : new.object.0 ≡ object.0
    new_own = ap (λ (o : ObjectId). o.0) same ∙ own

    named : (b : Bool) → eqb object.0 other.0 ≡ b → mails_found other (set mails at new) ≡ cond b (Some new) (mails_found other mails)
    named true e =
        let here : object ≡ other = ap (λ (n : ℕ). let o : ObjectId = record { 0 = n } in o) (eqb-true object.0 other.0 e) in
        subst (λ (o : ObjectId). mails_found o (set mails at new) ≡ Some new) here (find-set (is_of object) mails at new there.index there.within (eq-eqb new.object.0 object.0 new_own))
    named false e = find_past (is_of other) mails at new one (ap (λ (o : ObjectMails). eqb o.object.0 other.0) there.element ∙ ap (λ n. eqb n other.0) own ∙ e) (ap (λ n. eqb n other.0) new_own ∙ e)

pub none_found : (object : ObjectId) (mails seen : List ObjectMails) (where_is : Option ℕ) → where_is ≡ position (is_of object) seen → seen ≡ mails → where_is ≡ None → mails_found object mails ≡ None
none_found object mails seen where_is looked same is =
    let none : position (is_of object) mails ≡ None = sym (looked ∙ ap (position (is_of object)) same) ∙ is in
    find_at (is_of object) mails ∙ slice_get_past mails (position_or_len (is_of object) mails) (past (nat_lt (position_or_len (is_of object) mails) (length mails)) refl none)
  where
    past : (b : Bool) → nat_lt (position_or_len (is_of object) mails) (length mails) ≡ b → cond b (Some (position_or_len (is_of object) mails)) None ≡ None → length mails ≤ position_or_len (is_of object) mails
    past true e is = cc
    past false e is = ltb-false (position_or_len (is_of object) mails) (length mails) e

now_pushed : (object : ObjectId) (new : ObjectMails) (mails : List ObjectMails) → mails_found object mails ≡ None → new.object ≡ object → IsNow object new mails (mails ++ new ∷ [])
now_pushed object new mails none same other =
    find-append (is_of other) mails (new ∷ [])
    ∙ ap (λ (o : ObjectId). option_or (mails_found other mails) (cond (eqb o.0 other.0) (Some new) None)) same
    ∙ named (eqb object.0 other.0) refl
  where
    alone : (found : Option ObjectMails) → option_or found None ≡ found
    alone None = refl
    alone (Some one) = refl

    named : (b : Bool) → eqb object.0 other.0 ≡ b → option_or (mails_found other mails) (cond b (Some new) None) ≡ cond b (Some new) (mails_found other mails)
    named true e =
        let here : object ≡ other = ap (λ (n : ℕ). let o : ObjectId = record { 0 = n } in o) (eqb-true object.0 other.0 e) in
        ap (λ found. option_or found (Some new)) (subst (λ (o : ObjectId). mails_found o mails ≡ None) here none)
    named false e = alone (mails_found other mails)

-- ---- rows and room

-- What the mails of one object have now says what each object has.
rows_now : (object : ObjectId) (one : ObjectMails) (old new : List ObjectMails) → IsNow object one old new → (other : ObjectId) → rows_found other new ≡ cond (eqb object.0 other.0) one.rows (rows_found other old)
rows_now object one old new now other = ap rows_in (now other) ∙ elim (eqb object.0 other.0) as (λ b. rows_in (cond b (Some one) (mails_found other old)) ≡ cond b one.rows (rows_found other old)) [
  | true ↦ refl
  | false ↦ refl
]

-- Where an object has the rows that it had, each has.
kept_rows : (object : ObjectId) (rows : List MailRow) (old : List ObjectMails) → rows ≡ rows_found object old → (other : ObjectId) → cond (eqb object.0 other.0) rows (rows_found other old) ≡ rows_found other old
kept_rows object rows old same other = named (eqb object.0 other.0) refl
  where
    named : (b : Bool) → eqb object.0 other.0 ≡ b → cond b rows (rows_found other old) ≡ rows_found other old
    named true e =
        let here : object ≡ other = ap (λ (n : ℕ). let o : ObjectId = record { 0 = n } in o) (eqb-true object.0 other.0 e) in
        same ∙ ap (λ (o : ObjectId). rows_found o old) here
    named false e = refl

-- Where an object has so much less room at most, each has.
less_room : (object : ObjectId) (one : ObjectMails) (less : ℕ) (old new : List ObjectMails) → IsNow object one old new → room_found object old ≤ one.room + less → (other : ObjectId) → room_found other old ≤ room_found other new + cond (eqb object.0 other.0) less 0
less_room object one less old new now most other = subst (λ (found : Option ObjectMails). room_found other old ≤ room_in found + cond (eqb object.0 other.0) less 0) (sym (now other)) (named (eqb object.0 other.0) refl)
  where
    named : (b : Bool) → eqb object.0 other.0 ≡ b → room_found other old ≤ room_in (cond b (Some one) (mails_found other old)) + cond b less 0
    named true e =
        let here : object ≡ other = ap (λ (n : ℕ). let o : ObjectId = record { 0 = n } in o) (eqb-true object.0 other.0 e) in
        subst (λ (o : ObjectId). room_found o old ≤ one.room + less) here most
    named false e = omega arith

room_now : (object : ObjectId) (one : ObjectMails) (old new : List ObjectMails) → IsNow object one old new → room_found object new ≡ one.room
room_now object one old new now = ap room_in (now object ∙ ap (λ b. cond b (Some one) (mails_found object old)) (eq-eqb object.0 object.0 refl))

pub rows_at : (object : ObjectId) (at : ℕ) (one : ObjectMails) (mails : List ObjectMails) → IsAt object at one mails → rows_found object mails ≡ one.rows
rows_at object at one mails there = ap rows_in there.found

pub room_at : (object : ObjectId) (at : ℕ) (one : ObjectMails) (mails : List ObjectMails) → IsAt object at one mails → room_found object mails ≡ one.room
room_at object at one mails there = ap room_in there.found

-- what making room does
pub record HasRoomFor (object : ObjectId) (old new : List ObjectMails) (room : ℕ) : Type 0 where
  pub rows : (other : ObjectId) → rows_found other new ≡ rows_found other old
  pub room_stays : (other : ObjectId) → room_found other old ≤ room_found other new
  pub here : room_found object new ≡ room

no_less : (n m : ℕ) (b : Bool) → n ≤ m + cond b 0 0 → n ≤ m
no_less n m true h = omega arith
no_less n m false h = omega arith

pub roomier_set : (object : ObjectId) (at : ℕ) (one new : ObjectMails) (mails : List ObjectMails) → IsAt object at one mails → new.object ≡ one.object → new.rows ≡ one.rows → one.room ≤ new.room → HasRoomFor object mails (set mails at new) new.room
roomier_set object at one new mails there same rows more =
    let now = now_set object at one new mails there same in
    record {
      rows = λ other. rows_now object new mails (set mails at new) now other ∙ kept_rows object new.rows mails (rows ∙ sym (rows_at object at one mails there)) other;
      room_stays = λ other. no_less _ _ (eqb object.0 other.0) (less_room object new 0 mails (set mails at new) now (let e = room_at object at one mails there in omega arith) other);
      here = room_now object new mails (set mails at new) now;
    }

pub roomier_pushed : (object : ObjectId) (new : ObjectMails) (mails : List ObjectMails) → mails_found object mails ≡ None → new.object ≡ object → new.rows ≡ [] → HasRoomFor object mails (mails ++ new ∷ []) new.room
roomier_pushed object new mails none same rows =
    let now = now_pushed object new mails none same in
    record {
      rows = λ other. rows_now object new mails (mails ++ new ∷ []) now other ∙ kept_rows object new.rows mails (rows ∙ sym (ap rows_in none)) other;
      room_stays = λ other. no_less _ _ (eqb object.0 other.0) (less_room object new 0 mails (mails ++ new ∷ []) now (let e : room_found object mails ≡ 0 = ap room_in none in omega arith) other);
      here = room_now object new mails (mails ++ new ∷ []) now;
    }

-- what one mail more does
pub record HasMailMore (object : ObjectId) (row : MailRow) (old new : List ObjectMails) : Type 0 where
  pub rows : (other : ObjectId) → rows_found other new ≡ cond (eqb object.0 other.0) (rows_found object old ++ row ∷ []) (rows_found other old)
  pub room : (other : ObjectId) → room_found other old ≤ room_found other new + cond (eqb object.0 other.0) 1 0

pub mail_set : (object : ObjectId) (at : ℕ) (one new : ObjectMails) (row : MailRow) (mails : List ObjectMails) → IsAt object at one mails → new.object ≡ one.object → new.rows ≡ one.rows ++ row ∷ [] → one.room ≤ new.room + 1 → HasMailMore object row mails (set mails at new)
mail_set object at one new row mails there same rows most =
    let now = now_set object at one new mails there same in
    record {
      rows = λ other. rows_now object new mails (set mails at new) now other ∙ ap (λ (held : List MailRow). cond (eqb object.0 other.0) held (rows_found other mails)) (rows ∙ ap (λ (held : List MailRow). held ++ row ∷ []) (sym (rows_at object at one mails there)));
      room = less_room object new 1 mails (set mails at new) now (let e = room_at object at one mails there in omega arith);
    }

-- ---- one entry more

mails_of-push : (object : ObjectId) (entries : List Entry) (entry : Entry) → mails_of object (entries ++ entry ∷ []) ≡ cond (eqb entry.object.0 object.0) (mails_of object entries ++ mail_in entry.change) (mails_of object entries)
unfolding mails_of history_of
mails_of-push object entries entry =
    ap (flat_map (λ (e : Entry). mail_in e.change)) (filter-append (belongs_to object) entries (entry ∷ []))
    ∙ flat_map-append (λ (e : Entry). mail_in e.change) (filter (belongs_to object) entries) (filter (belongs_to object) (entry ∷ []))
    ∙ elim (eqb entry.object.0 object.0) as (λ b. flat_map (λ (e : Entry). mail_in e.change) (filter (belongs_to object) entries) ++ flat_map (λ (e : Entry). mail_in e.change) (cond b (entry ∷ []) []) ≡ cond b (flat_map (λ (e : Entry). mail_in e.change) (filter (belongs_to object) entries) ++ mail_in entry.change) (flat_map (λ (e : Entry). mail_in e.change) (filter (belongs_to object) entries))) [
      | true ↦ ap (λ more. flat_map (λ (e : Entry). mail_in e.change) (filter (belongs_to object) entries) ++ more) (append-nil (mail_in entry.change))
      | false ↦ append-nil (flat_map (λ (e : Entry). mail_in e.change) (filter (belongs_to object) entries))
    ]

pub holds_with : (object : ObjectId) (row : MailRow) (old new : List ObjectMails) (entries : List Entry) (entry : Entry) → HasMailMore object row old new → Represents old entries → entry.object ≡ object → entry.change ≡ NewMail row → Represents new (entries ++ entry ∷ [])
holds_with object row old new entries entry more holds is_object is_mail other =
    more.rows other
    ∙ ap (λ (held : List MailRow). cond (eqb object.0 other.0) (held ++ row ∷ []) (rows_found other old)) (holds object)
    ∙ ap (λ (held : List MailRow). cond (eqb object.0 other.0) (mails_of object entries ++ row ∷ []) held) (holds other)
    ∙ named (eqb object.0 other.0) refl
    ∙ sym (mails_of-push other entries entry ∙ ap (λ (o : ObjectId). cond (eqb o.0 other.0) (mails_of other entries ++ mail_in entry.change) (mails_of other entries)) is_object)
  where
    named : (b : Bool) → eqb object.0 other.0 ≡ b → cond b (mails_of object entries ++ row ∷ []) (mails_of other entries) ≡ cond b (mails_of other entries ++ mail_in entry.change) (mails_of other entries)
    named true e =
        let here : object ≡ other = ap (λ (n : ℕ). let o : ObjectId = record { 0 = n } in o) (eqb-true object.0 other.0 e) in
        ap (λ (o : ObjectId). mails_of o entries ++ row ∷ []) here ∙ ap (λ (change : Change). mails_of other entries ++ mail_in change) (sym is_mail)
    named false e = refl

pub holds_still : (mails : List ObjectMails) (entries : List Entry) (entry : Entry) → Represents mails entries → mail_in entry.change ≡ [] → Represents mails (entries ++ entry ∷ [])
holds_still mails entries entry holds none other =
    holds other
    ∙ sym (mails_of-push other entries entry
    ∙ ap (λ more. cond (eqb entry.object.0 other.0) (mails_of other entries ++ more) (mails_of other entries)) none
    ∙ ap (λ held. cond (eqb entry.object.0 other.0) held (mails_of other entries)) (append-nil (mails_of other entries))
    ∙ both (eqb entry.object.0 other.0))
  where
    both : (b : Bool) → cond b (mails_of other entries) (mails_of other entries) ≡ mails_of other entries
    both true = refl
    both false = refl
