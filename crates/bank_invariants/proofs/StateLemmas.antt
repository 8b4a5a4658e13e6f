-- An event keeps the bank's state sound.
use Rattle.std.proofs.Common.{◌≡◌, ℕ, ◌+◌, ◌≤◌, Bool, true, false, not, cond, eqb, List, [], ◌∷◌, ◌++◌, length, append_assoc, codes, Option, None, Some, refl, sym, ap, ◌∙◌, subst, arith}
use Rattle.std.specs.List.{AllByRecursion, find}
use Rattle.std.specs.Option.{option_map}
use Rattle.std.proofs.lemmas.Bool.{eqb-true, eq-eqb, ltb-false}
use Rattle.std.proofs.lemmas.List.{append-nil}
use Rattle.ofx_types.specs.Calendar.{IsMoment, IsDay, day_of}
use Rattle.ofx_types.specs.declared.number.AcctId.{AcctId}
use Rattle.ofx_types.specs.declared.number.UserId.{UserId}
use Rattle.ofx_types.specs.declared.number.Moment.{Moment}
use Rattle.ofx_types.specs.declared.transfer.Deed.{Deed}
use Rattle.ofx_types.specs.SyncForm.{object_family}
use Rattle.ofx_types.specs.declared.transfer.Family.{Family}
use Rattle.ofx_types.specs.declared.request.Ask.{Ask}
use Rattle.ofx_types.specs.declared.request.Ask.TheVariants.{Statement, One, Sync}
use Rattle.bank_model.specs.declared.once.KeptReply.{KeptReply}
use Rattle.bank_model.specs.declared.setup.Setup.{Setup}
use Rattle.bank_model.specs.declared.event.State.{State}
use Rattle.bank_model.specs.declared.event.Event.{Event}
use Rattle.bank_model.specs.declared.event.Event.TheVariants.{File, Post, Spawn, Letter}
use Rattle.bank_model.specs.SetupForm.{IsWithinLimits}
use Rattle.bank_model.specs.Once.{is_used, is_named, reply_kept, released}
use Rattle.bank_model.specs.Deeds.{judged, done, is_full, unless_full, code_of, mail_object, answer_with, deed_answer}
use Rattle.bank_model.specs.declared.entry.Entry.{Entry}
use Rattle.bank_model.specs.Ledger.{row_of}
use Rattle.bank_model.specs.Due.{has_number, may_post, posts, may_spawn, spawns}
use Rattle.bank_model.specs.Rules.{with_entries, raised, ask_answer, ask_answers, release, keep, kept_for, letter, letter_entry, state_after, IsLegal}
use Rattle.bank_model.specs.Sound.{IsSoundDeed, IsSoundPair, IsSoundAsk}
use Rattle.once_records.specs.RecordsView.{UsedOnce, KeptOnce}
use Rattle.once_records.proofs.OnceLemmas.{UsedOnce-push, KeptOnce-push, KeptOnce-released}
use Rattle.bank_invariants.specs.SoundStates.{IsSoundState}
use Rattle.bank_invariants.proofs.RowLemmas.{IsDay-of_moment, IsDay-max}
use Rattle.bank_invariants.specs.Next.{IsNext, AreNext, ExtendsTo}
use Rattle.bank_invariants.specs.Stages.{Stage, after_stage, MayCome, Leads, IsKnownDeed, IsKnownAsk, IsKnownEvent, IsSoundStage}
use Rattle.bank_invariants.specs.Stages as stages
use Rattle.bank_invariants.proofs.StageLemmas.{Lasts, lasts, leads_ask, leads_asks, leads_step}
use Rattle.bank_invariants.proofs.SoundStateLemmas.{sound_all}
use Rattle.bank_invariants.proofs.NextLemmas.{mail_next}
use Rattle.bank_invariants.proofs.DoneLemmas.{deed_done, all_next}
use Rattle.bank_invariants.proofs.EventLemmas.{few_number, to_post, post_entry, post_next, post_entries, to_spawn, spawn_entry, spawn_next, spawn_entries, date_known}

-- ---- the code of a deed

full_code : (full : Bool) (code : ℕ) (zero : Bool) → eqb code 0 ≡ zero → cond zero (cond full 2000 0) code ≡ 0 → (code ≡ 0) × (full ≡ false)
full_code true code true is none = absurd (omega (arith, none))
full_code false code true is none = (eqb-true code 0 is, refl)
full_code full code false is none = let same : eqb code 0 ≡ true = eq-eqb code 0 none in cc

code_parts : (used full : Bool) (code : ℕ) → cond used 2019 (unless_full full code) ≡ 0 → (used ≡ false) × (code ≡ 0) × (full ≡ false)
code_parts true full code none = absurd (omega (arith, none))
code_parts false full code none = let parts = full_code full code (eqb code 0) refl none in (refl, parts.0, parts.1)

-- a deed with code 0 is judged so, and its entries aren't too many
pub record IsAllowed (setup : Setup) (S : State) (user : UserId) (only : Option AcctId) (at : Moment) (trnuid : List ℕ) (deed : Deed) : Type 0 where
  pub unused : is_used user trnuid S.used ≡ false
  pub judged : judged setup S user only deed ≡ 0
  pub few : length S.entries + length (done setup S user at trnuid deed) ≤ setup.entries

pub IsAllowed-from_code : (setup : Setup) (S : State) (user : UserId) (only : Option AcctId) (at : Moment) (trnuid : List ℕ) (deed : Deed) → code_of setup S user only at trnuid deed ≡ 0 → IsAllowed setup S user only at trnuid deed
unfolding code_of
IsAllowed-from_code setup S user only at trnuid deed none =
    let count : ℕ = length S.entries + length (done setup S user at trnuid deed) in
    let parts = code_parts (is_used user trnuid S.used) (is_full setup count) (judged setup S user only deed) none in
    record {
      unused = parts.0;
      judged = parts.1;
      few = ltb-false setup.entries count parts.2;
    }

unused_code : (used : Bool) (code : ℕ) → eqb (cond used 2019 code) 2019 ≡ false → used ≡ false
unused_code true code other = cc
unused_code false code other = refl

-- a deed whose code isn't 2019 has a new uid
pub unused-from_code : (setup : Setup) (S : State) (user : UserId) (only : Option AcctId) (at : Moment) (trnuid : List ℕ) (deed : Deed) → eqb (code_of setup S user only at trnuid deed) 2019 ≡ false → is_used user trnuid S.used ≡ false
unfolding code_of
unused-from_code setup S user only at trnuid deed other = unused_code (is_used user trnuid S.used) _ other

-- ---- a state with further entries

-- The same history is sound in another state whose uids, kept replies and business day are.
sound_as : (setup : Setup) (S T : State) → T.entries ≡ S.entries → IsSoundState setup S → UsedOnce T.used → KeptOnce T.kept → IsDay T.day.0 → IsSoundState setup T
sound_as setup S T is sound once kept day =
    subst (λ (entries : List Entry). IsSoundState setup (record T { entries = entries })) (sym is) (record {
      numbered = sound.numbered;
      few = sound.few;
      rows = sound.rows;
      models = sound.models;
      made = sound.made;
      reported = sound.reported;
      lawful = sound.lawful;
      sources = sound.sources;
      occurrences = sound.occurrences;
      covered = sound.covered;
      used = once;
      kept = kept;
      day = day;
    })

extended : (setup : Setup) (S T : State) (added : List Entry) → T.entries ≡ S.entries ++ added → AreNext setup S added → length S.entries + length added ≤ setup.entries → IsSoundState setup S → UsedOnce T.used → KeptOnce T.kept → IsDay T.day.0 → ExtendsTo setup S T
extended setup S T added are next few sound once kept day = record {
  added = added;
  entries = are;
  next = next;
  sound = sound_as setup (with_entries S added) T are (sound_all setup S added sound next few) once kept day;
}

unextended : (setup : Setup) (S T : State) → T.entries ≡ S.entries → IsSoundState setup S → UsedOnce T.used → KeptOnce T.kept → IsDay T.day.0 → ExtendsTo setup S T
unextended setup S T is sound once kept day = record {
  added = [];
  entries = is ∙ sym (append-nil S.entries);
  next = tt;
  sound = sound_as setup S T is sound once kept day;
}

pub extends_same : (setup : Setup) (S : State) → IsSoundState setup S → ExtendsTo setup S S
extends_same setup S sound = unextended setup S S refl sound sound.used sound.kept sound.day

-- What may come next after a history doesn't depend on uids, kept replies and the day.
next_as : (setup : Setup) (S T : State) (entry : Entry) → T.entries ≡ S.entries → IsNext setup S entry → IsNext setup T entry
next_as setup S T entry is next =
    subst (λ (entries : List Entry). IsNext setup (record T { entries = entries }) entry) (sym is) (record {
      number = next.number;
      sound = next.sound;
      sound_model = next.sound_model;
      made = next.made;
      reported = next.reported;
      lawful = next.lawful;
      covered = next.covered;
    })

all_next_as : (setup : Setup) (S T : State) (entries : List Entry) → T.entries ≡ S.entries → AreNext setup S entries → AreNext setup T entries
all_next_as setup S T [] is next = tt
all_next_as setup S T (entry ∷ more) is next =
    (next_as setup S T entry is next.0, all_next_as setup (with_entries S (entry ∷ [])) (with_entries T (entry ∷ [])) more (ap (λ (l : List Entry). l ++ entry ∷ []) is) next.1)

both_next : (setup : Setup) (S : State) (first last : List Entry) → AreNext setup S first → AreNext setup (with_entries S first) last → AreNext setup S (first ++ last)
both_next setup S [] last one two = all_next_as setup (with_entries S []) S last (sym (append-nil S.entries)) two
both_next setup S (entry ∷ first) last one two = (
  one.0,
  both_next setup (with_entries S (entry ∷ [])) first last one.1
      (all_next_as setup (with_entries S (entry ∷ first)) (with_entries (with_entries S (entry ∷ [])) first) last (append_assoc S.entries (entry ∷ []) first) two),
)

pub extends_on : (setup : Setup) (S T U : State) → ExtendsTo setup S T → ExtendsTo setup T U → ExtendsTo setup S U
extends_on setup S T U first last = record {
  added = first.added ++ last.added;
  entries = last.entries ∙ ap (λ (l : List Entry). l ++ last.added) first.entries ∙ append_assoc S.entries first.added last.added;
  next = both_next setup S first.added last.added first.next (all_next_as setup T (with_entries S first.added) last.added (sym first.entries) last.next);
  sound = last.sound;
}

-- ---- a deed

used_once : (S : State) (user : UserId) (trnuid : List ℕ) (code : ℕ) (again : Bool) → eqb code 2019 ≡ again → (eqb code 2019 ≡ false → is_used user trnuid S.used ≡ false) → UsedOnce S.used → UsedOnce (cond again S.used (S.used ++ record { user = user; trnuid = trnuid } ∷ []))
used_once S user trnuid code true is unused once = once
used_once S user trnuid code false is unused once = UsedOnce-push S.used (record { user = user; trnuid = trnuid }) once (unused is)

deed_extends : (setup : Setup) (S T : State) (user : UserId) (only : Option AcctId) (at : Moment) (trnuid : List ℕ) (deed : Deed) (zero : Bool) → eqb (code_of setup S user only at trnuid deed) 0 ≡ zero → T.entries ≡ S.entries ++ cond zero (done setup S user at trnuid deed) [] → UsedOnce T.used → KeptOnce T.kept → IsDay T.day.0 → IsWithinLimits setup → IsSoundState setup S → IsMoment at.0 → IsSoundDeed deed → ExtendsTo setup S T
deed_extends setup S T user only at trnuid deed true is are once kept day within sound moment known =
    let allowed = IsAllowed-from_code setup S user only at trnuid deed (eqb-true (code_of setup S user only at trnuid deed) 0 is) in
    extended setup S T (done setup S user at trnuid deed) are
    (all_next setup S (done setup S user at trnuid deed) (deed_done setup S user only at trnuid deed within sound moment known allowed.judged allowed.few))
    allowed.few sound once kept day
deed_extends setup S T user only at trnuid deed false is are once kept day within sound moment known =
    unextended setup S T (are ∙ append-nil S.entries) sound once kept day

extends-deed : (setup : Setup) (S : State) (user : UserId) (only : Option AcctId) (at : Moment) (trnuid : List ℕ) (deed : Deed) → IsWithinLimits setup → IsSoundState setup S → IsMoment at.0 → IsSoundDeed deed → ExtendsTo setup S (deed_answer setup S user only at trnuid deed).after
unfolding deed_answer
extends-deed setup S user only at trnuid deed within sound moment known =
    let code : ℕ = code_of setup S user only at trnuid deed in
    deed_extends setup S (answer_with setup S user at trnuid deed code).after user only at trnuid deed (eqb code 0) refl refl
    (used_once S user trnuid code (eqb code 2019) refl (unused-from_code setup S user only at trnuid deed) sound.used)
    sound.kept sound.day within sound moment known

-- ---- kept replies

release_once : (user : UserId) (older : Option (List ℕ)) (kept : List KeptReply) → KeptOnce kept → KeptOnce (release user older kept)
release_once user None kept once = once
release_once user (Some older) kept once = KeptOnce-released user older kept once

absent_rest : (user other : UserId) (file older : List ℕ) (kept : List KeptReply) → reply_kept user file kept ≡ None → reply_kept user file (released other older kept) ≡ None
absent_rest user other file older [] absent = refl
absent_rest user other file older (reply ∷ kept) absent =
    (elim (is_named user file reply) as (λ b. option_map (λ (r : KeptReply). r.reply) (cond b (Some reply) (find (is_named user file) kept)) ≡ None → is_named user file reply ≡ b → reply_kept user file (cond (not (is_named other older reply)) (reply ∷ released other older kept) (released other older kept)) ≡ None) [
      | true ↦ (λ found is. absurd cc)
      | false ↦ (λ rest is. dropped is (absent_rest user other file older kept rest) (not (is_named other older reply)))
    ]) absent refl
  where
    dropped : is_named user file reply ≡ false → reply_kept user file (released other older kept) ≡ None → (stays : Bool) → reply_kept user file (cond stays (reply ∷ released other older kept) (released other older kept)) ≡ None
    dropped is rest true = rw is rest
    dropped is rest false = rest

-- a file that has no reply has none after a release
pub absent-release : (user other : UserId) (file : List ℕ) (older : Option (List ℕ)) (kept : List KeptReply) → reply_kept user file kept ≡ None → reply_kept user file (release other older kept) ≡ None
absent-release user other file None kept absent = absent
absent-release user other file (Some older) kept absent = absent_rest user other file older kept absent

abbrev kept_name : UserId → Option (List ℕ) → List KeptReply → Option (List ℕ)
kept_name user None kept = None
kept_name user (Some newer) kept = reply_kept user newer kept

keep_once : (user : UserId) (older newer : Option (List ℕ)) (reply : List ℕ) (kept : List KeptReply) → KeptOnce kept → kept_name user newer kept ≡ None → KeptOnce (keep user newer reply (release user older kept))
keep_once user older None reply kept once absent = release_once user older kept once
keep_once user older (Some newer) reply kept once absent =
    KeptOnce-push (release user older kept) (record { user = user; file = newer; reply = reply }) (release_once user older kept once) (absent-release user user newer older kept absent)

kept_name-is : (S : State) (user : UserId) (newer : Option (List ℕ)) → kept_name user newer S.kept ≡ kept_for S user newer
kept_name-is S user None = refl
kept_name-is S user (Some newer) = refl

-- ---- what the bank does by itself

one_extends : (setup : Setup) (S : State) (entries : List Entry) (entry : Entry) → entries ≡ entry ∷ [] → IsSoundState setup S → IsNext setup S entry → length S.entries + 1 ≤ setup.entries → ExtendsTo setup S (with_entries S entries)
one_extends setup S entries entry are sound next few =
    extended setup S (with_entries S entries) (entry ∷ []) (ap (λ (l : List Entry). S.entries ++ l) are) (next, tt) few sound sound.used sound.kept sound.day

post_extends : (setup : Setup) (S : State) (at : Moment) (id : ℕ) → IsWithinLimits setup → IsSoundState setup S → IsMoment at.0 → may_post setup S (row_of id S.entries) ≡ true → ExtendsTo setup S (with_entries S (posts setup S at (row_of id S.entries)))
post_extends setup S at id within sound moment may =
    let to = to_post setup S id sound may in
    one_extends setup S _ (post_entry setup S at to.row) (post_entries setup S at id to.row to.found) sound (post_next setup S id at within sound moment to) (few_number setup S to.number)

spawn_extends : (setup : Setup) (S : State) (id occurrence : ℕ) → IsSoundState setup S → may_spawn setup S id occurrence ≡ true → ExtendsTo setup S (with_entries S (spawns setup S id occurrence))
spawn_extends setup S id occurrence sound may =
    let to = to_spawn setup S id occurrence sound may in
    one_extends setup S _ (spawn_entry setup S to.date to.row) (spawn_entries setup S id occurrence to) sound (spawn_next setup S id occurrence sound to (date_known to.row to.date occurrence to.sound.first to.has_date)) (few_number setup S to.number)

letter_extends : (setup : Setup) (S : State) (user : UserId) (at : Moment) (subject body : List ℕ) → IsSoundState setup S → IsMoment at.0 → has_number setup S ≡ true → ExtendsTo setup S (with_entries S (letter_entry setup S user at subject body ∷ []))
letter_extends setup S user at subject body sound moment number =
    one_extends setup S _ (letter_entry setup S user at subject body) refl sound (mail_next setup S (mail_object setup user) (codes "0") (letter setup user at subject body) sound moment) (few_number setup S number)

-- ---- each stage, and the steps that are made of them

-- Each stage adds entries that may come, and keeps the state sound.
pub stage_extends : (setup : Setup) (S : State) (stage : Stage) → IsWithinLimits setup → MayCome setup S stage → IsSoundStage stage → IsSoundState setup S → ExtendsTo setup S (after_stage setup S stage)
stage_extends setup S (stages.day at) within may known sound =
    unextended setup S (raised S at) refl sound sound.used sound.kept (IsDay-max S.day.0 (day_of at.0) sound.day (IsDay-of_moment at.0 known))
stage_extends setup S (stages.deed user only at trnuid what) within may known sound = extends-deed setup S user only at trnuid what within sound known.0 known.1
stage_extends setup S (stages.names user older newer reply) within may known sound =
    unextended setup S _ refl sound sound.used (keep_once user older newer reply S.kept sound.kept (kept_name-is S user newer ∙ may)) sound.day
stage_extends setup S (stages.post at id) within may known sound = post_extends setup S at id within sound known may
stage_extends setup S (stages.spawn id occurrence) within may known sound = spawn_extends setup S id occurrence sound may
stage_extends setup S (stages.letter user at subject body) within may known sound = letter_extends setup S user at subject body sound known may

extends_lasts : (setup : Setup) (S : State) → IsWithinLimits setup → Lasts setup IsSoundStage (ExtendsTo setup S)
extends_lasts setup S within T stage may known extends = extends_on setup S T (after_stage setup T stage) extends (stage_extends setup T stage within may known extends.sound)

-- Wherever sound stages lead, the history has grown by entries that may come, and the state is sound.
pub extends_to : (setup : Setup) (S T : State) → IsWithinLimits setup → IsSoundState setup S → Leads setup IsSoundStage S T → ExtendsTo setup S T
extends_to setup S T within sound leads =
    lasts setup IsSoundStage (ExtendsTo setup S) S T (extends_lasts setup S within) leads (extends_same setup S sound)

-- ---- what is asked is made of sound stages

sound_deeds : (family : Family) (user : UserId) (at : Moment) (deeds : List (List ℕ × Deed)) → IsMoment at.0 → AllByRecursion (IsSoundPair family) deeds → AllByRecursion (IsKnownDeed IsSoundStage user at) deeds
sound_deeds family user at [] moment known = tt
sound_deeds family user at (deed ∷ deeds) moment known = (λ only. (moment, known.0.1), sound_deeds family user at deeds moment known.1)

pub sound_ask : (user : UserId) (at : Moment) (ask : Ask) → IsMoment at.0 → IsSoundAsk ask → IsKnownAsk IsSoundStage user at ask
sound_ask user at (Statement trnuid name period) moment known = tt
sound_ask user at (One trnuid deed) moment known = λ only. (moment, known.1)
sound_ask user at (Sync ask) moment known = sound_deeds (object_family ask.object) user at ask.deeds moment known.deeds

pub sound_asks : (user : UserId) (at : Moment) (asks : List Ask) → IsMoment at.0 → AllByRecursion IsSoundAsk asks → AllByRecursion (IsKnownAsk IsSoundStage user at) asks
sound_asks user at [] moment known = tt
sound_asks user at (ask ∷ asks) moment known = (sound_ask user at ask moment known.0, sound_asks user at asks moment known.1)

pub sound_event : (setup : Setup) (S : State) (at : Moment) (event : Event) → IsMoment at.0 → IsLegal setup S at event → IsKnownEvent IsSoundStage at event
sound_event setup S at (File user file) moment legal = (moment, sound_asks user at file.asks moment legal.1.asks, λ reply. tt)
sound_event setup S at (Post id) moment legal = (moment, moment)
sound_event setup S at (Spawn id occurrence) moment legal = (moment, tt)
sound_event setup S at (Letter user subject body) moment legal = (moment, moment)

-- ---- steps

-- Each step adds entries that may come, and keeps the state sound.
pub extends-step : (setup : Setup) (S : State) (at : Moment) (event : Event) → IsWithinLimits setup → IsSoundState setup S → IsMoment at.0 → IsLegal setup S at event → ExtendsTo setup S (state_after setup S at event)
extends-step setup S at event within sound moment legal =
    extends_to setup S (state_after setup S at event) within sound (leads_step setup IsSoundStage S at event legal (sound_event setup S at event moment legal))

pub extends-ask : (setup : Setup) (S : State) (user : UserId) (at : Moment) (ask : Ask) → IsWithinLimits setup → IsSoundState setup S → IsMoment at.0 → IsSoundAsk ask → ExtendsTo setup S (ask_answer setup S user at ask).after
extends-ask setup S user at ask within sound moment known =
    extends_to setup S (ask_answer setup S user at ask).after within sound (leads_ask setup IsSoundStage S user at ask (sound_ask user at ask moment known))

pub extends-asks : (setup : Setup) (S : State) (user : UserId) (at : Moment) (asks : List Ask) → IsWithinLimits setup → IsSoundState setup S → IsMoment at.0 → AllByRecursion IsSoundAsk asks → ExtendsTo setup S (ask_answers setup S user at asks).after
extends-asks setup S user at asks within sound moment known =
    extends_to setup S (ask_answers setup S user at asks).after within sound (leads_asks setup IsSoundStage S user at asks (sound_asks user at asks moment known))

pub IsSoundState-raised : (setup : Setup) (S : State) (at : Moment) → IsSoundState setup S → IsMoment at.0 → IsSoundState setup (raised S at)
IsSoundState-raised setup S at sound moment =
    sound_as setup S (raised S at) refl sound sound.used sound.kept (IsDay-max S.day.0 (day_of at.0) sound.day (IsDay-of_moment at.0 moment))

pub IsSoundState-deed : (setup : Setup) (S : State) (user : UserId) (only : Option AcctId) (at : Moment) (trnuid : List ℕ) (deed : Deed) → IsWithinLimits setup → IsSoundState setup S → IsMoment at.0 → IsSoundDeed deed → IsSoundState setup (deed_answer setup S user only at trnuid deed).after
IsSoundState-deed setup S user only at trnuid deed within sound moment known = (extends-deed setup S user only at trnuid deed within sound moment known).sound

pub IsSoundState-ask : (setup : Setup) (S : State) (user : UserId) (at : Moment) (ask : Ask) → IsWithinLimits setup → IsSoundState setup S → IsMoment at.0 → IsSoundAsk ask → IsSoundState setup (ask_answer setup S user at ask).after
IsSoundState-ask setup S user at ask within sound moment known = (extends-ask setup S user at ask within sound moment known).sound

pub IsSoundState-step : (setup : Setup) (S : State) (at : Moment) (event : Event) → IsWithinLimits setup → IsSoundState setup S → IsMoment at.0 → IsLegal setup S at event → IsSoundState setup (state_after setup S at event)
IsSoundState-step setup S at event within sound moment legal = (extends-step setup S at event within sound moment legal).sound
