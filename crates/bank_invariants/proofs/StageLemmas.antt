-- Each step of a bank is made of stages, and what each of its stages keeps the step keeps.
use Rattle.std.proofs.Common.{◌≡◌, ℕ, List, [], ◌∷◌, ◌++◌, Option, None, Some, refl, sym, ap, ◌∙◌, subst}
use Rattle.std.specs.List.{AllByRecursion}
use Rattle.ofx_types.specs.declared.number.AcctId.{AcctId}
use Rattle.ofx_types.specs.declared.number.Moment.{Moment}
use Rattle.ofx_types.specs.declared.number.ObjectId.{ObjectId}
use Rattle.ofx_types.specs.declared.number.UserId.{UserId}
use Rattle.ofx_types.specs.declared.transfer.Deed.{Deed}
use Rattle.ofx_types.specs.declared.sync.SyncAsk.{SyncAsk}
use Rattle.ofx_types.specs.declared.request.Ask.{Ask}
use Rattle.ofx_types.specs.declared.request.Ask.TheVariants.{Statement, One, Sync}
use Rattle.ofx_types.specs.declared.request.RequestFile.{RequestFile}
use Rattle.bank_model.specs.declared.once.KeptReply.{KeptReply}
use Rattle.bank_model.specs.declared.setup.Setup.{Setup}
use Rattle.bank_model.specs.Once.{reply_kept}
use Rattle.bank_model.specs.declared.event.State.{State}
use Rattle.bank_model.specs.declared.event.Event.{Event}
use Rattle.bank_model.specs.declared.event.Event.TheVariants.{File, Post, Spawn, Letter}
use Rattle.bank_model.specs.Deeds.{deed_answer}
use Rattle.bank_model.specs.Objects.{account_about, object_named, newest}
use Rattle.bank_model.specs.Sync.{rejection, deed_answers, deeds_or_rejection, sync_on, sync_answer}
use Rattle.bank_model.specs.Rules.{raised, ask_answer, ask_answers, kept_for, new_outcome, outcome_or_kept, file_outcome, state_after, IsLegal}
use Rattle.bank_invariants.specs.Stages.{Stage, day, deed, names, post, spawn, letter, after_stage, MayCome, after_stages, MayAllCome, Leads, IsKnownDeed, IsKnownAsk, IsKnownEvent}

-- ---- stages one after another

both_after : (setup : Setup) (S : State) (first last : List Stage) → after_stages setup S (first ++ last) ≡ after_stages setup (after_stages setup S first) last
both_after setup S [] last = refl
both_after setup S (stage ∷ first) last = both_after setup (after_stage setup S stage) first last

both_may : (setup : Setup) (S : State) (first last : List Stage) → MayAllCome setup S first → MayAllCome setup (after_stages setup S first) last → MayAllCome setup S (first ++ last)
both_may setup S [] last one two = two
both_may setup S (stage ∷ first) last one two = (one.0, both_may setup (after_stage setup S stage) first last one.1 two)

both_known : (Known : Stage → Type 0) (first last : List Stage) → AllByRecursion Known first → AllByRecursion Known last → AllByRecursion Known (first ++ last)
both_known Known [] last one two = two
both_known Known (stage ∷ first) last one two = (one.0, both_known Known first last one.1 two)

pub leads_nowhere : (setup : Setup) (Known : Stage → Type 0) (S : State) → Leads setup Known S S
leads_nowhere setup Known S = record {
  stages = [];
  may = tt;
  known = tt;
  after = refl;
}

pub leads_once : (setup : Setup) (Known : Stage → Type 0) (S : State) (stage : Stage) → MayCome setup S stage → Known stage → Leads setup Known S (after_stage setup S stage)
leads_once setup Known S stage may known = record {
  stages = stage ∷ [];
  may = (may, tt);
  known = (known, tt);
  after = refl;
}

pub leads_on : (setup : Setup) (Known : Stage → Type 0) (S T U : State) → Leads setup Known S T → Leads setup Known T U → Leads setup Known S U
leads_on setup Known S T U first last = record {
  stages = first.stages ++ last.stages;
  may = both_may setup S first.stages last.stages first.may (subst (λ (V : State). MayAllCome setup V last.stages) (sym first.after) last.may);
  known = both_known Known first.stages last.stages first.known last.known;
  after =
      both_after setup S first.stages last.stages
      ∙ subst (λ (V : State). after_stages setup V last.stages ≡ U) (sym first.after) last.after;
}

-- ---- what lasts

-- What each stage keeps.
abbrev pub Lasts : Setup → (Stage → Type 0) → (State → Type 0) → Type 0
Lasts setup Known P = (S : State) (stage : Stage) → MayCome setup S stage → Known stage → P S → P (after_stage setup S stage)

lasts_through : (setup : Setup) (Known : Stage → Type 0) (P : State → Type 0) (S : State) (stages : List Stage) → Lasts setup Known P → MayAllCome setup S stages → AllByRecursion Known stages → P S → P (after_stages setup S stages)
lasts_through setup Known P S [] step may known holds = holds
lasts_through setup Known P S (stage ∷ more) step may known holds =
    lasts_through setup Known P (after_stage setup S stage) more step may.1 known.1 (step S stage may.0 known.0 holds)

-- What each stage keeps holds wherever stages lead.
pub lasts : (setup : Setup) (Known : Stage → Type 0) (P : State → Type 0) (S T : State) → Lasts setup Known P → Leads setup Known S T → P S → P T
lasts setup Known P S T step leads holds = subst P leads.after (lasts_through setup Known P S leads.stages step leads.may leads.known holds)

-- ---- what is known of any deed of a user

abbrev pub IsKnownUser : (Stage → Type 0) → UserId → Moment → Type 0
IsKnownUser Known user at = (only : Option AcctId) (trnuid : List ℕ) (what : Deed) → Known (deed user only at trnuid what)

pub each_deed : (Known : Stage → Type 0) (user : UserId) (at : Moment) (deeds : List (List ℕ × Deed)) → IsKnownUser Known user at → AllByRecursion (IsKnownDeed Known user at) deeds
each_deed Known user at [] known = tt
each_deed Known user at (one ∷ deeds) known = (λ only. known only one.0 one.1, each_deed Known user at deeds known)

pub each_ask : (Known : Stage → Type 0) (user : UserId) (at : Moment) (ask : Ask) → IsKnownUser Known user at → IsKnownAsk Known user at ask
each_ask Known user at (Statement trnuid name period) known = tt
each_ask Known user at (One trnuid what) known = λ only. known only trnuid what
each_ask Known user at (Sync ask) known = each_deed Known user at ask.deeds known

pub each_asks : (Known : Stage → Type 0) (user : UserId) (at : Moment) (asks : List Ask) → IsKnownUser Known user at → AllByRecursion (IsKnownAsk Known user at) asks
each_asks Known user at [] known = tt
each_asks Known user at (ask ∷ asks) known = (each_ask Known user at ask known, each_asks Known user at asks known)

-- ---- deeds and synchronisations

pub leads_deeds : (setup : Setup) (Known : Stage → Type 0) (S : State) (user : UserId) (only : Option AcctId) (at : Moment) (deeds : List (List ℕ × Deed)) → AllByRecursion (IsKnownDeed Known user at) deeds → Leads setup Known S (deed_answers setup S user only at deeds).after
unfolding deed_answers
leads_deeds setup Known S user only at [] known = leads_nowhere setup Known S
leads_deeds setup Known S user only at (one ∷ deeds) known =
    let next : State = (deed_answer setup S user only at one.0 one.1).after in
    leads_on setup Known S next _ (leads_once setup Known S (deed user only at one.0 one.1) tt (known.0 only)) (leads_deeds setup Known next user only at deeds known.1)

pub leads_unless : (setup : Setup) (Known : Stage → Type 0) (S : State) (user : UserId) (at : Moment) (ask : SyncAsk) (code : Option ℕ) → AllByRecursion (IsKnownDeed Known user at) ask.deeds → Leads setup Known S (deeds_or_rejection setup S user at ask code).after
unfolding deeds_or_rejection
leads_unless setup Known S user at ask None known = leads_deeds setup Known S user (account_about setup user ask.object) at ask.deeds known
leads_unless setup Known S user at ask (Some code) known = leads_nowhere setup Known S

pub leads_sync : (setup : Setup) (Known : Stage → Type 0) (S : State) (user : UserId) (at : Moment) (ask : SyncAsk) (found : Option ObjectId) → AllByRecursion (IsKnownDeed Known user at) ask.deeds → Leads setup Known S (sync_on setup S user at ask found).after
unfolding sync_on
leads_sync setup Known S user at ask None known = leads_nowhere setup Known S
leads_sync setup Known S user at ask (Some object) known = leads_unless setup Known S user at ask (rejection ask.reject (newest object S.entries) ask.kind) known

-- ---- asks and files

pub leads_ask : (setup : Setup) (Known : Stage → Type 0) (S : State) (user : UserId) (at : Moment) (ask : Ask) → IsKnownAsk Known user at ask → Leads setup Known S (ask_answer setup S user at ask).after
unfolding ask_answer sync_answer
leads_ask setup Known S user at (Statement trnuid name period) known = leads_nowhere setup Known S
leads_ask setup Known S user at (One trnuid what) known = leads_once setup Known S (deed user None at trnuid what) tt (known None)
leads_ask setup Known S user at (Sync ask) known = leads_sync setup Known S user at ask (object_named setup user ask.object) known

pub leads_asks : (setup : Setup) (Known : Stage → Type 0) (S : State) (user : UserId) (at : Moment) (asks : List Ask) → AllByRecursion (IsKnownAsk Known user at) asks → Leads setup Known S (ask_answers setup S user at asks).after
unfolding ask_answers
leads_asks setup Known S user at [] known = leads_nowhere setup Known S
leads_asks setup Known S user at (ask ∷ asks) known =
    let next : State = (ask_answer setup S user at ask).after in
    leads_on setup Known S next _ (leads_ask setup Known S user at ask known.0) (leads_asks setup Known next user at asks known.1)

-- ---- asks keep no reply and let none go

abbrev IsDeedStage : Stage → Type 0
IsDeedStage (day at) = ⊥
IsDeedStage (deed user only at trnuid what) = Unit {0}
IsDeedStage (names user older newer reply) = ⊥
IsDeedStage (post at id) = ⊥
IsDeedStage (spawn id occurrence) = ⊥
IsDeedStage (letter user at subject body) = ⊥

kept_stage : (setup : Setup) (kept : List KeptReply) → Lasts setup IsDeedStage (λ (S : State). S.kept ≡ kept)
unfolding deed_answer
kept_stage setup kept S (day at) may known same = absurd known
kept_stage setup kept S (deed user only at trnuid what) may known same = same
kept_stage setup kept S (names user older newer reply) may known same = absurd known
kept_stage setup kept S (post at id) may known same = absurd known
kept_stage setup kept S (spawn id occurrence) may known same = absurd known
kept_stage setup kept S (letter user at subject body) may known same = absurd known

pub kept-asks : (setup : Setup) (S : State) (user : UserId) (at : Moment) (asks : List Ask) → (ask_answers setup S user at asks).after.kept ≡ S.kept
kept-asks setup S user at asks =
    lasts setup IsDeedStage (λ (T : State). T.kept ≡ S.kept) S (ask_answers setup S user at asks).after (kept_stage setup S.kept)
    (leads_asks setup IsDeedStage S user at asks (each_asks IsDeedStage user at asks (λ only trnuid what. tt))) refl

-- ---- files

kept_for-same : (S T : State) (user : UserId) (newer : Option (List ℕ)) → T.kept ≡ S.kept → kept_for S user newer ≡ None → kept_for T user newer ≡ None
kept_for-same S T user None same absent = refl
kept_for-same S T user (Some newer) same absent = ap (reply_kept user newer) same ∙ absent

leads_new : (setup : Setup) (Known : Stage → Type 0) (S : State) (user : UserId) (at : Moment) (file : RequestFile) → kept_for S user file.newer ≡ None → AllByRecursion (IsKnownAsk Known user at) file.asks → ((reply : List ℕ) → Known (names user file.older file.newer reply)) → Leads setup Known S (new_outcome setup S user at file).after
unfolding new_outcome
leads_new setup Known S user at file absent known named =
    let answered : State = (ask_answers setup S user at file.asks).after in
    leads_on setup Known S answered _ (leads_asks setup Known S user at file.asks known)
    (leads_once setup Known answered (names user file.older file.newer _) (kept_for-same S answered user file.newer (kept-asks setup S user at file.asks) absent) (named _))

leads_or : (setup : Setup) (Known : Stage → Type 0) (S : State) (user : UserId) (at : Moment) (file : RequestFile) (kept : Option (List ℕ)) → kept_for S user file.newer ≡ kept → AllByRecursion (IsKnownAsk Known user at) file.asks → ((reply : List ℕ) → Known (names user file.older file.newer reply)) → Leads setup Known S (outcome_or_kept setup S user at file kept).after
leads_or setup Known S user at file None is known named = leads_new setup Known S user at file is known named
leads_or setup Known S user at file (Some reply) is known named = leads_nowhere setup Known S

-- ---- any event

pub leads_file : (setup : Setup) (Known : Stage → Type 0) (S : State) (at : Moment) (user : UserId) (file : RequestFile) → IsKnownEvent Known at (File user file) → Leads setup Known S (state_after setup S at (File user file))
unfolding file_outcome
leads_file setup Known S at user file known =
    leads_on setup Known S (raised S at) _ (leads_once setup Known S (day at) tt known.0)
    (leads_or setup Known (raised S at) user at file (kept_for (raised S at) user file.newer) refl known.1 known.2)

-- The stages of which a step is made.
pub leads_step : (setup : Setup) (Known : Stage → Type 0) (S : State) (at : Moment) (event : Event) → IsLegal setup S at event → IsKnownEvent Known at event → Leads setup Known S (state_after setup S at event)
leads_step setup Known S at (File user file) legal known = leads_file setup Known S at user file known
leads_step setup Known S at (Post id) legal known =
    leads_on setup Known S (raised S at) _ (leads_once setup Known S (day at) tt known.0) (leads_once setup Known (raised S at) (post at id) legal known.1)
leads_step setup Known S at (Spawn id occurrence) legal known =
    leads_on setup Known S (raised S at) _ (leads_once setup Known S (day at) tt known.0) (leads_once setup Known (raised S at) (spawn id occurrence) legal known.1)
leads_step setup Known S at (Letter user subject body) legal known =
    leads_on setup Known S (raised S at) _ (leads_once setup Known S (day at) tt known.0) (leads_once setup Known (raised S at) (letter user at subject body) legal.3 known.1)
