-- The stages of which each step of a bank is made, and the states that it comes through.
use Rattle.std.specs.Prelude.{◌≡◌, ℕ, true, List, [], ◌∷◌, Option, None}
use Rattle.std.specs.List.{AllByRecursion}
use Rattle.ofx_types.specs.Calendar.{IsMoment}
use Rattle.ofx_types.specs.declared.number.AcctId.{AcctId}
use Rattle.ofx_types.specs.declared.number.Moment.{Moment}
use Rattle.ofx_types.specs.declared.number.UserId.{UserId}
use Rattle.ofx_types.specs.declared.transfer.Deed.{Deed}
use Rattle.ofx_types.specs.declared.request.Ask.{Ask}
use Rattle.ofx_types.specs.declared.request.Ask.TheVariants as asks
use Rattle.bank_model.specs.declared.setup.Setup.{Setup}
use Rattle.bank_model.specs.declared.event.State.{State}
use Rattle.bank_model.specs.declared.event.Event.{Event}
use Rattle.bank_model.specs.declared.event.Event.TheVariants.{File, Post, Spawn, Letter}
use Rattle.bank_model.specs.Ledger.{row_of}
use Rattle.bank_model.specs.Deeds.{deed_answer}
use Rattle.bank_model.specs.Due.{has_number, may_post, posts, may_spawn, spawns}
use Rattle.bank_model.specs.Rules.{raised, release, keep, with_kept, kept_for, with_entries, letter_entry}
use Rattle.bank_model.specs.Sound.{IsSoundDeed}

-- The business day is raised at a moment. A deed of a user is answered; in a synchronisation one account alone counts as the
-- user's. A file's OLDFILEUID is released and its NEWFILEUID is kept with the reply. A transfer that waits is posted or
-- closed. A recurring transfer makes its next transfer. The bank writes a letter to a user.
pub data Stage : Type 0 where
  day : Moment → Stage
  deed : UserId → Option AcctId → Moment → List ℕ → Deed → Stage
  names : UserId → Option (List ℕ) → Option (List ℕ) → List ℕ → Stage
  post : Moment → ℕ → Stage
  spawn : ℕ → ℕ → Stage
  letter : UserId → Moment → List ℕ → List ℕ → Stage

-- the state that a stage leaves
abbrev pub after_stage : Setup → State → Stage → State
after_stage setup S (day at) = raised S at
after_stage setup S (deed user only at trnuid what) = (deed_answer setup S user only at trnuid what).after
after_stage setup S (names user older newer reply) = with_kept S (keep user newer reply (release user older S.kept))
after_stage setup S (post at id) = with_entries S (posts setup S at (row_of id S.entries))
after_stage setup S (spawn id occurrence) = with_entries S (spawns setup S id occurrence)
after_stage setup S (letter user at subject body) = with_entries S (letter_entry setup S user at subject body ∷ [])

-- What may come next: a name that isn't kept yet is kept, and what the bank does by itself has to be legal.
abbrev pub MayCome : Setup → State → Stage → Type 0
MayCome setup S (day at) = Unit {0}
MayCome setup S (deed user only at trnuid what) = Unit {0}
MayCome setup S (names user older newer reply) = kept_for S user newer ≡ None
MayCome setup S (post at id) = may_post setup S (row_of id S.entries) ≡ true
MayCome setup S (spawn id occurrence) = may_spawn setup S id occurrence ≡ true
MayCome setup S (letter user at subject body) = has_number setup S ≡ true

abbrev pub after_stages : Setup → State → List Stage → State
after_stages setup S [] = S
after_stages setup S (stage ∷ more) = after_stages setup (after_stage setup S stage) more

-- Each stage may come in the state that those before it left.
abbrev pub MayAllCome : Setup → State → List Stage → Type 0
MayAllCome setup S [] = Unit {0}
MayAllCome setup S (stage ∷ more) = MayCome setup S stage × MayAllCome setup (after_stage setup S stage) more

-- A bank comes from one state to another by stages of which something is known.
pub record Leads (setup : Setup) (Known : Stage → Type 0) (S T : State) : Type 0 where
  pub stages : List Stage
  pub may : MayAllCome setup S stages
  pub known : AllByRecursion Known stages
  pub after : after_stages setup S stages ≡ T

-- ---- what is known of the stages of an ask, and of an event

abbrev pub IsKnownDeed : (Stage → Type 0) → UserId → Moment → List ℕ × Deed → Type 0
IsKnownDeed Known user at pair = (only : Option AcctId) → Known (deed user only at pair.0 pair.1)

abbrev pub IsKnownAsk : (Stage → Type 0) → UserId → Moment → Ask → Type 0
IsKnownAsk Known user at (asks.Statement trnuid name period) = Unit {0}
IsKnownAsk Known user at (asks.One trnuid what) = IsKnownDeed Known user at (trnuid, what)
IsKnownAsk Known user at (asks.Sync ask) = AllByRecursion (IsKnownDeed Known user at) ask.deeds

abbrev pub IsKnownEvent : (Stage → Type 0) → Moment → Event → Type 0
IsKnownEvent Known at (File user file) =
    Known (day at) × AllByRecursion (IsKnownAsk Known user at) file.asks
    × ((reply : List ℕ) → Known (names user file.older file.newer reply))
IsKnownEvent Known at (Post id) = Known (day at) × Known (post at id)
IsKnownEvent Known at (Spawn id occurrence) = Known (day at) × Known (spawn id occurrence)
IsKnownEvent Known at (Letter user subject body) = Known (day at) × Known (letter user at subject body)

-- Moments lie in the years 1900 to 9999, and deeds are within their bounds.
abbrev pub IsSoundStage : Stage → Type 0
IsSoundStage (day at) = IsMoment at.0
IsSoundStage (deed user only at trnuid what) = IsMoment at.0 × IsSoundDeed what
IsSoundStage (names user older newer reply) = Unit {0}
IsSoundStage (post at id) = IsMoment at.0
IsSoundStage (spawn id occurrence) = Unit {0}
IsSoundStage (letter user at subject body) = IsMoment at.0
