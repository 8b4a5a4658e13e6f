-- A sign-on by SCRAM-SHA-256, by the messages that are heard since the startup was sent.
use Rattle.std.specs.Prelude.{ℕ, Bool, ◌&&◌, if◌then◌else◌, List, [], ◌∷◌, codes, Option, None, Some}
use Rattle.std.specs.Str.{bytes_eq}
use Rattle.postgres_messages.specs.Fields.{has_text}
use Rattle.postgres_messages.specs.Messages.{Message, SignedOn, Methods, Challenge, Verifier, ProcessKey, Setting, Ready, Notice}
use Rattle.scram_sha256.specs.Exchange.{Replies, replies}
use Rattle.postgres_talk.specs.declared.sign_on.Stage.{Stage}
use Rattle.postgres_talk.specs.declared.sign_on.Stage.TheVariants.{Started, Greeted, Proved, Verified, Admitted, Open, Standby, GivenUp}

-- How far it has come, and what the server has to prove itself by once the client has.
pub record SigningOn : Type 0 where
  pub stage : Stage
  pub wanted : List ℕ

-- Who signs on.
pub record Client : Type 0 where
  pub user : List ℕ
  pub password : List ℕ
  pub nonce : List ℕ

-- ---- the next stage

abbrev pub stage_if : Bool → Stage → Stage
stage_if passed stage = if passed then stage else GivenUp

-- The client signs on in no other way, so no server gets its password.
abbrev pub offered : (names : List (List ℕ)) → Stage → Stage
offered names Started = stage_if (has_text (codes "SCRAM-SHA-256") names) Greeted
offered names _ = GivenUp

-- The server has to prove that it knows the password too.
abbrev pub verified : (text wanted : List ℕ) → Stage → Stage
verified text wanted Proved = stage_if (bytes_eq text wanted) Verified
verified text wanted _ = GivenUp

abbrev pub admitted : Stage → Stage
admitted Verified = Admitted
admitted _ = GivenUp

abbrev pub keyed : Stage → Stage
keyed Admitted = Admitted
keyed _ = GivenUp

abbrev pub opened : Stage → Stage
opened Admitted = Open
opened _ = GivenUp

-- A standby takes no statement that writes, so another host is to be tried.
abbrev pub is_standby : (name value : List ℕ) → Bool
is_standby name value = bytes_eq name (codes "in_hot_standby") && bytes_eq value (codes "on")

abbrev pub set : (name value : List ℕ) → Stage → Stage
set name value Admitted = if is_standby name value then Standby else Admitted
set name value _ = GivenUp

-- after any message but a challenge
abbrev pub next_stage : (wanted : List ℕ) → Stage → Message → Stage
next_stage wanted stage (Methods names) = offered names stage
next_stage wanted stage (Verifier text) = verified text wanted stage
next_stage wanted stage SignedOn = admitted stage
next_stage wanted stage (ProcessKey process key) = keyed stage
next_stage wanted stage (Setting name value) = set name value stage
next_stage wanted stage Ready = opened stage
next_stage wanted stage (Notice report) = stage
next_stage wanted stage _ = GivenUp

-- ---- one message more

abbrev pub at_stage : Stage → SigningOn → SigningOn
at_stage stage s = record { stage = stage; wanted = s.wanted }

abbrev pub answered : SigningOn → Option Replies → SigningOn
answered s None = at_stage GivenUp s
answered s (Some r) = record { stage = Proved; wanted = r.wanted }

abbrev pub challenged : Client → SigningOn → (text : List ℕ) → Stage → SigningOn
challenged who s text Greeted = answered s (replies who.user who.password who.nonce text)
challenged who s text _ = at_stage GivenUp s

abbrev pub heard_on : Client → SigningOn → Message → SigningOn
heard_on who s (Challenge text) = challenged who s text s.stage
heard_on who s m = at_stage (next_stage s.wanted s.stage m) s

abbrev pub start : SigningOn
start = record { stage = Started; wanted = [] }

abbrev pub heard_all_on : Client → SigningOn → List Message → SigningOn
heard_all_on who s [] = s
heard_all_on who s (m ∷ ms) = heard_all_on who (heard_on who s m) ms

-- ---- what the client says then

pub data Said : Type 0 where
  Nothing : Said
  First : Said
  Last : (text : List ℕ) → Said

abbrev pub said_to_offer : (names : List (List ℕ)) → Stage → Said
said_to_offer names Started = if has_text (codes "SCRAM-SHA-256") names then First else Nothing
said_to_offer names _ = Nothing

abbrev pub said_by : Option Replies → Said
said_by None = Nothing
said_by (Some r) = Last r.last

abbrev pub said_to_challenge : Client → (text : List ℕ) → Stage → Said
said_to_challenge who text Greeted = said_by (replies who.user who.password who.nonce text)
said_to_challenge who text _ = Nothing

abbrev pub said_otherwise : Stage → Message → Said
said_otherwise stage (Methods names) = said_to_offer names stage
said_otherwise stage _ = Nothing

abbrev pub said : Client → SigningOn → Message → Said
said who s (Challenge text) = said_to_challenge who text s.stage
said who s m = said_otherwise s.stage m
