-- What messages tell as a whole.
use Rattle.std.specs.Prelude.{◌≡◌, ℕ, true, List, [], ◌∷◌, codes, Some}
use Rattle.postgres_messages.specs.Fields.{has_text}
use Rattle.postgres_messages.specs.Messages.{Message, SignedOn, Methods, Challenge, Verifier, Setting, ProcessKey, Notice, Ready, Bound, Completed}
use Rattle.scram_sha256.specs.Exchange.{Replies, replies}
use Rattle.postgres_talk.specs.Statements.{inserted_in}
use Rattle.postgres_talk.specs.SigningOn.{Client}

-- the messages without the settings
abbrev pub without_settings : List Message → List Message
without_settings [] = []
without_settings (Setting name value ∷ ms) = without_settings ms
without_settings (m ∷ ms) = m ∷ without_settings ms

-- Settings aside, the append was bound, was done with this count of records, and the server was ready again: nothing more.
pub record Acknowledges (count : ℕ) (ms : List Message) : Type 0 where
  pub tag : List ℕ
  pub messages : without_settings ms ≡ Bound ∷ Completed tag ∷ Ready ∷ []
  pub inserted : inserted_in tag ≡ Some count

-- the messages of a sign-on in their order: without notices, settings and the key
abbrev pub of_sign_on : List Message → List Message
of_sign_on [] = []
of_sign_on (Setting name value ∷ ms) = of_sign_on ms
of_sign_on (ProcessKey process key ∷ ms) = of_sign_on ms
of_sign_on (Notice report ∷ ms) = of_sign_on ms
of_sign_on (m ∷ ms) = m ∷ of_sign_on ms

-- The server offered SCRAM-SHA-256, asked, proved that it knows the password, and let the client in.
pub record Opens (who : Client) (ms : List Message) : Type 0 where
  pub names : List (List ℕ)
  pub challenge : List ℕ
  pub verifier : List ℕ
  pub messages : of_sign_on ms ≡ Methods names ∷ Challenge challenge ∷ Verifier verifier ∷ SignedOn ∷ Ready ∷ []
  pub offered : has_text (codes "SCRAM-SHA-256") names ≡ true
  pub answer : Replies
  pub answered : replies who.user who.password who.nonce challenge ≡ Some answer
  pub proved : verifier ≡ answer.wanted
