-- Which messages open a session.
use Rattle.std.proofs.Common.{◌≡◌, ℕ, Bool, true, false, cond, List, [], ◌∷◌, Option, None, Some, refl, ap}
use Rattle.std.specs.Prelude.{codes}
use Rattle.std.specs.Str.{bytes_eq}
use Rattle.ofx_types.proofs.Bytes.{bytes_eq_is}
use Rattle.postgres_messages.specs.Fields.{has_text}
use Rattle.postgres_messages.specs.Messages.{Message, SignedOn, Methods, Challenge, Verifier, ProcessKey, Setting, Ready, Notice}
use Rattle.scram_sha256.specs.Exchange.{Replies, replies}
use Rattle.postgres_talk.specs.declared.sign_on.Stage.{Stage}
use Rattle.postgres_talk.specs.declared.sign_on.Stage.TheVariants.{Greeted, Proved, Verified, Admitted, Open, Standby, GivenUp}
use Rattle.postgres_talk.specs.SigningOn.{SigningOn, Client, answered, is_standby, heard_all_on, start}
use Rattle.postgres_talk.specs.Laws.{of_sign_on, Opens}

abbrev at : Stage → List ℕ → SigningOn
at stage wanted = record { stage = stage; wanted = wanted }

abbrev IsOpen : Client → SigningOn → List Message → Type 0
IsOpen who s ms = (heard_all_on who s ms).stage ≡ Open

gone : (who : Client) (wanted : List ℕ) (ms : List Message) → IsOpen who (at GivenUp wanted) ms → ⊥
gone who wanted [] e = cc
gone who wanted (Notice report ∷ ms) e = gone who wanted ms e
gone who wanted (m ∷ ms) e = gone who wanted ms e

stood_by : (who : Client) (wanted : List ℕ) (ms : List Message) → IsOpen who (at Standby wanted) ms → ⊥
stood_by who wanted [] e = cc
stood_by who wanted (Notice report ∷ ms) e = stood_by who wanted ms e
stood_by who wanted (m ∷ ms) e = gone who wanted ms e

open_on : (who : Client) (wanted : List ℕ) (ms : List Message) → IsOpen who (at Open wanted) ms → of_sign_on ms ≡ []
open_on who wanted [] e = refl
open_on who wanted (Notice report ∷ ms) e = open_on who wanted ms e
open_on who wanted (m ∷ ms) e = absurd (gone who wanted ms e)

still_admitted : (who : Client) (wanted : List ℕ) (ms : List Message) (standby : Bool) → IsOpen who (at (cond standby Standby Admitted) wanted) ms → IsOpen who (at Admitted wanted) ms
still_admitted who wanted ms true e = absurd (stood_by who wanted ms e)
still_admitted who wanted ms false e = e

admitted_on : (who : Client) (wanted : List ℕ) (ms : List Message) → IsOpen who (at Admitted wanted) ms → of_sign_on ms ≡ Ready ∷ []
admitted_on who wanted [] e = absurd cc
admitted_on who wanted (Setting name value ∷ ms) e = admitted_on who wanted ms (still_admitted who wanted ms (is_standby name value) e)
admitted_on who wanted (ProcessKey process key ∷ ms) e = admitted_on who wanted ms e
admitted_on who wanted (Notice report ∷ ms) e = admitted_on who wanted ms e
admitted_on who wanted (Ready ∷ ms) e = ap (λ (t : List Message). Ready ∷ t) (open_on who wanted ms e)
admitted_on who wanted (m ∷ ms) e = absurd (gone who wanted ms e)

verified_on : (who : Client) (wanted : List ℕ) (ms : List Message) → IsOpen who (at Verified wanted) ms → of_sign_on ms ≡ SignedOn ∷ Ready ∷ []
verified_on who wanted [] e = absurd cc
verified_on who wanted (Notice report ∷ ms) e = verified_on who wanted ms e
verified_on who wanted (SignedOn ∷ ms) e = ap (λ (t : List Message). SignedOn ∷ t) (admitted_on who wanted ms e)
verified_on who wanted (m ∷ ms) e = absurd (gone who wanted ms e)

pub record IsProved (wanted : List ℕ) (ms : List Message) : Type 0 where
  pub text : List ℕ
  pub messages : of_sign_on ms ≡ Verifier text ∷ SignedOn ∷ Ready ∷ []
  pub proved : text ≡ wanted

proved_if : (who : Client) (wanted text : List ℕ) (ms : List Message) (b : Bool) → bytes_eq text wanted ≡ b → IsOpen who (at (cond b Verified GivenUp) wanted) ms → IsProved wanted (Verifier text ∷ ms)
proved_if who wanted text ms true h e = record { text = text; messages = ap (λ (t : List Message). Verifier text ∷ t) (verified_on who wanted ms e); proved = bytes_eq_is text wanted h }
proved_if who wanted text ms false h e = absurd (gone who wanted ms e)

proved_on : (who : Client) (wanted : List ℕ) (ms : List Message) → IsOpen who (at Proved wanted) ms → IsProved wanted ms
proved_on who wanted [] e = absurd cc
proved_on who wanted (Notice report ∷ ms) e = let p = proved_on who wanted ms e in record { text = p.text; messages = p.messages; proved = p.proved }
proved_on who wanted (Verifier text ∷ ms) e = proved_if who wanted text ms (bytes_eq text wanted) refl e
proved_on who wanted (m ∷ ms) e = absurd (gone who wanted ms e)

pub record IsAnswered (who : Client) (ms : List Message) : Type 0 where
  pub text : List ℕ
  pub answer : Replies
  pub given : replies who.user who.password who.nonce text ≡ Some answer
  pub verifier : List ℕ
  pub messages : of_sign_on ms ≡ Challenge text ∷ Verifier verifier ∷ SignedOn ∷ Ready ∷ []
  pub proved : verifier ≡ answer.wanted

answered_by : (who : Client) (wanted text : List ℕ) (ms : List Message) (r : Option Replies) → replies who.user who.password who.nonce text ≡ r → IsOpen who (answered (at Greeted wanted) r) ms
    → IsAnswered who (Challenge text ∷ ms)
answered_by who wanted text ms None h e = absurd (gone who wanted ms e)
answered_by who wanted text ms (Some answer) h e =
    let p = proved_on who answer.wanted ms e in
    record { text = text; answer = answer; given = h; verifier = p.text; messages = ap (λ (t : List Message). Challenge text ∷ t) p.messages; proved = p.proved }

greeted_on : (who : Client) (wanted : List ℕ) (ms : List Message) → IsOpen who (at Greeted wanted) ms → IsAnswered who ms
greeted_on who wanted [] e = absurd cc
greeted_on who wanted (Notice report ∷ ms) e =
    let p = greeted_on who wanted ms e in
    record { text = p.text; answer = p.answer; given = p.given; verifier = p.verifier; messages = p.messages; proved = p.proved }
greeted_on who wanted (Challenge text ∷ ms) e = answered_by who wanted text ms (replies who.user who.password who.nonce text) refl e
greeted_on who wanted (m ∷ ms) e = absurd (gone who wanted ms e)

offered_if : (who : Client) (names : List (List ℕ)) (ms : List Message) (b : Bool) → has_text (codes "SCRAM-SHA-256") names ≡ b → IsOpen who (at (cond b Greeted GivenUp) []) ms → Opens who (Methods names ∷ ms)
offered_if who names ms false h e = absurd (gone who [] ms e)
offered_if who names ms true h e =
    let a = greeted_on who [] ms e in
    record {
      names = names;
      challenge = a.text;
      verifier = a.verifier;
      messages = ap (λ (t : List Message). Methods names ∷ t) a.messages;
      offered = h;
      answer = a.answer;
      answered = a.given;
      proved = a.proved;
    }

pub opens : (who : Client) (ms : List Message) → IsOpen who start ms → Opens who ms
opens who [] e = absurd cc
opens who (Notice report ∷ ms) e =
    let p = opens who ms e in
    record { names = p.names; challenge = p.challenge; verifier = p.verifier; messages = p.messages; offered = p.offered; answer = p.answer; answered = p.answered; proved = p.proved }
opens who (Methods names ∷ ms) e = offered_if who names ms (has_text (codes "SCRAM-SHA-256") names) refl e
opens who (m ∷ ms) e = absurd (gone who [] ms e)
