-- What is outstanding once a file was made, and once its reply was taken.
use Rattle.std.proofs.Common.{◌≡◌, ◌≢◌, Option, None, Some, Result, Ok, Err, refl, ap, subst, ◌∙◌}
use Rattle.ofx_types.specs.declared.number.Moment.{Moment}
use Rattle.ofx_types.specs.declared.reply.ReplyFile.{ReplyFile}
use Rattle.ofx_types.specs.declared.request.RequestFile.{RequestFile}
use Rattle.client_saved.specs.declared.state.ClientState.{ClientState}
use Rattle.client_saved.specs.declared.state.Outstanding.{Outstanding}
use Rattle.client_core.specs.Accepting.{Accepted, accepted, accepted_to, accepted_unless, refusal_for, with_replies}
use Rattle.client_core.specs.Making.{made, made_for, with_file, file_of}
use Rattle.client_core.specs.Wishes.{content_of}
use Rattle.client_core.specs.declared.fault.ClientFault.{ClientFault}
use Rattle.client_core.specs.declared.wish.Wish.{Wish}

-- Nothing is outstanding, and the number of the next file is as before.
abbrev pub Frees : ClientState → Accepted → Type 0
Frees client taken = (taken.after.outstanding ≡ None) × (taken.after.next ≡ client.next)

accepted_is : (a b : Accepted) → ◌≡◌ {A = Result Accepted ClientFault} (Ok a) (Ok b) → a ≡ b
accepted_is a b e = cc

unless_refused : (client : ClientState) (file : RequestFile) (reply : ReplyFile) (refusal : Option ClientFault) (taken : Accepted) → accepted_unless client file reply refusal ≡ Ok taken → Frees client taken
unless_refused client file reply (Some fault) taken e = absurd cc
unless_refused client file reply None taken e =
    subst (Frees client) (accepted_is (with_replies client file reply.replies) taken e) (refl, refl)

by_outstanding : (client : ClientState) (outstanding : Option Outstanding) (reply : ReplyFile) (taken : Accepted) → accepted_to client outstanding reply ≡ Ok taken → Frees client taken
by_outstanding client None reply taken e = absurd cc
by_outstanding client (Some kept) reply taken e = unless_refused client kept.file reply (refusal_for kept.file reply) taken e

-- A reply that is accepted ends the outstanding file.
pub accepted_frees : (client : ClientState) (reply : ReplyFile) (taken : Accepted) → accepted client reply ≡ Ok taken → Frees client taken
unfolding accepted
accepted_frees client reply taken e = by_outstanding client client.outstanding reply taken e

some_holds : (kept : Outstanding) → Some kept ≡ None → ⊥
some_holds kept e = cc

same_client : (a b : ClientState) → ◌≡◌ {A = Result ClientState ClientFault} (Ok a) (Ok b) → a ≡ b
same_client a b e = cc

refused_makes : (fault : ClientFault) (next : ClientState) → ◌≡◌ {A = Result ClientState ClientFault} (Err fault) (Ok next) → ⊥
refused_makes fault next e = cc

-- A file that was made is outstanding.
pub made_holds : (client next : ClientState) (wish : Wish) (at : Moment) → made client wish at ≡ Ok next → next.outstanding ≢ None
unfolding made
made_holds client next wish at e = (elim (content_of client wish at) as (λ content. made_for client at content ≡ Ok next → next.outstanding ≢ None) [
  | Err fault ↦ λ is none. refused_makes fault next is
  | Ok content ↦ λ is none. some_holds (record { at = at; file = file_of client content })
      (ap (λ (c : ClientState). c.outstanding) (same_client (with_file client at content) next is) ∙ none)
]) e
