-- What a client knows stays within its bounds, whatever file it makes and whatever reply it takes in.
use Rattle.std.proofs.Common.{◌≡◌, ℕ, ◌<◌, List, Option, None, Some, Result, Ok, Err, refl, sym, subst, arith}
use Rattle.std.specs.Prelude.{IfOk, OnOk, OnErr}
use Rattle.std.specs.Option.{IfSome}
use Rattle.std.specs.List.{AllByRecursion, IsDistinct}
use Rattle.ofx_types.specs.Calendar.{IsMoment}
use Rattle.ofx_types.specs.declared.number.Moment.{Moment}
use Rattle.ofx_types.specs.declared.sync.ObjectName.TheVariants as objects
use Rattle.ofx_types.specs.declared.request.RequestFile.{RequestFile}
use Rattle.ofx_types.specs.declared.reply.AskReply.{AskReply}
use Rattle.ofx_types.specs.declared.reply.ReplyFile.{ReplyFile}
use Rattle.bank_model.specs.Sound.{IsTextWithin, IsSoundObject, IsSound}
use Rattle.client_saved.specs.declared.state.ClientState.{ClientState}
use Rattle.client_saved.specs.declared.state.Outstanding.{Outstanding}
use Rattle.client_saved.specs.Bounds.{IsName, IsSoundState, IsSoundOutstanding}
use Rattle.client_core.specs.declared.content.Content.{Content}
use Rattle.client_core.specs.declared.content.Content.TheVariants.{Look, Do}
use Rattle.client_core.specs.declared.fault.ClientFault.{ClientFault}
use Rattle.client_core.specs.declared.fault.ClientFault.TheVariants as faults
use Rattle.client_core.specs.declared.report.Report.{Report}
use Rattle.client_core.specs.declared.wish.Wish.{Wish}
use Rattle.client_core.specs.ClientForm.{new_client}
use Rattle.client_core.specs.Wishes.{IsSoundWish, content_of}
use Rattle.client_core.specs.Making.{objects_of, with_file, made_for, made}
use Rattle.client_core.specs.Accepting.{Accepted, with_replies, refusal_for, accepted_unless, accepted_to, accepted}
use Rattle.client_core.specs.ReportLines.{IsRefusal, IsSoundReply}
use Rattle.client_core.proofs.Files.{IsSoundContent, IfSound, content_sound, file_sound}
use Rattle.client_core.proofs.SoundStores.{AreStores, stores_more, all_more}

pub new_sound : (name user : List ℕ) → IsName name → IsTextWithin 32 user → IsSoundState (new_client name user)
unfolding IsDistinct
new_sound name user is within = record {
  name = is;
  user = within;
  next = omega arith;
  done = tt;
  outstanding = tt;
  stores = tt;
  distinct = tt;
}

stores_of : (client : ClientState) → IsSoundState client → AreStores client.stores
stores_of client is = record { sound = is.stores; apart = is.distinct }

-- ---- a file more

objects_sound : (content : Content) → IsSoundContent content → AllByRecursion IsSoundObject (objects_of content)
objects_sound (Look account) is = (is, (is, (is, (tt, tt))))
objects_sound (Do object deed) is = (is.0, tt)

with_sound : (client : ClientState) (at : Moment) (content : Content) → IsSoundState client → client.next < 9999999999 → IsMoment at.0
    → IsSoundContent content → IsSoundState (with_file client at content)
with_sound client at content is few moment named =
    let are = stores_more (objects_of content) client.stores (objects_sound content named) (stores_of client is) in
    record {
      name = is.name;
      user = is.user;
      next = omega arith;
      done = is.done;
      outstanding = record { moment = moment; file = file_sound client content is named; user = refl; pass = refl };
      stores = are.sound;
      distinct = are.apart;
    }

for_sound : (client : ClientState) (at : Moment) (content : Result Content ClientFault) (new : ClientState) → IsSoundState client
    → client.next < 9999999999 → IsMoment at.0 → IfSound content → made_for client at content ≡ Ok new → IsSoundState new
for_sound client at (Ok content) new is few moment named same =
    let one : with_file client at content ≡ new = cc in subst IsSoundState one (with_sound client at content is few moment named)
for_sound client at (Err fault) new is few moment named same = absurd cc

made_sound : (client : ClientState) (wish : Wish) (at : Moment) (new : ClientState) → IsSoundState client → client.next < 9999999999
    → IsSoundWish wish → IsMoment at.0 → made client wish at ≡ Ok new → IsSoundState new
unfolding made
made_sound client wish at new is few sound moment same =
    for_sound client at (content_of client wish at) new is few moment (content_sound client wish at is sound moment) same

-- A call that made the file, or left the client as it was, leaves it within its bounds.
pub make_keeps : (client : ClientState) (wish : Wish) (at : Moment) (new : ClientState) (result : Result Unit ClientFault) → IsSoundState client
    → client.next < 9999999999 → IsSoundWish wish → IsMoment at.0
    → OnOk result (made client wish at ≡ Ok new) → OnErr result (new ≡ client) → IsSoundState new
make_keeps client wish at new (Ok done) is few sound moment ok err = made_sound client wish at new is few sound moment ok
make_keeps client wish at new (Err fault) is few sound moment ok err = subst IsSoundState (sym err) is

-- ---- a reply more

with_replies_sound : (client : ClientState) (file : RequestFile) (replies : List AskReply) → IsSoundState client → IsSound file
    → AllByRecursion IsSoundReply replies → IsSoundState (with_replies client file replies).after
with_replies_sound client file replies is sound reported =
    let are = all_more file.asks replies client.stores sound.asks reported (stores_of client is) in
    record {
      name = is.name;
      user = is.user;
      next = is.next;
      done = sound.newer;
      outstanding = tt;
      stores = are.sound;
      distinct = are.apart;
    }

unless_sound : (client : ClientState) (file : RequestFile) (reply : ReplyFile) (fault : Option ClientFault) (found : Accepted) → IsSoundState client
    → IsSound file → AllByRecursion IsSoundReply reply.replies → accepted_unless client file reply fault ≡ Ok found → IsSoundState found.after
unless_sound client file reply None found is sound reported same =
    let one : with_replies client file reply.replies ≡ found = cc in
    subst (λ (a : Accepted). IsSoundState a.after) one (with_replies_sound client file reply.replies is sound reported)
unless_sound client file reply (Some fault) found is sound reported same = absurd cc

accepted_to_sound : (client : ClientState) (kept : Option Outstanding) (reply : ReplyFile) (found : Accepted) → IsSoundState client
    → IfSome kept (IsSoundOutstanding client.user) → AllByRecursion IsSoundReply reply.replies → accepted_to client kept reply ≡ Ok found
    → IsSoundState found.after
accepted_to_sound client None reply found is sound reported same = absurd cc
accepted_to_sound client (Some kept) reply found is sound reported same = unless_sound client kept.file reply (refusal_for kept.file reply) found is sound.file reported same

accepted_sound : (client : ClientState) (reply : ReplyFile) (found : Accepted) → IsSoundState client → AllByRecursion IsSoundReply reply.replies
    → accepted client reply ≡ Ok found → IsSoundState found.after
unfolding accepted
accepted_sound client reply found is reported same = accepted_to_sound client client.outstanding reply found is is.outstanding reported same

-- A call that accepted the reply, or left the client as it was, leaves it within its bounds.
pub accept_keeps : (client : ClientState) (reply : ReplyFile) (new : ClientState) (result : Result Report ClientFault) → IsSoundState client
    → AllByRecursion IsSoundReply reply.replies
    → IfOk result (λ report. accepted client reply ≡ Ok (record { after = new; lines = report.lines })) → OnErr result (new ≡ client) → IsSoundState new
accept_keeps client reply new (Ok report) is reported ok err = accepted_sound client reply (record { after = new; lines = report.lines }) is reported ok
accept_keeps client reply new (Err fault) is reported ok err = subst IsSoundState (sym err) is

-- What a rule refuses, a call refuses so.
pub refused_with : {A : Type 0} (given : Result A ClientFault) (fault : ClientFault) → given ≡ Err fault → IsRefusal given fault
refused_with given faults.OutOfMemory is = tt
refused_with given faults.BadName is = is
refused_with given (faults.NoRow id) is = is
refused_with given faults.NotMine is = is
refused_with given (faults.Signon code) is = is
refused_with given (faults.Shape number) is = is
