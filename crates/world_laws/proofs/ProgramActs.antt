-- A run of the customer's program whose saves succeed is acts of its client.
use Rattle.std.proofs.Common.{◌≡◌, ℕ, ◌<◌, Bool, true, false, List, [], ◌∷◌, ◌++◌, Option, None, Some, Result, Ok, Err, refl, sym, ap, subst, ◌∙◌}
use Rattle.std.specs.Option.{IfSome}
use Rattle.ofx_ports.specs.Known.{Stays}
use Rattle.ofx_ports.specs.declared.fault.PutFault.{PutFault}
use Rattle.ofx_types.specs.FileForm.{SpellsReply}
use Rattle.ofx_types.specs.declared.number.Moment.{Moment}
use Rattle.ofx_types.specs.declared.reply.ReplyFile.{ReplyFile}
use Rattle.ofx_types.specs.declared.request.RequestFile.{RequestFile}
use Rattle.bank_model.specs.declared.setup.Setup.{Setup}
use Rattle.client_saved.specs.SavedText.{IsSavedText}
use Rattle.client_saved.specs.declared.state.ClientState.{ClientState}
use Rattle.client_saved.specs.declared.state.Outstanding.{Outstanding}
use Rattle.client_core.specs.Accepting.{Accepted, accepted, accepted_to, accepted_unless, refusal_for, with_replies}
use Rattle.client_core.specs.ClientForm.{discarded}
use Rattle.client_core.specs.Making.{file_of, made, made_for, with_file}
use Rattle.client_core.specs.ReportLines.{FollowsRule}
use Rattle.client_core.specs.Wishes.{IsSoundWish, content_of}
use Rattle.client_core.specs.declared.content.Content.{Content}
use Rattle.client_core.specs.declared.fault.ClientFault.{ClientFault}
use Rattle.client_core.specs.declared.wish.Wish.{Wish}
use Rattle.client_core.specs.declared.wish.Wish.TheVariants as wishes
use Rattle.client_arguments.specs.Reading.{IsInBounds}
use Rattle.client_arguments.specs.declared.order.Order.{Order}
use Rattle.client_run.proofs.GoingOn.{become, stay}
use Rattle.client_run.specs.Commands.{Resumes, KeepsMade, SendsIf, MakesIf, Acts, Works}
use Rattle.client_run.specs.Commands as commands
use Rattle.client_run.specs.GoingOn.{sent_to, made_to, acted_to, worked_to, left_if, IsSaved}
use Rattle.client_run.specs.Lines.{printed}
use Rattle.client_run.specs.Run.{WorksIf}
use Rattle.client_run.specs.Saves.{IsClientIn, Saves, Finds}
use Rattle.client_run.specs.Sending.{Calls, Drops, Follows, GoesBy, PrintsIf, SendsOutstanding, given_up, is_bad_request}
use Rattle.client_run.specs.Views.{LinkView, StoreView, OutView, PortsView}
use Rattle.client_run.specs.declared.stop.CallStop.{CallStop}
use Rattle.client_run.specs.declared.stop.ClientStop.{ClientStop}
use Rattle.client_run.specs.declared.stop.ClientStop.TheVariants as stops
use Rattle.client_run.specs.declared.stop.StoreOpenFault.{StoreOpenFault}
use Rattle.ofx_world.specs.Customer.{CustomerView, Goes, sent}
use Rattle.world_laws.specs.ClientActs.{Act, making, taking, discarding, IsAct, AreActs}
use Rattle.world_laws.specs.ProgramRuns.{customer_of, IsActedOut, RunsAreActs}

-- ---- ends and texts

ok_is_err : (done : Unit {0}) (stop : ClientStop) → ◌≡◌ {A = Result (Unit {0}) ClientStop} (Ok done) (Err stop) → ⊥
ok_is_err done stop same = cc

-- No file is outstanding, and the number of the next one is as it was.
record IsFree (client next : ClientState) : Type 0 where
  pub free : next.outstanding ≡ None
  pub number : next.next ≡ client.next

-- ---- acts one after another

module _ (setup : Setup) where
  then_acts : (before between after : CustomerView) (first then : List Act) → AreActs setup before first between → AreActs setup between then after
      → AreActs setup before (first ++ then) after
  then_acts before between after [] then done acts = subst (λ (c : CustomerView). AreActs setup c then after) done acts
  then_acts before between after (act ∷ more) then (next, is, rest) acts = (next, is, then_acts next between after more then rest acts)

  -- Acts lead from a client and the text that is kept to others.
  abbrev Does : ClientState → StoreView → ClientState → StoreView → Type 0
  Does client store client' store' = (saved : List ℕ) → (acts : List Act) × (last : List ℕ) × AreActs setup (customer_of client saved) acts (customer_of client' last)
      × (store.text ≡ Some saved → store'.text ≡ Some last)

  as_before : (client client' : ClientState) (store store' : StoreView) → client' ≡ client → store' ≡ store → Does client store client' store'
  as_before client client' store store' client_is store_is saved =
      ([], saved, ap (λ (c : ClientState). customer_of c saved) client_is, λ reported. ap (λ (s : StoreView). s.text) store_is ∙ reported)

  does_then : (client between client' : ClientState) (store middle store' : StoreView) → Does client store between middle → Does between middle client' store'
      → Does client store client' store'
  does_then client between client' store middle store' first then saved =
      let one = first saved in
      let two = then one.1 in (
        one.0 ++ two.0,
        two.1,
        then_acts (customer_of client saved) (customer_of between one.1) (customer_of client' two.1) one.0 two.0 one.2 two.2,
        λ reported. two.3 (one.3 reported),
      )

  -- An act that is saved.
  saved_act : (client next client' : ClientState) (store store' : StoreView) (act : Act)
      → ((saved text : List ℕ) → IsSavedText text next → IsAct setup (customer_of client saved) act (customer_of next text))
      → client' ≡ next → Saves next store store' (Ok tt) → Does client store client' store'
  saved_act client next client' store store' act is client_is (text, is_saved, becomes, later) =
      subst (λ (c : ClientState). Does client store c store') (sym client_is)
      (λ saved. (act ∷ [], text, (customer_of next text, is saved text is_saved, refl), λ reported. become store.text store'.text saved text reported becomes))

  -- ---- a reply

  takes_act : (client : ClientState) (body : List ℕ) (reply : ReplyFile) (taken : Accepted) → SpellsReply body reply → accepted client reply ≡ Ok taken
      → (saved text : List ℕ) → IsSavedText text taken.after → IsAct setup (customer_of client saved) (taking body) (customer_of taken.after text)
  takes_act client body reply taken spelled is saved text is_saved =
      (reply, spelled, subst (λ (found : Result Accepted ClientFault). Goes (customer_of client saved) found (customer_of taken.after text)) (sym is) (refl, is_saved))

  takes_does : (bytes body : List ℕ) (reply : ReplyFile) (taken : Accepted) (kept : Result (Unit {0}) PutFault) (client client' : ClientState) (store store' : StoreView) (out out' : OutView) (end : Result (Unit {0}) ClientStop)
      → SpellsReply body reply → accepted client reply ≡ Ok taken → client' ≡ taken.after → Saves taken.after store store' kept → PrintsIf bytes kept out out' end → IsSaved end
      → Does client store client' store'
  takes_does bytes body reply taken (Err fault) client client' store store' out out' end spelled is client_is saves prints saved = absurd (saved fault prints.0)
  takes_does bytes body reply taken (Ok done) client client' store store' out out' end spelled is client_is saves prints saved =
      saved_act client taken.after client' store store' (taking body) (takes_act client body reply taken spelled is) client_is saves

  goes_does : (client : ClientState) (body : List ℕ) (reply : ReplyFile) (judged : Result Accepted ClientFault) (store : StoreView) (out : OutView) (client' : ClientState) (store' : StoreView) (out' : OutView) (end : Result (Unit {0}) ClientStop)
      → SpellsReply body reply → FollowsRule (accepted client reply) judged → GoesBy client judged store out client' store' out' end → IsSaved end → Does client store client' store'
  goes_does client body reply (Err fault) store out client' store' out' end spelled gives leaves saved = as_before client client' store store' leaves.client_is leaves.store_is
  goes_does client body reply (Ok taken) store out client' store' out' end spelled gives takes saved =
      takes_does (printed taken.lines) body reply taken takes.kept client client' store store' out out' end spelled gives takes.client_is takes.saves takes.prints saved

  gives_does : (client : ClientState) (stop : CallStop) (kept : Result (Unit {0}) PutFault) (client' : ClientState) (store store' : StoreView) (end : Result (Unit {0}) ClientStop)
      → client' ≡ discarded client → Saves (discarded client) store store' kept → end ≡ Err (given_up stop kept) → IsSaved end → Does client store client' store'
  gives_does client stop (Err fault) client' store store' end client_is saves end_is saved = absurd (saved fault end_is)
  gives_does client stop (Ok done) client' store store' end client_is saves end_is saved =
      saved_act client (discarded client) client' store store' discarding (λ before text is_saved. (refl, is_saved)) client_is saves

  drops_does : (bad : Bool) (client : ClientState) (stop : CallStop) (store : StoreView) (out : OutView) (client' : ClientState) (store' : StoreView) (out' : OutView) (end : Result (Unit {0}) ClientStop)
      → Drops bad client stop store out client' store' out' end → IsSaved end → Does client store client' store'
  drops_does true client stop store out client' store' out' end gives saved =
      gives_does client stop gives.gives_up.kept client' store store' end gives.gives_up.client_is gives.gives_up.saves
      (gives.end_is ∙ ap (λ (s : ClientStop). Err s) gives.gives_up.stop_is) saved
  drops_does false client stop store out client' store' out' end leaves saved = as_before client client' store store' leaves.client_is leaves.store_is

  -- the body that brought a reply file
  brought : (pass : List ℕ) (found : Option Outstanding) (ahead : List ℕ) (link : LinkView) (ahead' : List ℕ) (link' : LinkView) (reply : ReplyFile)
      → Calls pass found ahead link ahead' link' (Ok reply) → (body : List ℕ) × SpellsReply body reply
  brought pass None ahead link ahead' link' reply calls = absurd calls
  brought pass (Some kept) ahead link ahead' link' reply calls = (calls.2.1.body, calls.2.1.spells)

  follows_does : (pass : List ℕ) (ahead : List ℕ) (link : LinkView) (ahead' : List ℕ) (link' : LinkView) (client : ClientState) (got : Result ReplyFile CallStop) (store : StoreView) (out : OutView) (client' : ClientState) (store' : StoreView) (out' : OutView) (end : Result (Unit {0}) ClientStop)
      → Calls pass client.outstanding ahead link ahead' link' got → Follows client got store out client' store' out' end → IsSaved end → Does client store client' store'
  follows_does pass ahead link ahead' link' client (Err stop) store out client' store' out' end calls drops saved = drops_does (is_bad_request stop) client stop store out client' store' out' end drops saved
  follows_does pass ahead link ahead' link' client (Ok reply) store out client' store' out' end calls (judged, gives, goes) saved =
      let body = brought pass client.outstanding ahead link ahead' link' reply calls in
      goes_does client body.0 reply judged store out client' store' out' end body.1 gives goes saved

  sends_does : (pass : List ℕ) (client : ClientState) (ahead : List ℕ) (link : LinkView) (store : StoreView) (out : OutView) (client' : ClientState) (ahead' : List ℕ) (link' : LinkView) (store' : StoreView) (out' : OutView) (end : Result (Unit {0}) ClientStop)
      → SendsOutstanding pass client ahead link store out client' ahead' link' store' out' end → IsSaved end → Does client store client' store'
  sends_does pass client ahead link store out client' ahead' link' store' out' end sends saved =
      follows_does pass ahead link ahead' link' client sends.got store out client' store' out' end sends.calls sends.follows saved

  -- ---- a client that may make a file

  unless_free : (client : ClientState) (file : RequestFile) (reply : ReplyFile) (refusal : Option ClientFault) (taken : Accepted) → accepted_unless client file reply refusal ≡ Ok taken → IsFree client taken.after
  unless_free client file reply (Some fault) taken is = absurd cc
  unless_free client file reply None taken is =
      let same : with_replies client file reply.replies ≡ taken = cc in
      subst (λ (t : Accepted). IsFree client t.after) same (record { free = refl; number = refl })

  to_free : (client : ClientState) (found : Option Outstanding) (reply : ReplyFile) (taken : Accepted) → accepted_to client found reply ≡ Ok taken → IsFree client taken.after
  to_free client None reply taken is = absurd cc
  to_free client (Some kept) reply taken is = unless_free client kept.file reply (refusal_for kept.file reply) taken is

  accepted_free : (client : ClientState) (reply : ReplyFile) (taken : Accepted) → accepted client reply ≡ Ok taken → IsFree client taken.after
  unfolding accepted
  accepted_free client reply taken is = to_free client client.outstanding reply taken is

  goes_free : (client : ClientState) (reply : ReplyFile) (judged : Result Accepted ClientFault) (store : StoreView) (out : OutView) (client' : ClientState) (store' : StoreView) (out' : OutView) (end : Result (Unit {0}) ClientStop) (done : Unit {0})
      → FollowsRule (accepted client reply) judged → GoesBy client judged store out client' store' out' end → end ≡ Ok done → IsFree client client'
  goes_free client reply (Err fault) store out client' store' out' end done gives leaves well = absurd (ok_is_err done (stops.Refused fault) (sym well ∙ leaves.end_is))
  goes_free client reply (Ok taken) store out client' store' out' end done gives takes well =
      subst (IsFree client) (sym takes.client_is) (accepted_free client reply taken gives)

  drops_never : (bad : Bool) (client : ClientState) (stop : CallStop) (store : StoreView) (out : OutView) (client' : ClientState) (store' : StoreView) (out' : OutView) (end : Result (Unit {0}) ClientStop) (done : Unit {0})
      → Drops bad client stop store out client' store' out' end → end ≡ Ok done → ⊥
  drops_never true client stop store out client' store' out' end done gives well = ok_is_err done gives.stop (sym well ∙ gives.end_is)
  drops_never false client stop store out client' store' out' end done leaves well = ok_is_err done (stops.Call stop) (sym well ∙ leaves.end_is)

  follows_free : (client : ClientState) (got : Result ReplyFile CallStop) (store : StoreView) (out : OutView) (client' : ClientState) (store' : StoreView) (out' : OutView) (end : Result (Unit {0}) ClientStop) (done : Unit {0})
      → Follows client got store out client' store' out' end → end ≡ Ok done → IsFree client client'
  follows_free client (Err stop) store out client' store' out' end done drops well = absurd (drops_never (is_bad_request stop) client stop store out client' store' out' end done drops well)
  follows_free client (Ok reply) store out client' store' out' end done (judged, gives, goes) well = goes_free client reply judged store out client' store' out' end done gives goes well

  -- ---- a file from an earlier run

  resumes_does : (pass : List ℕ) (found : Option Outstanding) (client : ClientState) (link : LinkView) (store : StoreView) (out : OutView) (client' : ClientState) (ahead' : List ℕ) (link' : LinkView) (store' : StoreView) (out' : OutView) (end : Result (Unit {0}) ClientStop)
      → Resumes pass found client link store out client' ahead' link' store' out' end → IsSaved end → Does client store client' store'
  resumes_does pass None client link store out client' ahead' link' store' out' end (end_is, client_is, ahead_is, link_is, store_is, out_is) saved =
      as_before client client' store store' client_is store_is
  resumes_does pass (Some kept) client link store out client' ahead' link' store' out' end sends saved =
      sends_does pass client [] link store out client' ahead' link' store' out' end sends saved

  resumes_free : (pass : List ℕ) (found : Option Outstanding) (client : ClientState) (link : LinkView) (store : StoreView) (out : OutView) (client' : ClientState) (ahead' : List ℕ) (link' : LinkView) (store' : StoreView) (out' : OutView) (end : Result (Unit {0}) ClientStop) (done : Unit {0})
      → client.outstanding ≡ found → Resumes pass found client link store out client' ahead' link' store' out' end → end ≡ Ok done → IsFree client client'
  resumes_free pass None client link store out client' ahead' link' store' out' end done none (end_is, client_is, ahead_is, link_is, store_is, out_is) well =
      subst (IsFree client) (sym client_is) (record { free = none; number = refl })
  resumes_free pass (Some kept) client link store out client' ahead' link' store' out' end done there sends well =
      follows_free client sends.got store out client' store' out' end done sends.follows well

  -- ---- a new file

  made_kept : (client next : ClientState) (wish : Wish) (at : Moment) → made client wish at ≡ Ok next → (kept : Outstanding) × (next.outstanding ≡ Some kept)
  unfolding made
  made_kept client next wish at is = go (content_of client wish at) is
    where
      go : (found : Result Content ClientFault) → made_for client at found ≡ Ok next → (kept : Outstanding) × (next.outstanding ≡ Some kept)
      go (Err fault) same = absurd cc
      go (Ok content) same =
          let next_is : with_file client at content ≡ next = cc in
          subst (λ (c : ClientState). (kept : Outstanding) × (c.outstanding ≡ Some kept)) next_is (record { at = at; file = file_of client content }, refl)

  makes_act : (client next : ClientState) (wish : Wish) (at : Moment) → client.outstanding ≡ None → client.next < 9999999999 → IsSoundWish wish → made client wish at ≡ Ok next
      → (saved text : List ℕ) → IsSavedText text next → IsAct setup (customer_of client saved) (making wish at) (customer_of next text)
  makes_act client next wish at free number sound is saved text is_saved =
      let kept = made_kept client next wish at is in (
        sent setup kept.0,
        record {
          may = record { free = free; number = number; wish_is = sound };
          client = next;
          makes = is;
          saves = (refl, is_saved);
          kept = kept.0;
          outstanding = kept.1;
          is_sent = refl;
        },
      )

  kept_does : (client next client' : ClientState) (wish : Wish) (at : Moment) (kept : Result (Unit {0}) PutFault) (store store' : StoreView) (end : Result (Unit {0}) ClientStop)
      → client.outstanding ≡ None → client.next < 9999999999 → IsSoundWish wish → made client wish at ≡ Ok next → client' ≡ next → Saves next store store' kept
      → end ≡ commands.keep_end kept → IsSaved end → Does client store client' store'
  kept_does client next client' wish at (Err fault) store store' end free number sound is client_is saves end_is saved = absurd (saved fault end_is)
  kept_does client next client' wish at (Ok done) store store' end free number sound is client_is saves end_is saved =
      saved_act client next client' store store' (making wish at) (makes_act client next wish at free number sound is) client_is saves

  makes_does : (wish : Wish) (at : Moment) (client : ClientState) (judged : Result ClientState ClientFault) (store : StoreView) (client' : ClientState) (store' : StoreView) (end : Result (Unit {0}) ClientStop)
      → client.outstanding ≡ None → client.next < 9999999999 → IsSoundWish wish → FollowsRule (made client wish at) judged → KeepsMade judged client store client' store' end
      → IsSaved end → Does client store client' store'
  makes_does wish at client (Err fault) store client' store' end free number sound gives (end_is, client_is, store_is) saved = as_before client client' store store' client_is store_is
  makes_does wish at client (Ok next) store client' store' end free number sound gives (kept, client_is, saves, end_is) saved =
      kept_does client next client' wish at kept store store' end free number sound gives client_is saves end_is saved

  -- ---- the new file is sent

  sent_saved : (pass : List ℕ) (next : ClientState) (ahead : List ℕ) (made_end : Result (Unit {0}) ClientStop) (before after : PortsView) (end : Result (Unit {0}) ClientStop)
      → SendsIf pass next ahead made_end before after end → IsSaved end → IsSaved made_end
  sent_saved pass next ahead (Ok done) before after end sends saved = λ fault same. ok_is_err done (stops.Keep fault) same
  sent_saved pass next ahead (Err stop) before after end sends saved = λ fault same. saved fault (sends.0 ∙ same)

  sent_does : (pass : List ℕ) (next : ClientState) (ahead : List ℕ) (made_end : Result (Unit {0}) ClientStop) (before after : PortsView) (end : Result (Unit {0}) ClientStop) (sends : SendsIf pass next ahead made_end before after end)
      → IsSaved end → Does next before.store (sent_to pass next ahead made_end before after end sends) after.store
  sent_does pass next ahead (Err stop) before after end sends saved = as_before next next before.store after.store refl (ap (λ (p : PortsView). p.store) sends.1)
  sent_does pass next ahead (Ok done) before after end (client', ahead', shown_is, sends) saved =
      sends_does pass next ahead before.link before.store before.out client' ahead' after.link after.store after.out end sends saved

  -- ---- a whole command

  made_saved : (pass : List ℕ) (wish : Wish) (later : ClientState) (ahead : List ℕ) (first : Result (Unit {0}) ClientStop) (before after : PortsView) (end : Result (Unit {0}) ClientStop)
      → MakesIf pass wish later ahead first before after end → IsSaved end → IsSaved first
  made_saved pass wish later ahead (Ok done) before after end makes saved = λ fault same. ok_is_err done (stops.Keep fault) same
  made_saved pass wish later ahead (Err stop) before after end makes saved = λ fault same. saved fault (makes.0 ∙ same)

  made_does : (pass : List ℕ) (wish : Wish) (later : ClientState) (ahead : List ℕ) (first : Result (Unit {0}) ClientStop) (before after : PortsView) (end : Result (Unit {0}) ClientStop) (makes : MakesIf pass wish later ahead first before after end)
      → ((done : Unit {0}) → first ≡ Ok done → (later.outstanding ≡ None) × (later.next < 9999999999)) → IsSoundWish wish → IsSaved end
      → Does later before.store (made_to pass wish later ahead first before after end makes) after.store
  made_does pass wish later ahead (Err stop) before after end makes ready sound saved = as_before later later before.store after.store refl (ap (λ (p : PortsView). p.store) makes.1)
  made_does pass wish later ahead (Ok done) before after end makes ready sound saved =
      let free = ready done refl in
      does_then later makes.next (sent_to pass makes.next ahead makes.made_end makes.between after end makes.sends) before.store makes.between.store after.store
      (makes_does wish makes.makes.at later makes.makes.judged before.store makes.next makes.between.store makes.made_end free.0 free.1 sound makes.makes.gives makes.makes.keeps
      (sent_saved pass makes.next ahead makes.made_end makes.between after end makes.sends saved))
      (sent_does pass makes.next ahead makes.made_end makes.between after end makes.sends saved)

  acts_does : (pass : List ℕ) (wish : Wish) (client : ClientState) (before after : PortsView) (end : Result (Unit {0}) ClientStop) (acts : Acts pass wish client before after end)
      → client.next < 9999999999 → IsSoundWish wish → IsSaved end → Does client before.store (acted_to pass wish client before after end acts) after.store
  acts_does pass wish client before after end acts number sound saved =
      does_then client acts.later (acted_to pass wish client before after end acts) before.store acts.between.store after.store
      (resumes_does pass client.outstanding client before.link before.store before.out acts.later acts.ahead acts.between.link acts.between.store acts.between.out acts.first acts.resumes
      (made_saved pass wish acts.later acts.ahead acts.first acts.between after end acts.makes saved))
      (made_does pass wish acts.later acts.ahead acts.first acts.between after end acts.makes
      (λ done well.
      let free = resumes_free pass client.outstanding client before.link before.store before.out acts.later acts.ahead acts.between.link acts.between.store acts.between.out acts.first done refl acts.resumes well in
      (free.free, subst (λ (n : ℕ). n < 9999999999) (sym free.number) number)) sound saved)

  works_does : (pass : List ℕ) (wish : Wish) (client : ClientState) (before after : PortsView) (end : Result (Unit {0}) ClientStop) (works : Works pass wish client before after end)
      → client.next < 9999999999 → IsInBounds wish → IsSaved end → Does client before.store (worked_to pass wish client before after end works) after.store
  works_does pass wishes.Show client before after end (shows, link_is, store_is, shown_is) number sound saved = as_before client client before.store after.store refl store_is
  works_does pass (wishes.Check account) client before after end (checks, store_is) number sound saved = as_before client client before.store after.store refl store_is
  works_does pass (wishes.Sync account) client before after end acts number sound saved = acts_does pass (wishes.Sync account) client before after end acts number sound saved
  works_does pass (wishes.Transfer info) client before after end acts number sound saved = acts_does pass (wishes.Transfer info) client before after end acts number sound saved
  works_does pass (wishes.Modify id to amount due) client before after end acts number sound saved = acts_does pass (wishes.Modify id to amount due) client before after end acts number sound saved
  works_does pass (wishes.Cancel id) client before after end acts number sound saved = acts_does pass (wishes.Cancel id) client before after end acts number sound saved
  works_does pass (wishes.Repeat recur info) client before after end acts number sound saved = acts_does pass (wishes.Repeat recur info) client before after end acts number sound saved
  works_does pass (wishes.Stop id) client before after end acts number sound saved = acts_does pass (wishes.Stop id) client before after end acts number sound saved
  works_does pass (wishes.Mail subject body) client before after end acts number sound saved = acts_does pass (wishes.Mail subject body) client before after end acts number sound saved

  -- ---- a run

  run_acts : (order : Order) (before between after : PortsView) (end : Result (Unit {0}) ClientStop) (found : Result ClientState StoreOpenFault) (works : WorksIf order found between after end)
      (client left : ClientState) (saved : List ℕ) → IsInBounds order.wish → found ≡ Ok client → left_if order found between after end works ≡ Some left → IsSaved end
      → Finds order before.store between.store found → Stays before.store.text between.store.text → IsActedOut setup order before after client left saved
  run_acts order before between after end (Err fault) works client left saved sound is ended well finds stays = absurd cc
  run_acts order before between after end (Ok mine) works client left saved sound is ended well (text, text_is, is_in, ours) stays =
      let mine_is : mine ≡ client = cc in
      let left_is : worked_to order.pass order.wish mine between after end works ≡ left = cc in
      let does : Does client between.store left after.store =
      subst (λ (c : ClientState). Does c between.store left after.store) mine_is
      (subst (λ (c : ClientState). Does mine between.store c after.store) left_is (works_does order.pass order.wish mine between after end works ours.has_number sound well)) in
      let acts = does saved in
      record {
        acts = acts.0;
        last = acts.1;
        does = acts.2;
        starts = λ reported.
            let same : text ≡ saved = subst (λ (t : Option (List ℕ)). IfSome t (λ (here : List ℕ). text ≡ here)) reported text_is in
            subst (λ (c : ClientState). IsClientIn order saved c) mine_is (subst (λ (t : List ℕ). IsClientIn order t mine) same is_in);
        stands = λ reported. acts.3 (stay before.store.text between.store.text saved reported stays);
      }

pub runs_act : RunsAreActs
runs_act setup arguments before after what run client left saved found ended well =
    run_acts setup run.order before run.runs.between after run.end run.runs.found run.runs.works client left saved run.order.bounded found ended well run.runs.opens.finds run.runs.opens.stays
