-- What a run leaves in the store is the text of the client with which it ends.
use Rattle.std.proofs.Common.{◌≡◌, ◌≢◌, ◌∙◌, Bool, true, false, ℕ, ◌<◌, List, [], Option, None, Some, Result, Ok, Err, inl, inr, refl, sym, ap, subst}
use Rattle.ofx_ports.specs.Saved.{Becomes}
use Rattle.ofx_ports.specs.Known.{Stays}
use Rattle.ofx_ports.specs.declared.fault.PutFault.{PutFault}
use Rattle.ofx_types.specs.declared.number.Moment.{Moment}
use Rattle.ofx_types.specs.declared.reply.ReplyFile.{ReplyFile}
use Rattle.ofx_types.specs.declared.request.RequestFile.{RequestFile}
use Rattle.client_saved.specs.SavedText.{IsSavedText}
use Rattle.client_saved.specs.declared.state.ClientState.{ClientState}
use Rattle.client_saved.specs.declared.state.Outstanding.{Outstanding}
use Rattle.client_core.specs.ClientForm.{discarded}
use Rattle.client_core.specs.Accepting.{Accepted, accepted, accepted_to, accepted_unless, refusal_for, with_replies}
use Rattle.client_core.specs.Making.{made, made_for, with_file}
use Rattle.client_core.specs.ReportLines.{FollowsRule}
use Rattle.client_core.specs.Wishes.{content_of}
use Rattle.client_core.specs.declared.fault.ClientFault.{ClientFault}
use Rattle.client_core.specs.declared.wish.Wish.{Wish}
use Rattle.client_core.specs.declared.wish.Wish.TheVariants as wishes
use Rattle.client_arguments.specs.declared.order.Order.{Order}
use Rattle.client_run.specs.Views.{LinkView, StoreView, OutView, PortsView}
use Rattle.client_run.specs.Saves.{IsClientIn, IsOurs, IsText, Finds, Saves}
use Rattle.client_run.specs.Commands.{Resumes, KeepsMade, keep_end, SendsIf, MakesIf, Acts, Works}
use Rattle.client_run.specs.Lines.{printed}
use Rattle.client_run.specs.Run.{WorksIf, IsRun}
use Rattle.client_run.specs.Sending.{PrintsIf, GoesBy, given_up, is_bad_request, Drops, Follows, SendsOutstanding}
use Rattle.client_run.specs.GoingOn.{sent_to, made_to, acted_to, worked_to, left_if, left_by, IsSaved, FindsJust, GoesOn}
use Rattle.client_run.specs.declared.stop.CallStop.{CallStop}
use Rattle.client_run.specs.declared.stop.StoreOpenFault.{StoreOpenFault}
use Rattle.client_run.specs.declared.stop.StoreOpenFault.TheVariants as opens
use Rattle.client_run.specs.declared.stop.ClientStop.{ClientStop}
use Rattle.client_run.specs.declared.stop.ClientStop.TheVariants as stops
use Rattle.client_run.proofs.Opened.{OneState, NoneSaved, one_client, saved_filled, text_reported}

-- ---- name and user stay

record Same (client next : ClientState) : Type 0 where
  pub name : next.name ≡ client.name
  pub user : next.user ≡ client.user

unless_same : (client : ClientState) (file : RequestFile) (reply : ReplyFile) (refusal : Option ClientFault) (taken : Accepted) → accepted_unless client file reply refusal ≡ Ok taken → Same client taken.after
unless_same client file reply (Some fault) taken e = absurd cc
unless_same client file reply None taken e =
    let same : with_replies client file reply.replies ≡ taken = cc in
    subst (λ (t : Accepted). Same client t.after) same (record { name = refl; user = refl })

to_same : (client : ClientState) (outstanding : Option Outstanding) (reply : ReplyFile) (taken : Accepted) → accepted_to client outstanding reply ≡ Ok taken → Same client taken.after
to_same client None reply taken e = absurd cc
to_same client (Some kept) reply taken e = unless_same client kept.file reply (refusal_for kept.file reply) taken e

accepted_same : (client : ClientState) (reply : ReplyFile) (taken : Accepted) → accepted client reply ≡ Ok taken → Same client taken.after
unfolding accepted
accepted_same client reply taken e = to_same client client.outstanding reply taken e

made_same : (client next : ClientState) (wish : Wish) (at : Moment) → made client wish at ≡ Ok next → Same client next
unfolding made
made_same client next wish at e =
    (elim (content_of client wish at) as (λ content. made_for client at content ≡ Ok next → Same client next) [
      | Ok content ↦ (λ is.
          let same : with_file client at content ≡ next = cc in subst (λ (c : ClientState). Same client c) same (record { name = refl; user = refl }))
      | Err fault ↦ (λ is. absurd cc)
    ]) e

-- ---- what is kept

-- The store tells a text in which this client is, of the name and the user that are ordered.
record Keeps (order : Order) (store : StoreView) (client : ClientState) : Type 0 where
  pub text : List ℕ
  pub reported : store.text ≡ Some text
  pub is_in : IsClientIn order text client
  pub name : client.name ≡ order.name
  pub user : client.user ≡ order.user

-- Each step that ends with no failed save keeps the client with which it ends.
abbrev KeepsOn : Order → StoreView → ClientState → StoreView → ClientState → Type 0
KeepsOn order store client store' client' = Keeps order store client → Keeps order store' client'

as_before : (order : Order) (store store' : StoreView) (client client' : ClientState) → client' ≡ client → store' ≡ store → KeepsOn order store client store' client'
as_before order store store' client client' client_is store_is keeps =
    subst (λ (c : ClientState). Keeps order store' c) (sym client_is) (subst (λ (s : StoreView). Keeps order s client) (sym store_is) keeps)

-- A text that is known stays known, as it is or as what it becomes.
pub stay : (old new : Option (List ℕ)) (text : List ℕ) → old ≡ Some text → Stays old new → new ≡ Some text
stay None new text e stays = absurd cc
stay (Some old) None text e stays = absurd stays
stay (Some old) (Some new) text e stays = let same : old ≡ text = cc in ap (λ (t : List ℕ). Some t) (stays ∙ same)

pub become : (old new : Option (List ℕ)) (before text : List ℕ) → old ≡ Some before → Becomes old new text → new ≡ Some text
become None new before text e becomes = absurd cc
become (Some old) None before text e becomes = absurd becomes
become (Some old) (Some new) before text e becomes = ap (λ (t : List ℕ). Some t) becomes

saved_on : (order : Order) (store store' : StoreView) (client next client' : ClientState) → Same client next → client' ≡ next → Saves next store store' (Ok tt) → KeepsOn order store client store' client'
saved_on order store store' client next client' same client_is (text, saved, becomes, later) keeps =
    subst (λ (c : ClientState). Keeps order store' c) (sym client_is) (record {
      text = text;
      reported = become store.text store'.text keeps.text text keeps.reported becomes;
      is_in = inr saved;
      name = same.name ∙ keeps.name;
      user = same.user ∙ keeps.user;
    })

takes_on : (order : Order) (bytes : List ℕ) (kept : Result (Unit {0}) PutFault) (store store' : StoreView) (out out' : OutView) (client next client' : ClientState) (end : Result (Unit {0}) ClientStop) → Same client next → client' ≡ next → Saves next store store' kept → PrintsIf bytes kept out out' end → IsSaved end → KeepsOn order store client store' client'
takes_on order bytes (Err fault) store store' out out' client next client' end same client_is saves prints saved = absurd (saved fault prints.0)
takes_on order bytes (Ok done) store store' out out' client next client' end same client_is saves prints saved = saved_on order store store' client next client' same client_is saves

goes_on : (order : Order) (client : ClientState) (reply : ReplyFile) (judged : Result Accepted ClientFault) (store : StoreView) (out : OutView) (client' : ClientState) (store' : StoreView) (out' : OutView) (end : Result (Unit {0}) ClientStop) → FollowsRule (accepted client reply) judged → GoesBy client judged store out client' store' out' end → IsSaved end → KeepsOn order store client store' client'
goes_on order client reply (Err fault) store out client' store' out' end gives leaves saved = as_before order store store' client client' leaves.client_is leaves.store_is
goes_on order client reply (Ok taken) store out client' store' out' end gives takes saved =
    takes_on order (printed taken.lines) takes.kept store store' out out' client taken.after client' end (accepted_same client reply taken gives) takes.client_is takes.saves takes.prints saved

gives_on : (order : Order) (client : ClientState) (stop : CallStop) (kept : Result (Unit {0}) PutFault) (store store' : StoreView) (client' : ClientState) (end : Result (Unit {0}) ClientStop) → client' ≡ discarded client → Saves (discarded client) store store' kept → end ≡ Err (given_up stop kept) → IsSaved end → KeepsOn order store client store' client'
gives_on order client stop (Err fault) store store' client' end client_is saves end_is saved = absurd (saved fault end_is)
gives_on order client stop (Ok done) store store' client' end client_is saves end_is saved =
    saved_on order store store' client (discarded client) client' (record { name = refl; user = refl }) client_is saves

drops_on : (order : Order) (bad : Bool) (client : ClientState) (stop : CallStop) (store : StoreView) (out : OutView) (client' : ClientState) (store' : StoreView) (out' : OutView) (end : Result (Unit {0}) ClientStop) → Drops bad client stop store out client' store' out' end → IsSaved end → KeepsOn order store client store' client'
drops_on order true client stop store out client' store' out' end gives saved =
    gives_on order client stop gives.gives_up.kept store store' client' end gives.gives_up.client_is gives.gives_up.saves
    (gives.end_is ∙ ap (λ (s : ClientStop). Err s) gives.gives_up.stop_is) saved
drops_on order false client stop store out client' store' out' end leaves saved = as_before order store store' client client' leaves.client_is leaves.store_is

follows_on : (order : Order) (client : ClientState) (got : Result ReplyFile CallStop) (store : StoreView) (out : OutView) (client' : ClientState) (store' : StoreView) (out' : OutView) (end : Result (Unit {0}) ClientStop) → Follows client got store out client' store' out' end → IsSaved end → KeepsOn order store client store' client'
follows_on order client (Ok reply) store out client' store' out' end (judged, gives, goes) saved = goes_on order client reply judged store out client' store' out' end gives goes saved
follows_on order client (Err stop) store out client' store' out' end drops saved = drops_on order (is_bad_request stop) client stop store out client' store' out' end drops saved

settles_on : (order : Order) (pass : List ℕ) (client : ClientState) (ahead : List ℕ) (link : LinkView) (store : StoreView) (out : OutView) (client' : ClientState) (ahead' : List ℕ) (link' : LinkView) (store' : StoreView) (out' : OutView) (end : Result (Unit {0}) ClientStop) → SendsOutstanding pass client ahead link store out client' ahead' link' store' out' end → IsSaved end → KeepsOn order store client store' client'
settles_on order pass client ahead link store out client' ahead' link' store' out' end settles saved = follows_on order client settles.got store out client' store' out' end settles.follows saved

resumes_on : (order : Order) (pass : List ℕ) (outstanding : Option Outstanding) (client : ClientState) (link : LinkView) (store : StoreView) (out : OutView) (client' : ClientState) (ahead' : List ℕ) (link' : LinkView) (store' : StoreView) (out' : OutView) (end : Result (Unit {0}) ClientStop) → Resumes pass outstanding client link store out client' ahead' link' store' out' end → IsSaved end → KeepsOn order store client store' client'
resumes_on order pass None client link store out client' ahead' link' store' out' end (end_is, client_is, ahead_is, link_is, store_is, out_is) saved = as_before order store store' client client' client_is store_is
resumes_on order pass (Some kept) client link store out client' ahead' link' store' out' end settles saved = settles_on order pass client [] link store out client' ahead' link' store' out' end settles saved

keeps_on : (order : Order) (judged : Result ClientState ClientFault) (client : ClientState) (wish : Wish) (at : Moment) (store : StoreView) (client' : ClientState) (store' : StoreView) (end : Result (Unit {0}) ClientStop) → FollowsRule (made client wish at) judged → KeepsMade judged client store client' store' end → IsSaved end → KeepsOn order store client store' client'
keeps_on order (Err fault) client wish at store client' store' end gives (end_is, client_is, store_is) saved = as_before order store store' client client' client_is store_is
keeps_on order (Ok next) client wish at store client' store' end gives (Err fault, client_is, saves, end_is) saved = absurd (saved fault end_is)
keeps_on order (Ok next) client wish at store client' store' end gives (Ok done, client_is, saves, end_is) saved = saved_on order store store' client next client' (made_same client next wish at gives) client_is saves

-- what went well needed no save that failed
went_well : (done : Unit {0}) → IsSaved (Ok done)
went_well done fault e = cc

sends_on : (order : Order) (pass : List ℕ) (next : ClientState) (ahead : List ℕ) (made_end : Result (Unit {0}) ClientStop) (before after : PortsView) (end : Result (Unit {0}) ClientStop) (sends : SendsIf pass next ahead made_end before after end) → IsSaved end → (IsSaved made_end → Keeps order before.store next) → Keeps order after.store (sent_to pass next ahead made_end before after end sends)
sends_on order pass next ahead (Err stop) before after end (end_is, same) saved keeps =
    subst (λ (ports : PortsView). Keeps order ports.store next) (sym same) (keeps (subst IsSaved end_is saved))
sends_on order pass next ahead (Ok done) before after end (client', ahead', shown_is, settles) saved keeps =
    settles_on order pass next ahead before.link before.store before.out client' ahead' after.link after.store after.out end settles saved (keeps (went_well done))

makes_on : (order : Order) (pass : List ℕ) (wish : Wish) (later : ClientState) (ahead : List ℕ) (first : Result (Unit {0}) ClientStop) (before after : PortsView) (end : Result (Unit {0}) ClientStop) (makes : MakesIf pass wish later ahead first before after end) → IsSaved end → (IsSaved first → Keeps order before.store later) → Keeps order after.store (made_to pass wish later ahead first before after end makes)
makes_on order pass wish later ahead (Err stop) before after end (end_is, same) saved keeps =
    subst (λ (ports : PortsView). Keeps order ports.store later) (sym same) (keeps (subst IsSaved end_is saved))
makes_on order pass wish later ahead (Ok done) before after end makes saved keeps =
    sends_on order pass makes.next ahead makes.made_end makes.between after end makes.sends saved
    (λ well. keeps_on order makes.makes.judged later wish makes.makes.at before.store makes.next makes.between.store makes.made_end makes.makes.gives makes.makes.keeps well (keeps (went_well done)))

acts_on : (order : Order) (pass : List ℕ) (wish : Wish) (client : ClientState) (before after : PortsView) (end : Result (Unit {0}) ClientStop) (acts : Acts pass wish client before after end) → IsSaved end → Keeps order before.store client → Keeps order after.store (acted_to pass wish client before after end acts)
acts_on order pass wish client before after end acts saved keeps =
    makes_on order pass wish acts.later acts.ahead acts.first acts.between after end acts.makes saved
    (λ well. resumes_on order pass client.outstanding client before.link before.store before.out acts.later acts.ahead acts.between.link acts.between.store acts.between.out acts.first acts.resumes well keeps)

works_on : (order : Order) (pass : List ℕ) (wish : Wish) (client : ClientState) (before after : PortsView) (end : Result (Unit {0}) ClientStop) (works : Works pass wish client before after end) → IsSaved end → Keeps order before.store client → Keeps order after.store (worked_to pass wish client before after end works)
works_on order pass wishes.Show client before after end (shows, link_is, store_is, shown_is) saved keeps = as_before order before.store after.store client client refl store_is keeps
works_on order pass (wishes.Check account) client before after end (checks, store_is) saved keeps = as_before order before.store after.store client client refl store_is keeps
works_on order pass (wishes.Sync account) client before after end acts saved keeps = acts_on order pass (wishes.Sync account) client before after end acts saved keeps
works_on order pass (wishes.Transfer info) client before after end acts saved keeps = acts_on order pass (wishes.Transfer info) client before after end acts saved keeps
works_on order pass (wishes.Modify id to amount due) client before after end acts saved keeps = acts_on order pass (wishes.Modify id to amount due) client before after end acts saved keeps
works_on order pass (wishes.Cancel id) client before after end acts saved keeps = acts_on order pass (wishes.Cancel id) client before after end acts saved keeps
works_on order pass (wishes.Repeat recur info) client before after end acts saved keeps = acts_on order pass (wishes.Repeat recur info) client before after end acts saved keeps
works_on order pass (wishes.Stop id) client before after end acts saved keeps = acts_on order pass (wishes.Stop id) client before after end acts saved keeps
works_on order pass (wishes.Mail subject body) client before after end acts saved keeps = acts_on order pass (wishes.Mail subject body) client before after end acts saved keeps

-- ---- the run

run_on : (order : Order) (before between after : PortsView) (end : Result (Unit {0}) ClientStop) (found : Result ClientState StoreOpenFault) (works : WorksIf order found between after end) (text : List ℕ) (client : ClientState)
    → before.store.text ≡ Some text → Stays before.store.text between.store.text → Finds order before.store between.store found
    → left_if order found between after end works ≡ Some client → IsSaved end → Keeps order after.store client
run_on order before between after end (Err fault) works text client reported stays finds left saved = absurd cc
run_on order before between after end (Ok mine) works text client reported stays (read, read_is, is_in, ours) left saved =
    let ended : worked_to order.pass order.wish mine between after end works ≡ client = cc in
    subst (λ (c : ClientState). Keeps order after.store c) ended (works_on order order.pass order.wish mine between after end works saved (record {
      text = text;
      reported = stay before.store.text between.store.text text reported stays;
      is_in = subst (λ (t : List ℕ). IsClientIn order t mine) (text_reported before.store text read reported read_is) is_in;
      name = ours.name_is;
      user = ours.user_is;
    }))

-- what the later run finds
finds_just : OneState → NoneSaved → (order other : Order) (client : ClientState) (text : List ℕ) (before between : StoreView) (found : Result ClientState StoreOpenFault) → other.name ≡ order.name → other.user ≡ order.user → before.text ≡ Some text
    → IsClientIn order text client → client.name ≡ order.name → client.user ≡ order.user → Finds other before between found → FindsJust client found
finds_just one none order other client text before between (Ok mine) name user reported is_in name_is user_is (read, read_is, in_it, ours) =
    one_client one order other text client mine name user is_in (subst (λ (t : List ℕ). IsClientIn other t mine) (text_reported before text read reported read_is) in_it)
finds_just one none order other client text before between (Err opens.NotOurs) name user reported is_in name_is user_is (read, mine, read_is, in_it, others) = λ small.
    let same : mine ≡ client = one_client one order other text client mine name user is_in (subst (λ (t : List ℕ). IsClientIn other t mine) (text_reported before text read reported read_is) in_it) in
    others (record {
      name_is = ap (λ (c : ClientState). c.name) same ∙ (name_is ∙ sym name);
      user_is = ap (λ (c : ClientState). c.user) same ∙ (user_is ∙ sym user);
      has_number = subst (λ (c : ClientState). c.next < 9999999999) (sym same) small;
    })
finds_just one none order other client text before between (Err (opens.Bad at)) name user reported (inl (empty, new)) name_is user_is (read, read_is, some, fault) =
    some (text_reported before text read reported read_is ∙ empty)
finds_just one none order other client text before between (Err (opens.Bad at)) name user reported (inr saved) name_is user_is (read, read_is, some, fault) =
    none read at client fault (subst (λ (t : List ℕ). IsSavedText t client) (sym (text_reported before text read reported read_is)) saved)
finds_just one none order other client text before between (Err opens.Failed) name user reported is_in name_is user_is finds = tt
finds_just one none order other client text before between (Err opens.OutOfMemory) name user reported is_in name_is user_is finds = tt

pub goes_on_from : OneState → NoneSaved → GoesOn
goes_on_from one none arguments later_words before after later_before later_after what later_what run later client follows left saved =
    let kept : Keeps run.order after.store client = run_on run.order before run.runs.between after run.end run.runs.found run.runs.works follows.text client follows.reported_is run.runs.opens.stays run.runs.opens.finds left saved in
    finds_just one none run.order later.order client kept.text later_before.store later.runs.between.store later.runs.found follows.name_is follows.user_is
    (ap (λ (s : StoreView). s.text) follows.store_is ∙ kept.reported) kept.is_in kept.name kept.user later.runs.opens.finds
