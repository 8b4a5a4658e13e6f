-- The asks of a poll, one after another.
use Rattle.std.proofs.Common.{◌≡◌, ℕ, ◌<◌, ◌≤◌, ◌+◌, List, [], ◌∷◌, ◌++◌, length, map, take, get_or, All, Option, Some, Result, Ok, Err, IfOk, OnErr, refl, sym, ap, ◌∙◌, subst, append_assoc, append-nil, arith}
use Rattle.std.specs.Option.{option_map, option_to_list}
use Rattle.std.proofs.lemmas.Grind.{flat_map-append}
use Rattle.std.proofs.lemmas.List.{map-append, length-map, take_more, take_all}
use Rattle.std.proofs.lemmas.List.Elements.{All-append, All-cons, All-nil}
use Rattle.ofx_types.specs.ReplyForm.{reply_text}
use Rattle.ofx_types.specs.declared.number.ObjectId.{ObjectId}
use Rattle.ofx_types.specs.declared.number.UserId.{UserId}
use Rattle.ofx_types.specs.declared.number.Moment.{Moment}
use Rattle.ofx_types.specs.declared.request.Ask.{Ask}
use Rattle.ofx_types.specs.declared.request.RequestFile.{RequestFile}
use Rattle.ofx_types.specs.declared.reply.AskReply.{AskReply}
use Rattle.bank_model.specs.declared.entry.Entry.{Entry}
use Rattle.bank_model.specs.declared.setup.Setup.{Setup}
use Rattle.bank_model.specs.declared.event.State.{State}
use Rattle.bank_model.specs.Log.{entries_in}
use Rattle.bank_model.specs.Objects.{object_named}
use Rattle.ofx_types.specs.declared.sync.ObjectName.{ObjectName}
use Rattle.token_board.specs.declared.view.Load.{Load}
use Rattle.token_board.specs.Steps.{load_of}
use Rattle.token_board.specs.Tokens.{IsFreshIn}
use Rattle.token_board.specs.Views.{BoardView, PassView}
use Rattle.bank_callers.specs.Boards.{ObjectsAreCounted, TokensAreFresh}
use Rattle.bank_callers.specs.Callers.{CallerView, IsFresh, IsLooked, HasPolled, HasLoaded, entries_seen}
use Rattle.bank_callers.specs.Polled.{object_asked, loads_made, answer_with, answer_told, answers_reported, poll_reported}
use Rattle.bank_shared.specs.Asking.{HasAsked}
use Rattle.bank_shared.specs.Holds.{BeginsAt, caller_of}

abbrev object_of : Option Load → Option ObjectId
object_of load = option_map (λ (l : Load). l.object) load

answers-more : (asks : List Ask) (ask : Ask) (loads : List (Option Load)) (load : Option Load) → length loads ≡ length asks
    → answers_reported (asks ++ ask ∷ []) (loads ++ load ∷ []) ≡ answers_reported asks loads ++ answer_told ask load
answers-more [] ask [] load same = append-nil (answer_told ask load)
answers-more [] ask (other ∷ loads) load same = absurd (omega arith)
answers-more (first ∷ asks) ask [] load same = absurd (omega arith)
answers-more (first ∷ asks) ask (other ∷ loads) load same =
    ap (λ (l : List AskReply). answer_told first other ++ l) (answers-more asks ask loads load (omega arith))
    ∙ sym (append_assoc (answer_told first other) (answers_reported asks loads) (answer_told ask load))

-- tokens that are loaded in two steps
polled_twice : (loads more : List Load) (before mid after : CallerView) → HasPolled loads before mid → HasPolled more mid after → HasPolled (loads ++ more) before after
polled_twice loads more before mid after one two =
    let seen : entries_seen mid ≡ entries_seen before = ap (λ S. entries_in S mid.seen) one.opening ∙ ap (entries_in before.opening) one.seen in
    record {
      opening = two.opening ∙ one.opening;
      seen = two.seen ∙ one.seen;
      mine = two.mine ∙ one.mine;
      polled = two.polled ∙ (ap (λ (l : List Load). l ++ more) one.polled ∙ append_assoc before.polled loads more);
      fresh = All-append (IsFresh (entries_seen before)) loads more one.fresh (subst (λ (es : List Entry). All (IsFresh es) more) seen two.fresh);
    }

-- ---- one token

-- a pass that has loaded one token more
abbrev pub with_load : Load → PassView → PassView
with_load load pass = record { table = pass.table; seen = pass.seen; mine = pass.mine; polled = pass.polled ++ load ∷ [] }

pub one_load : (setup : Setup) (opening : State) (board : BoardView) (user : UserId) (name : ObjectName) (object : ObjectId) (token : ℕ) (old new : PassView)
    → ObjectsAreCounted → TokensAreFresh → BeginsAt setup opening board → user.0 < length setup.users → object_named setup user name ≡ Some object
    → new ≡ with_load (load_of object token) old → IsFreshIn board.start old.seen (load_of object token)
    → HasPolled (load_of object token ∷ []) (caller_of opening old) (caller_of opening new)
one_load setup opening board user name object token old new counted fresh begins known named is fresh_in =
    let load : Load = load_of object token in
    let one : IsFresh (entries_in opening old.seen) load = fresh setup opening board.start old.seen load begins (counted setup user name object known named) fresh_in in
    record {
      opening = refl;
      seen = ap (λ (p : PassView). p.seen) is;
      mine = ap (λ (p : PassView). p.mine) is;
      polled = ap (λ (p : PassView). p.polled) is;
      fresh = All-cons (IsFresh (entries_in opening old.seen)) load [] one (All-nil (IsFresh (entries_in opening old.seen)));
    }

-- ---- the asks so far

pub none_asked : (setup : Setup) (user : UserId) (caller : CallerView) → HasAsked setup user [] [] caller caller
none_asked setup user caller = record {
  loads = [];
  are_loads = refl;
  answers = refl;
  polled = record { opening = refl; seen = refl; mine = refl; polled = sym (append-nil caller.polled); fresh = All-nil (IsFresh (entries_seen caller)) };
}

pub one_asked : (setup : Setup) (user : UserId) (asks : List Ask) (ask : Ask) (replies replies' : List AskReply) (before mid after : CallerView) (load : Option Load) (token : Option ℕ)
    → HasAsked setup user asks replies before mid → option_map (λ (l : Load). l.object) load ≡ object_asked setup user ask → token ≡ option_map (λ (l : Load). l.token) load
    → HasPolled (option_to_list load) mid after → replies' ≡ replies ++ answer_with ask token → HasAsked setup user (asks ++ ask ∷ []) replies' before after
one_asked setup user asks ask replies replies' before mid after load token so object is polled answered =
    let as_many : length so.loads ≡ length asks =
    sym (length-map so.loads object_of) ∙ (ap length so.are_loads ∙ length-map asks (object_asked setup user)) in
    let made : loads_made (so.loads ++ load ∷ []) ≡ loads_made so.loads ++ option_to_list load =
    flat_map-append option_to_list so.loads (load ∷ []) ∙ ap (λ (l : List Load). loads_made so.loads ++ l) (append-nil (option_to_list load)) in
    record {
      loads = so.loads ++ load ∷ [];
      are_loads =
          map-append object_of so.loads (load ∷ [])
          ∙ (ap (λ (l : List (Option ObjectId)). l ++ object_of load ∷ []) so.are_loads
          ∙ (ap (λ (o : Option ObjectId). map (object_asked setup user) asks ++ o ∷ []) object ∙ sym (map-append (object_asked setup user) asks (ask ∷ []))));
      answers =
          answered
          ∙ (ap (λ (t : Option ℕ). replies ++ answer_with ask t) is
          ∙ (ap (λ (l : List AskReply). l ++ answer_told ask load) so.answers ∙ sym (answers-more asks ask so.loads load as_many)));
      polled = subst (λ (l : List Load). HasPolled l before after) (sym made) (polled_twice (loads_made so.loads) (option_to_list load) before mid after so.polled polled);
    }

-- the ask at an index
pub asked_next : (setup : Setup) (user : UserId) (asks : List Ask) (k : ℕ) (ask : Ask) (replies replies' : List AskReply) (before mid after : CallerView) (load : Option Load) (token : Option ℕ)
    → k < length asks → ask ≡ get_or asks k ask → HasAsked setup user (take k asks) replies before mid
    → option_map (λ (l : Load). l.object) load ≡ object_asked setup user ask → token ≡ option_map (λ (l : Load). l.token) load
    → HasPolled (option_to_list load) mid after → replies' ≡ replies ++ answer_with ask token → HasAsked setup user (take (k + 1) asks) replies' before after
asked_next setup user asks k ask replies replies' before mid after load token below is so object token_is polled answered =
    let more : take k asks ++ ask ∷ [] ≡ take (k + 1) asks = ap (λ (a : Ask). take k asks ++ a ∷ []) is ∙ sym (take_more asks k ask below) in
    subst (λ (l : List Ask). HasAsked setup user l replies' before after) more
    (one_asked setup user (take k asks) ask replies replies' before mid after load token so object token_is polled answered)

-- all of them
pub asked_all : (setup : Setup) (user : UserId) (asks : List Ask) (k : ℕ) (replies replies' : List AskReply) (before after : CallerView) → length asks ≤ k → replies' ≡ replies
    → HasAsked setup user (take k asks) replies before after → HasAsked setup user asks replies' before after
asked_all setup user asks k replies replies' before after past same so =
    subst (λ (l : List Ask). HasAsked setup user l replies' before after) (take_all k asks past)
    (subst (λ (rs : List AskReply). HasAsked setup user (take k asks) rs before after) (sym same) so)

pub asked_none : (setup : Setup) (user : UserId) (asks : List Ask) (replies : List AskReply) (caller : CallerView) → replies ≡ [] → HasAsked setup user (take 0 asks) replies caller caller
asked_none setup user asks replies caller none = subst (λ (rs : List AskReply). HasAsked setup user [] rs caller caller) (sym none) (none_asked setup user caller)

-- ---- the whole poll

has_loaded : (loads : List Load) (before after : CallerView) → HasPolled loads before after → HasLoaded before after
has_loaded loads before after h = record { opening = h.opening; seen = h.seen; mine = h.mine; loads = loads; polled = h.polled }

-- it ended within an ask, for want of memory
pub loaded : (setup : Setup) (user : UserId) (asks : List Ask) (replies : List AskReply) (before after : CallerView) → HasAsked setup user asks replies before after → HasLoaded before after
loaded setup user asks replies before after so = has_loaded (loads_made so.loads) before after so.polled

pub loaded_more : (setup : Setup) (user : UserId) (asks : List Ask) (replies : List AskReply) (before mid after : CallerView) (load : Option Load)
    → HasAsked setup user asks replies before mid → HasPolled (option_to_list load) mid after → HasLoaded before after
loaded_more setup user asks replies before mid after load so polled =
    has_loaded (loads_made so.loads ++ option_to_list load) before after (polled_twice (loads_made so.loads) (option_to_list load) before mid after so.polled polled)

pub looked : (setup : Setup) (user : UserId) (file : RequestFile) (at : Moment) (reply : List ℕ) (replies : List AskReply) (before after : CallerView)
    → (so : HasAsked setup user file.asks replies before after) → reply ≡ reply_text (poll_reported file at so.loads)
    → IsLooked setup user file at reply (Some before) (Some after)
looked setup user file at reply replies before after so is = record { loads = so.loads; are_loads = so.are_loads; reported = is; knows = so.polled }

-- nothing was loaded
pub loaded_none : (caller : CallerView) → HasLoaded caller caller
loaded_none caller = record { opening = refl; seen = refl; mine = refl; loads = []; polled = sym (append-nil caller.polled) }

-- the same asks, lent
all_asked : (setup : Setup) (user : UserId) (lent all : List Ask) (replies : List AskReply) (before after : CallerView) → lent ≡ all → HasAsked setup user lent replies before after
    → HasAsked setup user all replies before after
all_asked setup user lent all replies before after same so = record {
  loads = so.loads;
  are_loads = so.are_loads ∙ ap (map (object_asked setup user)) same;
  answers = so.answers ∙ ap (λ (l : List Ask). answers_reported l so.loads) same;
  polled = so.polled;
}

-- ---- what a poll answered

pub looked_if : {A E : Type 0} (items : A → List ℕ) (result : Result A E) (setup : Setup) (user : UserId) (file : RequestFile) (at : Moment) (lent : List Ask) (replies : List AskReply) (before after : CallerView)
    → lent ≡ file.asks → (so : HasAsked setup user lent replies before after) → IfOk result (λ (reply : A). items reply ≡ reply_text (poll_reported file at so.loads))
    → IfOk result (λ (reply : A). IsLooked setup user file at (items reply) (Some before) (Some after))
unfolding all_asked
looked_if items (Ok reply) setup user file at lent replies before after same so is =
    looked setup user file at (items reply) replies before after (all_asked setup user lent file.asks replies before after same so) is
looked_if items (Err fault) setup user file at lent replies before after same so is = tt

pub loaded_if : {A E : Type 0} (result : Result A E) (setup : Setup) (user : UserId) (asks : List Ask) (replies : List AskReply) (before after : CallerView)
    → HasAsked setup user asks replies before after → OnErr result (HasLoaded before after)
loaded_if (Ok reply) setup user asks replies before after so = tt
loaded_if (Err fault) setup user asks replies before after so = loaded setup user asks replies before after so
