-- What each answer to a body is worth to a connection.
use Rattle.std.proofs.Common.{◌≡◌, ℕ, ◌≤◌, Bool, true, false, List, [], ◌∷◌, ◌++◌, length, get_or, codes, decimal, All, Contains, Option, None, Some, IfSome, option_to_list, refl, sym, ap, ◌∙◌, subst, append_assoc, append-nil}
use Rattle.std.proofs.lemmas.List.Elements.{Contains-append_right, Contains-get_or, All-nil}
use Rattle.ofx_types.specs.FileForm.{SpellsFile}
use Rattle.ofx_types.specs.ReplyForm.{reply_text}
use Rattle.ofx_types.specs.declared.number.UserId.{UserId}
use Rattle.ofx_types.specs.declared.number.Moment.{Moment}
use Rattle.ofx_types.specs.declared.request.RequestFile.{RequestFile}
use Rattle.ofx_ports.specs.Known.{Grows}
use Rattle.ofx_ports.proofs.KnownLaws.{Grows-nil}
use Rattle.bank_model.specs.declared.setup.Setup.{Setup}
use Rattle.bank_model.specs.declared.log.LogItem.{LogItem}
use Rattle.bank_model.specs.declared.log.LogItem.TheVariants.{Answer as AnswerItem, Fault}
use Rattle.bank_model.specs.Log.{is_ending, endings, ending}
use Rattle.bank_model.specs.Polls.{is_poll}
use Rattle.bank_model.specs.Rules.{denial}
use Rattle.bank_signon.specs.Signon.{IsSignedOn, IsDenied, IsRefused}
use Rattle.token_board.specs.declared.view.Load.{Load}
use Rattle.bank_callers.specs.Polled.{loads_made}
use Rattle.bank_callers.specs.Callers.{CallerView, Knows, GainsEnding, GainsNothing, IsCommitted, IsFaulted, HasPolled, IsLooked, HasLoaded}
use Rattle.bank_connection.specs.Exchanges.{Outcome, misspelled, denied, polled, ended, no_memory, EndsFile, endings_of}
use Rattle.http_link.specs.Replies.{line, reply_of}
use Rattle.bank_connection.specs.ReplyText.{ending_reply, outcome_reply}
use Rattle.bank_connection.specs.Watched.{SeesAt, loads_of}
use Rattle.bank_connection.specs.Answering.{answer_code, answer_body, reports_no_memory, HasSeen, Watches, IsAnswerTo, Answers}
use Rattle.bank_connection.specs.declared.answer.Answer.{Answer}
use Rattle.bank_connection.specs.declared.answer.Answer.TheVariants.{NoMemory}
use Rattle.bank_connection.proofs.Logs.{last_ending}

-- the later elements of a list are among all of its elements
all_after : (xs ys : List Load) → All (Contains (xs ++ ys)) ys
all_after xs ys k d below = Contains-append_right xs ys (get_or ys k d) (Contains-get_or ys k d below)

-- an answer that says this is so much
abbrev pub HasAnswer : Answer → ℕ → List ℕ → Type 0
HasAnswer answer code body = (answer_code answer ≡ code) × (answer_body answer ≡ body) × (reports_no_memory answer ≡ false)

-- ---- answers for which the office isn't asked

knows-same : (office : Option CallerView) (P : CallerView → CallerView → Type 0) → ((v : CallerView) → P v v) → Knows office office P
knows-same None P p = tt
knows-same (Some v) P p = p v

-- an outcome of no ending and no tokens sees nothing new
pub watches-same : (outcome : Outcome) → endings_of outcome ≡ [] → loads_of outcome ≡ [] → ((v : CallerView) → SeesAt v.opening v.seen outcome v.seen)
    → (office : Option CallerView) → Knows office office (Watches [] outcome)
watches-same outcome no_endings no_loads sees office = knows-same office (Watches [] outcome) (λ v. record {
  opening = refl;
  seen = sym (append-nil v.seen);
  sees = sees v;
  mine = sym (append-nil v.mine) ∙ ap (λ (l : List ℕ). v.mine ++ l) (sym no_endings);
  loads = [];
  polled = sym (append-nil v.polled);
  among = subst (All (Contains v.polled)) (sym no_loads) (All-nil (Contains v.polled));
  hold = λ some. absurd (some no_endings);
})

pub misspelled_is : (setup : Setup) (body : List ℕ) (offset : ℕ) (shown : Option (List Moment)) (known : Option CallerView) (answer : Answer)
    → IsRefused body offset → HasAnswer answer 400 (line (codes "bad file at " ++ decimal offset)) → Answers setup body shown shown known known answer
unfolding outcome_reply
misspelled_is setup body offset shown known answer is says log seen = record {
  grown = [];
  outcome = misspelled offset;
  comes_to = is;
  text = λ closes. rw (says.0, says.1) refl;
  no_memory = sym says.2;
  moments = Grows-nil shown;
  watches = watches-same (misspelled offset) refl refl (λ v. ([], sym (append-nil v.seen))) known;
}

pub denied_is : (setup : Setup) (body : List ℕ) (file : RequestFile) (at : Moment) (shown shown' : Option (List Moment)) (known : Option CallerView) (answer : Answer)
    → IsDenied setup body file → Grows shown shown' (at ∷ []) → HasAnswer answer 200 (reply_text (denial file at)) → Answers setup body shown shown' known known answer
unfolding outcome_reply
denied_is setup body file at shown shown' known answer is moments says log seen = record {
  grown = [];
  outcome = denied file at;
  comes_to = is;
  text = λ closes. rw (says.0, says.1) refl;
  no_memory = sym says.2;
  moments = moments;
  watches = watches-same (denied file at) refl refl (λ v. ([], sym (append-nil v.seen))) known;
}

-- want of memory, with what the office knows then
no_memory_with : (setup : Setup) (body : List ℕ) (at : Option Moment) (shown shown' : Option (List Moment)) (old new : Option CallerView) (log grown : List LogItem)
    → IfSome at (λ moment. (file : RequestFile) × SpellsFile body file) → Grows shown shown' (option_to_list at)
    → Knows old new (Watches grown (no_memory at)) → IsAnswerTo setup log body shown shown' old new NoMemory
unfolding outcome_reply
no_memory_with setup body at shown shown' old new log grown is moments watches = record {
  grown = grown;
  outcome = no_memory at;
  comes_to = is;
  text = λ closes. refl;
  no_memory = refl;
  moments = moments;
  watches = watches;
}

pub no_memory_is : (setup : Setup) (body : List ℕ) (at : Option Moment) (shown shown' : Option (List Moment)) (known : Option CallerView)
    → IfSome at (λ moment. (file : RequestFile) × SpellsFile body file) → Grows shown shown' (option_to_list at) → Answers setup body shown shown' known known NoMemory
no_memory_is setup body at shown shown' known is moments log seen =
    no_memory_with setup body at shown shown' known known log [] is moments (watches-same (no_memory at) refl refl (λ v. ([], sym (append-nil v.seen))) known)

-- ---- polls

polled_watches : (old new : Option CallerView) (user : UserId) (file : RequestFile) (at : Moment) (loads : List (Option Load))
    → Knows old new (HasPolled (loads_made loads)) → Knows old new (Watches [] (polled user file at loads))
polled_watches None None user file at loads p = tt
polled_watches None (Some w) user file at loads p = absurd p
polled_watches (Some v) None user file at loads p = absurd p
polled_watches (Some v) (Some w) user file at loads p = record {
  opening = p.opening;
  seen = p.seen ∙ sym (append-nil v.seen);
  sees = (([], p.seen ∙ sym (append-nil v.seen)), p.fresh);
  mine = p.mine ∙ sym (append-nil v.mine);
  loads = loads_made loads;
  polled = p.polled;
  among = subst (λ (l : List Load). All (Contains l) (loads_made loads)) (sym p.polled) (all_after v.polled (loads_made loads));
  hold = λ some. absurd (some refl);
}

pub looked_is : (setup : Setup) (body : List ℕ) (user : UserId) (file : RequestFile) (at : Moment) (reply : List ℕ) (shown shown' : Option (List Moment)) (old new : Option CallerView) (answer : Answer)
    → IsSignedOn setup body file user → is_poll file ≡ true → IsLooked setup user file at reply old new → Grows shown shown' (at ∷ []) → HasAnswer answer 200 reply
    → Answers setup body shown shown' old new answer
unfolding outcome_reply
looked_is setup body user file at reply shown shown' old new answer signed poll looked moments says log seen = record {
  grown = [];
  outcome = polled user file at looked.loads;
  comes_to = (signed, poll, looked.are_loads);
  text = λ closes. rw (says.0, says.1, looked.reported) refl;
  no_memory = sym says.2;
  moments = moments;
  watches = polled_watches old new user file at looked.loads looked.knows;
}

loaded_watches : (old new : Option CallerView) (at : Option Moment) → Knows old new HasLoaded → Knows old new (Watches [] (no_memory at))
loaded_watches None None at p = tt
loaded_watches None (Some w) at p = absurd p
loaded_watches (Some v) None at p = absurd p
loaded_watches (Some v) (Some w) at p = record {
  opening = p.opening;
  seen = p.seen ∙ sym (append-nil v.seen);
  sees = ([], p.seen ∙ sym (append-nil v.seen));
  mine = p.mine ∙ sym (append-nil v.mine);
  loads = p.loads;
  polled = p.polled;
  among = All-nil (Contains w.polled);
  hold = λ some. absurd (some refl);
}

pub look_refused : (setup : Setup) (body : List ℕ) (user : UserId) (file : RequestFile) (at : Moment) (shown shown' : Option (List Moment)) (old new : Option CallerView)
    → IsSignedOn setup body file user → Knows old new HasLoaded → Grows shown shown' (at ∷ []) → Answers setup body shown shown' old new NoMemory
look_refused setup body user file at shown shown' old new signed knows moments log seen =
    no_memory_with setup body (Some at) shown shown' old new log [] (file, signed.spelled) moments (loaded_watches old new (Some at) knows)

-- ---- files

-- an ending of one's own is the last one of the log
own_ending : (log others : List LogItem) (item : LogItem) → is_ending item ≡ true
    → (1 ≤ length (endings (log ++ (others ++ item ∷ [])))) × (ending (log ++ (others ++ item ∷ [])) (length (endings (log ++ (others ++ item ∷ [])))) ≡ Some item)
own_ending log others item is =
    subst (λ (l : List LogItem). (1 ≤ length (endings l)) × (ending l (length (endings l)) ≡ Some item)) (append_assoc log others (item ∷ [])) (last_ending (log ++ others) item is)

gains_watches : (old new : Option CallerView) (log grown : List LogItem) (user : UserId) (file : RequestFile) (at : Moment) → HasSeen log old
    → Knows old new (GainsEnding grown) → Knows old new (Watches grown (ended user file at (length (endings (log ++ grown)))))
gains_watches None None log grown user file at seen g = tt
gains_watches None (Some w) log grown user file at seen g = absurd g
gains_watches (Some v) None log grown user file at seen g = absurd g
gains_watches (Some v) (Some w) log grown user file at seen g =
    let same : w.seen ≡ log ++ grown = g.seen ∙ ap (λ (l : List LogItem). l ++ grown) seen in
    let number : length (endings (log ++ grown)) ≡ length (endings w.seen) = ap (λ (l : List LogItem). length (endings l)) (sym same) in
    record {
      opening = g.opening;
      seen = g.seen;
      sees = ((grown, g.seen), number);
      mine = g.mine ∙ ap (λ (n : ℕ). v.mine ++ n ∷ []) (sym number);
      loads = [];
      polled = g.polled ∙ sym (append-nil v.polled);
      among = All-nil (Contains w.polled);
      hold = λ some. g.hold;
    }

-- a file that an ending of its own answers
ended_is : (setup : Setup) (body : List ℕ) (user : UserId) (file : RequestFile) (at : Moment) (others : List LogItem) (item : LogItem) (code : ℕ) (reply : List ℕ)
    (shown shown' : Option (List Moment)) (old new : Option CallerView) (answer : Answer)
    → IsSignedOn setup body file user → is_poll file ≡ false → is_ending item ≡ true → EndsFile user file at (Some item)
    → ((closes : Bool) → ending_reply (Some item) closes ≡ reply_of code reply closes) → Grows shown shown' (at ∷ [])
    → Knows old new (GainsEnding (others ++ item ∷ [])) → HasAnswer answer code reply → Answers setup body shown shown' old new answer
unfolding outcome_reply
ended_is setup body user file at others item code reply shown shown' old new answer signed event is ends text moments knows says log seen =
    let own = own_ending log others item is in
    record {
      grown = others ++ item ∷ [];
      outcome = ended user file at (length (endings (log ++ (others ++ item ∷ []))));
      comes_to = (signed, event, own.0, subst (EndsFile user file at) (sym own.1) ends);
      text = λ closes. ap (λ (o : Option LogItem). ending_reply o closes) own.1 ∙ (text closes ∙ rw (says.0, says.1) refl);
      no_memory = sym says.2;
      moments = moments;
      watches = gains_watches old new log (others ++ item ∷ []) user file at seen knows;
    }

pub committed_is : (setup : Setup) (body : List ℕ) (user : UserId) (file : RequestFile) (at : Moment) (reply : List ℕ) (shown shown' : Option (List Moment)) (old new : Option CallerView) (answer : Answer)
    → IsSignedOn setup body file user → is_poll file ≡ false → IsCommitted user file at reply old new → Grows shown shown' (at ∷ []) → HasAnswer answer 200 reply
    → Answers setup body shown shown' old new answer
committed_is setup body user file at reply shown shown' old new answer signed event c moments says =
    ended_is setup body user file at c.others (AnswerItem c.event at reply) 200 reply shown shown' old new answer signed event refl (c.same, refl) (λ closes. refl) moments c.knows says

pub faulted_is : (setup : Setup) (body : List ℕ) (user : UserId) (file : RequestFile) (at : Moment) (count : ℕ) (shown shown' : Option (List Moment)) (old new : Option CallerView) (answer : Answer)
    → IsSignedOn setup body file user → is_poll file ≡ false → IsFaulted user file at count old new → Grows shown shown' (at ∷ []) → HasAnswer answer 503 (line (codes "keeper failed"))
    → Answers setup body shown shown' old new answer
faulted_is setup body user file at count shown shown' old new answer signed event c moments says =
    ended_is setup body user file at c.others (Fault count c.pending) 503 (line (codes "keeper failed")) shown shown' old new answer signed event refl c.own (λ closes. refl) moments c.knows says

-- nothing ended, though more was seen
abbrev seen_more : Option CallerView → Option CallerView → List LogItem → Type 0
seen_more old new grown = (at : Option Moment) → Knows old new (Watches grown (no_memory at))

nothing_watches : (old new : Option CallerView) → Knows old new GainsNothing → (grown : List LogItem) × seen_more old new grown
nothing_watches None None p = ([], λ at. tt)
nothing_watches None (Some w) p = absurd p
nothing_watches (Some v) None p = absurd p
nothing_watches (Some v) (Some w) p = (
  p.grown,
  λ at. record {
    opening = p.opening;
    seen = p.seen;
    sees = (p.grown, p.seen);
    mine = p.mine ∙ sym (append-nil v.mine);
    loads = [];
    polled = p.polled ∙ sym (append-nil v.polled);
    among = All-nil (Contains w.polled);
    hold = λ some. absurd (some refl);
  },
)

pub ask_refused : (setup : Setup) (body : List ℕ) (user : UserId) (file : RequestFile) (at : Moment) (shown shown' : Option (List Moment)) (old new : Option CallerView)
    → IsSignedOn setup body file user → Knows old new GainsNothing → Grows shown shown' (at ∷ []) → Answers setup body shown shown' old new NoMemory
ask_refused setup body user file at shown shown' old new signed knows moments log seen =
    let n = nothing_watches old new knows in
    no_memory_with setup body (Some at) shown shown' old new log n.0 (file, signed.spelled) moments (n.1 (Some at))
