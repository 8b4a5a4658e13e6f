-- A connection so far, one exchange more, and each of its ends.
use Rattle.std.proofs.Common.{◌≡◌, ℕ, zero, suc, ◌+◌, ◌<◌, ◌≤◌, Bool, true, false, List, [], ◌∷◌, ◌++◌, length, get_or, take, All, Contains, Option, None, Some, Result, IfSome, Ok, Err, refl, sym, ap, ◌∙◌, subst, arith, append_assoc, append-nil, length-append, flat_map}
use Rattle.std.proofs.lemmas.List.Elements.{All-append, Contains-append_left, All-nil}
use Rattle.std.proofs.Math.Seq.{take-append-add}
use Rattle.std.specs.Io.KnownBytes.{Keeps, Consumes, Appends, prepend_known}
use Rattle.std.proofs.KnownBytes.{Consumes-nil, Consumes-trans, Consumes-kept, Appends-nil, Appends-trans, Appends-kept, prepend_known-nil}
use Rattle.ofx_ports.specs.Known.{Grows}
use Rattle.ofx_ports.proofs.KnownLaws.{Grows-nil, Grows-trans}
use Rattle.ofx_ports.proofs.FaultLaws.{Rose-later}
use Rattle.bank_model.specs.declared.setup.Setup.{Setup}
use Rattle.bank_model.specs.declared.entry.Entry.{Entry}
use Rattle.bank_model.specs.declared.event.State.{State}
use Rattle.bank_model.specs.declared.log.LogItem.{LogItem}
use Rattle.bank_model.specs.Log.{entry_of, entries_in}
use Rattle.token_board.specs.declared.view.Load.{Load}
use Rattle.bank_callers.specs.Callers.{CallerView, Knows, IsRightView, HoldsIn, entries_seen}
use Rattle.bank_connection.specs.Exchanges.{Exchange, IsExchange, AreExchanges, requests_in, moments_of, moments_in, endings_of, endings_in, GoOn}
use Rattle.bank_connection.specs.ReplyText.{outcome_reply, out}
use Rattle.bank_connection.specs.Watched.{SeesAt, loads_of, loads_in, TokensHold, HasWatched}
use Rattle.bank_connection.specs.Answering.{HasSeen, Watches}
use Rattle.bank_connection.specs.Connection.{LinkView, Converses}
use Rattle.ofx_ports.specs.Writes.{AppendsPart}
use Rattle.bank_connection.specs.Steps.{HasExchange, Exchanges, SoFar}
use Rattle.http_link.specs.declared.served.Served.TheVariants.{Closed}
use Rattle.http_link.specs.declared.served.ServeError.{ServeError}
use Rattle.http_link.specs.declared.served.ServeError.TheVariants.{ReadFault, WriteFault, Cut, OutOfMemory}
use Rattle.bank_connection.proofs.Lifting.{exchanges-kept, out-kept}
use Rattle.bank_connection.proofs.Joining.{exchanges-more, sees-more, one_more, tokens-kept, tokens-more}
use Rattle.bank_model.proofs.Logs.{entries-grown}

just : (x : Exchange) → x.closes ≡ false → GoOn (x ∷ [])
just x is zero d below = is
just x is (suc k) d below = absurd (omega (arith, below))

-- tokens among others stand where those do
hold_among : (entries : List Entry) (polled loads : List Load) → All (HoldsIn entries) polled → All (Contains polled) loads → All (HoldsIn entries) loads
hold_among entries polled loads hold among k d below =
    let offset = among k d below in
    subst (HoldsIn entries) offset.2 (hold offset.0 (get_or loads k d) offset.1)

-- ---- the start

abbrev seen_of : Option CallerView → List LogItem
seen_of None = []
seen_of (Some v) = v.seen

start_watched : (office : Option CallerView) → Knows office office (HasWatched (seen_of office) [])
start_watched None = tt
start_watched (Some v) = record {
  opening = refl;
  log_is = refl;
  sees = refl;
  mine = sym (append-nil v.mine);
  polled = All-nil (Contains v.polled);
  hold = tt;
}

pub start : (setup : Setup) (before : LinkView) → SoFar setup 0 [] before before
start setup before = record {
  exchanges = [];
  log = seen_of before.office;
  counted = refl;
  are_exchanges = tt;
  go_on = All-nil (λ (x : Exchange). x.closes ≡ false);
  read = rw (prepend_known-nil before.left) (Consumes-nil before.left);
  moments = Grows-nil before.shown;
  written = Appends-nil before.held;
  watched = start_watched before.office;
}

-- ---- bytes that come

-- what is around after the link was read or written: its bytes and its counts
abbrev pub with_link : LinkView → Option (List ℕ) → ℕ → Option (List ℕ) → ℕ → LinkView
with_link now left reads held writes = record { left = left; reads = reads; held = held; writes = writes; shown = now.shown; office = now.office }

pub read_on : (setup : Setup) (count : ℕ) (ahead ahead' : List ℕ) (before now : LinkView) (left : Option (List ℕ)) (reads : ℕ) (held : Option (List ℕ)) (writes : ℕ)
    → SoFar setup count ahead before now → Keeps (prepend_known ahead now.left) (prepend_known ahead' left) → Keeps now.held held
    → SoFar setup count ahead' before (with_link now left reads held writes)
read_on setup count ahead ahead' before now left reads held writes s kept unwritten = record {
  exchanges = s.exchanges;
  log = s.log;
  counted = s.counted;
  are_exchanges = s.are_exchanges;
  go_on = s.go_on;
  read = Consumes-kept _ _ _ (requests_in s.exchanges) s.read kept;
  moments = s.moments;
  written = Appends-kept _ _ _ (out s.log s.exchanges) s.written unwritten;
  watched = s.watched;
}

-- bytes that are ahead are read too
consumes-ahead : (a b : Option (List ℕ)) (ahead bytes : List ℕ) → Consumes a (prepend_known ahead b) bytes → Consumes a b (bytes ++ ahead)
consumes-ahead None b ahead bytes c = tt
consumes-ahead (Some xs) None ahead bytes c = absurd c
consumes-ahead (Some xs) (Some ys) ahead bytes c = c ∙ sym (append_assoc bytes ahead ys)

-- ---- one exchange more

pub has_seen : (old new : Option CallerView) (log : List LogItem) (xs : List Exchange) → Knows old new (HasWatched log xs) → HasSeen log new
has_seen None None log xs w = tt
has_seen None (Some v) log xs w = absurd w
has_seen (Some u) None log xs w = tt
has_seen (Some u) (Some v) log xs w = sym w.log_is

-- a request in front is read
request_read : (a b : Option (List ℕ)) (ahead ahead' request : List ℕ) → ahead ≡ request ++ ahead' → Keeps a b → Consumes (prepend_known ahead a) (prepend_known ahead' b) request
request_read None b ahead ahead' request e kept = tt
request_read (Some xs) None ahead ahead' request e kept = absurd kept
request_read (Some xs) (Some ys) ahead ahead' request e kept = rw (e, kept) (append_assoc request ahead' xs)

joined_watch : (log grown : List LogItem) (xs : List Exchange) (x : Exchange) (u v w : CallerView) → HasWatched log xs u v → Watches grown x.outcome v w
    → HasWatched (log ++ grown) (xs ++ x ∷ []) u w
joined_watch log grown xs x u v w h s =
    let opening : w.opening ≡ u.opening = s.opening ∙ h.opening in
    let seen : w.seen ≡ v.seen ++ grown = s.seen in
    let entries : entries_seen w ≡ entries_seen v ++ flat_map entry_of grown =
    ap (λ (S : State). entries_in S w.seen) s.opening ∙ (ap (entries_in v.opening) seen ∙ entries-grown v.opening v.seen grown) in
    let polled : All (Contains w.polled) (loads_in xs) = λ k d below. rw s.polled (Contains-append_left v.polled s.loads (get_or (loads_in xs) k d) (h.polled k d below)) in
    record {
      opening = opening;
      log_is = ap (λ (l : List LogItem). l ++ grown) h.log_is ∙ sym seen;
      sees = sees-more u.opening u.seen v.seen w.seen xs x h.sees (subst (λ (S : State). SeesAt S v.seen x.outcome w.seen) h.opening s.sees);
      mine = s.mine ∙ (ap (λ (l : List ℕ). l ++ endings_of x.outcome) h.mine ∙ (append_assoc u.mine (endings_in xs) (endings_of x.outcome)
          ∙ ap (λ (l : List ℕ). u.mine ++ l) (sym (one_more (λ (y : Exchange). endings_of y.outcome) xs x))));
      polled = subst (All (Contains w.polled)) (sym (one_more (λ (y : Exchange). loads_of y.outcome) xs x)) (All-append (Contains w.polled) (loads_in xs) (loads_of x.outcome) polled s.among);
      hold = tokens-more (entries_seen w) xs x (endings_of x.outcome) refl
          (subst (λ (es : List Entry). TokensHold es xs) (sym entries) (tokens-kept (entries_seen v) (flat_map entry_of grown) xs h.hold))
          (λ some. hold_among (entries_seen w) v.polled (loads_in xs) (s.hold some) h.polled);
    }

joined_watches : (log grown : List LogItem) (xs : List Exchange) (x : Exchange) (a b c : Option CallerView) → Knows a b (HasWatched log xs) → Knows b c (Watches grown x.outcome)
    → Knows a c (HasWatched (log ++ grown) (xs ++ x ∷ []))
joined_watches log grown xs x None None None h s = tt
joined_watches log grown xs x None None (Some w) h s = absurd s
joined_watches log grown xs x None (Some v) c h s = absurd h
joined_watches log grown xs x (Some u) None c h s = absurd h
joined_watches log grown xs x (Some u) (Some v) None h s = absurd s
joined_watches log grown xs x (Some u) (Some v) (Some w) h s = joined_watch log grown xs x u v w h s

-- the exchanges so far and one more, with what is common to all of its ends
record Joined (setup : Setup) (count : ℕ) (ahead : List ℕ) (before now : LinkView) (xs : List Exchange) (log : List LogItem) (x : Exchange) : Type 0 where
  counted : count ≡ length (xs ++ x ∷ [])
  are_exchanges : AreExchanges setup log 1 (xs ++ x ∷ [])
  go_on : GoOn xs
  read : Consumes before.left (prepend_known ahead now.left) (requests_in (xs ++ x ∷ []))
  moments : Grows before.shown now.shown (moments_in (xs ++ x ∷ []))
  watched : Knows before.office now.office (HasWatched log (xs ++ x ∷ []))

joined : (setup : Setup) (count : ℕ) (ahead ahead' : List ℕ) (before now then : LinkView) (result : Result Bool ServeError) (s : SoFar setup count ahead before now)
    (h : HasExchange setup s.log (count + 1) ahead ahead' now then result) → Joined setup (count + 1) ahead' before then s.exchanges (s.log ++ h.grown) h.x
joined setup count ahead ahead' before now then result s h =
    let xs = s.exchanges in
    let offset : count + 1 ≡ 1 + length xs = omega (arith, s.counted) in
    record {
      counted = omega (arith, s.counted, length-append xs (h.x ∷ []));
      are_exchanges = exchanges-more setup (s.log ++ h.grown) 1 xs h.x (exchanges-kept setup s.log h.grown 1 xs s.are_exchanges)
          (subst (λ (n : ℕ). IsExchange setup (s.log ++ h.grown) n h.x) offset h.is_exchange);
      go_on = s.go_on;
      read = subst (Consumes before.left (prepend_known ahead' then.left)) (sym (one_more (λ (y : Exchange). y.request) xs h.x))
          (Consumes-trans before.left (prepend_known ahead now.left) (prepend_known ahead' then.left) (requests_in xs) h.x.request s.read
          (request_read now.left then.left ahead ahead' h.x.request h.request h.unread));
      moments = subst (Grows before.shown then.shown) (sym (one_more (λ (y : Exchange). moments_of y.outcome) xs h.x))
          (Grows-trans before.shown now.shown then.shown (moments_in xs) (moments_of h.x.outcome) s.moments h.moments);
      watched = joined_watches s.log h.grown xs h.x before.office now.office then.office s.watched h.watches;
    }

-- the replies so far and one more
joined_text : (setup : Setup) (log grown : List LogItem) (xs : List Exchange) (x : Exchange) → AreExchanges setup log 1 xs
    → out (log ++ grown) (xs ++ x ∷ []) ≡ out log xs ++ outcome_reply (log ++ grown) x.outcome x.closes
joined_text setup log grown xs x are =
    one_more (λ (y : Exchange). outcome_reply (log ++ grown) y.outcome y.closes) xs x
    ∙ ap (λ (l : List ℕ). l ++ outcome_reply (log ++ grown) x.outcome x.closes) (out-kept setup log grown 1 xs are)

-- an exchange after which the connection goes on
pub goes_on : (setup : Setup) (count : ℕ) (ahead ahead' : List ℕ) (before now then : LinkView) → SoFar setup count ahead before now
    → Exchanges setup (count + 1) ahead ahead' now then (Ok false) → SoFar setup (count + 1) ahead' before then
goes_on setup count ahead ahead' before now then s exchanges =
    let h = exchanges s.log (has_seen before.office now.office s.log s.exchanges s.watched) in
    let j = joined setup count ahead ahead' before now then (Ok false) s h in
    record {
      exchanges = s.exchanges ++ h.x ∷ [];
      log = s.log ++ h.grown;
      counted = j.counted;
      are_exchanges = j.are_exchanges;
      go_on = All-append (λ (x : Exchange). x.closes ≡ false) s.exchanges (h.x ∷ []) s.go_on (just h.x (sym h.sends.1));
      read = j.read;
      moments = j.moments;
      written = subst (Appends before.held then.held) (sym (joined_text setup s.log h.grown s.exchanges h.x s.are_exchanges))
          (Appends-trans before.held now.held then.held (out s.log s.exchanges) _ s.written h.sends.0);
      watched = j.watched;
    }

-- an exchange that closes the connection
pub closes : (setup : Setup) (count : ℕ) (ahead ahead' : List ℕ) (before now then : LinkView) → count < 100 → IfSome then.office (IsRightView setup)
    → SoFar setup count ahead before now → Exchanges setup (count + 1) ahead ahead' now then (Ok true) → Converses setup before then (Ok (Closed (count + 1)))
closes setup count ahead ahead' before now then low right s exchanges =
    let h = exchanges s.log (has_seen before.office now.office s.log s.exchanges s.watched) in
    let j = joined setup count ahead ahead' before now then (Ok true) s h in
    record {
      exchanges = s.exchanges ++ h.x ∷ [];
      log = s.log ++ h.grown;
      rest = ahead';
      few = omega (arith, j.counted, low);
      are_exchanges = j.are_exchanges;
      read = consumes-ahead before.left then.left ahead' (requests_in (s.exchanges ++ h.x ∷ [])) j.read;
      moments = j.moments;
      written = subst (Appends before.held then.held) (sym (joined_text setup s.log h.grown s.exchanges h.x s.are_exchanges))
          (Appends-trans before.held now.held then.held (out s.log s.exchanges) _ s.written h.sends.0);
      watched = j.watched;
      right = right;
      ends = (j.counted, record { earlier = s.exchanges; last = h.x; parts = refl; go_on = s.go_on; closes = sym h.sends.1 });
    }

-- a prefix of the last reply is a prefix of all replies
prefix_written : (a b c : Option (List ℕ)) (text reply : List ℕ) → Appends a b text → AppendsPart b c reply
    → (count : ℕ) × (count ≤ length (text ++ reply)) × Appends a c (take count (text ++ reply))
prefix_written a b c text reply whole part = (
  length text + part.count,
  omega (arith, length-append text reply, part.within),
  subst (Appends a c) (sym (take-append-add text reply part.count)) (Appends-trans a b c text (take part.count reply) whole part.appended),
)

-- an exchange whose reply couldn't be written
pub breaks : (setup : Setup) (count : ℕ) (ahead ahead' : List ℕ) (before now then : LinkView) → count < 100 → IfSome then.office (IsRightView setup) → before.writes ≤ now.writes
    → SoFar setup count ahead before now → Exchanges setup (count + 1) ahead ahead' now then (Err WriteFault) → Converses setup before then (Err WriteFault)
breaks setup count ahead ahead' before now then low right earlier s exchanges =
    let h = exchanges s.log (has_seen before.office now.office s.log s.exchanges s.watched) in
    let j = joined setup count ahead ahead' before now then (Err WriteFault) s h in
    record {
      exchanges = s.exchanges ++ h.x ∷ [];
      log = s.log ++ h.grown;
      rest = ahead';
      few = omega (arith, j.counted, low);
      are_exchanges = j.are_exchanges;
      read = consumes-ahead before.left then.left ahead' (requests_in (s.exchanges ++ h.x ∷ [])) j.read;
      moments = j.moments;
      written = subst (λ (text : List ℕ). (n : ℕ) × (n ≤ length text) × Appends before.held then.held (take n text)) (sym (joined_text setup s.log h.grown s.exchanges h.x s.are_exchanges))
          (prefix_written before.held now.held then.held (out s.log s.exchanges) _ s.written h.sends.0);
      watched = j.watched;
      right = right;
      ends = (record { earlier = s.exchanges; last = h.x; parts = refl; go_on = s.go_on }, Rose-later before.writes now.writes then.writes earlier h.sends.1);
    }

-- an exchange that fails can only have failed to write its reply
pub breaks_so : (setup : Setup) (count : ℕ) (ahead ahead' : List ℕ) (before now then : LinkView) (fault : ServeError) → count < 100 → IfSome then.office (IsRightView setup) → before.writes ≤ now.writes
    → SoFar setup count ahead before now → Exchanges setup (count + 1) ahead ahead' now then (Err fault) → Converses setup before then (Err fault)
breaks_so setup count ahead ahead' before now then ReadFault low right earlier s exchanges = absurd (exchanges s.log (has_seen before.office now.office s.log s.exchanges s.watched)).sends
breaks_so setup count ahead ahead' before now then WriteFault low right earlier s exchanges = breaks setup count ahead ahead' before now then low right earlier s exchanges
breaks_so setup count ahead ahead' before now then (Cut size) low right earlier s exchanges = absurd (exchanges s.log (has_seen before.office now.office s.log s.exchanges s.watched)).sends
breaks_so setup count ahead ahead' before now then OutOfMemory low right earlier s exchanges = absurd (exchanges s.log (has_seen before.office now.office s.log s.exchanges s.watched)).sends

-- ---- ends between exchanges
