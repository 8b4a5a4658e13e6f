-- What holds after any events, and of a file that comes again.
use Rattle.std.proofs.Common.{◌≡◌, ℕ, Bool, true, false, ◌&&◌, not, cond, eqb, List, [], ◌∷◌, ◌++◌, Option, None, Some, is_some, refl, sym, ap, ◌∙◌}
use Rattle.std.specs.List.{AllByRecursion, find}
use Rattle.std.specs.Option.{option_map, option_or}
use Rattle.std.specs.Str.{bytes_eq}
use Rattle.std.proofs.lemmas.Bool.{and_parts, and_from, eqb-true, eq-eqb, true≢false}
use Rattle.std.proofs.lemmas.List.Folds.{find-append}
use Rattle.ofx_types.specs.ReplyForm.{reply_text}
use Rattle.ofx_types.specs.declared.number.UserId.{UserId}
use Rattle.ofx_types.specs.declared.number.Moment.{Moment}
use Rattle.ofx_types.specs.declared.request.RequestFile.{RequestFile}
use Rattle.ofx_types.proofs.Bytes.{bytes_eq_is, bytes_eq_self}
use Rattle.bank_model.specs.declared.once.KeptReply.{KeptReply}
use Rattle.bank_model.specs.declared.setup.Setup.{Setup}
use Rattle.bank_model.specs.declared.event.State.{State}
use Rattle.bank_model.specs.declared.event.Event.{Event}
use Rattle.bank_model.specs.declared.event.Event.TheVariants.{File, Post, Spawn, Letter}
use Rattle.bank_model.specs.SetupForm.{IsWithinLimits}
use Rattle.bank_model.specs.Once.{is_named, reply_kept, released}
use Rattle.bank_model.specs.Rules.{Outcome, opening_state, raised, ask_answers, reply_file, release, keep, kept_for, new_outcome, outcome_or_kept, file_outcome, state_after, answer_to}
use Rattle.bank_transfers.proofs.TogetherLemmas.{balances_stay}
use Rattle.bank_invariants.specs.SoundStates.{IsSoundState}
use Rattle.bank_invariants.specs.Books.{AreBooksRight}
use Rattle.bank_invariants.specs.Next.{ExtendsTo}
use Rattle.bank_invariants.specs.Runs.{Happening, after_all, AreLegal, StaysKept, names_file, releases}
use Rattle.bank_invariants.proofs.StageLemmas.{kept-asks}
use Rattle.bank_invariants.proofs.StateLemmas.{extends_same, extends_on, extends-step, absent-release}
use Rattle.bank_invariants.proofs.OpeningLemmas.{IsSoundState-opening}
use Rattle.bank_invariants.proofs.DeedLemmas.{some_of}
use Rattle.bank_invariants.proofs.MoneyLemmas.{inside_all}

-- ---- any events

extends_all : (setup : Setup) (S T : State) (run : List Happening) → IsWithinLimits setup → ExtendsTo setup S T → AreLegal setup T run → ExtendsTo setup S (after_all setup T run)
extends_all setup S T [] within extends legal = extends
extends_all setup S T (first ∷ more) within extends legal =
    let next : State = state_after setup T first.at first.event in
    extends_all setup S next more within (extends_on setup S T next extends (extends-step setup T first.at first.event within extends.sound legal.0.0 legal.0.1)) legal.1

-- After any legal events from its opening a bank's state is sound, and its history is made of entries that may come one
-- after another.
pub extends-run : (setup : Setup) (run : List Happening) → IsWithinLimits setup → AreLegal setup opening_state run → ExtendsTo setup opening_state (after_all setup opening_state run)
extends-run setup run within legal = extends_all setup opening_state opening_state run within (extends_same setup opening_state (IsSoundState-opening setup within)) legal

pub IsSoundState-run : (setup : Setup) (run : List Happening) → IsWithinLimits setup → AreLegal setup opening_state run → IsSoundState setup (after_all setup opening_state run)
IsSoundState-run setup run within legal = (extends-run setup run within legal).sound

-- The books of a sound state are right.
pub books-sound : (setup : Setup) (S : State) → IsWithinLimits setup → IsSoundState setup S → AreBooksRight setup S
books-sound setup S within sound = record {
  uids = sound.used;
  files = sound.kept;
  money = balances_stay setup S.entries within (inside_all setup S.entries sound.rows);
  covered = sound.covered;
}

-- ---- a file whose name is kept

pub kept_for-raised : (S : State) (user : UserId) (at : Moment) (newer : Option (List ℕ)) → kept_for (raised S at) user newer ≡ kept_for S user newer
kept_for-raised S user at None = refl
kept_for-raised S user at (Some newer) = refl

pub again_outcome : (setup : Setup) (S : State) (user : UserId) (at : Moment) (file : RequestFile) (reply : List ℕ) → kept_for S user file.newer ≡ Some reply → file_outcome setup (raised S at) user at file ≡ record { reply = reply; after = raised S at }
unfolding file_outcome
again_outcome setup S user at file reply kept =
    ap (outcome_or_kept setup (raised S at) user at file) (kept_for-raised S user at file.newer ∙ kept)

-- ---- a kept reply stays

named_both : (user other : UserId) (name older : List ℕ) (reply : KeptReply) → is_named user name reply ≡ true → is_named other older reply ≡ true → (eqb other.0 user.0 && bytes_eq older name) ≡ true
named_both user other name older reply here there =
    let first = and_parts (eqb reply.user.0 user.0) (bytes_eq reply.file name) here in
    let second = and_parts (eqb reply.user.0 other.0) (bytes_eq reply.file older) there in
    let users : other.0 ≡ user.0 = sym (eqb-true reply.user.0 other.0 second.0) ∙ eqb-true reply.user.0 user.0 first.0 in
    let files : older ≡ name = sym (bytes_eq_is reply.file older second.1) ∙ bytes_eq_is reply.file name first.1 in
    and_from (eqb other.0 user.0) (bytes_eq older name) (eq-eqb other.0 user.0 users) (ap (λ (f : List ℕ). bytes_eq f name) files ∙ bytes_eq_self name)

abbrev bytes_of : KeptReply → List ℕ
bytes_of reply = reply.reply

kept_past : (user other : UserId) (name older bytes : List ℕ) (kept : List KeptReply) → (eqb other.0 user.0 && bytes_eq older name) ≡ false → reply_kept user name kept ≡ Some bytes → reply_kept user name (released other older kept) ≡ Some bytes
kept_past user other name older bytes [] apart found = cc
kept_past user other name older bytes (reply ∷ kept) apart found =
    past (is_named user name reply) (is_named other older reply) reply (find (is_named user name) kept) kept refl refl
    (λ here there. true≢false (sym (named_both user other name older reply here there) ∙ apart))
    (kept_past user other name older bytes kept apart)
    found
  where
    past : (b d : Bool) (reply : KeptReply) (rest : Option KeptReply) (kept : List KeptReply) → is_named user name reply ≡ b → is_named other older reply ≡ d → (is_named user name reply ≡ true → is_named other older reply ≡ true → ⊥) → (option_map bytes_of (find (is_named user name) kept) ≡ Some bytes → option_map bytes_of (find (is_named user name) (released other older kept)) ≡ Some bytes) → option_map bytes_of (cond (is_named user name reply) (Some reply) (find (is_named user name) kept)) ≡ Some bytes → option_map bytes_of (find (is_named user name) (cond (not (is_named other older reply)) (reply ∷ released other older kept) (released other older kept))) ≡ Some bytes
    past true true reply rest kept here there never later found = absurd (never here there)
    past true false reply rest kept here there never later found = rw (there, here) (rw here at found)
    past false true reply rest kept here there never later found = rw there (later (rw here at found))
    past false false reply rest kept here there never later found = rw (there, here) (later (rw here at found))

released_past : (user other : UserId) (name bytes : List ℕ) (older : Option (List ℕ)) (kept : List KeptReply) → names_file user name other older ≡ false → reply_kept user name kept ≡ Some bytes → reply_kept user name (release other older kept) ≡ Some bytes
released_past user other name bytes None kept apart found = found
released_past user other name bytes (Some older) kept apart found = kept_past user other name older bytes kept apart found

found_first : (found rest : Option KeptReply) (bytes : List ℕ) → option_map bytes_of found ≡ Some bytes → option_map bytes_of (option_or found rest) ≡ Some bytes
found_first None rest bytes found = cc
found_first (Some reply) rest bytes found = found

kept_afterwards : (user other : UserId) (name bytes reply : List ℕ) (newer : Option (List ℕ)) (kept : List KeptReply) → reply_kept user name kept ≡ Some bytes → reply_kept user name (keep other newer reply kept) ≡ Some bytes
kept_afterwards user other name bytes reply None kept found = found
kept_afterwards user other name bytes reply (Some newer) kept found =
    ap (option_map bytes_of) (find-append (is_named user name) kept (record { user = other; file = newer; reply = reply } ∷ []))
    ∙ found_first (find (is_named user name) kept) _ bytes found

stays_new : (setup : Setup) (S : State) (user other : UserId) (at : Moment) (file : RequestFile) (name bytes : List ℕ) → names_file user name other file.older ≡ false → reply_kept user name S.kept ≡ Some bytes → reply_kept user name (new_outcome setup S other at file).after.kept ≡ Some bytes
unfolding new_outcome
stays_new setup S user other at file name bytes apart found =
    kept_afterwards user other name bytes _ file.newer _
    (released_past user other name bytes file.older (ask_answers setup S other at file.asks).after.kept apart (ap (reply_kept user name) (kept-asks setup S other at file.asks) ∙ found))

stays_or : (setup : Setup) (S : State) (user other : UserId) (at : Moment) (file : RequestFile) (name bytes : List ℕ) (kept : Option (List ℕ)) → names_file user name other file.older ≡ false → reply_kept user name S.kept ≡ Some bytes → reply_kept user name (outcome_or_kept setup S other at file kept).after.kept ≡ Some bytes
stays_or setup S user other at file name bytes None apart found = stays_new setup S user other at file name bytes apart found
stays_or setup S user other at file name bytes (Some reply) apart found = found

stays : (setup : Setup) (S : State) (user : UserId) (name bytes : List ℕ) (at : Moment) (event : Event) → releases user name event ≡ false → reply_kept user name S.kept ≡ Some bytes → reply_kept user name (state_after setup S at event).kept ≡ Some bytes
unfolding file_outcome
stays setup S user name bytes at (File other file) apart found =
    stays_or setup (raised S at) user other at file name bytes (kept_for (raised S at) other file.newer) apart found
stays setup S user name bytes at (Post id) apart found = found
stays setup S user name bytes at (Spawn id occurrence) apart found = found
stays setup S user name bytes at (Letter other subject body) apart found = found

stays_kept : (setup : Setup) (S : State) (user : UserId) (name bytes : List ℕ) (run : List Happening) → reply_kept user name S.kept ≡ Some bytes → AllByRecursion (λ (happening : Happening). releases user name happening.event ≡ false) run → StaysKept setup S user name run
stays_kept setup S user name bytes [] found apart = tt
stays_kept setup S user name bytes (first ∷ more) found apart =
    let next = stays setup S user name bytes first.at first.event apart.0 found in
    (ap (λ (reply : Option (List ℕ)). is_some reply) next, stays_kept setup (state_after setup S first.at first.event) user name bytes more next apart.1)

-- A name stays kept while no event releases it.
pub names_stay_kept : (setup : Setup) (S : State) (user : UserId) (name : List ℕ) (run : List Happening) → is_some (reply_kept user name S.kept) ≡ true → AllByRecursion (λ (happening : Happening). releases user name happening.event ≡ false) run → StaysKept setup S user name run
names_stay_kept setup S user name run kept apart =
    let found = some_of (reply_kept user name S.kept) kept in
    stays_kept setup S user name found.0 run found.1 apart

-- ---- a file that comes again

named_self : (user : UserId) (name reply : List ℕ) → is_named user name (record { user = user; file = name; reply = reply }) ≡ true
named_self user name reply = and_from (eqb user.0 user.0) (bytes_eq name name) (eq-eqb user.0 user.0 refl) (bytes_eq_self name)

none_or : (found : Option KeptReply) (reply : KeptReply) (b : Bool) → b ≡ true → option_map bytes_of found ≡ None → option_map bytes_of (option_or found (cond b (Some reply) None)) ≡ Some reply.reply
none_or None reply b here none = rw here refl
none_or (Some held) reply b here none = cc

kept_last : (user : UserId) (name reply : List ℕ) (kept : List KeptReply) → reply_kept user name kept ≡ None → reply_kept user name (kept ++ record { user = user; file = name; reply = reply } ∷ []) ≡ Some reply
kept_last user name reply kept none =
    ap (option_map bytes_of) (find-append (is_named user name) kept (record { user = user; file = name; reply = reply } ∷ []))
    ∙ none_or (find (is_named user name) kept) (record { user = user; file = name; reply = reply }) (is_named user name (record { user = user; file = name; reply = reply })) (named_self user name reply) none

new_kept : (setup : Setup) (S : State) (user : UserId) (at : Moment) (file : RequestFile) (name : List ℕ) → file.newer ≡ Some name → reply_kept user name S.kept ≡ None → reply_kept user name (new_outcome setup S user at file).after.kept ≡ Some (new_outcome setup S user at file).reply
unfolding new_outcome
new_kept setup S user at file name named none =
    let answers = ask_answers setup S user at file.asks in
    let reply : List ℕ = reply_text (reply_file at file answers.replies) in
    let before : List KeptReply = release user file.older answers.after.kept in
    let absent : reply_kept user name before ≡ None =
    absent-release user user name file.older answers.after.kept (ap (reply_kept user name) (kept-asks setup S user at file.asks) ∙ none) in
    ap (λ (newer : Option (List ℕ)). reply_kept user name (keep user newer reply before)) named ∙ kept_last user name reply before absent

kept_or : (setup : Setup) (S : State) (user : UserId) (at : Moment) (file : RequestFile) (name : List ℕ) (kept : Option (List ℕ)) → file.newer ≡ Some name → reply_kept user name S.kept ≡ kept → reply_kept user name (outcome_or_kept setup S user at file kept).after.kept ≡ Some (outcome_or_kept setup S user at file kept).reply
kept_or setup S user at file name None named is = new_kept setup S user at file name named is
kept_or setup S user at file name (Some reply) named is = is

-- Where a file has a name, its reply is kept after it.
pub kept_after : (setup : Setup) (S : State) (user : UserId) (at : Moment) (file : RequestFile) (name : List ℕ) → file.newer ≡ Some name → reply_kept user name (state_after setup S at (File user file)).kept ≡ Some (answer_to setup S at (File user file))
unfolding file_outcome
kept_after setup S user at file name named =
    kept_or setup (raised S at) user at file name (kept_for (raised S at) user file.newer) named
    (sym (ap (λ (newer : Option (List ℕ)). kept_for (raised S at) user newer) named))

-- A file that comes again while its name is kept is answered by the kept bytes, and leaves the raised state.
pub again_is_kept : (setup : Setup) (S : State) (user : UserId) (at : Moment) (file : RequestFile) (reply : List ℕ) → kept_for S user file.newer ≡ Some reply → (answer_to setup S at (File user file) ≡ reply) × (state_after setup S at (File user file) ≡ raised S at)
again_is_kept setup S user at file reply kept =
    let outcome = again_outcome setup S user at file reply kept in
    (ap (λ (o : Outcome). o.reply) outcome, ap (λ (o : Outcome). o.after) outcome)

-- ---- a name that is kept after an event is kept with the same bytes

-- a name that is released isn't kept
gone : (user other : UserId) (name older : List ℕ) (kept : List KeptReply) → other.0 ≡ user.0 → older ≡ name → reply_kept user name (released other older kept) ≡ None
gone user other name older [] users files = refl
gone user other name older (reply ∷ kept) users files =
    drop_first (is_named user name reply) (is_named other older reply) refl refl (gone user other name older kept users files)
  where
    same : is_named other older reply ≡ is_named user name reply
    same = ap (λ (u : ℕ). eqb reply.user.0 u && bytes_eq reply.file older) users ∙ ap (λ (f : List ℕ). eqb reply.user.0 user.0 && bytes_eq reply.file f) files

    drop_first : (b d : Bool) → is_named user name reply ≡ b → is_named other older reply ≡ d → reply_kept user name (released other older kept) ≡ None → reply_kept user name (cond (not (is_named other older reply)) (reply ∷ released other older kept) (released other older kept)) ≡ None
    drop_first true true here there rest = rw there rest
    drop_first true false here there rest = absurd (true≢false (sym here ∙ sym same ∙ there))
    drop_first false true here there rest = rw there rest
    drop_first false false here there rest = rw (there, here) rest

last_named : (user other : UserId) (name newer reply : List ℕ) (kept : List KeptReply) → reply_kept user name kept ≡ None → is_some (reply_kept user name (keep other (Some newer) reply kept)) ≡ true → is_named user name (record { user = other; file = newer; reply = reply }) ≡ true
last_named user other name newer reply kept none some =
    let last : KeptReply = record { user = other; file = newer; reply = reply } in
    only (find (is_named user name) kept) (is_named user name last) last none
    (sym (ap (λ (found : Option KeptReply). is_some (option_map bytes_of found)) (find-append (is_named user name) kept (last ∷ []))) ∙ some)
  where
    only : (found : Option KeptReply) (b : Bool) (last : KeptReply) → option_map bytes_of found ≡ None → is_some (option_map bytes_of (option_or found (cond b (Some last) None))) ≡ true → b ≡ true
    only found true last none some = refl
    only None false last none some = cc
    only (Some held) false last none some = cc

-- a file that releases a name and isn't of it leaves it unkept
released_unkept : (S : State) (user other : UserId) (name older bytes reply : List ℕ) (newer : Option (List ℕ)) → other.0 ≡ user.0 → older ≡ name → kept_for S other newer ≡ None → reply_kept user name S.kept ≡ Some bytes → is_some (reply_kept user name (keep other newer reply (released other older S.kept))) ≡ true → ⊥
released_unkept S user other name older bytes reply None users files anew found some =
    true≢false (sym some ∙ ap (λ (r : Option (List ℕ)). is_some r) (gone user other name older S.kept users files))
released_unkept S user other name older bytes reply (Some newer) users files anew found some =
    let named = last_named user other name newer reply (released other older S.kept) (gone user other name older S.kept users files) some in
    let parts = and_parts (eqb other.0 user.0) (bytes_eq newer name) named in
    let both = ap (λ (u : ℕ). reply_kept (record { 0 = u }) newer S.kept) users ∙ ap (λ (f : List ℕ). reply_kept user f S.kept) (bytes_eq_is newer name parts.1) in
    none_some (sym anew ∙ both ∙ found)
  where
    none_some : {X : Type 0} {x : X} → None ≡ Some x → ⊥
    none_some e = cc

kept_new : (setup : Setup) (S : State) (user other : UserId) (at : Moment) (file : RequestFile) (older : Option (List ℕ)) (name bytes : List ℕ) (freed : Bool) → file.older ≡ older → names_file user name other older ≡ freed → kept_for S other file.newer ≡ None → reply_kept user name S.kept ≡ Some bytes → is_some (reply_kept user name (new_outcome setup S other at file).after.kept) ≡ true → reply_kept user name (new_outcome setup S other at file).after.kept ≡ Some bytes
unfolding new_outcome
kept_new setup S user other at file older name bytes false is apart anew found some = stays_new setup S user other at file name bytes (ap (names_file user name other) is ∙ apart) found
kept_new setup S user other at file None name bytes true is apart anew found some = cc
kept_new setup S user other at file (Some older) name bytes true is apart anew found some =
    let answers = ask_answers setup S other at file.asks in
    let reply : List ℕ = reply_text (reply_file at file answers.replies) in
    let parts = and_parts (eqb other.0 user.0) (bytes_eq older name) apart in
    let kept = kept-asks setup S other at file.asks in
    absurd (released_unkept S user other name older bytes reply file.newer (eqb-true other.0 user.0 parts.0) (bytes_eq_is older name parts.1) anew found
    (sym (ap (λ (k : List KeptReply). is_some (reply_kept user name (keep other file.newer reply (release other file.older k)))) kept
    ∙ ap (λ (o : Option (List ℕ)). is_some (reply_kept user name (keep other file.newer reply (release other o S.kept)))) is) ∙ some))

kept_still_or : (setup : Setup) (S : State) (user other : UserId) (at : Moment) (file : RequestFile) (name bytes : List ℕ) (kept : Option (List ℕ)) → kept_for S other file.newer ≡ kept → reply_kept user name S.kept ≡ Some bytes → is_some (reply_kept user name (outcome_or_kept setup S other at file kept).after.kept) ≡ true → reply_kept user name (outcome_or_kept setup S other at file kept).after.kept ≡ Some bytes
kept_still_or setup S user other at file name bytes None is found some = kept_new setup S user other at file file.older name bytes (names_file user name other file.older) refl refl is found some
kept_still_or setup S user other at file name bytes (Some reply) is found some = found

kept_still : (setup : Setup) (S : State) (user : UserId) (name bytes : List ℕ) (at : Moment) (event : Event) → reply_kept user name S.kept ≡ Some bytes → is_some (reply_kept user name (state_after setup S at event).kept) ≡ true → reply_kept user name (state_after setup S at event).kept ≡ Some bytes
unfolding file_outcome
kept_still setup S user name bytes at (File other file) found some =
    kept_still_or setup (raised S at) user other at file name bytes (kept_for (raised S at) other file.newer) refl found some
kept_still setup S user name bytes at (Post id) found some = found
kept_still setup S user name bytes at (Spawn id occurrence) found some = found
kept_still setup S user name bytes at (Letter other subject body) found some = found

kept_still_all : (setup : Setup) (S : State) (user : UserId) (name bytes : List ℕ) (run : List Happening) → StaysKept setup S user name run → reply_kept user name S.kept ≡ Some bytes → reply_kept user name (after_all setup S run).kept ≡ Some bytes
kept_still_all setup S user name bytes [] stays found = found
kept_still_all setup S user name bytes (first ∷ more) stays found =
    kept_still_all setup (state_after setup S first.at first.event) user name bytes more stays.1 (kept_still setup S user name bytes first.at first.event found stays.0)

-- ---- the same file again

-- The same file gets the same bytes and changes nothing, whatever events came between, while its name is kept.
pub again_while_kept : (setup : Setup) (S : State) (user : UserId) (at again : Moment) (file : RequestFile) (name : List ℕ) (run : List Happening) → file.newer ≡ Some name → StaysKept setup (state_after setup S at (File user file)) user name run → (answer_to setup (after_all setup (state_after setup S at (File user file)) run) again (File user file) ≡ answer_to setup S at (File user file)) × (state_after setup (after_all setup (state_after setup S at (File user file)) run) again (File user file) ≡ raised (after_all setup (state_after setup S at (File user file)) run) again)
again_while_kept setup S user at again file name run named kept =
    let bytes : List ℕ = answer_to setup S at (File user file) in
    let there = kept_still_all setup (state_after setup S at (File user file)) user name bytes run kept (kept_after setup S user at file name named) in
    let found = ap (λ (newer : Option (List ℕ)). kept_for (after_all setup (state_after setup S at (File user file)) run) user newer) named ∙ there in
    again_is_kept setup (after_all setup (state_after setup S at (File user file)) run) user again file bytes found
