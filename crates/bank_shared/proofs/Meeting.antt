-- What a caller knows once its pass has met what was published in a hold.
use Rattle.std.proofs.Common.{◌≡◌, ℕ, ◌+◌, true, List, Option, [], ◌∷◌, ◌++◌, length, drop, All, refl, sym, ap, ◌∙◌, subst, append_assoc, append-nil, length-append, arith}
use Rattle.std.specs.List.{flat_map}
use Rattle.std.proofs.lemmas.List.{append_cancel_left}
use Rattle.std.proofs.lemmas.List.Elements.{All-weaker, Contains-append_left}
use Rattle.ofx_types.specs.declared.number.Moment.{Moment}
use Rattle.bank_model.specs.declared.event.Event.{Event}
use Rattle.bank_model.specs.declared.event.State.{State}
use Rattle.bank_model.specs.declared.log.LogItem.{LogItem}
use Rattle.bank_model.specs.declared.log.LogItem.TheVariants.{Answer, Adopted, Fault}
use Rattle.bank_model.specs.declared.setup.Setup.{Setup}
use Rattle.bank_model.specs.LegalLog.{effects_of, group}
use Rattle.bank_model.specs.Log.{is_ending, endings, entry_of, entries_in}
use Rattle.bank_model.specs.Rules.{state_after}
use Rattle.bank_model.proofs.Logs.{entries-grown}
use Rattle.token_board.specs.declared.view.Load.{Load}
use Rattle.token_board.specs.Tokens.{IsTokenIn}
use Rattle.token_board.specs.Views.{BoardView, PassView}
use Rattle.token_board.specs.Publishing.{claims_in, Meets}
use Rattle.token_board.proofs.Numbers.{count-append}
use Rattle.token_board.proofs.Publishing.{claims-append, claims_entries, one_more}
use Rattle.bank_callers.specs.Boards.{TokensHold}
use Rattle.bank_callers.specs.Callers.{GainsEnding, GainsNothing, SeesMore, HoldsIn}
use Rattle.bank_shared.specs.Holds.{BeginsAt, caller_of}

-- ---- two steps of one hold

pub meets_twice : (board : BoardView) (first second third : List LogItem) (old mid new : PassView) → Meets board first second old mid → Meets board second third mid new
    → Meets board first third old new
meets_twice board first second third old mid new one two =
    let count : ℕ = length (endings first) in
    let counted : length (endings second) ≡ count + length (endings one.later) = ap (λ (l : List LogItem). length (endings l)) one.grows ∙ count-append first one.later in
    let claims : claims_in count one.later ++ claims_in (length (endings second)) two.later ≡ claims_in count (one.later ++ two.later) =
    ap (λ (n : ℕ). claims_in count one.later ++ claims_in n two.later) counted ∙ sym (claims-append count one.later two.later) in
    record {
      heard = one.heard;
      later = one.later ++ two.later;
      grows = two.grows ∙ (ap (λ (l : List LogItem). l ++ two.later) one.grows ∙ append_assoc first one.later two.later);
      table = two.table ∙ one.table;
      seen = two.seen;
      mine =
          two.mine
          ∙ (ap (λ (ns : List ℕ). ns ++ claims_in (length (endings second)) two.later) one.mine
          ∙ (append_assoc old.mine (claims_in count one.later) (claims_in (length (endings second)) two.later) ∙ ap (λ (ns : List ℕ). old.mine ++ ns) claims));
      polled = two.polled ∙ one.polled;
      endings = two.endings;
    }

-- ---- items that are nobody's, and those that are the caller's

abbrev pub ClaimsNone : List LogItem → Type 0
ClaimsNone items = (count : ℕ) → claims_in count items ≡ []

abbrev pub ClaimsOne : LogItem → Type 0
ClaimsOne item = (is_ending item ≡ true) × ((count : ℕ) → claims_in count (item ∷ []) ≡ (count + 1) ∷ [])

pub none_of_effects : (setup : Setup) (S : State) (at : Moment) (event : Event) → ClaimsNone (effects_of setup S at event)
none_of_effects setup S at event count = claims_entries count (drop (length S.entries) (state_after setup S at event).entries)

pub none_of_both : (xs ys : List LogItem) → ClaimsNone xs → ClaimsNone ys → ClaimsNone (xs ++ ys)
none_of_both xs ys none no_more count =
    claims-append count xs ys ∙ (ap (λ (ns : List ℕ). ns ++ claims_in (count + length (endings xs)) ys) (none count) ∙ no_more (count + length (endings xs)))

pub none_of_adopted : (setup : Setup) (S : State) (fault : ℕ) (event : Event) (at : Moment) → ClaimsNone (group setup S (Adopted fault event at))
none_of_adopted setup S fault event at = none_of_both (effects_of setup S at event) (Adopted fault event at ∷ []) (none_of_effects setup S at event) (λ count. refl)

pub one_of_answer : (event : Event) (at : Moment) (reply : List ℕ) → ClaimsOne (Answer event at reply)
one_of_answer event at reply = (refl, λ count. refl)

pub one_of_fault : (faults : ℕ) (pending : Option (Event × Moment)) → ClaimsOne (Fault faults pending)
one_of_fault faults pending = (refl, λ count. refl)

-- the last ending is claimed, by its number
claims_last : (before others : List LogItem) (item : LogItem) → ClaimsNone others → ClaimsOne item
    → claims_in (length (endings before)) (others ++ item ∷ []) ≡ length (endings (before ++ (others ++ item ∷ []))) ∷ []
claims_last before others item none one =
    let count : ℕ = length (endings before) in
    let mid : ℕ = count + length (endings others) in
    let last : length (endings (others ++ item ∷ [])) ≡ length (endings others) + 1 = one_more others item one.0 in
    let all : length (endings (before ++ (others ++ item ∷ []))) ≡ count + length (endings (others ++ item ∷ [])) = count-append before (others ++ item ∷ []) in
    let total : length (endings (before ++ (others ++ item ∷ []))) ≡ mid + 1 = omega arith in
    claims-append count others (item ∷ []) ∙ (ap (λ (ns : List ℕ). ns ++ claims_in mid (item ∷ [])) (none count) ∙ (one.1 mid ∙ ap (λ (n : ℕ). n ∷ []) (sym total)))

-- ---- tokens

-- tokens that stood in the board's log when the pass was heard are numbers of the bank's entries after it
tokens_hold : (setup : Setup) (opening : State) (board : BoardView) (before later after : List LogItem) (loads : List Load) → TokensHold → BeginsAt setup opening board
    → after ≡ before ++ later → All (IsTokenIn board.start before) loads → All (HoldsIn (entries_in opening after)) loads
tokens_hold setup opening board before later after loads law begins is tokens =
    All-weaker (IsTokenIn board.start before) (HoldsIn (entries_in opening after)) (λ load token. later_too load (law setup opening board.start before load begins token)) loads tokens
  where
    later_too : (load : Load) → HoldsIn (entries_in opening before) load → HoldsIn (entries_in opening after) load
    later_too load holds low =
        let s = holds low in
        let entries : entries_in opening after ≡ entries_in opening before ++ flat_map entry_of later = ap (entries_in opening) is ∙ entries-grown opening before later in
        (s.0, rw entries (Contains-append_left (entries_in opening before) (flat_map entry_of later) s.0 s.1), s.2, s.3)

-- ---- what the caller gains

later_is : (before later items after : List LogItem) → after ≡ before ++ later → after ≡ before ++ items → later ≡ items
later_is before later items after one other = append_cancel_left before later items (sym one ∙ other)

-- what is seen then
seen_is : (board : BoardView) (before after items grown : List LogItem) (old new : PassView) (m : Meets board before after old new) → after ≡ before ++ items
    → grown ≡ m.heard.seen.0 ++ items → new.seen ≡ old.seen ++ grown
seen_is board before after items grown old new m log is =
    m.seen ∙ (log ∙ (ap (λ (l : List LogItem). l ++ items) m.heard.seen.1 ∙ (append_assoc old.seen m.heard.seen.0 items ∙ ap (λ (l : List LogItem). old.seen ++ l) (sym is))))

-- an ending of its own, after items that are nobody's
pub gains_ending : (setup : Setup) (opening : State) (board : BoardView) (before after others grown : List LogItem) (item : LogItem) (old new : PassView) → TokensHold
    → BeginsAt setup opening board → (m : Meets board before after old new) → after ≡ before ++ (others ++ item ∷ []) → grown ≡ m.heard.seen.0 ++ (others ++ item ∷ [])
    → ClaimsNone others → ClaimsOne item → GainsEnding grown (caller_of opening old) (caller_of opening new)
gains_ending setup opening board before after others grown item old new law begins m log is none one =
    let items : List LogItem = others ++ item ∷ [] in
    let count : ℕ = length (endings before) in
    let claimed : claims_in count m.later ≡ length (endings new.seen) ∷ [] =
    ap (claims_in count) (later_is before m.later items after m.grows log) ∙ (claims_last before others item none one ∙ ap (λ (l : List LogItem). length (endings l) ∷ []) (sym (m.seen ∙ log))) in
    record {
      opening = refl;
      seen = seen_is board before after items grown old new m log is;
      mine = m.mine ∙ ap (λ (ns : List ℕ). old.mine ++ ns) claimed;
      polled = m.polled;
      hold = subst (λ (l : List LogItem). All (HoldsIn (entries_in opening l)) old.polled) (sym m.seen) (tokens_hold setup opening board before m.later after old.polled law begins m.grows m.heard.tokens);
    }

-- the endings of its own stay where nobody's items came
mine_stays : (board : BoardView) (before after others : List LogItem) (old new : PassView) → Meets board before after old new → after ≡ before ++ others → ClaimsNone others
    → new.mine ≡ old.mine
mine_stays board before after others old new m log none =
    m.mine
    ∙ (ap (λ (l : List LogItem). old.mine ++ claims_in (length (endings before)) l) (later_is before m.later others after m.grows log)
    ∙ (ap (λ (ns : List ℕ). old.mine ++ ns) (none (length (endings before))) ∙ append-nil old.mine))

-- nothing of its own, and its tokens hold
pub sees_more : (setup : Setup) (opening : State) (board : BoardView) (before after others : List LogItem) (old new : PassView) → TokensHold → BeginsAt setup opening board
    → (m : Meets board before after old new) → after ≡ before ++ others → ClaimsNone others → SeesMore (m.heard.seen.0 ++ others) (caller_of opening old) (caller_of opening new)
sees_more setup opening board before after others old new law begins m log none = record {
  opening = refl;
  seen = seen_is board before after others (m.heard.seen.0 ++ others) old new m log refl;
  mine = mine_stays board before after others old new m log none;
  polled = m.polled;
  hold = subst (λ (l : List LogItem). All (HoldsIn (entries_in opening l)) old.polled) (sym m.seen) (tokens_hold setup opening board before m.later after old.polled law begins m.grows m.heard.tokens);
}

-- nothing of its own
pub gains_nothing : (opening : State) (board : BoardView) (before after others : List LogItem) (old new : PassView) → Meets board before after old new → after ≡ before ++ others
    → ClaimsNone others → GainsNothing (caller_of opening old) (caller_of opening new)
gains_nothing opening board before after others old new m log none = record {
  opening = refl;
  grown = m.heard.seen.0 ++ others;
  seen = seen_is board before after others (m.heard.seen.0 ++ others) old new m log refl;
  mine = mine_stays board before after others old new m log none;
  polled = m.polled;
}

-- a pass that stays
pub gains_stays : (opening : State) (old new : PassView) → new ≡ old → GainsNothing (caller_of opening old) (caller_of opening new)
gains_stays opening old new same =
    subst (λ (p : PassView). GainsNothing (caller_of opening old) (caller_of opening p)) (sym same)
    (record { opening = refl; grown = []; seen = sym (append-nil old.seen); mine = refl; polled = refl })

-- a log isn't one item longer than itself
pub no_longer : (log : List LogItem) (item : LogItem) → log ≡ log ++ item ∷ [] → ⊥
no_longer log item same = let size : length log ≡ length log + 1 = ap length same ∙ length-append log (item ∷ []) in absurd (omega arith)
