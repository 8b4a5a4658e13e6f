-- Each kind of step keeps the rule of the board.
use Rattle.std.proofs.Common.{◌≡◌, ◌≢◌, ◌⊎◌, ℕ, zero, suc, ◌+◌, ◌%◌, ◌^◌, ◌<◌, ◌≤◌, Bool, true, false, cond, eqb, List, [], ◌∷◌, ◌++◌, length, get_or, set, drop, refl, sym, ap, ◌∙◌, subst, ⊎_elim, le_of_eq, le_refl, append-nil, eq-eqb, ne_eqb, Contains, arith}
use Rattle.std.specs.Prelude.{All}
use Rattle.std.proofs.lemmas.List.{set-get_or}
use Rattle.std.proofs.lemmas.List.Elements.{All-nil, All-append, All-push}
use mathlib.Core.Option.{some, none, some-injective, some-ne-none}
use lib.ListN.{get_elem?}
use Rattle.atomic_table.specs.Table.{State, Step, Me, Act, keeps, Allows, Splits, Joins}
use Rattle.atomic_table.proofs.Lists.{at_set, at_snoc}
use Rattle.ofx_types.specs.declared.number.ObjectId.{ObjectId}
use Rattle.bank_model.specs.declared.entry.Entry.{Entry}
use Rattle.bank_model.specs.declared.log.LogItem.{LogItem}
use Rattle.bank_model.specs.declared.log.LogItem.TheVariants.{Effect}
use Rattle.bank_model.specs.declared.log.Ending.{Ending}
use Rattle.bank_model.specs.declared.log.Ending.TheVariants as lent
use Rattle.bank_model.specs.Log.{endings, is_ending}
use Rattle.token_board.specs.declared.view.Load.{Load}
use Rattle.token_board.specs.declared.view.View.{View}
use Rattle.token_board.specs.Tokens.{Begins, added, numbers_in, numbers_of, newest_in, IsTokenIn, IsFreshIn}
use Rattle.token_board.specs.Views.{longer, item_of, claims_of}
use Rattle.token_board.specs.Rule.{AreWords, IsOrdered, IsRight, IsRuled, Ruled}
use Rattle.token_board.specs.Steps.{empty, fresh_writer, with_item, published, with_token, load_of, loaded, unknown, child, note_of, noted, with_note, met, compared, with_heard, checked}
use Rattle.token_board.proofs.Lists.{after_set, after_push, Begins-longer, Begins-along}
use Rattle.token_board.proofs.Logs.{newest-rises, newest-is, newest-none}
use Rattle.token_board.proofs.Words.{first_words, first_order, words_effect, order_effect, words_ending, order_ending}
use Rattle.token_board.proofs.Views.{off, longer_either, longer_begins, empty_right, right_owned, moved_to, grown_owner, grown_old, grown_new, grown_owned, grown_tokens, right_grown, claims_all, count_ending}

-- What a step tells here doesn't depend on how it was taken.
abbrev pub any_step : Step (Unit {0})
any_step = record { slots = 0; word = 0; first = 0; second = 0; said = none }

-- ---- the beginning

pub begins : (start : List ℕ) → IsRuled start (0 ∷ start) (fresh_writer ∷ [])
begins start = record { log = []; writer = 0; owner = λ _. 0; counts = first_words start; ordered = first_order start; right = one }
  where
    writer_right : IsRight start [] 0 (λ _. 0) 0 fresh_writer
    writer_right = record {
      writes = λ _. (refl, refl);
      seen = ([], refl);
      heard = ([], refl);
      owned = All-nil (λ number. (0 ≡ 0) × (number ≤ length (endings [])));
      tokens = All-nil (IsTokenIn start []);
    }

    one : (seat : ℕ) (view : View) → get_elem? (fresh_writer ∷ []) seat ≡ some view → IsRight start [] 0 (λ _. 0) seat view
    one zero view e = subst (IsRight start [] 0 (λ _. 0) 0) (some-injective fresh_writer view e) writer_right
    one (suc seat) view e = absurd (some-ne-none view (sym e))

-- ---- one view changes, and nothing else

-- a load leaves the words as they are
same_words : (start words : List ℕ) (views : List View) (i : ℕ) → IsRuled start words views → IsRuled start (set words i (get_or words i 0)) views
same_words start words views i h = subst (λ (ws : List ℕ). IsRuled start ws views) (sym (set-get_or words i 0)) h

changes : (start words : List ℕ) (views : List View) (id : ℕ) (view : View) (h : IsRuled start words views) → IsRight start h.log h.writer h.owner id view → IsRuled start words (set views id view)
changes start words views id view h mine = record {
  log = h.log;
  writer = h.writer;
  owner = h.owner;
  counts = h.counts;
  ordered = h.ordered;
  right = after_set (IsRight start h.log h.writer h.owner) views id view (λ j u _ e. h.right j u e) mine;
}

-- ---- publishing

-- the rule, of a log and a writer that are known
record IsRuledBy (start words : List ℕ) (views : List View) (owner : ℕ → ℕ) (known : List LogItem × ℕ) : Type 0 where
  counts : AreWords start known.0 words
  ordered : IsOrdered start known.0
  right : (seat : ℕ) (view : View) → get_elem? views seat ≡ some view → IsRight start known.0 known.1 owner seat view

known_by : (start words : List ℕ) (views : List View) (id : ℕ) (view : View) → view.writes ≡ true → get_elem? views id ≡ some view → (h : IsRuled start words views) → IsRuledBy start words views h.owner (view.seen, id)
known_by start words views id view on at h =
    let is = (h.right id view at).writes on in
    let old : List LogItem × ℕ = (h.log, h.writer) in
    let now : List LogItem × ℕ = (view.seen, id) in
    let found : IsRuledBy start words views h.owner old = record { counts = h.counts; ordered = h.ordered; right = h.right } in
    let same : old ≡ now = λ i. (sym is.1 i, sym is.0 i) in
    subst (IsRuledBy start words views h.owner) same found

writer_grown : (start : List ℕ) (id : ℕ) (owner : ℕ → ℕ) (view : View) (item : LogItem) → IsRight start view.seen id owner id view → IsRight start (view.seen ++ item ∷ []) id (grown_owner (length (endings view.seen)) id owner) id (with_item item view)
writer_grown start id owner view item h =
    let log = view.seen in
    let count = length (endings log) in
    let now = length (endings (log ++ item ∷ [])) in
    record {
      writes = λ _. (refl, refl);
      seen = ([], sym (append-nil (log ++ item ∷ [])));
      heard = Begins-longer view.heard log (item ∷ []) h.heard;
      owned =
          All-append (λ number. (grown_owner count id owner number ≡ id) × (number ≤ now)) view.owned (claims_of item now)
          (grown_owned start log (item ∷ []) id owner id view.owned h.owned)
          (claims_all (λ number. (grown_owner count id owner number ≡ id) × (number ≤ now)) item now
          (λ is. (grown_new count id owner now (let e = count_ending log item is in omega arith), le_refl now)));
      tokens = grown_tokens start log (item ∷ []) id owner view.tokens h.tokens;
    }

publishes : (start : List ℕ) (slots id : ℕ) (me : Me (Unit {0}) View) (word new : ℕ) (item : LogItem) (st : Step (Unit {0})) → me.0.writes ≡ true → ((words : List ℕ) → AreWords start me.0.seen words → AreWords start (me.0.seen ++ item ∷ []) (set words word new)) → (IsOrdered start me.0.seen → IsOrdered start (me.0.seen ++ item ∷ [])) → Allows (Ruled start) slots id me word (λ _. new) (λ _. published item st me new)
publishes start slots id me word new item st on words ordered s h _ at _ =
    let view = me.0 in
    let k = known_by start s.words s.views id view on at h in
    let owner' = grown_owner (length (endings view.seen)) id h.owner in (
      with_item item view,
      keeps,
      tt,
      record {
        log = view.seen ++ item ∷ [];
        writer = id;
        owner = owner';
        counts = words s.words k.counts;
        ordered = ordered k.ordered;
        right =
            after_set (IsRight start (view.seen ++ item ∷ []) id owner') s.views id (with_item item view)
            (λ j u apart e. right_grown start view.seen (item ∷ []) id h.owner j u apart (k.right j u e))
            (writer_grown start id h.owner view item (k.right id view at));
      },
      refl,
    )

pub publishes_effect : (start : List ℕ) (slots id : ℕ) (me : Me (Unit {0}) View) (e : Entry) (item : LogItem) (st : Step (Unit {0})) → item ≡ Effect e → me.0.writes ≡ true → e.object.0 < length start → All (λ n. n < e.number) (numbers_in start me.0.seen) → Allows (Ruled start) slots id me (e.object.0 + 1) (λ _. e.number) (λ _. published item st me e.number)
publishes_effect start slots id me e item st is on within above =
    subst (λ (i : LogItem). Allows (Ruled start) slots id me (e.object.0 + 1) (λ _. e.number) (λ _. published i st me e.number)) (sym is)
    (publishes start slots id me (e.object.0 + 1) e.number (Effect e) st on
    (λ words. words_effect start me.0.seen words e within)
    (order_effect start me.0.seen e within above))

adds_nothing : (x : Ending) → added (item_of x ∷ []) ≡ []
adds_nothing (lent.Answer event at reply) = refl
adds_nothing (lent.Adopted fault event at) = refl
adds_nothing (lent.Fault count pending) = refl

pub publishes_ending : (start : List ℕ) (slots id : ℕ) (me : Me (Unit {0}) View) (x : Ending) (count : ℕ) (item : LogItem) (st : Step (Unit {0})) → item ≡ item_of x → me.0.writes ≡ true → count ≡ length (endings (me.0.seen ++ item_of x ∷ [])) % 2 ^ 64 → Allows (Ruled start) slots id me 0 (λ _. count) (λ _. published item st me count)
publishes_ending start slots id me x count item st is on counted =
    subst (λ (i : LogItem). Allows (Ruled start) slots id me 0 (λ _. count) (λ _. published i st me count)) (sym is)
    (publishes start slots id me 0 count (item_of x) st on
    (λ words. words_ending start me.0.seen words (item_of x) count (adds_nothing x) counted)
    (order_ending start me.0.seen (item_of x) (adds_nothing x)))

-- ---- loading a token

with_token_right : (start : List ℕ) (log : List LogItem) (writer : ℕ) (owner : ℕ → ℕ) (id : ℕ) (view : View) (load : Load) → IsTokenIn start log load → IsRight start log writer owner id view → IsRight start log writer owner id (with_token load view)
with_token_right start log writer owner id view load token h = record {
  writes = h.writes;
  seen = h.seen;
  heard = h.heard;
  owned = h.owned;
  tokens = All-push (IsTokenIn start log) view.tokens load h.tokens token;
}

-- what a prefix of the log tells of an object is no newer
fresh : (start : List ℕ) (seen log : List LogItem) (object : ObjectId) (n : ℕ) → Begins seen log → IsOrdered start log → n ≡ newest_in start log object → newest_in start seen object ≤ n
fresh start seen log object n h ordered is =
    let up = newest-rises start seen h.0 object (subst (IsOrdered start) h.1 ordered) in
    subst (λ (m : ℕ). newest_in start seen object ≤ m) (ap (λ (l : List LogItem). newest_in start l object) (sym h.1) ∙ sym is) up

pub loads_token : (start : List ℕ) (slots id : ℕ) (me : Me (Unit {0}) View) (object : ObjectId) (st : Step (Unit {0})) → object.0 < length start → Allows (Ruled start) slots id me (object.0 + 1) (λ n. n) (loaded start object st me)
loads_token start slots id me object st within s h _ at _ =
    let n : ℕ = get_or s.words (object.0 + 1) 0 in
    let is : n ≡ newest_in start h.log object = h.counts.newest object within in
    let mine = h.right id me.0 at in
    let token : IsTokenIn start h.log (load_of object n) = λ _. subst (Contains (numbers_of start h.log object)) (sym is) (newest-is start h.log object) in (
      with_token (load_of object n) me.0,
      keeps,
      tt,
      same_words start s.words (set s.views id (with_token (load_of object n) me.0)) (object.0 + 1)
          (changes start s.words s.views id (with_token (load_of object n) me.0) h (with_token_right start h.log h.writer h.owner id me.0 (load_of object n) token mine)),
      ((refl, fresh start me.0.seen h.log object n mine.seen h.ordered is), refl),
    )

pub misses_token : (start : List ℕ) (slots id : ℕ) (me : Me (Unit {0}) View) (object : ObjectId) (st : Step (Unit {0})) → length start ≤ object.0 → Allows (Ruled start) slots id me 0 (λ n. n) (unknown start object st me)
misses_token start slots id me object st beyond s h _ at _ =
    let is : 0 ≡ newest_in start h.log object = sym (newest-none start h.log object h.ordered beyond) in
    let mine = h.right id me.0 at in
    let token : IsTokenIn start h.log (load_of object 0) = λ one. absurd (omega arith) in (
      with_token (load_of object 0) me.0,
      keeps,
      tt,
      same_words start s.words (set s.views id (with_token (load_of object 0) me.0)) 0
          (changes start s.words s.views id (with_token (load_of object 0) me.0) h (with_token_right start h.log h.writer h.owner id me.0 (load_of object 0) token mine)),
      ((refl, fresh start me.0.seen h.log object 0 mine.seen h.ordered is), refl),
    )

-- ---- splitting

pub splits_child : (start : List ℕ) (id : ℕ) (view : View) → Splits (Ruled start) id view view (child view)
splits_child start id view s h at =
    let right = IsRight start h.log h.writer h.owner in
    let mine = h.right id view at in
    record {
      log = h.log;
      writer = h.writer;
      owner = h.owner;
      counts = h.counts;
      ordered = h.ordered;
      right =
          after_push right (set s.views id view) (child view)
          (λ j u _ e. after_set right s.views id view (λ i w _ f. h.right i w f) mine j u e)
          (record {
            writes = λ on. absurd (off on);
            seen = mine.seen;
            heard = (h.log, refl);
            owned = All-nil (λ number. (h.owner number ≡ length (set s.views id view)) × (number ≤ length (endings h.log)));
            tokens = mine.tokens;
          });
    }

pub splits_first : (start : List ℕ) (id : ℕ) (view : View) → Splits (Ruled start) id view view empty
splits_first start id view s h at =
    let right = IsRight start h.log h.writer h.owner in
    record {
      log = h.log;
      writer = h.writer;
      owner = h.owner;
      counts = h.counts;
      ordered = h.ordered;
      right =
          after_push right (set s.views id view) empty
          (λ j u _ e. after_set right s.views id view (λ i w _ f. h.right i w f) (h.right id view at) j u e)
          (empty_right start h.log h.writer h.owner (length (set s.views id view)));
    }

-- all that one seat owns is owned by another one
abbrev handed : ℕ → ℕ → (ℕ → ℕ) → ℕ → ℕ
handed from to owner n = cond (eqb (owner n) from) to (owner n)

handed_over : (from to : ℕ) (owner : ℕ → ℕ) (n : ℕ) → owner n ≡ from → handed from to owner n ≡ to
handed_over from to owner n own = ap (λ b. cond b to (owner n)) (eq-eqb (owner n) from own)

handed_kept : (from to : ℕ) (owner : ℕ → ℕ) (seat n : ℕ) → seat ≢ from → owner n ≡ seat → handed from to owner n ≡ seat
handed_kept from to owner seat n apart own = ap (λ b. cond b to (owner n)) (ne_eqb (owner n) from (λ e. apart (sym own ∙ e))) ∙ own

pub splits_note : (start : List ℕ) (id : ℕ) (view : View) → Splits (Ruled start) id view (noted view) (note_of view)
splits_note start id view s h at =
    let new = length (set s.views id (noted view)) in
    let owner' = handed id new h.owner in
    let right = IsRight start h.log h.writer owner' in
    let mine = h.right id view at in
    record {
      log = h.log;
      writer = h.writer;
      owner = owner';
      counts = h.counts;
      ordered = h.ordered;
      right =
          after_push right (set s.views id (noted view)) (note_of view)
          (λ j u _ e.
          after_set right s.views id (noted view)
          (λ i w apart f. right_owned start h.log h.writer h.owner owner' i w (λ n own. handed_kept id new h.owner i n apart own) (h.right i w f))
          (record {
            writes = mine.writes;
            seen = mine.seen;
            heard = mine.heard;
            owned = All-nil (λ number. (owner' number ≡ id) × (number ≤ length (endings h.log)));
            tokens = mine.tokens;
          })
          j u e)
          (record {
            writes = λ on. absurd (off on);
            seen = mine.seen;
            heard = (h.log, refl);
            owned = moved_to start h.log h.writer h.owner owner' id new view.owned (λ n own. handed_over id new h.owner n own) mine.owned;
            tokens = All-nil (IsTokenIn start h.log);
          });
    }

-- ---- meeting

other_view : (views : List View) (id other : ℕ) (both view : View) → ¬ (other ≡ id) → get_elem? (set views id both) other ≡ some view → get_elem? views other ≡ some view
other_view views id other both view apart there =
    ⊎_elim (λ (t : (other ≡ id) × (both ≡ view)). absurd (apart t.0)) (λ (t : (other ≢ id) × (get_elem? views other ≡ some view)). t.1) (at_set views id other both view there)

pub joins_note : (start : List ℕ) (id : ℕ) (view : View) (other : ℕ) (note : View) → Joins (Ruled start) id view other note (with_note view note) empty
joins_note start id view other note s h at apart there =
    let both = with_note view note in
    let owner' = handed other id h.owner in
    let right = IsRight start h.log h.writer owner' in
    let mine = h.right id view at in
    let theirs = h.right other note (other_view s.views id other both note apart there) in
    record {
      log = h.log;
      writer = h.writer;
      owner = owner';
      counts = h.counts;
      ordered = h.ordered;
      right =
          after_set right (set s.views id both) other empty
          (λ j u ne e.
          after_set (λ i w. i ≢ other → right i w) s.views id both
          (λ i w _ f ne'. right_owned start h.log h.writer h.owner owner' i w (λ n own. handed_kept other id h.owner i n ne' own) (h.right i w f))
          (λ _. record {
            writes = mine.writes;
            seen = mine.seen;
            heard = theirs.seen;
            owned =
                All-append (λ number. (owner' number ≡ id) × (number ≤ length (endings h.log))) view.owned note.owned
                (moved_to start h.log h.writer h.owner owner' id id view.owned (λ n own. handed_kept other id h.owner id n (λ e'. apart (sym e')) own) mine.owned)
                (moved_to start h.log h.writer h.owner owner' other id note.owned (λ n own. handed_over other id h.owner n own) theirs.owned);
            tokens = mine.tokens;
          })
          j u e ne)
          (empty_right start h.log h.writer owner' other);
    }

pub compares_logs : (start : List ℕ) (slots id : ℕ) (me : Me (Unit {0}) View) (st : Step (Unit {0})) → me.0.writes ≡ false → Allows (Ruled start) slots id me 0 (λ n. n) (compared st me)
compares_logs start slots id me st off_now s h _ at _ =
    let view = me.0 in
    let mine = h.right id view at in
    let met_right : IsRight start h.log h.writer h.owner id (met view) = record {
      writes = λ on. absurd (off (sym off_now ∙ on));
      seen = longer_either (λ (l : List LogItem). Begins l h.log) view.seen view.heard mine.seen mine.heard;
      heard = (h.log, refl);
      owned = mine.owned;
      tokens = mine.tokens;
    } in
    let both = longer_begins h.log view.seen view.heard mine.seen mine.heard in
    (met view, keeps, tt, same_words start s.words (set s.views id (met view)) 0 (changes start s.words s.views id (met view) h met_right), (refl, both.0, both.1))

-- ---- hearing

pub joins_child : (start : List ℕ) (id : ℕ) (view : View) (other : ℕ) (pass : View) → Joins (Ruled start) id view other pass (with_heard view pass) empty
joins_child start id view other pass s h at apart there =
    let both = with_heard view pass in
    let right = IsRight start h.log h.writer h.owner in
    let mine = h.right id view at in
    let theirs = h.right other pass (other_view s.views id other both pass apart there) in
    record {
      log = h.log;
      writer = h.writer;
      owner = h.owner;
      counts = h.counts;
      ordered = h.ordered;
      right =
          after_set right (set s.views id both) other empty
          (λ j u _ e.
          after_set right s.views id both (λ i w _ f. h.right i w f)
          (record { writes = mine.writes; seen = mine.seen; heard = theirs.seen; owned = mine.owned; tokens = theirs.tokens })
          j u e)
          (empty_right start h.log h.writer h.owner other);
    }

pub checks_heard : (start : List ℕ) (slots id : ℕ) (me : Me (Unit {0}) View) (st : Step (Unit {0})) → me.0.writes ≡ true → Allows (Ruled start) slots id me 0 (λ n. n) (checked start st me)
checks_heard start slots id me st on s h _ at _ =
    let view = me.0 in
    let mine = h.right id view at in
    let log = sym (mine.writes on).1 in (
      view,
      keeps,
      tt,
      same_words start s.words (set s.views id view) 0 (changes start s.words s.views id view h mine),
      (refl, Begins-along view.heard h.log view.seen log mine.heard, subst (λ (l : List LogItem). All (IsTokenIn start l) view.tokens) log mine.tokens),
    )

-- ---- the same, where a step has its own names for what the board began with and for the object

pub loads_token_as : (start words : List ℕ) (asked object : ObjectId) (slots id : ℕ) (me : Me (Unit {0}) View) (st : Step (Unit {0})) → start ≡ drop 1 words → asked ≡ object → object.0 < length (drop 1 words) → Allows (Ruled (drop 1 words)) slots id me (object.0 + 1) (λ n. n) (loaded start asked st me)
loads_token_as start words asked object slots id me st is same within =
    subst (λ (x : List ℕ × ObjectId). Allows (Ruled (drop 1 words)) slots id me (object.0 + 1) (λ n. n) (loaded x.0 x.1 st me)) (λ i. (sym is i, sym same i))
    (loads_token (drop 1 words) slots id me object st within)

pub misses_token_as : (start words : List ℕ) (asked object : ObjectId) (slots id : ℕ) (me : Me (Unit {0}) View) (st : Step (Unit {0})) → start ≡ drop 1 words → asked ≡ object → length (drop 1 words) ≤ object.0 → Allows (Ruled (drop 1 words)) slots id me 0 (λ n. n) (unknown start asked st me)
misses_token_as start words asked object slots id me st is same beyond =
    subst (λ (x : List ℕ × ObjectId). Allows (Ruled (drop 1 words)) slots id me 0 (λ n. n) (unknown x.0 x.1 st me)) (λ i. (sym is i, sym same i))
    (misses_token (drop 1 words) slots id me object st beyond)

pub checks_heard_as : (start words : List ℕ) (slots id : ℕ) (me : Me (Unit {0}) View) (st : Step (Unit {0})) → start ≡ drop 1 words → me.0.writes ≡ true → Allows (Ruled (drop 1 words)) slots id me 0 (λ n. n) (checked start st me)
checks_heard_as start words slots id me st is on =
    subst (λ (x : List ℕ). Allows (Ruled (drop 1 words)) slots id me 0 (λ n. n) (checked x st me)) (sym is) (checks_heard (drop 1 words) slots id me st on)

-- ---- the beginning, where the words are known by an equation

pub begins_as : (start words known : List ℕ) → words ≡ 0 ∷ start → known ≡ words → IsRuled (drop 1 known) words (fresh_writer ∷ [])
begins_as start words known is same =
    subst (λ (ws : List ℕ). IsRuled (drop 1 ws) words (fresh_writer ∷ [])) (sym (same ∙ is))
    (subst (λ (ws : List ℕ). IsRuled start ws (fresh_writer ∷ [])) (sym is) (begins start))
