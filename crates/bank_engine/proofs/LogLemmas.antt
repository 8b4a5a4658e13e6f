-- Logs that grow by one group.
use Rattle.std.proofs.Common.{◌≡◌, ℕ, ◌<◌, ◌≤◌, ◌⊎◌, inl, inr, ◌+◌, ◌-◌, ◌^◌, ◌%◌, List, [], ◌∷◌, ◌++◌, length, map, drop, fold, true, false, None, Some, refl, sym, ap, ◌∙◌, subst, arith, append_assoc}
use Rattle.std.specs.List.{All, flat_map}
use Rattle.std.proofs.Math.Seq.{drop-append_seam}
use Rattle.std.proofs.lemmas.Bool.{false≢true, cases_lt}
use Rattle.std.proofs.lemmas.Grind.{flat_map-append}
use Rattle.std.proofs.lemmas.List.{append-nil}
use Rattle.std.proofs.lemmas.List.Elements.{filter-append, All-append, All-cons, All-nil, All-weaker}
use Rattle.std.proofs.lemmas.List.Sums.{fold-append}
use Rattle.ofx_types.specs.declared.number.Moment.{Moment}
use Rattle.ofx_ports.specs.Faults.{Rose}
use Rattle.bank_model.specs.declared.entry.Entry.{Entry}
use Rattle.bank_model.specs.declared.event.Event.{Event}
use Rattle.bank_model.specs.declared.event.State.{State}
use Rattle.bank_model.specs.declared.log.LogItem.{LogItem}
use Rattle.bank_model.specs.declared.log.LogItem.TheVariants.{Effect, Answer, Adopted, Fault}
use Rattle.bank_model.specs.declared.setup.Setup.{Setup}
use Rattle.bank_model.specs.Rules.{state_after}
use Rattle.bank_model.specs.Log.{is_ending, endings, entry_of, entries_in}
use Rattle.bank_model.specs.LegalLog.{effects_of, group, after_ending, groups, ends, IsUnsettled, IsPending, IsAbove, MayEnd, AreLegalEndings, IsWholeLog}
use Rattle.bank_engine.specs.Kept.{CodeEndings}
use Rattle.bank_engine.specs.Truth.{IsUpTo}
use Rattle.bank_model.proofs.Logs.{endings_of_effects}

-- ---- endings

endings_after : (entries : List LogItem) (item : LogItem) → endings entries ≡ [] → is_ending item ≡ true → endings (entries ++ item ∷ []) ≡ item ∷ []
endings_after entries item none is =
    filter-append is_ending entries (item ∷ []) ∙ ap (λ (l : List LogItem). l ++ endings (item ∷ [])) none ∙ one item is
  where
    one : (item : LogItem) → is_ending item ≡ true → endings (item ∷ []) ≡ item ∷ []
    one (Effect entry) is = absurd (false≢true is)
    one (Answer event at reply) is = refl
    one (Adopted fault event at) is = refl
    one (Fault count pending) is = refl

endings_of_group : (setup : Setup) (S : State) (item : LogItem) → is_ending item ≡ true → endings (group setup S item) ≡ item ∷ []
endings_of_group setup S (Effect entry) is = absurd (false≢true is)
endings_of_group setup S (Answer event at reply) is = endings_after (effects_of setup S at event) (Answer event at reply) (endings_of_effects (drop (length S.entries) (state_after setup S at event).entries)) is
endings_of_group setup S (Adopted fault event at) is = endings_after (effects_of setup S at event) (Adopted fault event at) (endings_of_effects (drop (length S.entries) (state_after setup S at event).entries)) is
endings_of_group setup S (Fault count pending) is = refl

pub endings_more : (setup : Setup) (S : State) (log : List LogItem) (item : LogItem) → is_ending item ≡ true → endings (log ++ group setup S item) ≡ endings log ++ item ∷ []
endings_more setup S log item is =
    filter-append is_ending log (group setup S item) ∙ ap (λ (l : List LogItem). endings log ++ l) (endings_of_group setup S item is)

-- ---- legal logs

groups_more : (setup : Setup) (S : State) (items : List LogItem) (item : LogItem) → groups setup S (items ++ item ∷ []) ≡ groups setup S items ++ group setup (fold (after_ending setup) S items) item
groups_more setup S [] item = append-nil (group setup S item)
groups_more setup S (first ∷ more) item =
    ap (λ (l : List LogItem). group setup S first ++ l) (groups_more setup (after_ending setup S first) more item)
    ∙ sym (append_assoc (group setup S first) (groups setup (after_ending setup S first) more) (group setup (fold (after_ending setup) (after_ending setup S first) more) item))

legal_more : (setup : Setup) (S : State) (before items : List LogItem) (item : LogItem) → AreLegalEndings setup S before items → MayEnd setup (fold (after_ending setup) S items) (before ++ items) item → AreLegalEndings setup S before (items ++ item ∷ [])
legal_more setup S before [] item legal may = (subst (λ (b : List LogItem). MayEnd setup S b item) (append-nil before) may, tt)
legal_more setup S before (first ∷ more) item legal may = (
  legal.0,
  legal_more setup (after_ending setup S first) (before ++ first ∷ []) more item legal.1
      (subst (λ (b : List LogItem). MayEnd setup (fold (after_ending setup) (after_ending setup S first) more) b item) (sym (append_assoc before (first ∷ []) more)) may),
)

pub ends_more : (setup : Setup) (S T : State) (log : List LogItem) (item : LogItem) → is_ending item ≡ true → ends setup S (log ++ group setup T item) ≡ after_ending setup (ends setup S log) item
ends_more setup S T log item is =
    ap (fold (after_ending setup) S) (endings_more setup T log item is) ∙ fold-append (after_ending setup) S (endings log) (item ∷ [])

pub whole_more : (setup : Setup) (S : State) (log : List LogItem) (item : LogItem) → is_ending item ≡ true → IsWholeLog setup S log → MayEnd setup (ends setup S log) (endings log) item → IsWholeLog setup S (log ++ group setup (ends setup S log) item)
whole_more setup S log item is whole may = record {
  may_end =
      subst (AreLegalEndings setup S []) (sym (endings_more setup (ends setup S log) log item is))
      (legal_more setup S [] (endings log) item whole.may_end may);
  grouped =
      ap (λ (l : List LogItem). l ++ group setup (ends setup S log) item) whole.grouped
      ∙ sym (groups_more setup S (endings log) item)
      ∙ ap (groups setup S) (sym (endings_more setup (ends setup S log) log item is));
}

-- ---- entries

entries_of_effects : (entries : List Entry) → flat_map entry_of (map Effect entries) ≡ entries
entries_of_effects [] = refl
entries_of_effects (entry ∷ more) = ap (λ (l : List Entry). entry ∷ l) (entries_of_effects more)

-- the effects of a step that adds these entries
pub effects_are : (setup : Setup) (S : State) (at : Moment) (event : Event) (entries : List Entry) → (state_after setup S at event).entries ≡ S.entries ++ entries → effects_of setup S at event ≡ map Effect entries
effects_are setup S at event entries grows =
    ap (λ (l : List Entry). map Effect (drop (length S.entries) l)) grows ∙ ap (map Effect) (drop-append_seam S.entries entries)

-- a log that has grown by the effects of these entries
pub effects_added : (setup : Setup) (S : State) (at : Moment) (event : Event) (entries : List Entry) (log log' : List LogItem) → log' ≡ log ++ map Effect entries → (state_after setup S at event).entries ≡ S.entries ++ entries → log' ≡ log ++ effects_of setup S at event
effects_added setup S at event entries log log' is grows = is ∙ ap (λ (l : List LogItem). log ++ l) (sym (effects_are setup S at event entries grows))

pub entries_more : (setup : Setup) (opening S : State) (at : Moment) (event : Event) (entries : List Entry) (log : List LogItem) (item : LogItem) → entry_of item ≡ [] → S.entries ≡ entries_in opening log → (state_after setup S at event).entries ≡ S.entries ++ entries → (state_after setup S at event).entries ≡ entries_in opening (log ++ (effects_of setup S at event ++ item ∷ []))
entries_more setup opening S at event entries log item none own grows =
    grows ∙ ap (λ (l : List Entry). l ++ entries) own ∙ append_assoc opening.entries (flat_map entry_of log) entries
    ∙ ap (λ (l : List Entry). opening.entries ++ l)
    (ap (λ (l : List Entry). flat_map entry_of log ++ l) (sym of_group) ∙ sym (flat_map-append entry_of log (effects_of setup S at event ++ item ∷ [])))
  where
    last : flat_map entry_of (item ∷ []) ≡ []
    last = ap (λ (l : List Entry). l ++ []) none

    of_group : flat_map entry_of (effects_of setup S at event ++ item ∷ []) ≡ entries
    of_group =
        ap (λ (l : List LogItem). flat_map entry_of (l ++ item ∷ [])) (effects_are setup S at event entries grows)
        ∙ flat_map-append entry_of (map Effect entries) (item ∷ [])
        ∙ ap (λ (l : List Entry). flat_map entry_of (map Effect entries) ++ l) last
        ∙ append-nil (flat_map entry_of (map Effect entries))
        ∙ entries_of_effects entries

pub entries_same : (opening : State) (entries : List Entry) (log : List LogItem) (item : LogItem) → entry_of item ≡ [] → entries ≡ entries_in opening log → entries ≡ entries_in opening (log ++ item ∷ [])
entries_same opening entries log item none own =
    own
    ∙ ap (λ (l : List Entry). opening.entries ++ l)
    (sym (append-nil (flat_map entry_of log)) ∙ ap (λ (l : List Entry). flat_map entry_of log ++ l) (sym (ap (λ (l : List Entry). l ++ []) none))
    ∙ sym (flat_map-append entry_of log (item ∷ [])))

-- ---- records

pub codes_more : (items : List LogItem) (records : List (List ℕ)) (item : LogItem) (more : List (List ℕ)) → CodeEndings items records → CodeEndings (item ∷ []) more → CodeEndings (items ++ item ∷ []) (records ++ more)
codes_more [] records item more code next = subst (λ (r : List (List ℕ)). CodeEndings (item ∷ []) (r ++ more)) (sym code) next
codes_more (Effect entry ∷ items) records item more code next = codes_more items records item more code next
codes_more (Fault count pending ∷ items) records item more code next = codes_more items records item more code next
codes_more (Answer event at reply ∷ items) [] item more code next = absurd code
codes_more (Answer event at reply ∷ items) (rec ∷ records) item more code next = (code.0, codes_more items records item more code.1 next)
codes_more (Adopted fault event at ∷ items) [] item more code next = absurd code
codes_more (Adopted fault event at ∷ items) (rec ∷ records) item more code next = (code.0, codes_more items records item more code.1 next)

-- ---- counts

up_to_later : (before now : ℕ) → before ≤ now → (item : LogItem) → IsUpTo before item → IsUpTo now item
up_to_later before now later (Effect entry) up = tt
up_to_later before now later (Answer event at reply) up = tt
up_to_later before now later (Adopted fault event at) up = tt
up_to_later before now later (Fault count pending) up = omega (arith, later, up)

pub counts_later : (before now : ℕ) (items : List LogItem) → before ≤ now → All (IsUpTo before) items → All (IsUpTo now) items
counts_later before now items later counts = All-weaker (IsUpTo before) (IsUpTo now) (up_to_later before now later) items counts

pub counts_more : (before now : ℕ) (items : List LogItem) (item : LogItem) → before ≤ now → All (IsUpTo before) items → IsUpTo now item → All (IsUpTo now) (items ++ item ∷ [])
counts_more before now items item later counts up =
    All-append (IsUpTo now) items (item ∷ []) (counts_later before now items later counts) (All-cons (IsUpTo now) item [] up (All-nil (IsUpTo now)))

above_item : (before now : ℕ) → before ≤ now → Rose before now → (item : LogItem) → IsUpTo before item → IsAbove now item
above_item before now later rose (Effect entry) up = tt
above_item before now later rose (Answer event at reply) up = tt
above_item before now later rose (Adopted fault event at) up = tt
above_item before now later (inl risen) (Fault count pending) up = inl (omega (arith, risen, up))
above_item before now later (inr last) (Fault count pending) up = by (cases_lt count now)
  where
    by : (count < now) ⊎ (now ≤ count) → IsAbove now (Fault count pending)
    by (inl below) = inl below
    by (inr past) = inr (omega (arith, later, up, past, last), last)

pub counts_rise : (before now : ℕ) (items : List LogItem) → before ≤ now → Rose before now → All (IsUpTo before) items → All (IsAbove now) items
counts_rise before now items later rose counts = All-weaker (IsUpTo before) (IsAbove now) (above_item before now later rose) items counts

-- ---- what is pending

pub pending_new : (items : List LogItem) (count : ℕ) (event : Event) (at : Moment) → IsPending (items ++ Fault count (Some (event, at)) ∷ []) ((length items + 1) % 2 ^ 64) event at
pending_new items count event at = record {
  earlier = items;
  count = count;
  later = [];
  parts = refl;
  unsettled = All-nil IsUnsettled;
  number_is = refl;
}

pub pending_still : (items : List LogItem) (count number : ℕ) (event : Event) (at : Moment) → IsPending items number event at → IsPending (items ++ Fault count None ∷ []) number event at
pending_still items count number event at is = record {
  earlier = is.earlier;
  count = is.count;
  later = is.later ++ Fault count None ∷ [];
  parts =
      ap (λ (l : List LogItem). l ++ Fault count None ∷ []) is.parts
      ∙ append_assoc is.earlier (Fault is.count (Some (event, at)) ∷ is.later) (Fault count None ∷ []);
  unsettled = All-append IsUnsettled is.later (Fault count None ∷ []) is.unsettled (All-cons IsUnsettled (Fault count None) [] tt (All-nil IsUnsettled));
  number_is = is.number_is;
}

-- a log that has grown by the effects of these entries, and then by an ending
pub group_added : (setup : Setup) (S : State) (at : Moment) (event : Event) (entries : List Entry) (log between log' : List LogItem) (item : LogItem) → between ≡ log ++ map Effect entries → log' ≡ between ++ item ∷ [] → (state_after setup S at event).entries ≡ S.entries ++ entries → log' ≡ log ++ (effects_of setup S at event ++ item ∷ [])
group_added setup S at event entries log between log' item first then grows =
    then ∙ ap (λ (l : List LogItem). l ++ item ∷ []) (effects_added setup S at event entries log between first grows)
    ∙ append_assoc log (effects_of setup S at event) (item ∷ [])
