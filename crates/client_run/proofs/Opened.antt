-- The client in a text is one, and so each end of a run that finds none comes exactly where it should.
use Rattle.std.proofs.Common.{◌≡◌, ◌≢◌, ◌∙◌, ℕ, ◌<◌, List, [], Option, None, Some, IfSome, Result, Ok, Err, ◌⊎◌, inl, inr, eqb, false, refl, sym, ap, subst}
use Rattle.std.proofs.lemmas.Bool.{eqb-false}
use Rattle.ofx_ports.specs.Faults.{Rose}
use Rattle.ofx_types.specs.declared.told.Note.{Note}
use Rattle.ofx_types.specs.declared.told.Note.TheVariants.{Plain, Place}
use Rattle.ofx_types.specs.declared.told.Told.{Told}
use Rattle.client_saved.specs.Coding.{state_text}
use Rattle.client_saved.specs.SavedText.{IsSavedText, IsFirstFault}
use Rattle.client_saved.specs.declared.state.ClientState.{ClientState}
use Rattle.client_core.specs.ClientForm.{new_client}
use Rattle.client_arguments.specs.Arguments.{AreArguments}
use Rattle.client_arguments.specs.declared.order.Order.{Order}
use Rattle.client_run.specs.Exact.{RefusesArguments, HasText, IsUnopened, RefusesOthers, RefusesText, IsOthers, OnlyRefusesThese, IsFaulty, OnlyRefusesFaults}
use Rattle.client_run.specs.Views.{StoreView, PortsView}
use Rattle.client_run.specs.Saves.{IsClientIn, IsOurs, IsText, Finds}
use Rattle.client_run.specs.Run.{WorksIf, IsRun, IsClientRun}
use Rattle.client_run.specs.Stopping.{reported, reported_of}
use Rattle.client_run.specs.declared.stop.StoreOpenFault.{StoreOpenFault}
use Rattle.client_run.specs.declared.stop.StoreOpenFault.TheVariants as opens
use Rattle.client_run.specs.declared.stop.ClientStop.{ClientStop}
use Rattle.client_run.specs.declared.stop.ClientStop.TheVariants as stops
use Rattle.client_run.proofs.WorkEnds.{works_end, not_opening}

-- no text is that of two states, and none with a fault is that of one
abbrev pub OneState : Type 0
OneState = (text : List ℕ) (state other : ClientState) → IsSavedText text state → IsSavedText text other → state ≡ other

abbrev pub NoneSaved : Type 0
NoneSaved = (text : List ℕ) (at : ℕ) (state : ClientState) → IsFirstFault text at → IsSavedText text state → ⊥

text_filled : (state : ClientState) → [] ≡ state_text state → ⊥
unfolding state_text
text_filled state e = cc

-- A saved text isn't empty.
pub saved_filled : (text : List ℕ) (state : ClientState) → IsSavedText text state → text ≢ []
saved_filled text state saved empty = text_filled state (sym empty ∙ saved.spelled)

-- For one name and one user there is one client in a text.
pub one_client : OneState → (order other : Order) (text : List ℕ) (a b : ClientState) → other.name ≡ order.name → other.user ≡ order.user → IsClientIn order text a → IsClientIn other text b → b ≡ a
one_client one order other text a b name user (inl (empty, new)) (inl (empty', new')) =
    new' ∙ (ap (λ (n : List ℕ). new_client n other.user) name ∙ (ap (λ (u : List ℕ). new_client order.name u) user ∙ sym new))
one_client one order other text a b name user (inl (empty, new)) (inr saved) = absurd (saved_filled text b saved empty)
one_client one order other text a b name user (inr saved) (inl (empty, new)) = absurd (saved_filled text a saved empty)
one_client one order other text a b name user (inr saved) (inr saved') = one text b a saved' saved

-- whose client it is goes by the name and the user
pub ours_alike : (order other : Order) (a b : ClientState) → other.name ≡ order.name → other.user ≡ order.user → b ≡ a → IsOurs other b → IsOurs order a
ours_alike order other a b name user same ours = record {
  name_is = ap (λ (c : ClientState). c.name) (sym same) ∙ (ours.name_is ∙ name);
  user_is = ap (λ (c : ClientState). c.user) (sym same) ∙ (ours.user_is ∙ user);
  has_number = subst (λ (c : ClientState). c.next < 9999999999) same ours.has_number;
}

-- the text that is reported
pub text_reported : (store : StoreView) (text other : List ℕ) → store.text ≡ Some text → IsText store other → other ≡ text
text_reported store text other reported is = subst (λ (t : Option (List ℕ)). IfSome t (λ (all : List ℕ). other ≡ all)) reported is

-- words name one client and one user
same_name : (arguments : List (List ℕ)) (order other : Order) → AreArguments arguments order → AreArguments arguments other → other.name ≡ order.name
same_name arguments order other are are' =
    let named : are'.name ≡ are.name = let spelled = sym are'.spelled ∙ are.spelled in cc in
    are'.ordered.name_is ∙ (named ∙ sym are.ordered.name_is)

same_user : (arguments : List (List ℕ)) (order other : Order) → AreArguments arguments order → AreArguments arguments other → other.user ≡ order.user
same_user arguments order other are are' =
    let named : are'.user ≡ are.user = let spelled = sym are'.spelled ∙ are.spelled in cc in
    are'.ordered.user_is ∙ (named ∙ sym are.ordered.user_is)

-- ---- refusals

pub refuses_arguments : RefusesArguments
refuses_arguments arguments before after what (inl unordered) usage = (inl unordered.reported_is, unordered.unchanged)
refuses_arguments arguments before after what (inr (inl run)) usage = absurd (usage run.order run.are_arguments)
refuses_arguments arguments before after what (inr (inr unread)) usage = (inr unread.reported_is, unread.unchanged)

unopened : (order : Order) (before between after : PortsView) (end : Result (Unit {0}) ClientStop) (what : Told) → what ≡ reported_of end → WorksIf order (Err opens.Failed) between after end → Rose before.store.faults between.store.faults → IsUnopened before after what
unopened order before between after end what reported_is works rose =
    inl (reported_is ∙ ap reported_of works.0, subst (λ (ports : PortsView). Rose before.store.faults ports.store.faults) (sym works.1) rose)

others_found : OneState → NoneSaved → (order other : Order) (before between after : PortsView) (end : Result (Unit {0}) ClientStop) (what : Told) (text : List ℕ) (client : ClientState) (found : Result ClientState StoreOpenFault)
    → before.store.text ≡ Some text → other.name ≡ order.name → other.user ≡ order.user → IsClientIn order text client → (IsOurs order client → ⊥)
    → what ≡ reported_of end → Finds other before.store between.store found → WorksIf other found between after end → (what ≡ reported 2 Plain) ⊎ IsUnopened before after what
others_found one none order other before between after end what text client (Ok mine) text_is name user is_in not_ours reported_is (read, read_is, in_it, ours) works =
    let same : read ≡ text = text_reported before.store text read text_is read_is in
    absurd (not_ours (ours_alike order other client mine name user (one_client one order other text client mine name user is_in (subst (λ (t : List ℕ). IsClientIn other t mine) same in_it)) ours))
others_found one none order other before between after end what text client (Err opens.NotOurs) text_is name user is_in not_ours reported_is finds works = inl (reported_is ∙ ap reported_of works.0)
others_found one none order other before between after end what text client (Err (opens.Bad at)) text_is name user (inl (empty, new)) not_ours reported_is (read, read_is, some, fault) works =
    absurd (some (text_reported before.store text read text_is read_is ∙ empty))
others_found one none order other before between after end what text client (Err (opens.Bad at)) text_is name user (inr saved) not_ours reported_is (read, read_is, some, fault) works =
    absurd (none text at client (subst (λ (t : List ℕ). IsFirstFault t at) (text_reported before.store text read text_is read_is) fault) saved)
others_found one none order other before between after end what text client (Err opens.Failed) text_is name user is_in not_ours reported_is finds works = inr (unopened other before between after end what reported_is works finds)
others_found one none order other before between after end what text client (Err opens.OutOfMemory) text_is name user is_in not_ours reported_is finds works = inr (inr (reported_is ∙ ap reported_of works.0))

pub refuses_others : OneState → NoneSaved → RefusesOthers
refuses_others one none arguments before after what order text client (inl unordered) has is_in not_ours = absurd (unordered.usage order has.are_arguments)
refuses_others one none arguments before after what order text client (inr (inl run)) has is_in not_ours =
    others_found one none order run.order before run.runs.between after run.end what text client run.runs.found has.text_is
    (same_name arguments order run.order has.are_arguments run.are_arguments) (same_user arguments order run.order has.are_arguments run.are_arguments)
    is_in not_ours run.reported_is run.runs.opens.finds run.runs.works
refuses_others one none arguments before after what order text client (inr (inr unread)) has is_in not_ours = inr (inr unread.reported_is)

abbrev OneFault : Type 0
OneFault = (text : List ℕ) (at other : ℕ) → IsFirstFault text at → IsFirstFault text other → at ≡ other

-- a text with a fault that isn't empty has no client in it
no_client : NoneSaved → (order : Order) (text : List ℕ) (at : ℕ) (client : ClientState) → text ≢ [] → IsFirstFault text at → IsClientIn order text client → ⊥
no_client none order text at client some fault (inl (empty, new)) = some empty
no_client none order text at client some fault (inr saved) = none text at client fault saved

text_found : OneFault → NoneSaved → (order : Order) (before between after : PortsView) (end : Result (Unit {0}) ClientStop) (what : Told) (text : List ℕ) (at : ℕ) (found : Result ClientState StoreOpenFault)
    → before.store.text ≡ Some text → text ≢ [] → IsFirstFault text at → what ≡ reported_of end
    → Finds order before.store between.store found → WorksIf order found between after end → (what ≡ reported 15 (Place at)) ⊎ IsUnopened before after what
text_found one none order before between after end what text at (Ok mine) text_is some fault reported_is (read, read_is, in_it, ours) works =
    absurd (no_client none order text at mine some fault (subst (λ (t : List ℕ). IsClientIn order t mine) (text_reported before.store text read text_is read_is) in_it))
text_found one none order before between after end what text at (Err opens.NotOurs) text_is some fault reported_is (read, client, read_is, in_it, other) works =
    absurd (no_client none order text at client some fault (subst (λ (t : List ℕ). IsClientIn order t client) (text_reported before.store text read text_is read_is) in_it))
text_found one none order before between after end what text at (Err (opens.Bad offset)) text_is some fault reported_is (read, read_is, some', fault') works =
    let same : offset ≡ at = one text offset at (subst (λ (t : List ℕ). IsFirstFault t offset) (text_reported before.store text read text_is read_is) fault') fault in
    inl (reported_is ∙ (ap reported_of works.0 ∙ ap (λ (n : ℕ). reported 15 (Place n)) same))
text_found one none order before between after end what text at (Err opens.Failed) text_is some fault reported_is finds works = inr (unopened order before between after end what reported_is works finds)
text_found one none order before between after end what text at (Err opens.OutOfMemory) text_is some fault reported_is finds works = inr (inr (reported_is ∙ ap reported_of works.0))

pub refuses_text : OneFault → NoneSaved → RefusesText
refuses_text one none arguments before after what order text at (inl unordered) has some fault = absurd (unordered.usage order has.are_arguments)
refuses_text one none arguments before after what order text at (inr (inl run)) has some fault =
    text_found one none run.order before run.runs.between after run.end what text at run.runs.found has.text_is some fault run.reported_is run.runs.opens.finds run.runs.works
refuses_text one none arguments before after what order text at (inr (inr unread)) has some fault = inr (inr unread.reported_is)

-- ---- only these are refused

-- Statuses tell ends apart.
pub statuses_differ : (n m : ℕ) (note other : Note) → eqb n m ≡ false → reported n note ≡ reported m other → ⊥
statuses_differ n m note other apart e =
    eqb-false n m apart (ap (λ (what : Told). what.status.0) e)

one_offset : (n m : ℕ) → reported 15 (Place n) ≡ reported 15 (Place m) → n ≡ m
one_offset n m e = let same : Place n ≡ Place m = ap (λ (what : Told). what.note) e in cc

only_others : (arguments : List (List ℕ)) (order : Order) (before between after : PortsView) (end : Result (Unit {0}) ClientStop) (note : Note) (found : Result ClientState StoreOpenFault)
    → AreArguments arguments order → reported_of end ≡ reported 2 note → Finds order before.store between.store found → WorksIf order found between after end → IsOthers arguments before
only_others arguments order before between after end note (Ok client) are reported_is finds works =
    absurd (not_opening end (reported 2 note) (works_end order.pass order.wish client between after end works) reported_is refl)
only_others arguments order before between after end note (Err opens.NotOurs) are reported_is (text, client, text_is, is_in, other) works =
    record { order = order; are_arguments = are; text = text; client = client; text_is = text_is; is_in = is_in; other = other }
only_others arguments order before between after end note (Err (opens.Bad at)) are reported_is finds works = absurd (statuses_differ 15 2 (Place at) note refl (sym (ap reported_of works.0) ∙ reported_is))
only_others arguments order before between after end note (Err opens.Failed) are reported_is finds works = absurd (statuses_differ 8 2 Plain note refl (sym (ap reported_of works.0) ∙ reported_is))
only_others arguments order before between after end note (Err opens.OutOfMemory) are reported_is finds works = absurd (statuses_differ 7 2 Plain note refl (sym (ap reported_of works.0) ∙ reported_is))

pub only_these : OnlyRefusesThese
only_these arguments before after what note (inl unordered) is = inl unordered.usage
only_these arguments before after what note (inr (inl run)) is =
    inr (only_others arguments run.order before run.runs.between after run.end note run.runs.found run.are_arguments (sym run.reported_is ∙ is) run.runs.opens.finds run.runs.works)
only_these arguments before after what note (inr (inr unread)) is = absurd (statuses_differ 7 2 Plain note refl (sym unread.reported_is ∙ is))

only_faulty : (arguments : List (List ℕ)) (order : Order) (before between after : PortsView) (end : Result (Unit {0}) ClientStop) (at : ℕ) (found : Result ClientState StoreOpenFault)
    → AreArguments arguments order → reported_of end ≡ reported 15 (Place at) → Finds order before.store between.store found → WorksIf order found between after end → IsFaulty arguments before at
only_faulty arguments order before between after end at (Ok client) are reported_is finds works =
    absurd (not_opening end (reported 15 (Place at)) (works_end order.pass order.wish client between after end works) reported_is refl)
only_faulty arguments order before between after end at (Err opens.NotOurs) are reported_is finds works = absurd (statuses_differ 2 15 Plain (Place at) refl (sym (ap reported_of works.0) ∙ reported_is))
only_faulty arguments order before between after end at (Err (opens.Bad offset)) are reported_is (text, text_is, some, fault) works =
    let same : offset ≡ at = one_offset offset at (sym (ap reported_of works.0) ∙ reported_is) in
    record { order = order; are_arguments = are; text = text; text_is = text_is; some = some; fault = subst (λ (n : ℕ). IsFirstFault text n) same fault }
only_faulty arguments order before between after end at (Err opens.Failed) are reported_is finds works = absurd (statuses_differ 8 15 Plain (Place at) refl (sym (ap reported_of works.0) ∙ reported_is))
only_faulty arguments order before between after end at (Err opens.OutOfMemory) are reported_is finds works = absurd (statuses_differ 7 15 Plain (Place at) refl (sym (ap reported_of works.0) ∙ reported_is))

pub only_faults : OnlyRefusesFaults
only_faults arguments before after what at (inl unordered) is = absurd (statuses_differ 2 15 Plain (Place at) refl (sym unordered.reported_is ∙ is))
only_faults arguments before after what at (inr (inl run)) is =
    only_faulty arguments run.order before run.runs.between after run.end at run.runs.found run.are_arguments (sym run.reported_is ∙ is) run.runs.opens.finds run.runs.works
only_faults arguments before after what at (inr (inr unread)) is = absurd (statuses_differ 7 15 Plain (Place at) refl (sym unread.reported_is ∙ is))
