-- A synchronisation has its form exactly where reading finds it, and its faults have offsets.
use Rattle.std.proofs.Common.{◌≡◌, ℕ, inl, inr, true, false, filter, List, Ok, codes, refl, sym, ap, subst, ◌∙◌}
use Rattle.std.specs.List.{AllZip, AllByRecursion}
use Rattle.std.specs.Str.{bytes_eq}
use Rattle.ofx_types.specs.ValueForm.{value_of}
use Rattle.ofx_types.specs.TagNames.{is_one_of}
use Rattle.ofx_types.specs.Nodes.{Item, children}
use Rattle.ofx_types.specs.FormWords.{has_name, is_text_within, text_at, one_of, flag_in}
use Rattle.ofx_types.specs.DeedForm.{request_name}
use Rattle.ofx_types.specs.SyncForm.{IsTransaction, object_family, sync_name, sync_kinds, IsKind, IsSync}
use Rattle.ofx_types.specs.SyncReading.{transaction_of, object_in, family_synced, only_yes, kind_of, deeds_of, sync_of}
use Rattle.ofx_types.specs.declared.transfer.Deed.{Deed}
use Rattle.ofx_types.specs.declared.transfer.Family.{Family}
use Rattle.ofx_types.specs.declared.transfer.Family.TheVariants.{Intra, RecIntra, BankMail, Mail}
use Rattle.ofx_types.specs.declared.sync.SyncKind.{SyncKind}
use Rattle.ofx_types.specs.declared.sync.SyncKind.TheVariants.{After, TokenOnly, Refresh}
use Rattle.ofx_types.specs.declared.sync.SyncAsk.{SyncAsk}
use Rattle.ofx_types.proofs.Bytes.{bytes_eq_is, went}
use Rattle.ofx_tree.specs.Located.{Holds, Any, IsWithin}
use Rattle.ofx_tree.proofs.FormLaws.{bind_ok, bind_to, one_value, ok_guarded, one_of_found, one_of_again, has_one_of, text_found, text_again, flag_in_found, flag_in_again}
use Rattle.ofx_tree.proofs.FormOffsets.{bound, either, one_of_within, flag_within, children_within}
use Rattle.msg_parts.proofs.Named.{third_name}
use Rattle.msg_sync.specs.SyncLaws.{TransactionsAreFound, TransactionFaultsHaveOffsets, SyncsAreFound, SyncFaultsHaveOffsets}
use Rattle.msg_sync.specs.SyncSteps.{is_name_of}
use Rattle.msg_sync.proofs.Deeds.{deeds_are}
use Rattle.msg_sync.proofs.Families.{name_of_family, family_within, object_found, object_again, object_within}
use Rattle.msg_sync.proofs.Forms.{AreRead, forms_found, forms_again, forms_within}

-- ---- the kind

yes_found : (choice : Item) (kind read : SyncKind) → IsKind choice kind → only_yes kind choice.node ≡ Ok read → IsKind choice read
yes_found choice kind read is h =
    subst (IsKind choice) (ok_guarded (bytes_eq (value_of choice.node.text) (codes "Y")) kind read _ h).1 is

yes_said : (choice : Item) (kind read : SyncKind) → only_yes kind choice.node ≡ Ok read → value_of choice.node.text ≡ codes "Y"
yes_said choice kind read h = bytes_eq_is _ _ (ok_guarded (bytes_eq (value_of choice.node.text) (codes "Y")) kind read _ h).0

kind_found : (choice : Item) (kind : SyncKind) → is_one_of sync_kinds choice.node.name ≡ true → kind_of choice ≡ Ok kind → IsKind choice kind
unfolding kind_of
kind_found choice kind named h = elim (went (has_name (codes "TOKEN") choice) _ _ _ h) [
  | inl (is, read) ↦
      let token = bind_ok (text_at 64 choice.node) _ kind read in
      subst (IsKind choice) (one_value _ _ kind refl token.2) (bytes_eq_is _ _ is, text_found 64 choice.node token.0 token.1)
  | inr (first, more) ↦ elim (went (has_name (codes "TOKENONLY") choice) _ _ _ more) [
    | inl (is, read) ↦ yes_found choice TokenOnly kind (bytes_eq_is _ _ is, yes_said choice TokenOnly kind read) read
    | inr (second, read) ↦ yes_found choice Refresh kind (third_name choice.node.name _ _ _ named first second, yes_said choice Refresh kind read) read
  ]
]

pub kind_again : (choice : Item) (kind : SyncKind) → IsKind choice kind → kind_of choice ≡ Ok kind
unfolding kind_of
kind_again choice (After token) k =
    let is : has_name (codes "TOKEN") choice ≡ true = rw k.0 refl in
    rw is (bind_to (text_at 64 choice.node) _ token (text_again 64 choice.node token k.1))
kind_again choice TokenOnly k =
    let first : has_name (codes "TOKEN") choice ≡ false = rw k.0 refl in
    let is : has_name (codes "TOKENONLY") choice ≡ true = rw k.0 refl in
    let yes : bytes_eq (value_of choice.node.text) (codes "Y") ≡ true = rw k.1 refl in
    rw (first, is, yes) refl
kind_again choice Refresh k =
    let first : has_name (codes "TOKEN") choice ≡ false = rw k.0 refl in
    let second : has_name (codes "TOKENONLY") choice ≡ false = rw k.0 refl in
    let yes : bytes_eq (value_of choice.node.text) (codes "Y") ≡ true = rw k.1 refl in
    rw (first, second, yes) refl

kind_within : (most : ℕ) (choice : Item) → IsWithin most choice → Holds most Any (kind_of choice)
unfolding kind_of
kind_within most choice h =
    either most Any (has_name (codes "TOKEN") choice) _ _
    (bound most Any Any (text_at 64 choice.node) _ (either most Any (is_text_within 64 (value_of choice.node.text)) _ _ tt h.offset) (λ token _. tt))
    (either most Any (has_name (codes "TOKENONLY") choice) _ _
    (either most Any (bytes_eq (value_of choice.node.text) (codes "Y")) _ _ tt h.offset)
    (either most Any (bytes_eq (value_of choice.node.text) (codes "Y")) _ _ tt h.offset))

-- ---- the deeds

abbrev AreDeeds : Family → Item → List (List ℕ × Deed) → Type 0
AreDeeds family sync deeds = AllZip IsTransaction (filter (has_name (request_name family)) (children sync)) deeds

deeds_read : TransactionsAreFound → (family : Family) → AreRead IsTransaction transaction_of (is_name_of (request_name family))
deeds_read transactions family item deed is = transactions item deed

deeds_found : TransactionsAreFound → (family : Family) (sync : Item) (deeds : List (List ℕ × Deed)) →
    deeds_of (request_name family) (children sync) ≡ Ok deeds → AreDeeds family sync deeds
deeds_found transactions family sync deeds h =
    let name = request_name family in
    forms_found IsTransaction transaction_of (is_name_of name) (deeds_read transactions family) (children sync) deeds
    (sym (deeds_are name (children sync)) ∙ h)

deeds_again : TransactionsAreFound → (family : Family) (sync : Item) (deeds : List (List ℕ × Deed)) → AreDeeds family sync deeds →
    deeds_of (request_name family) (children sync) ≡ Ok deeds
deeds_again transactions family sync deeds h =
    let name = request_name family in
    deeds_are name (children sync)
    ∙ forms_again IsTransaction transaction_of (is_name_of name) (deeds_read transactions family) (children sync) deeds h

deeds_within : TransactionFaultsHaveOffsets → (most : ℕ) (name : List ℕ) (items : List Item) → AllByRecursion (IsWithin most) items → Holds most Any (deeds_of name items)
deeds_within offsets most name items h = rw (deeds_are name items) (forms_within most transaction_of (is_name_of name) (offsets most) items h)

-- ---- the synchronisation

pub synced_again : (sync : Item) (family : Family) → sync.node.name ≡ sync_name family → family_synced sync ≡ Ok family
synced_again sync Intra name = rw name refl
synced_again sync RecIntra name = rw name refl
synced_again sync BankMail name = rw name refl
synced_again sync Mail name = rw name refl

sync_found : TransactionsAreFound → (sync : Item) (ask : SyncAsk) → sync_of sync ≡ Ok ask → IsSync sync ask
unfolding sync_of
sync_found transactions sync ask h =
    let reported = bind_ok (family_synced sync) _ ask h in
    let family = reported.0 in
    let choice = bind_ok (one_of sync_kinds sync) _ ask reported.2 in
    let kind = bind_ok (kind_of choice.0) _ ask choice.2 in
    let reject = bind_ok (flag_in (codes "REJECTIFMISSING") sync) _ ask kind.2 in
    let object = bind_ok (object_in family sync) _ ask reject.2 in
    let deeds = bind_ok (deeds_of (request_name family) (children sync)) _ ask object.2 in
    let only = one_of_found sync_kinds sync choice.0 choice.1 in
    let named_so = object_found family sync object.0 object.1 in
    let Are : Family → Type 0 = λ f. AreDeeds f sync deeds.0 in
    subst (IsSync sync) (one_value _ _ ask refl deeds.2) (record {
      is_named = name_of_family sync_name sync.node.name _ family reported.1 ∙ ap sync_name (sym named_so.0);
      choice = choice.0;
      has_choice = only;
      is_kind = kind_found choice.0 kind.0 (has_one_of sync_kinds sync choice.0 only) kind.1;
      reject = flag_in_found (codes "REJECTIFMISSING") sync reject.0 reject.1;
      object = named_so.1;
      deeds = subst Are (sym named_so.0) (deeds_found transactions family sync deeds.0 deeds.1);
    })

sync_again : TransactionsAreFound → (sync : Item) (ask : SyncAsk) → IsSync sync ask → sync_of sync ≡ Ok ask
unfolding sync_of
sync_again transactions sync ask s =
    bind_to (family_synced sync) _ (object_family ask.object) (synced_again sync (object_family ask.object) s.is_named)
    ∙ bind_to _ _ s.choice (one_of_again sync_kinds sync s.choice s.has_choice)
    ∙ bind_to _ _ ask.kind (kind_again s.choice ask.kind s.is_kind)
    ∙ bind_to _ _ ask.reject (flag_in_again (codes "REJECTIFMISSING") sync ask.reject s.reject)
    ∙ bind_to _ _ ask.object (object_again sync ask.object s.object)
    ∙ bind_to _ _ ask.deeds (deeds_again transactions (object_family ask.object) sync ask.deeds s.deeds)

pub syncs_are_found : TransactionsAreFound → SyncsAreFound
syncs_are_found transactions sync ask = (sync_again transactions sync ask, sync_found transactions sync ask)

pub sync_faults_have_offsets : TransactionFaultsHaveOffsets → SyncFaultsHaveOffsets
unfolding sync_of
sync_faults_have_offsets offsets most sync h =
    bound most Any Any (family_synced sync) _ (family_within most sync.node.offset sync.node.name sync_name h.offset) (λ family _.
    bound most (IsWithin most) Any (one_of sync_kinds sync) _ (one_of_within most sync_kinds sync h) (λ choice c.
    bound most Any Any (kind_of choice) _ (kind_within most choice c) (λ kind _.
    bound most Any Any (flag_in (codes "REJECTIFMISSING") sync) _ (flag_within most (codes "REJECTIFMISSING") sync h) (λ reject _.
    bound most Any Any (object_in family sync) _ (object_within most family sync h) (λ object _.
    bound most Any Any (deeds_of (request_name family) (children sync)) _
    (deeds_within offsets most (request_name family) (children sync) (children_within most sync h)) (λ deeds _. tt))))))
