-- A file that is read is within the bounds of a bank.
use Rattle.std.proofs.Common.{◌≡◌, ℕ, zero, suc, ◌+◌, ◌*◌, ◌-◌, ◌≤◌, ◌⊎◌, inl, inr, Bool, true, false, cond, not, ◌||◌, nat_lt, nat_eq, List, [], ◌∷◌, ◌++◌, length, take, drop, filter, Option, None, Some, codes, refl, sym, ap, subst, ◌∙◌, arith, length-drop, length-append}
use Rattle.std.proofs.lemmas.Grind.{common_steps}
use Rattle.std.proofs.lemmas.Slice.Zip.{AllZip-long}
use Rattle.std.specs.List.{AllZip, AllByRecursion}
use Rattle.std.specs.Option.{IfSome}
use Rattle.std.specs.Str.{bytes_eq}
use Rattle.ofx_types.specs.Calendar.{IsMoment}
use Rattle.ofx_types.specs.HeaderForm.{is_version}
use Rattle.ofx_types.specs.TagNames.{is_one_of}
use Rattle.ofx_types.specs.Nodes.{TagNode, Item, items_from, children, IsRoot}
use Rattle.ofx_types.specs.FormWords.{has_name, IsOnly, IsMaybeMomentIn}
use Rattle.ofx_types.specs.RequestForm.{IsStatement, IsPeriod, IsMaybePeriod}
use Rattle.ofx_types.specs.DeedForm.{family_of, request_name}
use Rattle.ofx_types.specs.MailForm.{IsMailRequest}
use Rattle.ofx_types.specs.SyncForm.{object_family, is_mail_family, sync_name, IsTransaction, IsKind, IsSync}
use Rattle.ofx_types.specs.MessageForm.{is_named_one_of, AreMaybeMessages, bank_names, mail_names, IsAsk}
use Rattle.ofx_types.specs.FileForm.{SpellsFile}
use Rattle.ofx_types.specs.PrintedFile.{is_mail_ask}
use Rattle.ofx_types.specs.declared.number.Moment.{Moment}
use Rattle.ofx_types.specs.declared.transfer.Deed.{Deed}
use Rattle.ofx_types.specs.declared.transfer.Deed.TheVariants as deeds
use Rattle.ofx_types.specs.declared.transfer.Family.{Family}
use Rattle.ofx_types.specs.declared.transfer.Family.TheVariants as families
use Rattle.ofx_types.specs.declared.sync.SyncKind.{SyncKind}
use Rattle.ofx_types.specs.declared.sync.SyncKind.TheVariants.{After, TokenOnly, Refresh}
use Rattle.ofx_types.specs.declared.sync.SyncAsk.{SyncAsk}
use Rattle.ofx_types.specs.declared.request.Period.{Period}
use Rattle.ofx_types.specs.declared.request.Ask.{Ask}
use Rattle.ofx_types.specs.declared.request.Ask.TheVariants.{Statement, One, Sync}
use Rattle.ofx_types.specs.declared.request.RequestFile.{RequestFile}
use Rattle.ofx_types.proofs.Bytes.{bytes_eq_is, bytes_eq_self}
use Rattle.ofx_types.proofs.Trimming.{text_within}
use Rattle.bank_model.specs.Sound.{IsSoundPeriod, IsSoundKind, IsSoundPair, IsSoundSync, IsSoundAsk, IsVersion, IsSound}
use Rattle.ofx_tape.specs.Slices.{AreLocated, AreSlices}
use Rattle.ofx_tree.proofs.Chosen.{all_chosen, all_filtered}
use Rattle.ofx_file.proofs.Names.{name_has}
use Rattle.ofx_file.proofs.SoundDeeds.{client_uid, file_uid, sound_account, sound_transaction, sound_object}

-- ---- how many bytes tags take

-- the bytes of the start tags
abbrev tag_bytes : List TagNode → ℕ
tag_bytes [] = 0
tag_bytes (n ∷ nodes) = length n.name + 2 + tag_bytes nodes

abbrev item_bytes : List Item → ℕ
item_bytes [] = 0
item_bytes (item ∷ items) = length item.node.name + 2 + item_bytes items

tag_bytes-take : (k : ℕ) (nodes : List TagNode) → tag_bytes (take k nodes) ≤ tag_bytes nodes
tag_bytes-take zero nodes = omega arith
tag_bytes-take (suc k) [] = omega arith
tag_bytes-take (suc k) (n ∷ nodes) = omega (arith, tag_bytes-take k nodes)

chosen_within : (b : Bool) (x y : List Item) (most : ℕ) → item_bytes x ≤ most → item_bytes y ≤ most → item_bytes (cond b x y) ≤ most
chosen_within true x y most h i = h
chosen_within false x y most h i = i

items_within : (index until : ℕ) (nodes : List TagNode) → item_bytes (items_from index until nodes) ≤ tag_bytes nodes
unfolding items_from
items_within index until [] = omega arith
items_within index until (n ∷ nodes) =
    chosen_within (nat_lt index until) _ _ (tag_bytes (n ∷ nodes))
    (omega (arith, items_within (index + 1) until nodes))
    (omega (arith, items_within (index + 1) n.after nodes))

-- the nodes of a tape stand one after the other in the body
located_within : (from : ℕ) (body : List ℕ) (nodes : List TagNode) → from ≤ length body → AreLocated from body nodes → from + tag_bytes nodes ≤ length body
located_within from body [] h located = omega arith
located_within from body (n ∷ nodes) h (suffix, sliced, more) =
    let rest = located_within (n.offset + length n.name + 2 + length n.text) body nodes sliced.inside more in omega arith

-- an item's inner nodes take at most so many bytes
abbrev IsWithin : ℕ → Item → Type 0
IsWithin most item = tag_bytes item.inner ≤ most

inner_within : (most index until : ℕ) (nodes : List TagNode) → tag_bytes nodes ≤ most → AllByRecursion (IsWithin most) (items_from index until nodes)
unfolding items_from
inner_within most index until [] h = tt
inner_within most index until (n ∷ nodes) h =
    all_chosen (IsWithin most) (nat_lt index until) _ _
    (inner_within most (index + 1) until nodes (omega arith))
    (omega (arith, tag_bytes-take (n.after - (index + 1)) nodes), inner_within most (index + 1) n.after nodes (omega arith))

only_within : (name : List ℕ) (parent child : Item) → IsOnly name parent child → tag_bytes child.inner ≤ tag_bytes parent.inner
only_within name parent child h =
    let P : List Item → Type 0 = λ items. AllByRecursion (IsWithin (tag_bytes parent.inner)) items in
    (subst P h (all_filtered (IsWithin (tag_bytes parent.inner)) _ (children parent) (inner_within (tag_bytes parent.inner) parent.first parent.first parent.inner (omega arith)))).0

-- ---- the number of messages

chosen_count : (b : Bool) (item : Item) (items : List Item) (some all : ℕ) → (b ≡ true → 11 ≤ some) → 11 * length items ≤ all → 11 * length (cond b (item ∷ items) items) ≤ some + all
chosen_count true item items some all h i = let is : 11 ≤ some = h refl in omega arith
chosen_count false item items some all h i = omega arith

-- the start tag of a message has 11 bytes or more
few_named : (is_wanted : List ℕ → Bool) → ((name : List ℕ) → is_wanted name ≡ true → 9 ≤ length name) → (items : List Item) →
    11 * length (filter (λ (item : Item). is_wanted item.node.name) items) ≤ item_bytes items
few_named is_wanted long [] = omega arith
few_named is_wanted long (item ∷ items) =
    chosen_count (is_wanted item.node.name) item (filter (λ (other : Item). is_wanted other.node.name) items) (length item.node.name + 2) (item_bytes items)
    (λ is. omega (arith, long item.node.name is)) (few_named is_wanted long items)

abbrev IsLong : List ℕ → Type 0
IsLong name = 9 ≤ length name

bank_long : (name : List ℕ) → is_one_of bank_names name ≡ true → 9 ≤ length name
bank_long name h = name_has IsLong bank_names name (omega arith, (omega arith, (omega arith, (omega arith, (omega arith, (omega arith, (omega arith, tt))))))) h

mail_long : (name : List ℕ) → is_one_of mail_names name ≡ true → 9 ≤ length name
mail_long name h = name_has IsLong mail_names name (omega arith, (omega arith, tt)) h

request_long : (family : Family) (name : List ℕ) → bytes_eq name (request_name family) ≡ true → 9 ≤ length name
request_long families.Intra name h = let same = bytes_eq_is name (codes "INTRATRNRQ") h in rw same (omega arith)
request_long families.RecIntra name h = let same = bytes_eq_is name (codes "RECINTRATRNRQ") h in rw same (omega arith)
request_long families.BankMail name h = let same = bytes_eq_is name (codes "BANKMAILTRNRQ") h in rw same (omega arith)
request_long families.Mail name h = let same = bytes_eq_is name (codes "MAILTRNRQ") h in rw same (omega arith)

-- the messages of a set are few
few_messages : {M : Type 0} (IsMessage : Item → M → Type 0) (name : List ℕ) (names : List (List ℕ)) → ((other : List ℕ) → is_one_of names other ≡ true → 9 ≤ length other) →
    (ofx : Item) (messages : List M) → AreMaybeMessages IsMessage name names ofx messages → 11 * length messages ≤ tag_bytes ofx.inner
few_messages IsMessage name names long ofx messages (inl (none, empty)) = rw empty (omega arith)
few_messages IsMessage name names long ofx messages (inr (set, is, are)) =
    let zip = AllZip-long IsMessage _ messages are in
    let few : 11 * length (filter (is_named_one_of names) (children set)) ≤ item_bytes (children set) = few_named (is_one_of names) long (children set) in
    let within = items_within set.first set.first set.inner in
    let inside = only_within name ofx set is in
    rw zip (omega arith)

root_within : (nodes : List TagNode) (ofx : Item) → IsRoot nodes ofx → tag_bytes ofx.inner ≤ tag_bytes nodes
root_within nodes ofx (inner, is, first, same) = rw (is, same) (omega arith)

-- ---- the values

sound_moment : (name : List ℕ) (inctran : Item) (moment : Option Moment) → IsMaybeMomentIn name inctran moment → IfSome moment (λ (m : Moment). IsMoment m.0)
sound_moment name inctran None m = tt
sound_moment name inctran (Some moment) m = m.holds.is_moment

sound_period : (inctran : Item) (period : Period) → IsPeriod inctran period → IsSoundPeriod period
sound_period inctran period p =
    (sound_moment (codes "DTSTART") inctran period.start p.start, sound_moment (codes "DTEND") inctran period.end p.end)

sound_maybe_period : (stmtrq : Item) (period : Option Period) → IsMaybePeriod stmtrq period → IfSome period IsSoundPeriod
sound_maybe_period stmtrq None p = tt
sound_maybe_period stmtrq (Some period) p = sound_period p.0 period p.2

sound_statement : (item : Item) (ask : Ask) → IsStatement item ask → IsSoundAsk ask
sound_statement item ask s =
    let P : Ask → Type 0 = λ a. IsSoundAsk a in
    subst P (sym s.is_statement)
    (client_uid item s.trnuid s.has_trnuid, sound_account s.bankacctfrom s.account s.is_account, sound_maybe_period s.stmtrq s.period s.is_period)

-- ---- synchronisations

sound_kind : (choice : Item) (kind : SyncKind) → IsKind choice kind → IsSoundKind kind
sound_kind choice (After token) (name, holds) = text_within 64 choice.node.text token (omega arith) holds
sound_kind choice TokenOnly k = tt
sound_kind choice Refresh k = tt

-- A transaction is of the family that its name tells.
apart : (a b : List ℕ) → bytes_eq a b ≡ false → a ≡ b → ⊥
apart a b other same = let is : bytes_eq a b ≡ true = rw same (bytes_eq_self b) in cc

one_family : (a b : Family) → request_name a ≡ request_name b → a ≡ b
one_family families.Intra families.Intra h = refl
one_family families.Intra families.RecIntra h = absurd (apart (request_name families.Intra) (request_name families.RecIntra) refl h)
one_family families.Intra families.BankMail h = absurd (apart (request_name families.Intra) (request_name families.BankMail) refl h)
one_family families.Intra families.Mail h = absurd (apart (request_name families.Intra) (request_name families.Mail) refl h)
one_family families.RecIntra families.Intra h = absurd (apart (request_name families.RecIntra) (request_name families.Intra) refl h)
one_family families.RecIntra families.RecIntra h = refl
one_family families.RecIntra families.BankMail h = absurd (apart (request_name families.RecIntra) (request_name families.BankMail) refl h)
one_family families.RecIntra families.Mail h = absurd (apart (request_name families.RecIntra) (request_name families.Mail) refl h)
one_family families.BankMail families.Intra h = absurd (apart (request_name families.BankMail) (request_name families.Intra) refl h)
one_family families.BankMail families.RecIntra h = absurd (apart (request_name families.BankMail) (request_name families.RecIntra) refl h)
one_family families.BankMail families.BankMail h = refl
one_family families.BankMail families.Mail h = absurd (apart (request_name families.BankMail) (request_name families.Mail) refl h)
one_family families.Mail families.Intra h = absurd (apart (request_name families.Mail) (request_name families.Intra) refl h)
one_family families.Mail families.RecIntra h = absurd (apart (request_name families.Mail) (request_name families.RecIntra) refl h)
one_family families.Mail families.BankMail h = absurd (apart (request_name families.Mail) (request_name families.BankMail) refl h)
one_family families.Mail families.Mail h = refl

mail_named : (transaction : Item) (deed : Deed) → IsMailRequest transaction deed → transaction.node.name ≡ request_name (family_of deed)
mail_named transaction (deeds.BankMail account text) r = r.0
mail_named transaction (deeds.Mail text) r = r.0
mail_named transaction deed r = absurd r

transaction_named : (transaction : Item) (deed : List ℕ × Deed) → IsTransaction transaction deed → transaction.node.name ≡ request_name (family_of deed.1)
transaction_named transaction deed (inl d) = d.is_named
transaction_named transaction deed (inr d) = mail_named transaction deed.1 d.is_request

sound_pair : (family : Family) (transaction : Item) (deed : List ℕ × Deed) → transaction.node.name ≡ request_name family → IsTransaction transaction deed → IsSoundPair family deed
sound_pair family transaction deed name is =
    let sound = sound_transaction transaction deed is in
    (sound.0, sound.1, one_family (family_of deed.1) family (sym (transaction_named transaction deed is) ∙ name))

-- each of the children that are filtered has the name
abbrev HasName : Family → Item → Type 0
HasName family item = item.node.name ≡ request_name family

kept_names : (family : Family) (b : Bool) (item : Item) (items : List Item) → (b ≡ true → HasName family item) → AllByRecursion (HasName family) items →
    AllByRecursion (HasName family) (cond b (item ∷ items) items)
kept_names family true item items h i = (h refl, i)
kept_names family false item items h i = i

all_named : (family : Family) (items : List Item) → AllByRecursion (HasName family) (filter (has_name (request_name family)) items)
all_named family [] = tt
all_named family (item ∷ items) =
    kept_names family (has_name (request_name family) item) item (filter (has_name (request_name family)) items)
    (λ is. bytes_eq_is item.node.name (request_name family) is) (all_named family items)

sound_pairs : (family : Family) (items : List Item) (deeds : List (List ℕ × Deed)) → AllByRecursion (HasName family) items → AllZip IsTransaction items deeds →
    AllByRecursion (IsSoundPair family) deeds
sound_pairs family [] [] named h = tt
sound_pairs family [] (deed ∷ deeds) named h = absurd h
sound_pairs family (item ∷ items) [] named h = absurd h
sound_pairs family (item ∷ items) (deed ∷ deeds) (name, names) (h, more) = (sound_pair family item deed name h, sound_pairs family items deeds names more)

sound_sync : (most : ℕ) (sync : Item) (ask : SyncAsk) → most ≤ 262144 → tag_bytes sync.inner ≤ most → IsSync sync ask → IsSoundSync ask
sound_sync most sync ask short within s =
    let family = object_family ask.object in
    let kept = filter (has_name (request_name family)) (children sync) in
    let zip = AllZip-long IsTransaction kept ask.deeds s.deeds in
    let few : 11 * length kept ≤ item_bytes (children sync) = few_named (λ (name : List ℕ). bytes_eq name (request_name family)) (request_long family) (children sync) in
    let inside = items_within sync.first sync.first sync.inner in
    record {
      object = sound_object sync ask.object s.object;
      kind = sound_kind s.choice ask.kind s.is_kind;
      few = rw zip (omega arith);
      deeds = sound_pairs family kept ask.deeds (all_named family (children sync)) s.deeds;
    }

-- ---- asks

sound_ask : (most : ℕ) (item : Item) (ask : Ask) → most ≤ 262144 → tag_bytes item.inner ≤ most → IsAsk item ask → IsSoundAsk ask
sound_ask most item (Statement trnuid account period) short within (name, is) = sound_statement item (Statement trnuid account period) is
sound_ask most item (One trnuid deed) short within is = sound_transaction item (trnuid, deed) is
sound_ask most item (Sync ask) short within is = sound_sync most item ask short within is

sound_each : (most : ℕ) (items : List Item) (asks : List Ask) → most ≤ 262144 → AllByRecursion (IsWithin most) items → AllZip IsAsk items asks → AllByRecursion IsSoundAsk asks
sound_each most [] [] short within h = tt
sound_each most [] (ask ∷ asks) short within h = absurd h
sound_each most (item ∷ items) [] short within h = absurd h
sound_each most (item ∷ items) (ask ∷ asks) short (inside, others) (h, more) = (sound_ask most item ask short inside h, sound_each most items asks short others more)

sound_set : (name : List ℕ) (names : List (List ℕ)) (ofx : Item) (asks : List Ask) → tag_bytes ofx.inner ≤ 262144 → AreMaybeMessages IsAsk name names ofx asks →
    AllByRecursion IsSoundAsk asks
sound_set name names ofx asks short (inl (none, empty)) = rw empty tt
sound_set name names ofx asks short (inr (set, is, are)) =
    let most : ℕ = tag_bytes set.inner in
    let inside = only_within name ofx set is in
    let within = all_filtered (IsWithin most) (is_named_one_of names) (children set) (inner_within most set.first set.first set.inner (omega arith)) in
    sound_each most _ asks (omega arith) within are

both_sound : (bank mail : List Ask) → AllByRecursion IsSoundAsk bank → AllByRecursion IsSoundAsk mail → AllByRecursion IsSoundAsk (bank ++ mail)
both_sound [] mail h i = i
both_sound (ask ∷ bank) mail (h, more) i = (h, both_sound bank mail more i)

-- ---- what the bank is asked comes first

-- An ask is one of mail exactly where its request is in the message set of mail.
by_family : (item : Item) (family : Family) → item.node.name ≡ request_name family → is_mail_family family ≡ is_named_one_of mail_names item
by_family item families.Intra name = rw name refl
by_family item families.RecIntra name = rw name refl
by_family item families.BankMail name = rw name refl
by_family item families.Mail name = rw name refl

by_sync : (item : Item) (family : Family) → item.node.name ≡ sync_name family → is_mail_family family ≡ is_named_one_of mail_names item
by_sync item families.Intra name = rw name refl
by_sync item families.RecIntra name = rw name refl
by_sync item families.BankMail name = rw name refl
by_sync item families.Mail name = rw name refl

is_mail_as_named : (item : Item) (ask : Ask) → IsAsk item ask → is_mail_ask ask ≡ is_named_one_of mail_names item
is_mail_as_named item (Statement trnuid account period) (name, is) = rw name refl
is_mail_as_named item (One trnuid deed) is = by_family item (family_of deed) (transaction_named item (trnuid, deed) is)
is_mail_as_named item (Sync ask) is = by_sync item (object_family ask.object) is.is_named

abbrev IsNoMail : List ℕ → Type 0
IsNoMail name = is_one_of mail_names name ≡ false

bank_no_mail : (name : List ℕ) → is_one_of bank_names name ≡ true → is_one_of mail_names name ≡ false
bank_no_mail name h = name_has IsNoMail bank_names name (refl, (refl, (refl, (refl, (refl, (refl, (refl, tt))))))) h

-- the items of a message set are all of mail, or none is
abbrev AreMail : Bool → Item → Type 0
AreMail mail item = is_named_one_of mail_names item ≡ mail

kept_mail : (mail b : Bool) (item : Item) (items : List Item) → (b ≡ true → AreMail mail item) → AllByRecursion (AreMail mail) items →
    AllByRecursion (AreMail mail) (cond b (item ∷ items) items)
kept_mail mail true item items h i = (h refl, i)
kept_mail mail false item items h i = i

all_mail : (mail : Bool) (names : List (List ℕ)) → ((name : List ℕ) → is_one_of names name ≡ true → is_one_of mail_names name ≡ mail) → (items : List Item) →
    AllByRecursion (AreMail mail) (filter (is_named_one_of names) items)
all_mail mail names each [] = tt
all_mail mail names each (item ∷ items) =
    kept_mail mail (is_named_one_of names item) item (filter (is_named_one_of names) items) (λ is. each item.node.name is) (all_mail mail names each items)

abbrev AreMailAsks : Bool → Ask → Type 0
AreMailAsks mail ask = is_mail_ask ask ≡ mail

mail_each : (mail : Bool) (items : List Item) (asks : List Ask) → AllByRecursion (AreMail mail) items → AllZip IsAsk items asks → AllByRecursion (AreMailAsks mail) asks
mail_each mail [] [] named h = tt
mail_each mail [] (ask ∷ asks) named h = absurd h
mail_each mail (item ∷ items) [] named h = absurd h
mail_each mail (item ∷ items) (ask ∷ asks) (name, names) (h, more) = (is_mail_as_named item ask h ∙ name, mail_each mail items asks names more)

mail_set : (mail : Bool) (name : List ℕ) (names : List (List ℕ)) → ((other : List ℕ) → is_one_of names other ≡ true → is_one_of mail_names other ≡ mail) →
    (ofx : Item) (asks : List Ask) → AreMaybeMessages IsAsk name names ofx asks → AllByRecursion (AreMailAsks mail) asks
mail_set mail name names each ofx asks (inl (none, empty)) = rw empty tt
mail_set mail name names each ofx asks (inr (set, is, are)) = mail_each mail _ asks (all_mail mail names each (children set)) are

abbrev bank_of : List Ask → List Ask
bank_of asks = filter (λ (ask : Ask). not (is_mail_ask ask)) asks

abbrev mail_of : List Ask → List Ask
mail_of asks = filter is_mail_ask asks

mail_alone : (mail : List Ask) → AllByRecursion (AreMailAsks true) mail → (bank_of mail ≡ []) × (mail_of mail ≡ mail)
mail_alone [] h = (refl, refl)
mail_alone (ask ∷ asks) (h, more) =
    let rest = mail_alone asks more in
    let is : is_mail_ask ask ≡ true = h in
    (rw is rest.0, rw is (ap (λ (others : List Ask). ask ∷ others) rest.1))

bank_in_prefix : (bank mail : List Ask) → AllByRecursion (AreMailAsks false) bank → AllByRecursion (AreMailAsks true) mail →
    (bank_of (bank ++ mail) ≡ bank) × (mail_of (bank ++ mail) ≡ mail)
bank_in_prefix [] mail h i = mail_alone mail i
bank_in_prefix (ask ∷ bank) mail (h, more) i =
    let rest = bank_in_prefix bank mail more i in
    let is : is_mail_ask ask ≡ false = h in
    (rw is (ap (λ (others : List Ask). ask ∷ others) rest.0), rw is rest.1)

in_order : (bank mail asks : List Ask) → asks ≡ bank ++ mail → AllByRecursion (AreMailAsks false) bank → AllByRecursion (AreMailAsks true) mail → asks ≡ bank_of asks ++ mail_of asks
in_order bank mail asks same h i =
    let parts = bank_in_prefix bank mail h i in
    let P : List Ask → Type 0 = λ all. all ≡ bank_of all ++ mail_of all in
    subst P (sym same) (sym (ap (λ (prefix : List Ask). prefix ++ mail_of (bank ++ mail)) parts.0 ∙ ap (λ (suffix : List Ask). bank ++ suffix) parts.1))

-- ---- the file

sound_version : (version : ℕ) → is_version version ≡ true → IsVersion version
sound_version version h = four (nat_eq version 102) (nat_eq version 103) (nat_eq version 151) (nat_eq version 160)
    (λ e. same version 102 e) (λ e. same version 103 e) (λ e. same version 151 e) (λ e. same version 160 e) h
  where
    same : (a b : ℕ) → nat_eq a b ≡ true → a ≡ b
    same a b e = grind (arith, common_steps)

    four : {A B C D : Type 0} (a b c d : Bool) → (a ≡ true → A) → (b ≡ true → B) → (c ≡ true → C) → (d ≡ true → D) → (a || b || c || d) ≡ true → A ⊎ (B ⊎ (C ⊎ D))
    four true b c d f g h i e = inl (f refl)
    four false true c d f g h i e = inr (inl (g refl))
    four false false true d f g h i e = inr (inr (inl (h refl)))
    four false false false true f g h i e = inr (inr (inr (i refl)))
    four false false false false f g h i e = cc

-- a file of at most so many bytes, of whose body these are the nodes, may be handed to a bank
pub sound_file : (bytes : List ℕ) (file : RequestFile) (s : SpellsFile bytes file) → AreSlices (drop s.size bytes) s.nodes → length bytes ≤ 262144 → IsSound file
sound_file bytes file s slices h =
    let body = located_within 0 (drop s.size bytes) s.nodes (omega arith) slices.located in
    let short = length-drop s.size bytes in
    let root = root_within s.nodes s.ofx s.body.is_root in
    let inside : tag_bytes s.ofx.inner ≤ 262144 = omega arith in
    let r = s.form in
    let bank = few_messages IsAsk (codes "BANKMSGSRQV1") bank_names bank_long s.ofx r.bank r.are_bank in
    let mail = few_messages IsAsk (codes "EMAILMSGSRQV1") mail_names mail_long s.ofx r.mail r.are_mail in
    let size = length-append r.bank r.mail in
    let P : List Ask → Type 0 = λ asks. AllByRecursion IsSoundAsk asks in
    record {
      version = sound_version file.version s.header.is_known;
      older = file_uid (codes "OLDFILEUID") s.header.older_value s.header.line_8 file.older s.header.has_older s.header.is_older;
      newer = file_uid (codes "NEWFILEUID") s.header.newer_value s.header.line_9 file.newer s.header.has_newer s.header.is_newer;
      few = rw r.are_asks (omega arith);
      bank_first = in_order r.bank r.mail file.asks r.are_asks
          (mail_set false (codes "BANKMSGSRQV1") bank_names bank_no_mail s.ofx r.bank r.are_bank)
          (mail_set true (codes "EMAILMSGSRQV1") mail_names (λ name is. is) s.ofx r.mail r.are_mail);
      asks = subst P (sym r.are_asks) (both_sound r.bank r.mail
          (sound_set (codes "BANKMSGSRQV1") bank_names s.ofx r.bank inside r.are_bank)
          (sound_set (codes "EMAILMSGSRQV1") mail_names s.ofx r.mail inside r.are_mail));
    }
