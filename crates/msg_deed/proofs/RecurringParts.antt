-- How a transfer recurs, what each of its transfers is like, and what is reported of it: each has its form exactly where reading
-- finds it, and its faults have offsets.
use Rattle.std.proofs.Common.{◌≡◌, if◌then◌else◌, inl, inr, ℕ, ◌<◌, ◌≤◌, Bool, true, false, nat_eq, List, [], ◌∷◌, Option, None, Some, Result, Ok, codes, refl, sym, ap, subst, ◌∙◌, arith}
use Rattle.std.proofs.lemmas.Grind.{common_steps}
use Rattle.std.specs.List.{find}
use Rattle.std.specs.Option.{IfSome}
use Rattle.std.specs.Str.{bytes_eq}
use Rattle.ofx_types.specs.ValueForm.{value_of}
use Rattle.ofx_types.specs.Nodes.{Item}
use Rattle.ofx_types.specs.FormWords.{one, maybe, number_or, number_of, number_in, id_in, maybe_id_in}
use Rattle.ofx_types.specs.TransferReading.{DueInfo, info_in, due_info_in}
use Rattle.ofx_types.specs.RecurringForm.{freq_word, IsMaybeCount, IsRecur, HasRecur, HasEachInfo, first_info, IsFirst, IsModelRow}
use Rattle.ofx_types.specs.RecurringReading.{not_zero, count_at, count_if_any, freqs, freq_or, freq_named, freq_at, recur_of, recur_in, each_info_in, first_of, first_in, model_row_with, model_row_of}
use Rattle.ofx_types.specs.declared.fault.TreeFault.{TreeFault}
use Rattle.ofx_types.specs.declared.recurring.Freq.{Freq}
use Rattle.ofx_types.specs.declared.recurring.Freq.TheVariants.{Weekly, Biweekly, TwiceMonthly, Monthly, FourWeeks, Bimonthly, Quarterly, Semiannually, Annually}
use Rattle.ofx_types.specs.declared.recurring.Recur.{Recur}
use Rattle.ofx_types.specs.declared.recurring.ModelRow.{ModelRow}
use Rattle.ofx_types.specs.declared.transfer.XferInfo.{XferInfo}
use Rattle.ofx_types.proofs.Bytes.{bytes_eq_is, went}
use Rattle.ofx_tree.specs.Located.{Holds, Any, IsWithin}
use Rattle.ofx_tree.proofs.FormLaws.{bind_ok, bind_to, one_value, one_found, one_again, maybe_none, maybe_some, none_again, some_again, number_in_found, id_in_found, id_in_again, maybe_id_in_found, maybe_id_in_again}
use Rattle.ofx_tree.proofs.FormOffsets.{bound, either, one_within, maybe_within, id_within, maybe_id_within, number_or_within}
use Rattle.msg_deed.proofs.TransferParts.{info_in_found, info_in_again, info_in_within, due_info_found, due_info_again, due_info_within}

-- ---- the count

abbrev read_number : ℕ → Result ℕ TreeFault
read_number n = Ok n

not_zero_found : (offset count read : ℕ) → not_zero offset count ≡ Ok read → (count ≡ read) × (0 < read)
not_zero_found offset count read h = elim (went (nat_eq count 0) _ _ _ h) [
  | inl (is, fault) ↦ cc
  | inr (other, found) ↦
      let same : count ≡ read = one_value (Ok count) count read refl found in
      let some : 0 < count = grind (arith, common_steps, other) in
      (same, subst (λ (n : ℕ). 0 < n) same some)
]

not_zero_again : (offset count : ℕ) → 0 < count → not_zero offset count ≡ Ok count
not_zero_again offset count some = let other : nat_eq count 0 ≡ false = grind (arith, common_steps, some) in rw other refl

abbrev read_as : Option ℕ → Result (Option ℕ) TreeFault
read_as count = Ok count

count_found : (recurrinst : Item) (found : Option Item) (count : Option ℕ) → maybe (codes "NINSTS") recurrinst ≡ Ok found →
    count_if_any found ≡ Ok count → IsMaybeCount recurrinst count
unfolding number_in
count_found recurrinst None None h i = maybe_none (codes "NINSTS") recurrinst h
count_found recurrinst None (Some count) h i = cc
count_found recurrinst (Some child) None h i =
    let read = bind_ok (count_at child.node) (λ n. Ok (Some n)) None i in absurd (never read.0 read.2)
  where
    never : (n : ℕ) → read_as (Some n) ≡ read_as None → ⊥
    never n e = cc
count_found recurrinst (Some child) (Some count) h i =
    let read = bind_ok (count_at child.node) (λ n. Ok (Some n)) (Some count) i in
    let number = bind_ok (number_of 3 child.node) (not_zero child.node.offset) read.0 read.1 in
    let some = not_zero_found child.node.offset number.0 read.0 number.2 in
    let same : number.0 ≡ count = some.0 ∙ one_some read.0 read.2 in
    let only = one_again (codes "NINSTS") recurrinst child (maybe_some (codes "NINSTS") recurrinst child h) in (
      number_in_found (codes "NINSTS") 3 recurrinst count (bind_to _ (λ c. number_of 3 c.node) child only ∙ number.1 ∙ ap read_number same),
      subst (λ (n : ℕ). 0 < n) (one_some read.0 read.2) some.1,
    )
  where
    one_some : (n : ℕ) → read_as (Some n) ≡ read_as (Some count) → n ≡ count
    one_some n e = cc

count_again : (recurrinst : Item) (count : Option ℕ) → IsMaybeCount recurrinst count →
    (found : Option Item) × (maybe (codes "NINSTS") recurrinst ≡ Ok found) × (count_if_any found ≡ Ok count)
count_again recurrinst None none = (None, none_again (codes "NINSTS") recurrinst none, refl)
count_again recurrinst (Some count) (there, some) = (
  Some there.child,
  some_again (codes "NINSTS") recurrinst there.child there.is_only,
  bind_to (count_at there.child.node) (λ n. Ok (Some n)) count
      (bind_to (number_of 3 there.child.node) _ count (ap (number_or there.child.node.offset) there.holds)
      ∙ not_zero_again there.child.node.offset count some),
)

not_zero_within : (most offset count : ℕ) → offset ≤ most → Holds most Any (not_zero offset count)
not_zero_within most offset count h = either most Any (nat_eq count 0) _ _ h tt

count_within : (most : ℕ) (found : Option Item) → IfSome found (IsWithin most) → Holds most Any (count_if_any found)
count_within most None h = tt
count_within most (Some child) h =
    bound most Any Any (count_at child.node) (λ n. Ok (Some n))
    (bound most Any Any (number_of 3 child.node) _ (number_or_within most child.node.offset _ h.offset)
    (λ n _. not_zero_within most child.node.offset n h.offset))
    (λ n _. tt)

-- ---- the frequency

-- what is found passes the test
found_passes : {A : Type 0} (p : A → Bool) (xs : List A) (x : A) → find p xs ≡ Some x → p x ≡ true
found_passes p [] x h = cc
found_passes {A} p (y ∷ xs) x h = tested (p y) refl h (λ e. found_passes p xs x e)
  where
    tested : (b : Bool) → p y ≡ b → (if b then Some y else find p xs) ≡ Some x → (find p xs ≡ Some x → p x ≡ true) → p x ≡ true
    tested true is e rest = let same : y ≡ x = cc in rw same at is
    tested false other e rest = rest e

freq_given : (offset : ℕ) (named : Option Freq) (freq : Freq) → freq_or offset named ≡ Ok freq → named ≡ Some freq
freq_given offset None freq h = cc
freq_given offset (Some f) freq h = ap (λ (g : Freq). Some g) (one_value (Ok f) f freq refl h)

freq_found : (word : List ℕ) (offset : ℕ) (freq : Freq) → freq_or offset (freq_named word) ≡ Ok freq → word ≡ freq_word freq
freq_found word offset freq h =
    sym (bytes_eq_is (freq_word freq) word
    (found_passes (λ (f : Freq). bytes_eq (freq_word f) word) freqs freq (freq_given offset (freq_named word) freq h)))

freq_named-word : (freq : Freq) → freq_named (freq_word freq) ≡ Some freq
freq_named-word Weekly = refl
freq_named-word Biweekly = refl
freq_named-word TwiceMonthly = refl
freq_named-word Monthly = refl
freq_named-word FourWeeks = refl
freq_named-word Bimonthly = refl
freq_named-word Quarterly = refl
freq_named-word Semiannually = refl
freq_named-word Annually = refl

freq_again : (word : List ℕ) (offset : ℕ) (freq : Freq) → word ≡ freq_word freq → freq_or offset (freq_named word) ≡ Ok freq
freq_again word offset freq same = ap (λ (w : List ℕ). freq_or offset (freq_named w)) same ∙ ap (freq_or offset) (freq_named-word freq)

freq_within : (most offset : ℕ) (named : Option Freq) → offset ≤ most → Holds most Any (freq_or offset named)
freq_within most offset None h = h
freq_within most offset (Some freq) h = tt

-- ---- RECURRINST

recur_found : (recurrinst : Item) (recur : Recur) → recur_of recurrinst ≡ Ok recur → IsRecur recurrinst recur
unfolding recur_of
recur_found recurrinst recur h =
    let ninsts = bind_ok (maybe (codes "NINSTS") recurrinst) _ recur h in
    let count = bind_ok (count_if_any ninsts.0) _ recur ninsts.2 in
    let word = bind_ok (one (codes "FREQ") recurrinst) _ recur count.2 in
    let freq = bind_ok (freq_at word.0.node) _ recur word.2 in
    subst (IsRecur recurrinst) (one_value _ _ recur refl freq.2) (record {
      count = count_found recurrinst ninsts.0 count.0 ninsts.1 count.1;
      word = word.0;
      has_word = one_found (codes "FREQ") recurrinst word.0 word.1;
      is_word = freq_found (value_of word.0.node.text) word.0.node.offset freq.0 freq.1;
    })

recur_again : (recurrinst : Item) (recur : Recur) → IsRecur recurrinst recur → recur_of recurrinst ≡ Ok recur
unfolding recur_of
recur_again recurrinst recur r =
    let count = count_again recurrinst recur.count r.count in
    bind_to _ _ count.0 count.1
    ∙ bind_to _ _ recur.count count.2
    ∙ bind_to _ _ r.word (one_again (codes "FREQ") recurrinst r.word r.has_word)
    ∙ bind_to _ _ recur.freq (freq_again (value_of r.word.node.text) r.word.node.offset recur.freq r.is_word)

recur_within : (most : ℕ) (recurrinst : Item) → IsWithin most recurrinst → Holds most Any (recur_of recurrinst)
unfolding recur_of
recur_within most recurrinst h =
    bound most (λ found. IfSome found (IsWithin most)) Any (maybe (codes "NINSTS") recurrinst) _ (maybe_within most (codes "NINSTS") recurrinst h) (λ ninsts n.
    bound most Any Any (count_if_any ninsts) _ (count_within most ninsts n) (λ count _.
    bound most (IsWithin most) Any (one (codes "FREQ") recurrinst) _ (one_within most (codes "FREQ") recurrinst h) (λ word w.
    bound most Any Any (freq_at word.node) _ (freq_within most word.node.offset _ w.offset) (λ freq _. tt))))

pub recur_in_found : (parent : Item) (recur : Recur) → recur_in parent ≡ Ok recur → HasRecur parent recur
unfolding recur_in
recur_in_found parent recur h =
    let recurrinst = bind_ok (one (codes "RECURRINST") parent) recur_of recur h in
    (recurrinst.0, one_found (codes "RECURRINST") parent recurrinst.0 recurrinst.1, recur_found recurrinst.0 recur recurrinst.2)

pub recur_in_again : (parent : Item) (recur : Recur) → HasRecur parent recur → recur_in parent ≡ Ok recur
unfolding recur_in
recur_in_again parent recur (recurrinst, only, is) =
    bind_to _ recur_of recurrinst (one_again (codes "RECURRINST") parent recurrinst only) ∙ recur_again recurrinst recur is

pub recur_in_within : (most : ℕ) (parent : Item) → IsWithin most parent → Holds most Any (recur_in parent)
unfolding recur_in
recur_in_within most parent h =
    bound most (IsWithin most) Any (one (codes "RECURRINST") parent) recur_of (one_within most (codes "RECURRINST") parent h) (λ recurrinst r. recur_within most recurrinst r)

-- ---- the inner INTRARQ

pub each_found : (parent : Item) (info : XferInfo) → each_info_in parent ≡ Ok info → HasEachInfo parent info
unfolding each_info_in
each_found parent info h =
    let intrarq = bind_ok (one (codes "INTRARQ") parent) info_in info h in
    (intrarq.0, one_found (codes "INTRARQ") parent intrarq.0 intrarq.1, info_in_found intrarq.0 info intrarq.2)

pub each_again : (parent : Item) (info : XferInfo) → HasEachInfo parent info → each_info_in parent ≡ Ok info
unfolding each_info_in
each_again parent info (intrarq, only, has) =
    bind_to _ info_in intrarq (one_again (codes "INTRARQ") parent intrarq only) ∙ info_in_again intrarq info has

pub each_within : (most : ℕ) (parent : Item) → IsWithin most parent → Holds most Any (each_info_in parent)
unfolding each_info_in
each_within most parent h =
    bound most (IsWithin most) Any (one (codes "INTRARQ") parent) info_in (one_within most (codes "INTRARQ") parent h) (λ intrarq i. info_in_within most intrarq i)

-- ---- the inner INTRARS, and a row

-- what the XFERINFO of a row says
abbrev asked_of : ModelRow → DueInfo
asked_of row = record { info = first_info row; due = row.first }

pub row_found : (reply : Item) (row : ModelRow) → model_row_of reply ≡ Ok row → IsModelRow reply row
unfolding model_row_of first_in first_of
row_found reply row h =
    let id = bind_ok (id_in (codes "RECSRVRTID") reply) _ row h in
    let recur = bind_ok (recur_in reply) _ row id.2 in
    let asked = bind_ok (first_in reply) _ row recur.2 in
    let intrars = bind_ok (one (codes "INTRARS") reply) first_of asked.0 asked.1 in
    let inner = bind_ok (id_in (codes "SRVRTID") intrars.0) _ asked.0 intrars.2 in
    let said = bind_ok (due_info_in intrars.0) _ asked.0 inner.2 in
    let model = bind_ok (maybe_id_in (codes "RECSRVRTID") intrars.0) _ asked.0 said.2 in
    let P : DueInfo → Type 0 = λ a. IsFirst reply (model_row_with id.0 recur.0 a) in
    subst (IsModelRow reply) (one_value _ _ row refl asked.2) (record {
      id = id_in_found (codes "RECSRVRTID") reply id.0 id.1;
      recur = recur_in_found reply recur.0 recur.1;
      is_first = subst P (one_value _ _ asked.0 refl model.2) (record {
        intrars = intrars.0;
        has_intrars = one_found (codes "INTRARS") reply intrars.0 intrars.1;
        id = inner.0;
        has_id = id_in_found (codes "SRVRTID") intrars.0 inner.0 inner.1;
        has_info = due_info_found intrars.0 said.0 said.1;
        model = model.0;
        has_model = maybe_id_in_found (codes "RECSRVRTID") intrars.0 model.0 model.1;
      });
    })

first_again : (reply : Item) (row : ModelRow) → IsFirst reply row → first_in reply ≡ Ok (asked_of row)
unfolding first_in first_of
first_again reply row f =
    bind_to _ first_of f.intrars (one_again (codes "INTRARS") reply f.intrars f.has_intrars)
    ∙ bind_to _ _ f.id (id_in_again (codes "SRVRTID") f.intrars f.id f.has_id)
    ∙ bind_to _ _ (asked_of row) (due_info_again f.intrars (asked_of row) refl f.has_info)
    ∙ bind_to _ _ f.model (maybe_id_in_again (codes "RECSRVRTID") f.intrars f.model f.has_model)

pub row_again : (reply : Item) (row : ModelRow) → IsModelRow reply row → model_row_of reply ≡ Ok row
unfolding model_row_of
row_again reply row is =
    bind_to _ _ row.id (id_in_again (codes "RECSRVRTID") reply row.id is.id)
    ∙ bind_to _ _ row.recur (recur_in_again reply row.recur is.recur)
    ∙ bind_to _ _ (asked_of row) (first_again reply row is.is_first)

first_within : (most : ℕ) (reply : Item) → IsWithin most reply → Holds most Any (first_in reply)
unfolding first_in first_of
first_within most reply h =
    bound most (IsWithin most) Any (one (codes "INTRARS") reply) first_of (one_within most (codes "INTRARS") reply h) (λ intrars i.
    bound most Any Any (id_in (codes "SRVRTID") intrars) _ (id_within most (codes "SRVRTID") intrars i) (λ id _.
    bound most Any Any (due_info_in intrars) _ (due_info_within most intrars i) (λ asked _.
    bound most Any Any (maybe_id_in (codes "RECSRVRTID") intrars) _ (maybe_id_within most (codes "RECSRVRTID") intrars i) (λ model _. tt))))

pub row_within : (most : ℕ) (reply : Item) → IsWithin most reply → Holds most Any (model_row_of reply)
unfolding model_row_of
row_within most reply h =
    bound most Any Any (id_in (codes "RECSRVRTID") reply) _ (id_within most (codes "RECSRVRTID") reply h) (λ id _.
    bound most Any Any (recur_in reply) _ (recur_in_within most reply h) (λ recur _.
    bound most Any Any (first_in reply) _ (first_within most reply h) (λ asked _. tt)))
