-- What is in an aggregate is what reading finds there: its named children, and what their values stand for.
use Rattle.std.proofs.Common.{◌≡◌, ℕ, ◌<◌, inl, inr, Bool, true, false, cond, ◌&&◌, nat_lt, ℤ, List, [], ◌∷◌, length, filter, Option, None, Some, is_none, Result, Ok, Err, codes, refl, sym, ap, subst, ◌∙◌, arith}
use Rattle.std.proofs.lemmas.Grind.{common_steps}
use Rattle.std.specs.Str.{bytes_eq}
use Rattle.ofx_types.specs.TextRules.{is_refused_in_text}
use Rattle.ofx_types.specs.TextOutcome.{text_fault}
use Rattle.ofx_types.specs.ValueForm.{value_of, Represents, decoded}
use Rattle.ofx_types.specs.AmountForm.{IsAmount}
use Rattle.ofx_types.specs.AmountReading.{amount_at}
use Rattle.ofx_types.specs.DateForm.{IsDate}
use Rattle.ofx_types.specs.DateReading.{moment_at}
use Rattle.ofx_types.specs.NumberReading.{number_at}
use Rattle.ofx_types.specs.TagNames.{is_one_of}
use Rattle.ofx_types.specs.Nodes.{TagNode, Item, children}
use Rattle.ofx_types.specs.FormWords.{◌>>=◌, named, named_one_of, only_of, one, one_of, if_any, maybe, IsOnly, IsOnlyOf, IsNone, is_text_within, text_at, text_in, IsTextIn, flag_word, flag_at, flag_in, IsFlagIn, flag_if_any, maybe_flag_in, IsMaybeFlagIn, amount_or, amount_of, amount_in, IsAmountIn, moment_or, moment_of, moment_in, IsMomentIn, moment_if_any, maybe_moment_in, IsMaybeMomentIn, number_or, number_of, number_in, IsNumberIn, id_of, id_in, IsIdIn, id_if_any, maybe_id_in, IsMaybeIdIn}
use Rattle.ofx_types.specs.declared.fault.TreeFault.{TreeFault}
use Rattle.ofx_types.specs.declared.number.Cents.{Cents}
use Rattle.ofx_types.specs.declared.number.Moment.{Moment}
use Rattle.ofx_types.proofs.Trimming.{trimmed-again}
use Rattle.ofx_types.proofs.Bytes.{bytes_eq_is, went}
use Rattle.ofx_values.proofs.AmountLemmas.{amount_takes, amount_again}
use Rattle.ofx_values.proofs.DateLemmas.{date_takes, date_again}

-- a step that gave something had something
pub bind_ok : {A B : Type 0} (r : Result A TreeFault) (f : A → Result B TreeFault) (y : B) → (r >>= f) ≡ Ok y → (x : A) × (r ≡ Ok x) × (f x ≡ Ok y)
bind_ok (Ok x) f y h = (x, refl, h)
bind_ok (Err e) f y h = cc

-- a step that has something goes on with it
pub bind_to : {A B : Type 0} (r : Result A TreeFault) (f : A → Result B TreeFault) (x : A) → r ≡ Ok x → (r >>= f) ≡ f x
bind_to r f x h = ap (λ s. s >>= f) h

-- reading gives one value
pub one_value : {A : Type 0} (r : Result A TreeFault) (x y : A) → r ≡ Ok x → r ≡ Ok y → x ≡ y
one_value r x y h i = cc

pub ok_guarded : {A : Type 0} (b : Bool) (x y : A) (e : TreeFault) → cond b (Ok x) (Err e) ≡ Ok y → (b ≡ true) × (x ≡ y)
ok_guarded true x y e h = (refl, cc)
ok_guarded false x y e h = cc

-- ---- named children

only_found : (offset : ℕ) (items : List Item) (child : Item) → only_of offset items ≡ Ok child → items ≡ child ∷ []
only_found offset [] child h = cc
only_found offset (x ∷ []) child h = cc
only_found offset (x ∷ y ∷ more) child h = cc

pub one_found : (name : List ℕ) (parent child : Item) → one name parent ≡ Ok child → IsOnly name parent child
one_found name parent child h = only_found parent.node.offset (named name parent) child h

pub one_again : (name : List ℕ) (parent child : Item) → IsOnly name parent child → one name parent ≡ Ok child
one_again name parent child h = ap (only_of parent.node.offset) h

pub one_of_found : (names : List (List ℕ)) (parent child : Item) → one_of names parent ≡ Ok child → IsOnlyOf names parent child
one_of_found names parent child h = only_found parent.node.offset (named_one_of names parent) child h

pub one_of_again : (names : List (List ℕ)) (parent child : Item) → IsOnlyOf names parent child → one_of names parent ≡ Ok child
one_of_again names parent child h = ap (only_of parent.node.offset) h

-- what a filter leaves passes its test
first_passes : (p : Item → Bool) (items : List Item) (child : Item) (more : List Item) → filter p items ≡ child ∷ more → p child ≡ true
first_passes p [] child more h = cc
first_passes p (x ∷ items) child more h = tested (p x) refl h (λ e. first_passes p items child more e)
  where
    tested : (b : Bool) → p x ≡ b → cond b (x ∷ filter p items) (filter p items) ≡ child ∷ more → (filter p items ≡ child ∷ more → p child ≡ true) → p child ≡ true
    tested true is e suffix = let same : x ≡ child = cc in rw same at is
    tested false is e suffix = suffix e

left_of : (a b : Bool) → (a && b) ≡ true → a ≡ true
left_of true b h = refl
left_of false b h = cc

-- the only child with one of some names has one of them
pub has_one_of : (names : List (List ℕ)) (parent child : Item) → IsOnlyOf names parent child → is_one_of names child.node.name ≡ true
has_one_of names parent child only = left_of _ _ (first_passes _ (children parent) child [] only)

none_found : (items : List Item) → if_any items ≡ Ok None → items ≡ []
none_found [] h = refl
none_found (x ∷ []) h = cc
none_found (x ∷ y ∷ more) h = cc

pub maybe_none : (name : List ℕ) (parent : Item) → maybe name parent ≡ Ok None → IsNone name parent
maybe_none name parent h = none_found (named name parent) h

some_found : (items : List Item) (child : Item) → if_any items ≡ Ok (Some child) → items ≡ child ∷ []
some_found [] child h = cc
some_found (x ∷ []) child h = cc
some_found (x ∷ y ∷ more) child h = cc

pub maybe_some : (name : List ℕ) (parent child : Item) → maybe name parent ≡ Ok (Some child) → IsOnly name parent child
maybe_some name parent child h = some_found (named name parent) child h

pub none_again : (name : List ℕ) (parent : Item) → IsNone name parent → maybe name parent ≡ Ok None
none_again name parent h = ap if_any h

pub some_again : (name : List ℕ) (parent child : Item) → IsOnly name parent child → maybe name parent ≡ Ok (Some child)
some_again name parent child h = ap if_any h

-- ---- texts

text_fits : (most : ℕ) (text : List ℕ) → is_text_within most text ≡ true → (0 < length text) × (text_fault is_refused_in_text most text ≡ None)
text_fits most text h = both (length text) (text_fault is_refused_in_text most text) h
  where
    both : {F : Type 0} (n : ℕ) (fault : Option F) → (nat_lt 0 n && is_none fault) ≡ true → (0 < n) × (fault ≡ None)
    both n None h = (grind (arith, common_steps), refl)
    both n (Some f) h = absurd (grind (arith, common_steps))

fits_again : (most : ℕ) (text : List ℕ) → 0 < length text → text_fault is_refused_in_text most text ≡ None → is_text_within most text ≡ true
fits_again most text there faultless =
    let some : nat_lt 0 (length text) ≡ true = grind (arith, common_steps) in rw (some, faultless) refl

pub text_found : (most : ℕ) (node : TagNode) (text : List ℕ) → text_at most node ≡ Ok text → Represents most node.text text
text_found most node text h =
    let read = ok_guarded (is_text_within most (value_of node.text)) (value_of node.text) text _ h in
    let P : List ℕ → Type 0 = λ t. Represents most node.text t in
    let fits = text_fits most (value_of node.text) read.0 in
    subst P read.1 (record { value = refl; is_there = fits.0; is_faultless = fits.1 })

text_chosen : (most offset : ℕ) (value text : List ℕ) → text ≡ value → is_text_within most text ≡ true → (e : TreeFault) →
    cond (is_text_within most value) (Ok value) (Err e) ≡ Ok text
text_chosen most offset value text same fits e = rw (← same) (rw fits refl)

pub text_again : (most : ℕ) (node : TagNode) (text : List ℕ) → Represents most node.text text → text_at most node ≡ Ok text
text_again most node text s =
    text_chosen most node.offset (value_of node.text) text s.value (fits_again most text s.is_there s.is_faultless) _

pub text_in_found : (name : List ℕ) (most : ℕ) (parent : Item) (text : List ℕ) → text_in name most parent ≡ Ok text → IsTextIn name most parent text
unfolding text_in
text_in_found name most parent text h =
    let child = bind_ok (one name parent) (λ c. text_at most c.node) text h in
    record { child = child.0; is_only = one_found name parent child.0 child.1; holds = text_found most child.0.node text child.2 }

pub text_in_again : (name : List ℕ) (most : ℕ) (parent : Item) (text : List ℕ) → IsTextIn name most parent text → text_in name most parent ≡ Ok text
unfolding text_in
text_in_again name most parent text t =
    bind_to (one name parent) (λ c. text_at most c.node) t.child (one_again name parent t.child t.is_only) ∙ text_again most t.child.node text t.holds

-- ---- flags

flag_chosen : (word : List ℕ) (e : TreeFault) (flag : Bool) →
    cond (bytes_eq word (codes "Y")) (Ok true) (cond (bytes_eq word (codes "N")) (Ok false) (Err e)) ≡ Ok flag → word ≡ flag_word flag
flag_chosen word e flag h = elim (went (bytes_eq word (codes "Y")) _ _ _ h) [
  | inl (same, is) ↦ bytes_eq_is word (codes "Y") same ∙ ap flag_word (one_value (Ok true) true flag refl is)
  | inr (other, is) ↦ let second = ok_guarded (bytes_eq word (codes "N")) false flag e is in bytes_eq_is word (codes "N") second.0 ∙ ap flag_word second.1
]

flag_again : (flag : Bool) (e : TreeFault) →
    cond (bytes_eq (flag_word flag) (codes "Y")) (Ok true) (cond (bytes_eq (flag_word flag) (codes "N")) (Ok false) (Err e)) ≡ Ok flag
flag_again true e = refl
flag_again false e = refl

pub flag_in_found : (name : List ℕ) (parent : Item) (flag : Bool) → flag_in name parent ≡ Ok flag → IsFlagIn name parent flag
unfolding flag_in
flag_in_found name parent flag h =
    let child = bind_ok (one name parent) (λ c. flag_at c.node) flag h in
    record { child = child.0; is_only = one_found name parent child.0 child.1; holds = flag_chosen (value_of child.0.node.text) _ flag child.2 }

pub flag_in_again : (name : List ℕ) (parent : Item) (flag : Bool) → IsFlagIn name parent flag → flag_in name parent ≡ Ok flag
unfolding flag_in
flag_in_again name parent flag f =
    bind_to (one name parent) (λ c. flag_at c.node) f.child (one_again name parent f.child f.is_only)
    ∙ rw f.holds (flag_again flag _)

-- ---- flags that may occur once

-- the flag that the child that stands says is that of the only one
flag_of_only : (name : List ℕ) (parent child : Item) (flag : Bool) → IsOnly name parent child → flag_at child.node ≡ Ok flag → IsFlagIn name parent flag
flag_of_only name parent child flag only h = record { child = child; is_only = only; holds = flag_chosen (value_of child.node.text) _ flag h }

flag_or_none : (name : List ℕ) (parent : Item) (found : Option Item) (flag : Bool) → maybe name parent ≡ Ok found → flag_if_any found ≡ Ok flag → IsMaybeFlagIn name parent flag
flag_or_none name parent None flag h i = inl (maybe_none name parent h, one_value (Ok flag) flag false refl (sym i))
flag_or_none name parent (Some child) flag h i = inr (flag_of_only name parent child flag (maybe_some name parent child h) i)

pub maybe_flag_in_found : (name : List ℕ) (parent : Item) (flag : Bool) → maybe_flag_in name parent ≡ Ok flag → IsMaybeFlagIn name parent flag
unfolding maybe_flag_in
maybe_flag_in_found name parent flag h =
    let found = bind_ok (maybe name parent) flag_if_any flag h in flag_or_none name parent found.0 flag found.1 found.2

pub maybe_flag_in_again : (name : List ℕ) (parent : Item) (flag : Bool) → IsMaybeFlagIn name parent flag → maybe_flag_in name parent ≡ Ok flag
unfolding maybe_flag_in
maybe_flag_in_again name parent flag (inl (none, absent)) = bind_to (maybe name parent) flag_if_any None (none_again name parent none) ∙ ap Ok (sym absent)
maybe_flag_in_again name parent flag (inr f) =
    bind_to (maybe name parent) flag_if_any (Some f.child) (some_again name parent f.child f.is_only) ∙ rw f.holds (flag_again flag _)

-- ---- amounts

amount_given : (offset : ℕ) (o : Option ℤ) (amount : Cents) → amount_or offset o ≡ Ok amount → o ≡ Some amount.0
amount_given offset None amount h = cc
amount_given offset (Some cents) amount h = ap (λ (c : Cents). Some c.0) (one_value (Ok (record { 0 = cents })) (record { 0 = cents }) amount refl h)

-- a value is trimmed already
amount_found : (raw : List ℕ) (cents : ℤ) → amount_at (value_of raw) ≡ Some cents → IsAmount (value_of raw) cents
amount_found raw cents h = amount_takes (value_of raw) cents (ap amount_at (trimmed-again (decoded raw)) ∙ h)

amount_read : (raw : List ℕ) (cents : ℤ) → IsAmount (value_of raw) cents → amount_at (value_of raw) ≡ Some cents
amount_read raw cents a = ap amount_at (sym (trimmed-again (decoded raw))) ∙ amount_again (value_of raw) cents a

pub amount_in_found : (name : List ℕ) (parent : Item) (amount : Cents) → amount_in name parent ≡ Ok amount → IsAmountIn name parent amount
unfolding amount_in
amount_in_found name parent amount h =
    let child = bind_ok (one name parent) (λ c. amount_of c.node) amount h in
    record {
      child = child.0;
      is_only = one_found name parent child.0 child.1;
      holds = amount_found child.0.node.text amount.0 (amount_given child.0.node.offset (amount_at (value_of child.0.node.text)) amount child.2);
    }

pub amount_in_again : (name : List ℕ) (parent : Item) (amount : Cents) → IsAmountIn name parent amount → amount_in name parent ≡ Ok amount
unfolding amount_in
amount_in_again name parent amount a =
    bind_to (one name parent) (λ c. amount_of c.node) a.child (one_again name parent a.child a.is_only)
    ∙ ap (amount_or a.child.node.offset) (amount_read a.child.node.text amount.0 a.holds)

-- ---- moments

moment_given : (offset : ℕ) (o : Option ℤ) (moment : Moment) → moment_or offset o ≡ Ok moment → o ≡ Some moment.0
moment_given offset None moment h = cc
moment_given offset (Some seconds) moment h =
    ap (λ (m : Moment). Some m.0) (one_value (Ok (record { 0 = seconds })) (record { 0 = seconds }) moment refl h)

moment_found : (node : TagNode) (moment : Moment) → moment_of node ≡ Ok moment → IsDate (value_of node.text) moment.0
moment_found node moment h =
    date_takes (value_of node.text) moment.0 (ap moment_at (trimmed-again (decoded node.text)) ∙ moment_given node.offset (moment_at (value_of node.text)) moment h)

moment_again : (node : TagNode) (moment : Moment) → IsDate (value_of node.text) moment.0 → moment_of node ≡ Ok moment
moment_again node moment d =
    ap (moment_or node.offset) (ap moment_at (sym (trimmed-again (decoded node.text))) ∙ date_again (value_of node.text) moment.0 d)

pub moment_in_found : (name : List ℕ) (parent : Item) (moment : Moment) → moment_in name parent ≡ Ok moment → IsMomentIn name parent moment
unfolding moment_in
moment_in_found name parent moment h =
    let child = bind_ok (one name parent) (λ c. moment_of c.node) moment h in
    record { child = child.0; is_only = one_found name parent child.0 child.1; holds = moment_found child.0.node moment child.2 }

pub moment_in_again : (name : List ℕ) (parent : Item) (moment : Moment) → IsMomentIn name parent moment → moment_in name parent ≡ Ok moment
unfolding moment_in
moment_in_again name parent moment m =
    bind_to (one name parent) (λ c. moment_of c.node) m.child (one_again name parent m.child m.is_only)
    ∙ moment_again m.child.node moment m.holds

-- ---- moments that may occur once

abbrev read_as : Option Moment → Result (Option Moment) TreeFault
read_as moment = Ok moment

-- what stood there, by what was read of it
any_found : (name : List ℕ) (parent : Item) (found : Option Item) (moment : Option Moment) →
    maybe name parent ≡ Ok found → moment_if_any found ≡ Ok moment → IsMaybeMomentIn name parent moment
any_found name parent None None h i = maybe_none name parent h
any_found name parent None (Some moment) h i = cc
any_found name parent (Some child) None h i =
    let read = bind_ok (moment_of child.node) (λ m. Ok (Some m)) None i in absurd (never read.0 read.2)
  where
    never : (m : Moment) → read_as (Some m) ≡ read_as None → ⊥
    never m e = cc
any_found name parent (Some child) (Some moment) h i =
    let read = bind_ok (moment_of child.node) (λ m. Ok (Some m)) (Some moment) i in
    let same : read.0 ≡ moment = one_some read.0 read.2 in
    let P : Moment → Type 0 = λ m. IsDate (value_of child.node.text) m.0 in
    record { child = child; is_only = maybe_some name parent child h; holds = subst P same (moment_found child.node read.0 read.1) }
  where
    one_some : (m : Moment) → read_as (Some m) ≡ read_as (Some moment) → m ≡ moment
    one_some m e = cc

pub maybe_moment_in_found : (name : List ℕ) (parent : Item) (moment : Option Moment) → maybe_moment_in name parent ≡ Ok moment → IsMaybeMomentIn name parent moment
unfolding maybe_moment_in
maybe_moment_in_found name parent moment h =
    let found = bind_ok (maybe name parent) moment_if_any moment h in any_found name parent found.0 moment found.1 found.2

pub maybe_moment_in_again : (name : List ℕ) (parent : Item) (moment : Option Moment) → IsMaybeMomentIn name parent moment → maybe_moment_in name parent ≡ Ok moment
unfolding maybe_moment_in
maybe_moment_in_again name parent None none = bind_to (maybe name parent) moment_if_any None (none_again name parent none)
maybe_moment_in_again name parent (Some moment) m =
    bind_to (maybe name parent) moment_if_any (Some m.child) (some_again name parent m.child m.is_only)
    ∙ bind_to (moment_of m.child.node) (λ read. Ok (Some read)) moment (moment_again m.child.node moment m.holds)

-- ---- numbers

number_given : (offset : ℕ) (o : Option ℕ) (number : ℕ) → number_or offset o ≡ Ok number → o ≡ Some number
number_given offset None number h = cc
number_given offset (Some n) number h = ap (λ (k : ℕ). Some k) (one_value (Ok n) n number refl h)

pub number_in_found : (name : List ℕ) (most : ℕ) (parent : Item) (number : ℕ) → number_in name most parent ≡ Ok number → IsNumberIn name most parent number
unfolding number_in
number_in_found name most parent number h =
    let child = bind_ok (one name parent) (λ c. number_of most c.node) number h in
    record {
      child = child.0;
      is_only = one_found name parent child.0 child.1;
      holds = number_given child.0.node.offset (number_at most (value_of child.0.node.text)) number child.2;
    }

pub number_in_again : (name : List ℕ) (most : ℕ) (parent : Item) (number : ℕ) → IsNumberIn name most parent number → number_in name most parent ≡ Ok number
unfolding number_in
number_in_again name most parent number n =
    bind_to (one name parent) (λ c. number_of most c.node) n.child (one_again name parent n.child n.is_only)
    ∙ ap (number_or n.child.node.offset) n.holds

-- ---- ids

pub id_in_found : (name : List ℕ) (parent : Item) (id : ℕ) → id_in name parent ≡ Ok id → IsIdIn name parent id
unfolding id_in
id_in_found name parent id h =
    let text = bind_ok (text_in name 64 parent) (λ t. Ok (id_of t)) id h in
    record { text = text.0; has_text = text_in_found name 64 parent text.0 text.1; is_id = one_value (Ok id) id (id_of text.0) refl (sym text.2) }

pub id_in_again : (name : List ℕ) (parent : Item) (id : ℕ) → IsIdIn name parent id → id_in name parent ≡ Ok id
unfolding id_in
id_in_again name parent id i =
    bind_to (text_in name 64 parent) (λ t. Ok (id_of t)) i.text (text_in_again name 64 parent i.text i.has_text) ∙ ap Ok (sym i.is_id)

-- ---- ids that may occur once

-- the text of the child that stands is that of the only one
text_of_only : (name : List ℕ) (parent child : Item) (text : List ℕ) → IsOnly name parent child → text_at 64 child.node ≡ Ok text → IsTextIn name 64 parent text
text_of_only name parent child text only h = record { child = child; is_only = only; holds = text_found 64 child.node text h }

id_or_none : (name : List ℕ) (parent : Item) (found : Option Item) (id : ℕ) → maybe name parent ≡ Ok found → id_if_any found ≡ Ok id → IsMaybeIdIn name parent id
id_or_none name parent None id h i = inl (maybe_none name parent h, one_value (Ok id) id 0 refl (sym i))
id_or_none name parent (Some child) id h i =
    let text = bind_ok (text_at 64 child.node) (λ t. Ok (id_of t)) id i in
    inr (record {
      text = text.0;
      has_text = text_of_only name parent child text.0 (maybe_some name parent child h) text.1;
      is_id = one_value (Ok id) id (id_of text.0) refl (sym text.2);
    })

pub maybe_id_in_found : (name : List ℕ) (parent : Item) (id : ℕ) → maybe_id_in name parent ≡ Ok id → IsMaybeIdIn name parent id
unfolding maybe_id_in
maybe_id_in_found name parent id h =
    let found = bind_ok (maybe name parent) id_if_any id h in id_or_none name parent found.0 id found.1 found.2

pub maybe_id_in_again : (name : List ℕ) (parent : Item) (id : ℕ) → IsMaybeIdIn name parent id → maybe_id_in name parent ≡ Ok id
unfolding maybe_id_in
maybe_id_in_again name parent id (inl (none, zero)) = bind_to (maybe name parent) id_if_any None (none_again name parent none) ∙ ap Ok (sym zero)
maybe_id_in_again name parent id (inr i) =
    let t = i.has_text in
    bind_to (maybe name parent) id_if_any (Some t.child) (some_again name parent t.child t.is_only)
    ∙ bind_to (text_at 64 t.child.node) (λ text. Ok (id_of text)) i.text (text_again 64 t.child.node i.text t.holds)
    ∙ ap Ok (sym i.is_id)
