-- How a form names the children of an aggregate, and what each of them answers.
use Rattle.std.specs.Prelude.{◌≡◌, ℕ, ℤ, Bool, true, false, not, ◌&&◌, nat_lt, List, [], ◌∷◌, length, filter, codes, Option, None, Some, is_none, unwrap_or, ◌⊎◌, Result, Ok, Err, if◌then◌else◌}
use Rattle.std.specs.List.{list_all}
use Rattle.std.specs.Str.{bytes_eq}
pub use Rattle.ofx_types.specs.InOrder.{◌>>=◌}
use Rattle.ofx_types.specs.TextRules.{is_white, is_refused_in_text}
use Rattle.ofx_types.specs.TextOutcome.{text_fault}
use Rattle.ofx_types.specs.ValueForm.{value_of, Represents}
use Rattle.ofx_types.specs.AmountForm.{IsAmount}
use Rattle.ofx_types.specs.AmountReading.{amount_at}
use Rattle.ofx_types.specs.DateForm.{IsDate}
use Rattle.ofx_types.specs.DateReading.{moment_at}
use Rattle.ofx_types.specs.NumberReading.{number_at}
use Rattle.ofx_types.specs.TagNames.{is_one_of}
use Rattle.ofx_types.specs.Nodes.{TagNode, Item, children}
use Rattle.ofx_types.specs.declared.number.Cents.{Cents}
use Rattle.ofx_types.specs.declared.number.Moment.{Moment}
use Rattle.ofx_types.specs.declared.fault.TreeFault.{TreeFault}
use Rattle.ofx_types.specs.declared.fault.TreeFault.TheVariants.{Missing, Repeated, Value, OutOfMemory}

-- An element whose trimmed value is empty counts as absent.
abbrev pub is_absent : TagNode → Bool
is_absent node = node.is_element && list_all is_white node.text

abbrev pub has_name : List ℕ → Item → Bool
has_name name item = bytes_eq item.node.name name

-- The children of this name, in order. A child that a form doesn't name is skipped, whatever is in it.
abbrev pub named : List ℕ → Item → List Item
named name parent = filter (λ child. has_name name child && not (is_absent child.node)) (children parent)

-- The parent has just one child of this name.
abbrev pub IsOnly : List ℕ → Item → Item → Type 0
IsOnly name parent child = named name parent ≡ child ∷ []

-- The children with one of these names, in order.
abbrev pub named_one_of : List (List ℕ) → Item → List Item
named_one_of names parent = filter (λ child. is_one_of names child.node.name && not (is_absent child.node)) (children parent)

-- The parent has just one child with one of these names.
abbrev pub IsOnlyOf : List (List ℕ) → Item → Item → Type 0
IsOnlyOf names parent child = named_one_of names parent ≡ child ∷ []

-- It has none.
abbrev pub IsNone : List ℕ → Item → Type 0
IsNone name parent = named name parent ≡ []

-- The parent has just one child of this name, and its value stands for the text, of 1 byte up to the limit.
pub record IsTextIn (name : List ℕ) (most : ℕ) (parent : Item) (text : List ℕ) : Type 0 where
  pub child : Item
  pub is_only : IsOnly name parent child
  pub holds : Represents most child.node.text text

-- `Y` and `N`
abbrev pub flag_word : Bool → List ℕ
flag_word true = codes "Y"
flag_word false = codes "N"

-- The parent has just one child of this name, and its value is the word of the flag.
pub record IsFlagIn (name : List ℕ) (parent : Item) (flag : Bool) : Type 0 where
  pub child : Item
  pub is_only : IsOnly name parent child
  pub holds : value_of child.node.text ≡ flag_word flag

-- A flag that may occur once. Where it doesn't it is `N`.
abbrev pub IsMaybeFlagIn : List ℕ → Item → Bool → Type 0
IsMaybeFlagIn name parent flag = (IsNone name parent × (flag ≡ false)) ⊎ IsFlagIn name parent flag

-- The parent has just one child of this name, and its value spells the amount.
pub record IsAmountIn (name : List ℕ) (parent : Item) (amount : Cents) : Type 0 where
  pub child : Item
  pub is_only : IsOnly name parent child
  pub holds : IsAmount (value_of child.node.text) amount.0

-- The parent has just one child of this name, and its value spells the moment.
pub record IsMomentIn (name : List ℕ) (parent : Item) (moment : Moment) : Type 0 where
  pub child : Item
  pub is_only : IsOnly name parent child
  pub holds : IsDate (value_of child.node.text) moment.0

-- A date that may occur once.
abbrev pub IsMaybeMomentIn : List ℕ → Item → Option Moment → Type 0
IsMaybeMomentIn name parent None = IsNone name parent
IsMaybeMomentIn name parent (Some moment) = IsMomentIn name parent moment

-- The parent has just one child of this name, and its value is a number of 1 digit up to the limit.
pub record IsNumberIn (name : List ℕ) (most : ℕ) (parent : Item) (number : ℕ) : Type 0 where
  pub child : Item
  pub is_only : IsOnly name parent child
  pub holds : number_at most (value_of child.node.text) ≡ Some number

-- An id that the bank gave: a number of 1 to 10 digits. Any other text of at most 64 bytes stands for 0, which names
-- nothing.
abbrev pub id_of : List ℕ → ℕ
id_of text = unwrap_or (number_at 10 text) 0

pub record IsIdIn (name : List ℕ) (parent : Item) (id : ℕ) : Type 0 where
  pub text : List ℕ
  pub has_text : IsTextIn name 64 parent text
  pub is_id : id ≡ id_of text

-- An id that may occur once. Where it doesn't it is 0.
abbrev pub IsMaybeIdIn : List ℕ → Item → ℕ → Type 0
IsMaybeIdIn name parent id = (IsNone name parent × (id ≡ 0)) ⊎ IsIdIn name parent id

-- What a function answered is what reading answers, unless memory was refused.
abbrev pub FailsSo : {A : Type 0} → TreeFault → Result A TreeFault → Type 0
FailsSo (Missing at) read = read ≡ Err (Missing at)
FailsSo (Repeated at) read = read ≡ Err (Repeated at)
FailsSo (Value at) read = read ≡ Err (Value at)
FailsSo {A} OutOfMemory read = Unit {0}

abbrev pub ReadsForm : {A : Type 0} → Result A TreeFault → Result A TreeFault → Type 0
ReadsForm (Ok x) read = read ≡ Ok x
ReadsForm (Err fault) read = FailsSo fault read

-- Where a child that must occur once occurs twice the second one is the fault, and where it is missing the parent is.
abbrev pub only_of : ℕ → List Item → Result Item TreeFault
only_of offset [] = Err (Missing offset)
only_of offset (child ∷ []) = Ok child
only_of offset (child ∷ second ∷ more) = Err (Repeated second.node.offset)

abbrev pub one : List ℕ → Item → Result Item TreeFault
one name parent = only_of parent.node.offset (named name parent)

-- one child with one of these names
abbrev pub one_of : List (List ℕ) → Item → Result Item TreeFault
one_of names parent = only_of parent.node.offset (named_one_of names parent)

-- A child that may occur once.
abbrev pub if_any : List Item → Result (Option Item) TreeFault
if_any [] = Ok None
if_any (child ∷ []) = Ok (Some child)
if_any (child ∷ second ∷ more) = Err (Repeated second.node.offset)

abbrev pub maybe : List ℕ → Item → Result (Option Item) TreeFault
maybe name parent = if_any (named name parent)

-- a text of 1 byte up to the limit
abbrev pub is_text_within : ℕ → List ℕ → Bool
is_text_within most text = nat_lt 0 (length text) && is_none (text_fault is_refused_in_text most text)

-- the text that a node's value stands for
abbrev pub text_at : ℕ → TagNode → Result (List ℕ) TreeFault
text_at most node = if is_text_within most (value_of node.text) then Ok (value_of node.text) else Err (Value node.offset)

unfoldable pub text_in : List ℕ → ℕ → Item → Result (List ℕ) TreeFault
text_in name most parent = one name parent >>= λ child. text_at most child.node

-- the flag that a node's value stands for
abbrev pub flag_at : TagNode → Result Bool TreeFault
flag_at node =
    if bytes_eq (value_of node.text) (codes "Y") then Ok true
    else (if bytes_eq (value_of node.text) (codes "N") then Ok false else Err (Value node.offset))

unfoldable pub flag_in : List ℕ → Item → Result Bool TreeFault
flag_in name parent = one name parent >>= λ child. flag_at child.node

-- the flag of a child that may occur once
abbrev pub flag_if_any : Option Item → Result Bool TreeFault
flag_if_any None = Ok false
flag_if_any (Some child) = flag_at child.node

unfoldable pub maybe_flag_in : List ℕ → Item → Result Bool TreeFault
maybe_flag_in name parent = maybe name parent >>= flag_if_any

-- the amount that a node's value spells
abbrev pub amount_or : ℕ → Option ℤ → Result Cents TreeFault
amount_or offset None = Err (Value offset)
amount_or offset (Some cents) = Ok (record { 0 = cents })

abbrev pub amount_of : TagNode → Result Cents TreeFault
amount_of node = amount_or node.offset (amount_at (value_of node.text))

unfoldable pub amount_in : List ℕ → Item → Result Cents TreeFault
amount_in name parent = one name parent >>= λ child. amount_of child.node

-- the moment that a node's value spells
abbrev pub moment_or : ℕ → Option ℤ → Result Moment TreeFault
moment_or offset None = Err (Value offset)
moment_or offset (Some seconds) = Ok (record { 0 = seconds })

abbrev pub moment_of : TagNode → Result Moment TreeFault
moment_of node = moment_or node.offset (moment_at (value_of node.text))

unfoldable pub moment_in : List ℕ → Item → Result Moment TreeFault
moment_in name parent = one name parent >>= λ child. moment_of child.node

-- the moment of a child that may occur once
abbrev pub moment_if_any : Option Item → Result (Option Moment) TreeFault
moment_if_any None = Ok None
moment_if_any (Some child) = moment_of child.node >>= λ moment. Ok (Some moment)

unfoldable pub maybe_moment_in : List ℕ → Item → Result (Option Moment) TreeFault
maybe_moment_in name parent = maybe name parent >>= moment_if_any

-- the number that a node's value is, of 1 digit up to the limit
abbrev pub number_or : ℕ → Option ℕ → Result ℕ TreeFault
number_or offset None = Err (Value offset)
number_or offset (Some number) = Ok number

abbrev pub number_of : ℕ → TagNode → Result ℕ TreeFault
number_of most node = number_or node.offset (number_at most (value_of node.text))

unfoldable pub number_in : List ℕ → ℕ → Item → Result ℕ TreeFault
number_in name most parent = one name parent >>= λ child. number_of most child.node

-- the id that a text is
unfoldable pub id_in : List ℕ → Item → Result ℕ TreeFault
id_in name parent = text_in name 64 parent >>= λ text. Ok (id_of text)

abbrev pub id_if_any : Option Item → Result ℕ TreeFault
id_if_any None = Ok 0
id_if_any (Some child) = text_at 64 child.node >>= λ text. Ok (id_of text)

unfoldable pub maybe_id_in : List ℕ → Item → Result ℕ TreeFault
maybe_id_in name parent = maybe name parent >>= id_if_any
