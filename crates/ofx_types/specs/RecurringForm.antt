-- The parts of which the forms of recurring transfers are made (OFX 1.6, "Recurring Transactions").
use Rattle.std.specs.Prelude.{◌≡◌, ℕ, ◌<◌, List, [], ◌∷◌, codes, Option, None, Some}
use Rattle.ofx_types.specs.ValueForm.{value_of}
use Rattle.ofx_types.specs.Nodes.{Item}
use Rattle.ofx_types.specs.FormWords.{IsOnly, IsNone, IsNumberIn, IsIdIn, IsMaybeIdIn}
use Rattle.ofx_types.specs.TransferForm.{HasXferInfo}
use Rattle.ofx_types.specs.declared.recurring.Freq.{Freq}
use Rattle.ofx_types.specs.declared.recurring.Freq.TheVariants.{Weekly, Biweekly, TwiceMonthly, Monthly, FourWeeks, Bimonthly, Quarterly, Semiannually, Annually}
use Rattle.ofx_types.specs.declared.recurring.Recur.{Recur}
use Rattle.ofx_types.specs.declared.recurring.ModelRow.{ModelRow}
use Rattle.ofx_types.specs.declared.transfer.XferInfo.{XferInfo}

-- the words of FREQ
abbrev pub freq_word : Freq → List ℕ
freq_word Weekly = codes "WEEKLY"
freq_word Biweekly = codes "BIWEEKLY"
freq_word TwiceMonthly = codes "TWICEMONTHLY"
freq_word Monthly = codes "MONTHLY"
freq_word FourWeeks = codes "FOURWEEKS"
freq_word Bimonthly = codes "BIMONTHLY"
freq_word Quarterly = codes "QUARTERLY"
freq_word Semiannually = codes "SEMIANNUALLY"
freq_word Annually = codes "ANNUALLY"

-- NINSTS may be missing. It is a number of 1 to 3 digits, from 1 to 999.
abbrev pub IsMaybeCount : Item → Option ℕ → Type 0
IsMaybeCount recurrinst None = IsNone (codes "NINSTS") recurrinst
IsMaybeCount recurrinst (Some count) = IsNumberIn (codes "NINSTS") 3 recurrinst count × (0 < count)

-- RECURRINST
pub record IsRecur (recurrinst : Item) (recur : Recur) : Type 0 where
  pub count : IsMaybeCount recurrinst recur.count
  pub word : Item
  pub has_word : IsOnly (codes "FREQ") recurrinst word
  pub is_word : value_of word.node.text ≡ freq_word recur.freq

abbrev pub HasRecur : Item → Recur → Type 0
HasRecur parent recur = (recurrinst : Item) × IsOnly (codes "RECURRINST") parent recurrinst × IsRecur recurrinst recur

-- ---- requests

abbrev pub model_requests : List (List ℕ)
model_requests = codes "RECINTRARQ" ∷ codes "RECINTRAMODRQ" ∷ codes "RECINTRACANRQ" ∷ []

-- INTRARQ inside the request of a recurring transfer says what each of its transfers is like.
abbrev pub HasEachInfo : Item → XferInfo → Type 0
HasEachInfo parent info = (intrarq : Item) × IsOnly (codes "INTRARQ") parent intrarq × HasXferInfo intrarq info

-- ---- replies

-- what XFERINFO says of a recurring transfer: the day is that of the first one
abbrev pub first_info : ModelRow → XferInfo
first_info row = record { from = row.from; to = row.to; amount = row.amount; due = Some row.first }

-- INTRARS inside the reply of a recurring transfer: its two ids have their form and aren't compared with the outer one,
-- and how far a transfer is isn't looked at.
pub record IsFirst (parent : Item) (row : ModelRow) : Type 0 where
  pub intrars : Item
  pub has_intrars : IsOnly (codes "INTRARS") parent intrars
  pub id : ℕ
  pub has_id : IsIdIn (codes "SRVRTID") intrars id
  pub has_info : HasXferInfo intrars (first_info row)
  pub model : ℕ
  pub has_model : IsMaybeIdIn (codes "RECSRVRTID") intrars model

-- RECINTRARS, and RECINTRAMODRS without MODPENDING
pub record IsModelRow (reply : Item) (row : ModelRow) : Type 0 where
  pub id : IsIdIn (codes "RECSRVRTID") reply row.id
  pub recur : HasRecur reply row.recur
  pub is_first : IsFirst reply row

abbrev pub model_replies : List (List ℕ)
model_replies = codes "RECINTRARS" ∷ codes "RECINTRAMODRS" ∷ codes "RECINTRACANRS" ∷ []
