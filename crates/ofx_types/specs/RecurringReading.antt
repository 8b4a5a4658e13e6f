-- How the parts of recurring transfers are read: form by form, the named children of each in order, and the first fault.
use Rattle.std.specs.Prelude.{ℕ, ◌==◌, List, [], ◌∷◌, codes, Option, None, Some, Result, Ok, Err, if◌then◌else◌}
use Rattle.std.specs.List.{find}
use Rattle.std.specs.Str.{bytes_eq}
use Rattle.ofx_types.specs.ValueForm.{value_of}
use Rattle.ofx_types.specs.Nodes.{TagNode, Item}
use Rattle.ofx_types.specs.FormWords.{◌>>=◌, one, maybe, number_of, flag_in, id_in, maybe_id_in}
use Rattle.ofx_types.specs.RecurringForm.{freq_word}
use Rattle.ofx_types.specs.TransferReading.{DueInfo, info_in, due_info_in}
use Rattle.ofx_types.specs.declared.fault.TreeFault.{TreeFault}
use Rattle.ofx_types.specs.declared.fault.TreeFault.TheVariants.{Value}
use Rattle.ofx_types.specs.declared.recurring.Freq.{Freq}
use Rattle.ofx_types.specs.declared.recurring.Freq.TheVariants.{Weekly, Biweekly, TwiceMonthly, Monthly, FourWeeks, Bimonthly, Quarterly, Semiannually, Annually}
use Rattle.ofx_types.specs.declared.recurring.Recur.{Recur}
use Rattle.ofx_types.specs.declared.recurring.ModelRow.{ModelRow}
use Rattle.ofx_types.specs.declared.transfer.XferInfo.{XferInfo}
use Rattle.ofx_types.specs.declared.transfer.Deed.{Deed}
use Rattle.ofx_types.specs.declared.transfer.Deed.TheVariants.{Model, ModifyModel, CancelModel}
use Rattle.ofx_types.specs.declared.transfer.Change.{Change}
use Rattle.ofx_types.specs.declared.transfer.Change.TheVariants.{NewModel, SetModel, DropModel}

-- ---- how a transfer recurs

-- A count of 0 is none.
abbrev pub not_zero : ℕ → ℕ → Result ℕ TreeFault
not_zero offset count = if count == 0 then Err (Value offset) else Ok count

abbrev pub count_at : TagNode → Result ℕ TreeFault
count_at node = number_of 3 node >>= not_zero node.offset

abbrev pub count_if_any : Option Item → Result (Option ℕ) TreeFault
count_if_any None = Ok None
count_if_any (Some child) = count_at child.node >>= λ count. Ok (Some count)

abbrev pub freqs : List Freq
freqs =
    Weekly ∷ Biweekly ∷ TwiceMonthly ∷ Monthly ∷ FourWeeks ∷ Bimonthly ∷ Quarterly ∷ Semiannually ∷ Annually ∷ []

abbrev pub freq_or : ℕ → Option Freq → Result Freq TreeFault
freq_or offset None = Err (Value offset)
freq_or offset (Some freq) = Ok freq

-- the one whose word it is
abbrev pub freq_named : List ℕ → Option Freq
freq_named word = find (λ (freq : Freq). bytes_eq (freq_word freq) word) freqs

abbrev pub freq_at : TagNode → Result Freq TreeFault
freq_at node = freq_or node.offset (freq_named (value_of node.text))

unfoldable pub recur_of : Item → Result Recur TreeFault
recur_of recurrinst = do
  ninsts ← maybe (codes "NINSTS") recurrinst
  count ← count_if_any ninsts
  word ← one (codes "FREQ") recurrinst
  freq ← freq_at word.node
  Ok (record { count = count; freq = freq })

unfoldable pub recur_in : Item → Result Recur TreeFault
recur_in parent = one (codes "RECURRINST") parent >>= recur_of

-- ---- requests

unfoldable pub each_info_in : Item → Result XferInfo TreeFault
each_info_in parent = one (codes "INTRARQ") parent >>= info_in

unfoldable pub model_of : Item → Result Deed TreeFault
model_of recintrarq = do
  recur ← recur_in recintrarq
  info ← each_info_in recintrarq
  Ok (Model recur info)

unfoldable pub modify_model_of : Item → Result Deed TreeFault
modify_model_of recintramodrq = do
  id ← id_in (codes "RECSRVRTID") recintramodrq
  recur ← recur_in recintramodrq
  info ← each_info_in recintramodrq
  pending ← flag_in (codes "MODPENDING") recintramodrq
  Ok (ModifyModel id recur info pending)

unfoldable pub cancel_model_of : Item → Result Deed TreeFault
cancel_model_of recintracanrq = do
  id ← id_in (codes "RECSRVRTID") recintracanrq
  pending ← flag_in (codes "CANPENDING") recintracanrq
  Ok (CancelModel id pending)

-- ---- replies

-- The ids of the inner INTRARS have their form, and aren't looked at otherwise.
unfoldable pub first_of : Item → Result DueInfo TreeFault
first_of intrars = do
  id ← id_in (codes "SRVRTID") intrars
  asked ← due_info_in intrars
  model ← maybe_id_in (codes "RECSRVRTID") intrars
  Ok asked

unfoldable pub first_in : Item → Result DueInfo TreeFault
first_in parent = one (codes "INTRARS") parent >>= first_of

abbrev pub model_row_with : ℕ → Recur → DueInfo → ModelRow
model_row_with id recur asked = record {
  id = id;
  recur = recur;
  from = asked.info.from;
  to = asked.info.to;
  amount = asked.info.amount;
  first = asked.due;
}

unfoldable pub model_row_of : Item → Result ModelRow TreeFault
model_row_of reply = do
  id ← id_in (codes "RECSRVRTID") reply
  recur ← recur_in reply
  asked ← first_in reply
  Ok (model_row_with id recur asked)

unfoldable pub new_model_of : Item → Result Change TreeFault
new_model_of recintrars = model_row_of recintrars >>= λ row. Ok (NewModel row)

unfoldable pub set_model_of : Item → Result Change TreeFault
set_model_of recintramodrs = do
  row ← model_row_of recintramodrs
  pending ← flag_in (codes "MODPENDING") recintramodrs
  Ok (SetModel row pending)

unfoldable pub drop_model_of : Item → Result Change TreeFault
drop_model_of recintracanrs = do
  id ← id_in (codes "RECSRVRTID") recintracanrs
  pending ← flag_in (codes "CANPENDING") recintracanrs
  Ok (DropModel id pending)
