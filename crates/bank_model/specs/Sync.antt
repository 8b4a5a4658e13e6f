-- What a bank answers to a synchronisation, and the state that it leaves.
use Rattle.std.specs.Prelude.{ℕ, Bool, true, false, ◌||◌, nat_lt, ◌==◌, if◌then◌else◌, List, [], ◌∷◌, ◌++◌, filter, map, codes, Option, None, Some}
use Rattle.std.specs.List.{flat_map}
use Rattle.std.specs.Fmt.{decimal}
use Rattle.ofx_types.specs.NumberReading.{number_at}
use Rattle.ofx_types.specs.SyncForm.{object_family}
use Rattle.ofx_types.specs.declared.number.AcctId.{AcctId}
use Rattle.ofx_types.specs.declared.number.ObjectId.{ObjectId}
use Rattle.ofx_types.specs.declared.number.UserId.{UserId}
use Rattle.ofx_types.specs.declared.number.Moment.{Moment}
use Rattle.ofx_types.specs.declared.transfer.TransferRow.{TransferRow}
use Rattle.ofx_types.specs.declared.recurring.ModelRow.{ModelRow}
use Rattle.ofx_types.specs.declared.transfer.Change.{Change}
use Rattle.ofx_types.specs.declared.transfer.Change.TheVariants.{NewTransfer, SetTransfer, DropTransfer, NewModel, SetModel, DropModel, NewMail}
use Rattle.ofx_types.specs.declared.transfer.Deed.{Deed}
use Rattle.ofx_types.specs.declared.transfer.Family.{Family}
use Rattle.ofx_types.specs.declared.transfer.DeedReply.{DeedReply}
use Rattle.ofx_types.specs.declared.sync.SyncKind.{SyncKind}
use Rattle.ofx_types.specs.declared.sync.SyncKind.TheVariants.{After, TokenOnly, Refresh}
use Rattle.ofx_types.specs.declared.sync.SyncAsk.{SyncAsk}
use Rattle.ofx_types.specs.declared.sync.SyncReply.{SyncReply}
use Rattle.bank_model.specs.declared.setup.Setup.{Setup}
use Rattle.bank_model.specs.declared.entry.Entry.{Entry}
use Rattle.bank_model.specs.declared.event.State.{State}
use Rattle.bank_model.specs.Ledger.{row_of}
use Rattle.bank_model.specs.Models.{model_of, is_model_dropped}
use Rattle.bank_model.specs.Judging.{is_cancelled}
use Rattle.bank_model.specs.Deeds.{deed_answer}
use Rattle.bank_model.specs.Objects.{account_about, object_named, history_of, newest, floor}

-- ---- the token

-- A token of 1 to 10 digits is its value. No other text is one.
abbrev pub token_of : List ℕ → Option ℕ
token_of text = number_at 10 text

-- A client has lost synchronisation where its token is no number, or is above the newest one or below the floor.
abbrev pub is_lost_at : ℕ → ObjectId → List Entry → Option ℕ → Bool
is_lost_at window object entries None = true
is_lost_at window object entries (Some token) =
    nat_lt (newest object entries) token || nat_lt token (floor window object entries)

-- Only a client that names a token can have lost synchronisation.
unfoldable pub is_lost : ℕ → ObjectId → List Entry → SyncKind → Bool
is_lost window object entries (After text) = is_lost_at window object entries (token_of text)
is_lost window object entries TokenOnly = false
is_lost window object entries Refresh = false

-- ---- the history that is reported

-- what is reported of a change with its uid
abbrev pub reply_with_change : Family → List ℕ → Change → DeedReply
reply_with_change family trnuid change = record { trnuid = trnuid; family = family; code = 0; change = Some change }

abbrev pub is_above : ℕ → Entry → Bool
is_above token entry = nat_lt token entry.number

-- the entries of an object above a token, each with its own uid
abbrev pub entries_above : Option ℕ → List Entry → List Entry
entries_above None entries = []
entries_above (Some token) entries = filter (is_above token) entries

abbrev pub reply_of_entry : Family → Entry → DeedReply
reply_of_entry family entry = reply_with_change family entry.trnuid entry.change

-- A row is reported as if it were new, and one that is cancelled isn't reported.
abbrev pub current_transfer : Option TransferRow → List Change
current_transfer None = []
current_transfer (Some row) = if is_cancelled row.code then [] else NewTransfer row ∷ []

abbrev pub current_model : Bool → Option ModelRow → List Change
current_model cancelled None = []
current_model cancelled (Some row) = if cancelled then [] else NewModel row ∷ []

abbrev pub current_in : List Entry → Change → List Change
current_in entries (NewTransfer row) = current_transfer (row_of row.id entries)
current_in entries (SetTransfer row) = []
current_in entries (DropTransfer id) = []
current_in entries (NewModel row) = current_model (is_model_dropped row.id entries) (model_of row.id entries)
current_in entries (SetModel row pending) = []
current_in entries (DropModel id pending) = []
current_in entries (NewMail row) = NewMail row ∷ []

-- What there is now: the row of each transfer, recurring transfer and mail that the object's history made, in the order in
-- which it made them. Those that are cancelled are left out.
unfoldable pub present : ObjectId → List Entry → List Change
present object entries = flat_map (λ (entry : Entry). current_in entries entry.change) (history_of object entries)

-- A client that names a token and hasn't lost synchronisation is sent what came after it. One that asks for all is sent what is
-- there, as if it were new. Any other is sent nothing.
unfoldable pub history_replies : ℕ → ObjectId → Family → List Entry → SyncKind → List DeedReply
history_replies window object family entries (After text) =
    if is_lost window object entries (After text) then []
    else map (reply_of_entry family) (entries_above (token_of text) (history_of object entries))
history_replies window object family entries TokenOnly = []
history_replies window object family entries Refresh = map (reply_with_change family (codes "0")) (present object entries)

-- ---- the deeds

-- A deed that is refused with all others leaves everything as it is, and its uid isn't used up.
abbrev pub refused_with : Family → ℕ → List ℕ × Deed → DeedReply
refused_with family code deed = record { trnuid = deed.0; family = family; code = code; change = None }

-- whether a token is the newest one
abbrev pub is_newest : ℕ → Option ℕ → Bool
is_newest number None = false
is_newest number (Some token) = token == number

-- Where deeds are to be refused to a client that missed something, one that doesn't name a token gets 6500, and one that
-- doesn't name the newest gets 6502.
abbrev pub unless_newest : ℕ → SyncKind → Option ℕ
unless_newest number (After text) = if is_newest number (token_of text) then None else Some 6502
unless_newest number TokenOnly = Some 6500
unless_newest number Refresh = Some 6500

abbrev pub rejection : Bool → ℕ → SyncKind → Option ℕ
rejection reject number kind = if reject then unless_newest number kind else None

-- The answers to deeds in their order, each in the state that the one before left. The object's account is the user's only
-- one.
pub record DeedAnswers : Type 0 where
  pub replies : List DeedReply
  pub after : State

unfoldable pub deed_answers : Setup → State → UserId → Option AcctId → Moment → List (List ℕ × Deed) → DeedAnswers
deed_answers setup S user only at [] = record { replies = []; after = S }
deed_answers setup S user only at (deed ∷ more) =
    let first = deed_answer setup S user only at deed.0 deed.1 in
    let rest = deed_answers setup first.after user only at more in
    record { replies = first.reply ∷ rest.replies; after = rest.after }

unfoldable pub deeds_or_rejection : Setup → State → UserId → Moment → SyncAsk → Option ℕ → DeedAnswers
deeds_or_rejection setup S user at ask None =
    deed_answers setup S user (account_about setup user ask.object) at ask.deeds
deeds_or_rejection setup S user at ask (Some code) =
    record { replies = map (refused_with (object_family ask.object) code) ask.deeds; after = S }

-- ---- the answer

pub record SyncAnswer : Type 0 where
  pub reply : SyncReply
  pub after : State

-- Whether the client has lost synchronisation, the history that it is sent and whether its deeds are refused are judged on the
-- state before the deeds. The token that is reported is the newest one after them.
unfoldable pub sync_on : Setup → State → UserId → Moment → SyncAsk → Option ObjectId → SyncAnswer
sync_on setup S user at ask None = record {
  reply = record {
    object = ask.object;
    token = codes "0";
    lost = true;
    replies = map (refused_with (object_family ask.object) 2003) ask.deeds;
  };
  after = S;
}
sync_on setup S user at ask (Some object) =
    let answers = deeds_or_rejection setup S user at ask (rejection ask.reject (newest object S.entries) ask.kind) in
    record {
      reply = record {
        object = ask.object;
        token = decimal (newest object answers.after.entries);
        lost = is_lost setup.window object S.entries ask.kind;
        replies = history_replies setup.window object (object_family ask.object) S.entries ask.kind ++ answers.replies;
      };
      after = answers.after;
    }

-- A synchronisation of an account that isn't the user's gets token 0, LOSTSYNC, nothing of the history, and 2003 for each deed.
unfoldable pub sync_answer : Setup → State → UserId → Moment → SyncAsk → SyncAnswer
sync_answer setup S user at ask = sync_on setup S user at ask (object_named setup user ask.object)
