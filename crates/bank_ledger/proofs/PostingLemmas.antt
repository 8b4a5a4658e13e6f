-- Transfers that hold what some entries moved, and the lines of a draft.
use Rattle.std.proofs.Common.{◌≡◌, ℕ, Bool, true, false, ◌||◌, ◌&&◌, cond, List, [], ◌∷◌, ◌++◌, map, Option, Some, refl, sym, ap, ◌∙◌}
use Rattle.std.proofs.lemmas.List.{append-nil, map-append}
use Rattle.std.proofs.lemmas.List.Elements.{filter-append}
use Rattle.std.proofs.lemmas.List.Folds.{list_any-append}
use Rattle.std.proofs.lemmas.Bool.{or_from, eq-eqb}
use Rattle.std.specs.List.{list_any}
use Rattle.std.specs.Str.{bytes_eq}
use Rattle.ofx_types.specs.declared.account.AcctName.{AcctName}
use Rattle.ofx_types.specs.declared.number.Moment.{Moment}
use Rattle.ofx_types.specs.declared.number.UserId.{UserId}
use Rattle.ofx_types.specs.declared.reply.StatementLine.{StatementLine}
use Rattle.ofx_types.specs.declared.transfer.TransferRow.{TransferRow}
use Rattle.ofx_types.specs.declared.transfer.XferCode.{XferCode}
use Rattle.ofx_types.specs.declared.transfer.XferCode.TheVariants.{Waiting, Posted, NoFunds, Cancelled}
use Rattle.ofx_types.specs.declared.transfer.Change.{Change}
use Rattle.ofx_types.specs.declared.transfer.Change.TheVariants.{NewTransfer, SetTransfer, DropTransfer, NewModel, SetModel, DropModel, NewMail}
use Rattle.bank_model.specs.declared.entry.Entry.{Entry}
use Rattle.bank_model.specs.declared.once.UsedPair.{UsedPair}
use Rattle.bank_model.specs.Ledger.{Posting, row_in, drops, is_dropped, is_posted, posting_of, moved, is_about, is_within_period, line_for, lines_of}
use Rattle.bank_model.specs.Models.{is_waiting}
use Rattle.bank_model.specs.Judging.{is_cancelled}
use Rattle.bank_model.specs.Once.{is_pair, is_used}
use Rattle.bank_transfers.specs.TransfersView.{TransfersView, Represents, GivesRow}
use Rattle.bank_transfers.proofs.GrowthLemmas.{moved-push, is_dropped-push}
use Rattle.bank_invariants.proofs.LedgerSteps.{moved-append}
use Rattle.bank_ledger.specs.DraftView.{pair_of}
use Rattle.bank_ledger.specs.Postings.{HoldsPostings}

pub HoldsPostings-none : (transfers : TransfersView) → Represents transfers [] → HoldsPostings transfers []
unfolding is_dropped
HoldsPostings-none transfers holds = record { posted = []; holds = holds; moved = refl; kept = λ id. refl }

-- what is for the same entries, with another room
pub HoldsPostings-room : (old new : TransfersView) (entries : List Entry) → ((posted : List Entry) → Represents old posted → Represents new posted) → HoldsPostings old entries → HoldsPostings new entries
HoldsPostings-room old new entries same held = record {
  posted = held.posted;
  holds = same held.posted held.holds;
  moved = held.moved;
  kept = held.kept;
}

-- ---- an entry that posts nothing

-- an entry that gives no transfer a row
pub HoldsPostings-nothing : (transfers : TransfersView) (entries : List Entry) (entry : Entry) → HoldsPostings transfers entries → posting_of entry.number (row_in entry.change) ≡ [] → HoldsPostings transfers (entries ++ entry ∷ [])
HoldsPostings-nothing transfers entries entry held nothing = record {
  posted = held.posted;
  holds = held.holds;
  moved = held.moved ∙ sym (moved-push entries entry ∙ ap (λ (l : List Posting). moved entries ++ l) nothing ∙ append-nil (moved entries));
  kept = held.kept;
}

unposted : (code : XferCode) (number : ℕ) (row : TransferRow) → row.code ≡ code → is_posted code ≡ false → posting_of number (Some row) ≡ []
unposted code number row is none = ap (λ (c : XferCode). cond (is_posted c) (record { number = number; row = row } ∷ []) []) is ∙ ap (λ (b : Bool). cond b (record { number = number; row = row } ∷ []) []) none

pub HoldsPostings-kept : (transfers : TransfersView) (entries : List Entry) (entry : Entry) (row : TransferRow) → HoldsPostings transfers entries → posting_of entry.number (row_in entry.change) ≡ posting_of entry.number (Some row) → is_posted row.code ≡ false → HoldsPostings transfers (entries ++ entry ∷ [])
HoldsPostings-kept transfers entries entry row held posts none = record {
  posted = held.posted;
  holds = held.holds;
  moved = held.moved ∙ sym (moved-push entries entry ∙ ap (λ (l : List Posting). moved entries ++ l) (posts ∙ unposted row.code entry.number row refl none) ∙ append-nil (moved entries));
  kept = held.kept;
}

-- ---- an entry that posts a transfer

posted_open : (code : XferCode) → is_posted code ≡ true → is_cancelled code ≡ false
posted_open Waiting posted = cc
posted_open Posted posted = refl
posted_open NoFunds posted = cc
posted_open Cancelled posted = cc

abbrev posting_with : ℕ → TransferRow → Posting
posting_with number row = record { number = number; row = row }

row_posted : (given row : TransferRow) (number : ℕ) (b : Bool) → cond b (posting_with number given ∷ []) [] ≡ posting_with number row ∷ [] → given ≡ row
row_posted given row number true same = let e : posting_with number given ≡ posting_with number row = cc in ap (λ (p : Posting). p.row) e
row_posted given row number false same = cc

pub posting_is : (number : ℕ) (row : TransferRow) → is_posted row.code ≡ true → posting_of number (Some row) ≡ record { number = number; row = row } ∷ []
posting_is number row posted = ap (λ (b : Bool). cond b (record { number = number; row = row } ∷ []) []) posted

never_waits : (code : XferCode) → is_posted code ≡ true → is_waiting code ≡ true → ⊥
never_waits Waiting posted waits = cc
never_waits Posted posted waits = cc
never_waits NoFunds posted waits = cc
never_waits Cancelled posted waits = cc

gives_posted : (posted : List Entry) (number : ℕ) (change : Change) (row : TransferRow) → ((id : ℕ) → is_dropped id posted ≡ false) → posting_of number (row_in change) ≡ record { number = number; row = row } ∷ [] → is_posted row.code ≡ true → GivesRow posted change row
gives_posted posted number (NewTransfer given) row kept same here = ((row_posted given row number (is_posted given.code) same, posted_open row.code here, kept row.id), λ waits. absurd (never_waits row.code here waits))
gives_posted posted number (SetTransfer given) row kept same here = ((row_posted given row number (is_posted given.code) same, posted_open row.code here, kept row.id), λ waits. absurd (never_waits row.code here waits))
gives_posted posted number (DropTransfer id) row kept same here = cc
gives_posted posted number (NewModel given) row kept same here = cc
gives_posted posted number (SetModel given also) row kept same here = cc
gives_posted posted number (DropModel id also) row kept same here = cc
gives_posted posted number (NewMail mail) row kept same here = cc

drops_nothing : (number id : ℕ) (change : Change) (row : TransferRow) → posting_of number (row_in change) ≡ record { number = number; row = row } ∷ [] → drops id change ≡ false
drops_nothing number id (NewTransfer given) row same = refl
drops_nothing number id (SetTransfer given) row same = refl
drops_nothing number id (DropTransfer dropped) row same = cc
drops_nothing number id (NewModel given) row same = refl
drops_nothing number id (SetModel given also) row same = refl
drops_nothing number id (DropModel gone also) row same = refl
drops_nothing number id (NewMail mail) row same = refl

pub HoldsPostings-posted : (old new : TransfersView) (entries : List Entry) (entry : Entry) (row : TransferRow) → HoldsPostings old entries → posting_of entry.number (row_in entry.change) ≡ posting_of entry.number (Some row) → is_posted row.code ≡ true → ((posted : List Entry) → Represents old posted → GivesRow posted entry.change row → Represents new (posted ++ entry ∷ [])) → HoldsPostings new (entries ++ entry ∷ [])
HoldsPostings-posted old new entries entry row held posts here holds =
    let same = posts ∙ posting_is entry.number row here in
    record {
      posted = held.posted ++ entry ∷ [];
      holds = holds held.posted held.holds (gives_posted held.posted entry.number entry.change row held.kept same here);
      moved = moved-push held.posted entry ∙ ap (λ (l : List Posting). l ++ posting_of entry.number (row_in entry.change)) held.moved ∙ sym (moved-push entries entry);
      kept = λ id. is_dropped-push id held.posted entry ∙ or_from (is_dropped id held.posted) (drops id entry.change) (held.kept id) (drops_nothing entry.number id entry.change row same);
    }

-- ---- lines

lines-append : (name : AcctName) (start : Moment) (end : Option Moment) (postings more : List Posting) → lines_of name start end (postings ++ more) ≡ lines_of name start end postings ++ lines_of name start end more
unfolding lines_of
lines-append name start end postings more =
    let listed = λ (posting : Posting). is_about name posting && is_within_period start end posting in
    ap (map (line_for name)) (filter-append listed postings more) ∙ map-append (line_for name) _ _

-- The lines of a draft are the bank's, and after them those of what it moved itself.
pub lines_drafted : (transfers : TransfersView) (name : AcctName) (start : Moment) (end : Option Moment) (entries more : List Entry) (lines : List StatementLine) → HoldsPostings transfers more → ((posted : List Entry) → Represents transfers posted → lines ≡ lines_of name start end (moved posted)) → lines_of name start end (moved entries) ++ lines ≡ lines_of name start end (moved (entries ++ more))
lines_drafted transfers name start end entries more lines held are =
    ap (λ (l : List StatementLine). lines_of name start end (moved entries) ++ l) (are held.posted held.holds ∙ ap (lines_of name start end) held.moved)
    ∙ sym (ap (lines_of name start end) (moved-append entries more) ∙ lines-append name start end (moved entries) (moved more))

-- ---- uids

used_uids : (user : UserId) (trnuid : List ℕ) (uids : List (List ℕ)) → is_used user trnuid (map (pair_of user) uids) ≡ list_any (λ (uid : List ℕ). bytes_eq uid trnuid) uids
used_uids user trnuid [] = refl
used_uids user trnuid (uid ∷ uids) = rw (eq-eqb user.0 user.0 refl, used_uids user trnuid uids) refl

-- A uid is used up in a draft where it was before or where the draft uses it up.
pub used_drafted : (user : UserId) (trnuid : List ℕ) (used : List UsedPair) (uids : List (List ℕ)) → is_used user trnuid (used ++ map (pair_of user) uids) ≡ (is_used user trnuid used || list_any (λ (uid : List ℕ). bytes_eq uid trnuid) uids)
used_drafted user trnuid used uids =
    list_any-append (is_pair user trnuid) used (map (pair_of user) uids) ∙ ap (λ (b : Bool). is_used user trnuid used || b) (used_uids user trnuid uids)
