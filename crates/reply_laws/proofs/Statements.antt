-- Statements are sound.
use Rattle.std.proofs.Common.{◌≡◌, ℕ, ◌+◌, ◌≤◌, Bool, true, false, cond, List, [], ◌∷◌, ◌++◌, length, length-append, Option, None, Some, ℤ, pos, ◌-ℤ◌, unsigned_abs, refl, arith}
use Rattle.std.specs.Prelude.{unwrap_or}
use Rattle.std.specs.List.{AllByRecursion}
use Rattle.std.specs.Option.{IfSome}
use Rattle.std.proofs.lemmas.Int.{ints}
use Rattle.ofx_types.specs.AccountForm.{same_account}
use Rattle.ofx_types.specs.Calendar.{IsMoment}
use Rattle.ofx_types.specs.declared.account.AcctName.{AcctName}
use Rattle.ofx_types.specs.declared.number.AcctId.{AcctId}
use Rattle.ofx_types.specs.declared.number.Moment.{Moment}
use Rattle.ofx_types.specs.declared.transfer.TransferRow.{TransferRow}
use Rattle.ofx_types.specs.declared.request.Period.{Period}
use Rattle.bank_model.specs.declared.entry.Entry.{Entry}
use Rattle.bank_model.specs.declared.setup.Setup.{Setup}
use Rattle.bank_model.specs.declared.event.State.{State}
use Rattle.bank_model.specs.SetupForm.{IsWithinLimits}
use Rattle.bank_model.specs.Ledger.{Posting, row_in, is_posted, posting_of, moved, balance, line_for, lines_of}
use Rattle.bank_model.specs.Rules.{first_moment, list_of, asked_list, statement_reply}
use Rattle.bank_model.specs.Sound as file
use Rattle.sync_laws.specs.Histories.{AllFollow}
use Rattle.msg_parts.specs.SoundParts.{IsTextWithin}
use Rattle.msg_statement.specs.SoundStatements.{IsSoundLine, IsSoundList}
use Rattle.ofx_file.specs.Written.{IsSoundAskReply}
use Rattle.reply_laws.specs.Reportable.{IsReportedEntry, IsReportable}
use Rattle.bank_model.proofs.Lists.{all_filter, all_map, all_flat, all_both}
use Rattle.reply_laws.proofs.Values.{account_sound}
use Rattle.reply_laws.proofs.Found.{IsKnownRow, row_known}

-- ---- lines

-- an entry with its number
abbrev IsNumbered : Setup → Entry → Type 0
IsNumbered setup entry = (entry.number ≤ 9999999999) × IsReportedEntry setup entry

-- what a line is made of
abbrev IsKnownPosting : Posting → Type 0
IsKnownPosting posting = (posting.number ≤ 9999999999) × IsKnownRow posting.row

few_numbers : (setup : Setup) (before more : List Entry) → AllFollow setup before more → length before + length more ≤ 9999999999 → AllByRecursion (λ (entry : Entry). entry.number ≤ 9999999999) more
few_numbers setup before [] follow few = tt
few_numbers setup before (entry ∷ more) follow few =
    let number = follow.0.number in
    let size : length (before ++ entry ∷ []) ≡ length before + 1 = length-append before (entry ∷ []) in
    (omega arith, few_numbers setup (before ++ entry ∷ []) more follow.1 (omega arith))

numbered : (setup : Setup) (S : State) → IsWithinLimits setup → IsReportable setup S → AllByRecursion (IsNumbered setup) S.entries
numbered setup S within reportable =
    let most = within.lines.entries_high in
    let few = reportable.order.few in
    all_both (λ (entry : Entry). entry.number ≤ 9999999999) (IsReportedEntry setup) (IsNumbered setup) S.entries (λ entry number reported. (number, reported))
    (few_numbers setup [] S.entries reportable.order.follow (omega arith)) reportable.entries

posting_known : (number : ℕ) (row : Option TransferRow) → number ≤ 9999999999 → IfSome row IsKnownRow → AllByRecursion IsKnownPosting (posting_of number row)
posting_known number None few known = tt
posting_known number (Some row) few known = by_code (is_posted row.code)
  where
    by_code : (posted : Bool) → AllByRecursion IsKnownPosting (cond posted (record { number = number; row = row } ∷ []) [])
    by_code true = ((few, known), tt)
    by_code false = tt

moved_known : (setup : Setup) (entries : List Entry) → AllByRecursion (IsNumbered setup) entries → AllByRecursion IsKnownPosting (moved entries)
unfolding moved
moved_known setup entries all =
    all_flat (IsNumbered setup) IsKnownPosting (λ (entry : Entry). posting_of entry.number (row_in entry.change)) entries
    (λ entry here. posting_known entry.number (row_in entry.change) here.0 (row_known entry.change here.1.change)) all

part_small : (amount : ℤ) (into out : Bool) → unsigned_abs amount ≤ 9999999999999 → unsigned_abs (cond into amount (pos 0) -ℤ cond out amount (pos 0)) ≤ 9999999999999
part_small amount true true small = omega (arith, ints)
part_small amount true false small = omega (arith, ints)
part_small amount false true small = omega (arith, ints)
part_small amount false false small = omega (arith, ints)

line_sound : (name : AcctName) (posting : Posting) → IsKnownPosting posting → IsSoundLine (line_for name posting)
line_sound name posting known = record {
  posted = known.1.stamp;
  amount = part_small posting.row.amount.0 (same_account posting.row.to name) (same_account posting.row.from name) known.1.info.amount;
  number = (let few = known.0 in omega arith);
}

lines_sound : (setup : Setup) (S : State) (name : AcctName) (start : Moment) (end : Option Moment) → IsWithinLimits setup → IsReportable setup S → AllByRecursion IsSoundLine (lines_of name start end (moved S.entries))
unfolding lines_of
lines_sound setup S name start end within reportable =
    all_map IsKnownPosting IsSoundLine (line_for name) _ (λ posting known. line_sound name posting known)
    (all_filter IsKnownPosting IsKnownPosting _ (moved S.entries) (λ posting known here. known) (moved_known setup S.entries (numbered setup S within reportable)))

-- ---- statements

moment_or : (asked : Option Moment) (other : Moment) → IfSome asked (λ (moment : Moment). IsMoment moment.0) → IsMoment other.0 → IsMoment (unwrap_or asked other).0
moment_or None other sound known = known
moment_or (Some moment) other sound known = sound

list_sound : (setup : Setup) (S : State) (at : Moment) (name : AcctName) (period : Option Period) → IsWithinLimits setup → IsReportable setup S → IsMoment at.0 → IfSome period file.IsSoundPeriod → IfSome (asked_list S at name period) IsSoundList
list_sound setup S at name None within reportable moment sound = tt
list_sound setup S at name (Some period) within reportable moment sound = by_choice period.include
  where
    by_choice : (include : Bool) → IfSome (cond include (Some (list_of S at name period)) None) IsSoundList
    by_choice true = record {
      start = moment_or period.start first_moment sound.0 (omega (arith, ints), omega (arith, ints));
      end = moment_or period.end at sound.1 moment;
      lines = lines_sound setup S name (unwrap_or period.start first_moment) period.end within reportable;
    }
    by_choice false = tt

pub statement_sound : (setup : Setup) (S : State) (at : Moment) (trnuid : List ℕ) (name : AcctName) (period : Option Period) (found : Option AcctId) → IsWithinLimits setup → IsReportable setup S → IsMoment at.0 → ((account : AcctId) → unsigned_abs (balance setup S.entries account) ≤ 9999999999999) → IsTextWithin 36 trnuid → file.IsSoundAccount name → IfSome period file.IsSoundPeriod → IsSoundAskReply (statement_reply setup S at trnuid name period found)
statement_sound setup S at trnuid name period None within reportable moment small uid account sound =
    record { is_uid = uid; is_code = omega arith; is_body = (λ (none : 2003 ≡ 0). omega arith) }
statement_sound setup S at trnuid name period (Some found) within reportable moment small uid account sound = record {
  is_uid = uid;
  is_code = omega arith;
  is_body = (
    refl,
    record {
      account = account_sound name account;
      list = list_sound setup S at name period within reportable moment sound;
      ledger = small found;
      available = small found;
      moment = moment;
    },
  );
}
