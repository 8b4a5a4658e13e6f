-- Lawful entries: none posts a transfer that is settled, so none posts one twice.
use Rattle.std.proofs.Common.{◌≡◌, ℕ, Bool, true, false, not, cond, eqb, List, [], ◌∷◌, ◌++◌, Option, None, Some, refl, sym, ap, ◌∙◌, subst, append_assoc}
use Rattle.std.proofs.lemmas.Bool.{eqb-true, eq-eqb}
use Rattle.std.proofs.lemmas.List.{append-nil}
use Rattle.std.proofs.lemmas.Map.Keys.{IsDistinct-head, IsDistinct-tail, IsDistinct-cons}
use Rattle.std.specs.Option.{option_map}
use Rattle.std.specs.List.{AllByRecursion, IsDistinct}
use Rattle.ofx_types.specs.declared.transfer.XferCode.TheVariants.{Cancelled}
use Rattle.ofx_types.specs.declared.transfer.TransferRow.{TransferRow}
use Rattle.ofx_types.specs.declared.transfer.Change.{Change}
use Rattle.ofx_types.specs.declared.transfer.Change.TheVariants.{NewTransfer, SetTransfer, DropTransfer, NewModel, SetModel, DropModel, NewMail}
use Rattle.bank_model.specs.declared.entry.Entry.{Entry}
use Rattle.bank_model.specs.Ledger.{Posting, row_in, is_dropped, with_code, row_of, is_posted, posting_of, moved}
use Rattle.bank_model.specs.Models.{is_waiting}
use Rattle.bank_transfers.specs.Growth.{row_given, row_after}
use Rattle.bank_transfers.specs.Lawful.{IsLawful, AreLawfulAfter, AreLawful, PostsOnce}
use Rattle.bank_transfers.specs.TransfersView.{waits}
use Rattle.bank_transfers.proofs.GrowthLemmas.{moved-push, row_of-push}
use Rattle.bank_transfers.proofs.WaitingLemmas.{same_flips}
use Rattle.bank_transfers.proofs.HeldLemmas.{posted_closed}

-- ---- one entry more

lawful_more : (before entries : List Entry) (entry : Entry) → AreLawfulAfter before entries → IsLawful (before ++ entries) entry.change → AreLawfulAfter before (entries ++ entry ∷ [])
lawful_more before [] entry are is = (subst (λ (l : List Entry). IsLawful l entry.change) (append-nil before) is, tt)
lawful_more before (first ∷ entries) entry are is =
    (are.0, lawful_more (before ++ first ∷ []) entries entry are.1 (subst (λ (l : List Entry). IsLawful l entry.change) (sym (append_assoc before (first ∷ []) entries)) is))

pub lawful-push : (entries : List Entry) (entry : Entry) → AreLawful entries → IsLawful entries entry.change → AreLawful (entries ++ entry ∷ [])
lawful-push entries entry are is = lawful_more [] entries entry are is

-- ---- settled transfers

-- a transfer that has a row and doesn't wait
abbrev is_settled : Option TransferRow → Bool
is_settled None = false
is_settled (Some row) = not (is_waiting row.code)

waiting_unsettled : (found : Option TransferRow) → waits found ≡ true → is_settled found ≡ false
waiting_unsettled None waiting = refl
waiting_unsettled (Some row) waiting = ap not waiting

-- a change that names a transfer
abbrev names : ℕ → Change → Bool
names id (NewTransfer row) = eqb row.id id
names id (SetTransfer row) = eqb row.id id
names id (DropTransfer gone) = eqb gone id
names id (NewModel row) = false
names id (SetModel row pending) = false
names id (DropModel gone pending) = false
names id (NewMail mail) = false

other_id : (entries : List Entry) (named id : ℕ) → is_settled (row_of named entries) ≡ false → is_settled (row_of id entries) ≡ true → eqb named id ≡ false
other_id entries named id unsettled processed = apart (eqb named id) (λ same. let no : false ≡ true = sym unsettled ∙ ap (λ n. is_settled (row_of n entries)) (eqb-true named id same) ∙ processed in cc)
  where
    apart : (b : Bool) → (b ≡ true → ⊥) → b ≡ false
    apart true never = absurd (never refl)
    apart false never = refl

unnamed : (entries : List Entry) (change : Change) → IsLawful entries change → (id : ℕ) → is_settled (row_of id entries) ≡ true → names id change ≡ false
unnamed entries (NewTransfer row) new id processed = other_id entries row.id id (ap is_settled new) processed
unnamed entries (SetTransfer row) waiting id processed = other_id entries row.id id (waiting_unsettled (row_of row.id entries) waiting) processed
unnamed entries (DropTransfer gone) waiting id processed = other_id entries gone id (waiting_unsettled (row_of gone entries) waiting) processed
unnamed entries (NewModel row) lawful id processed = refl
unnamed entries (SetModel row pending) lawful id processed = refl
unnamed entries (DropModel gone pending) lawful id processed = refl
unnamed entries (NewMail mail) lawful id processed = refl

unnamed_kept : (id : ℕ) (dropped : Bool) (before : Option TransferRow) (change : Change) → names id change ≡ false → row_after id dropped before change ≡ before
unnamed_kept id dropped before (NewTransfer row) other = ap (λ b. cond b (Some (cond dropped (with_code Cancelled row) row)) before) other
unnamed_kept id dropped before (SetTransfer row) other = ap (λ b. cond b (Some (cond dropped (with_code Cancelled row) row)) before) other
unnamed_kept id dropped before (DropTransfer gone) other = ap (λ b. cond b (option_map (with_code Cancelled) before) before) other
unnamed_kept id dropped before (NewModel row) other = refl
unnamed_kept id dropped before (SetModel row pending) other = refl
unnamed_kept id dropped before (DropModel gone pending) other = refl
unnamed_kept id dropped before (NewMail mail) other = refl

settled_stays : (entries : List Entry) (entry : Entry) → IsLawful entries entry.change → (id : ℕ) → is_settled (row_of id entries) ≡ true → is_settled (row_of id (entries ++ entry ∷ [])) ≡ true
settled_stays entries entry lawful id processed =
    ap is_settled (row_of-push id entries entry ∙ unnamed_kept id (is_dropped id entries) (row_of id entries) entry.change (unnamed entries entry.change lawful id processed))
    ∙ processed

-- ---- a posting more

names_given : (id : ℕ) (change : Change) (row : TransferRow) → row_in change ≡ Some row → names id change ≡ eqb row.id id
names_given id (NewTransfer given) row is = let e : given ≡ row = cc in ap (λ (r : TransferRow). eqb r.id id) e
names_given id (SetTransfer given) row is = let e : given ≡ row = cc in ap (λ (r : TransferRow). eqb r.id id) e
names_given id (DropTransfer gone) row is = cc
names_given id (NewModel given) row is = cc
names_given id (SetModel given pending) row is = cc
names_given id (DropModel gone pending) row is = cc
names_given id (NewMail mail) row is = cc

posted_settled : (dropped : Bool) (before : Option TransferRow) (row : TransferRow) → is_posted row.code ≡ true → is_settled (row_given row.id dropped before row) ≡ true
posted_settled dropped before row posted =
    ap (λ b. is_settled (cond b (Some (cond dropped (with_code Cancelled row) row)) before)) (eq-eqb row.id row.id refl)
    ∙ elim dropped as (λ d. not (is_waiting (cond d (with_code Cancelled row) row).code) ≡ true) [
      | true ↦ refl
      | false ↦ ap not (posted_closed row.code posted)
    ]

posting_settled : (dropped : Bool) (before : Option TransferRow) (change : Change) (row : TransferRow) → row_in change ≡ Some row → is_posted row.code ≡ true → is_settled (row_after row.id dropped before change) ≡ true
posting_settled dropped before (NewTransfer given) row is posted = let e : row ≡ given = cc in ap (λ (r : TransferRow). is_settled (row_given row.id dropped before r)) (sym e) ∙ posted_settled dropped before row posted
posting_settled dropped before (SetTransfer given) row is posted = let e : row ≡ given = cc in ap (λ (r : TransferRow). is_settled (row_given row.id dropped before r)) (sym e) ∙ posted_settled dropped before row posted
posting_settled dropped before (DropTransfer gone) row is posted = cc
posting_settled dropped before (NewModel given) row is posted = cc
posting_settled dropped before (SetModel given pending) row is posted = cc
posting_settled dropped before (DropModel gone pending) row is posted = cc
posting_settled dropped before (NewMail mail) row is posted = cc

-- ---- no transfer posts twice

abbrev same_transfer : Posting → Posting → Bool
same_transfer posting other = eqb posting.row.id other.row.id

all_as : (P Q : Posting → Type 0) → ((p : Posting) → P p → Q p) → (ps : List Posting) → AllByRecursion P ps → AllByRecursion Q ps
all_as P Q from [] all = tt
all_as P Q from (p ∷ ps) all = (from p all.0, all_as P Q from ps all.1)

all_more : (P : Posting → Type 0) (ps : List Posting) (p : Posting) → AllByRecursion P ps → P p → AllByRecursion P (ps ++ p ∷ [])
all_more P [] p all one = (one, tt)
all_more P (first ∷ ps) p all one = (all.0, all_more P ps p all.1 one)

distinct_more : (ps : List Posting) (p : Posting) → IsDistinct same_transfer ps → AllByRecursion (λ (other : Posting). eqb other.row.id p.row.id ≡ false) ps → IsDistinct same_transfer (ps ++ p ∷ [])
distinct_more [] p distinct apart = IsDistinct-cons same_transfer p [] tt distinct
distinct_more (first ∷ ps) p distinct apart =
    IsDistinct-cons same_transfer first (ps ++ p ∷ [])
    (all_more (λ (other : Posting). eqb first.row.id other.row.id ≡ false) ps p (IsDistinct-head same_transfer first ps distinct) apart.0)
    (distinct_more ps p (IsDistinct-tail same_transfer first ps distinct) apart.1)

-- no two are of one transfer, and each transfer is settled by the entries
abbrev ArePosted : List Entry → List Posting → Type 0
ArePosted entries postings = IsDistinct same_transfer postings × AllByRecursion (λ (p : Posting). is_settled (row_of p.row.id entries) ≡ true) postings

posted_more : (entries : List Entry) (entry : Entry) → IsLawful entries entry.change → ArePosted entries (moved entries) → ArePosted (entries ++ entry ∷ []) (moved entries ++ posting_of entry.number (row_in entry.change))
posted_more entries entry lawful posted = with_row (row_in entry.change) refl
  where
    after : List Entry
    after = entries ++ entry ∷ []

    processed : AllByRecursion (λ (p : Posting). is_settled (row_of p.row.id after) ≡ true) (moved entries)
    processed = all_as (λ (p : Posting). is_settled (row_of p.row.id entries) ≡ true) (λ (p : Posting). is_settled (row_of p.row.id after) ≡ true) (λ p s. settled_stays entries entry lawful p.row.id s) (moved entries) posted.1

    apart : (row : TransferRow) → row_in entry.change ≡ Some row → AllByRecursion (λ (p : Posting). eqb p.row.id row.id ≡ false) (moved entries)
    apart row is = all_as (λ (p : Posting). is_settled (row_of p.row.id entries) ≡ true) (λ (p : Posting). eqb p.row.id row.id ≡ false) (λ p s. same_flips p.row.id row.id ∙ sym (names_given p.row.id entry.change row is) ∙ unnamed entries entry.change lawful p.row.id s) (moved entries) posted.1

    none : ArePosted after (moved entries ++ [])
    none = subst (ArePosted after) (sym (append-nil (moved entries))) (posted.0, processed)

    with_row : (row : Option TransferRow) → row_in entry.change ≡ row → ArePosted after (moved entries ++ posting_of entry.number row)
    with_row None is = none
    with_row (Some row) is = (elim (is_posted row.code) as (λ b. is_posted row.code ≡ b → ArePosted after (moved entries ++ cond b (record { number = entry.number; row = row } ∷ []) [])) [
      | true ↦ (λ e. (
        distinct_more (moved entries) (record { number = entry.number; row = row }) posted.0 (apart row is),
        all_more (λ (p : Posting). is_settled (row_of p.row.id after) ≡ true) (moved entries) (record { number = entry.number; row = row }) processed
            (ap is_settled (row_of-push row.id entries entry) ∙ posting_settled (is_dropped row.id entries) (row_of row.id entries) entry.change row is e),
      ))
      | false ↦ (λ e. none)
    ]) refl

posted_after : (before entries : List Entry) → AreLawfulAfter before entries → ArePosted before (moved before) → ArePosted (before ++ entries) (moved (before ++ entries))
posted_after before [] are posted = subst (λ (l : List Entry). ArePosted l (moved l)) (sym (append-nil before)) posted
posted_after before (entry ∷ entries) are posted =
    subst (λ (l : List Entry). ArePosted l (moved l)) (append_assoc before (entry ∷ []) entries)
    (posted_after (before ++ entry ∷ []) entries are.1
    (subst (ArePosted (before ++ entry ∷ [])) (sym (moved-push before entry)) (posted_more before entry are.0 posted)))

pub posts_once : (entries : List Entry) → AreLawful entries → PostsOnce entries
unfolding moved IsDistinct
posts_once entries are = (posted_after [] entries are (tt, tt)).0
