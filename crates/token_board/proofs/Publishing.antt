-- What is claimed of what was published, and passes that were heard before and meet a note after.
use Rattle.std.proofs.Common.{◌≡◌, ℕ, suc, ◌+◌, ◌<◌, ◌≤◌, Bool, true, false, List, [], ◌∷◌, ◌++◌, map, length, refl, sym, ap, ◌∙◌, subst, add-zero, append_assoc, append-nil, length-append, arith}
use Rattle.std.specs.Prelude.{All, nat_lt, if◌then◌else◌}
use Rattle.std.proofs.lemmas.Bool.{lt-ltb, ltb-false}
use Rattle.std.proofs.lemmas.List.Elements.{All-nil, All-cons, All-weaker}
use Rattle.bank_model.specs.declared.entry.Entry.{Entry}
use Rattle.bank_model.specs.declared.log.LogItem.{LogItem}
use Rattle.bank_model.specs.declared.log.LogItem.TheVariants.{Effect, Answer, Adopted, Fault}
use Rattle.bank_model.specs.Log.{endings, is_ending}
use Rattle.token_board.specs.Tokens.{Begins, AreAbove}
use Rattle.token_board.specs.Views.{BoardView, WriterView, PassView, longer, claims_of}
use Rattle.token_board.specs.Publishing.{MayPublish, claims_in, HasPublished, IsHeard, Meets, NothingPublished, EntriesPublished, EndingPublished, HeardMayMeet, HeardMeets}
use Rattle.token_board.proofs.Numbers.{count-append}

-- ---- claims

pub claims-append : (count : ℕ) (xs ys : List LogItem) → claims_in count (xs ++ ys) ≡ claims_in count xs ++ claims_in (count + length (endings xs)) ys
claims-append count [] ys = ap (λ (n : ℕ). claims_in n ys) (sym (add-zero count))
claims-append count (Effect entry ∷ xs) ys = claims-append count xs ys
claims-append count (Answer event at reply ∷ xs) ys =
    let same : (count + 1) + length (endings xs) ≡ count + length (endings (Answer event at reply ∷ xs)) = omega arith in
    ap (λ (ns : List ℕ). (count + 1) ∷ ns) (claims-append (count + 1) xs ys ∙ ap (λ (n : ℕ). claims_in (count + 1) xs ++ claims_in n ys) same)
claims-append count (Adopted fault event at ∷ xs) ys =
    let same : (count + 1) + length (endings xs) ≡ count + length (endings (Adopted fault event at ∷ xs)) = omega arith in
    claims-append (count + 1) xs ys ∙ ap (λ (n : ℕ). claims_in (count + 1) xs ++ claims_in n ys) same
claims-append count (Fault faults pending ∷ xs) ys =
    let same : (count + 1) + length (endings xs) ≡ count + length (endings (Fault faults pending ∷ xs)) = omega arith in
    ap (λ (ns : List ℕ). (count + 1) ∷ ns) (claims-append (count + 1) xs ys ∙ ap (λ (n : ℕ). claims_in (count + 1) xs ++ claims_in n ys) same)

pub claims_entries : (count : ℕ) (entries : List Entry) → claims_in count (map Effect entries) ≡ []
claims_entries count [] = refl
claims_entries count (entry ∷ more) = claims_entries count more

claim_one : (count number : ℕ) (item : LogItem) → is_ending item ≡ true → number ≡ count + 1 → claims_in count (item ∷ []) ≡ claims_of item number
claim_one count number (Effect entry) is same = cc
claim_one count number (Answer event at reply) is same = ap (λ (n : ℕ). n ∷ []) (sym same)
claim_one count number (Adopted fault event at) is same = refl
claim_one count number (Fault faults pending) is same = ap (λ (n : ℕ). n ∷ []) (sym same)

pub one_more : (log : List LogItem) (item : LogItem) → is_ending item ≡ true → length (endings (log ++ item ∷ [])) ≡ length (endings log) + 1
one_more log (Effect entry) is = cc
one_more log (Answer event at reply) is = count-append log (Answer event at reply ∷ [])
one_more log (Adopted fault event at) is = count-append log (Adopted fault event at ∷ [])
one_more log (Fault faults pending) is = count-append log (Fault faults pending ∷ [])

-- each claim is above the count
above_count : (count : ℕ) (items : List LogItem) → All (λ n. count < n) (claims_in count items)
above_count count [] = All-nil (λ n. count < n)
above_count count (Effect entry ∷ more) = above_count count more
above_count count (Answer event at reply ∷ more) =
    All-cons (λ n. count < n) (count + 1) (claims_in (count + 1) more) (omega arith) (All-weaker (λ n. count + 1 < n) (λ n. count < n) (λ n low. omega arith) (claims_in (count + 1) more) (above_count (count + 1) more))
above_count count (Adopted fault event at ∷ more) =
    All-weaker (λ n. count + 1 < n) (λ n. count < n) (λ n low. omega arith) (claims_in (count + 1) more) (above_count (count + 1) more)
above_count count (Fault faults pending ∷ more) =
    All-cons (λ n. count < n) (count + 1) (claims_in (count + 1) more) (omega arith) (All-weaker (λ n. count + 1 < n) (λ n. count < n) (λ n low. omega arith) (claims_in (count + 1) more) (above_count (count + 1) more))

-- ---- the writer

pub nothing_published : NothingPublished
nothing_published board writer own none = record { own = own; later = []; log = sym (append-nil writer.log); claimed = none }

pub entries_published : EntriesPublished
entries_published board old new before entries table claimed log h =
    let count = length (endings before) in
    record {
      own = table ∙ h.own;
      later = h.later ++ map Effect entries;
      log = log ∙ ap (λ (l : List LogItem). l ++ map Effect entries) h.log ∙ append_assoc before h.later (map Effect entries);
      claimed =
          claimed ∙ h.claimed
          ∙ sym (claims-append count h.later (map Effect entries)
          ∙ ap (λ (ns : List ℕ). claims_in count h.later ++ ns) (claims_entries (count + length (endings h.later)) entries)
          ∙ append-nil (claims_in count h.later));
    }

pub ending_published : EndingPublished
ending_published board old new before item none is table log claimed h =
    let count = length (endings before) in
    let mid = count + length (endings h.later) in
    let number : length (endings new.log) ≡ mid + 1 =
    ap (λ (l : List LogItem). length (endings l)) log ∙ one_more old.log item is
    ∙ ap (λ (n : ℕ). n + 1) (ap (λ (l : List LogItem). length (endings l)) h.log ∙ count-append before h.later) in
    record {
      own = table ∙ h.own;
      later = h.later ++ item ∷ [];
      log = log ∙ ap (λ (l : List LogItem). l ++ item ∷ []) h.log ∙ append_assoc before h.later (item ∷ []);
      claimed =
          claimed
          ∙ sym (claims-append count h.later (item ∷ [])
          ∙ ap (λ (ns : List ℕ). ns ++ claims_in mid (item ∷ [])) (sym h.claimed ∙ none)
          ∙ claim_one mid (length (endings new.log)) item is number);
    }

-- ---- the pass

above_mine : (count : ℕ) (claims mine : List ℕ) → All (λ n. count < n) claims → All (λ n. n ≤ count) mine → AreAbove claims mine
above_mine count claims mine above low =
    All-weaker (λ n. count < n) (λ n. All (λ m. m < n) mine) (λ n higher. All-weaker (λ m. m ≤ count) (λ m. m < n) (λ m le. omega arith) mine low) claims above

pub may_meet : HeardMayMeet
may_meet board writer before pass heard h =
    let count = length (endings before) in
    above_mine count writer.claimed pass.mine (subst (All (λ n. count < n)) (sym h.claimed) (above_count count h.later)) heard.mine

-- the longer one of a list and one that it begins is the latter
longer_is : (xs ys rest : List LogItem) → ys ≡ xs ++ rest → longer xs ys ≡ ys
longer_is xs ys rest is = either (nat_lt (length xs) (length ys)) refl
  where
    none_left : nat_lt (length xs) (length ys) ≡ false → xs ≡ ys
    none_left not =
        let le = ltb-false (length xs) (length ys) not in
        let size : length ys ≡ length xs + length rest = ap length is ∙ length-append xs rest in
        empty rest (omega arith) is
      where
        empty : (rest : List LogItem) → length rest ≡ 0 → ys ≡ xs ++ rest → xs ≡ ys
        empty [] none same = sym (same ∙ append-nil xs)
        empty (item ∷ more) none same = absurd (omega arith)

    either : (b : Bool) → nat_lt (length xs) (length ys) ≡ b → longer xs ys ≡ ys
    either true lt = ap (λ (b : Bool). if b then ys else xs) lt
    either false lt = ap (λ (b : Bool). if b then ys else xs) lt ∙ none_left lt

pub heard_meets : HeardMeets
heard_meets board writer before old new heard h table seen mine polled are_endings = record {
  heard = heard;
  later = h.later;
  grows = h.log;
  table = table;
  seen = seen ∙ longer_is old.seen writer.log (heard.seen.0 ++ h.later) (h.log ∙ ap (λ (l : List LogItem). l ++ h.later) heard.seen.1 ∙ append_assoc old.seen heard.seen.0 h.later);
  mine = mine ∙ ap (λ (ns : List ℕ). old.mine ++ ns) h.claimed;
  polled = polled;
  endings = are_endings;
}
