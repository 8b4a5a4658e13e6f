-- Reading items one after the other, as a loop does.
use Rattle.std.proofs.Common.{◌≡◌, ℕ, suc, ◌-◌, ◌+◌, ◌≤◌, ◌<◌, ◌||◌, Bool, List, [], ◌∷◌, ◌++◌, Result, Ok, Err, refl, sym, ap, ◌∙◌, append_assoc, arith}
use Rattle.std.proofs.lemmas.List.{append-nil}
use Rattle.ofx_types.specs.PrintedFile.{is_mail_ask}
use Rattle.ofx_types.specs.declared.transfer.Family.{Family}
use Rattle.ofx_types.specs.declared.transfer.Deed.{Deed}
use Rattle.ofx_types.specs.declared.request.Ask.{Ask}
use Rattle.record_fields.specs.declared.fault.RecordFault.{RecordFault}
use Rattle.record_fields.specs.declared.fault.RecordFault.TheVariants as faults
use Rattle.record_fields.specs.FieldReading.{◌>>=◌}
use Rattle.event_codec.specs.AskReading.{pair_at, pairs_from, ask_at, asks_from}
use Rattle.record_fields.specs.Answers.{Fails}

-- what was read before, and what is still read
abbrev pub with_prefix : {A : Type 0} → List A → Result (List A × ℕ) ℕ → Result (List A × ℕ) ℕ
with_prefix prefix read = read >>= λ x. Ok (prefix ++ x.0, x.1)

pub regroup : {A : Type 0} (prefix : List A) (x : A) (read : Result (List A × ℕ) ℕ) → with_prefix prefix (read >>= λ y. Ok (x ∷ y.0, y.1)) ≡ with_prefix (prefix ++ x ∷ []) read
regroup prefix x (Ok y) = ap (λ xs. Ok (xs, y.1)) (simp append_assoc)
regroup prefix x (Err offset) = refl

-- ---- deeds of a synchronisation

pub pairs_go_on : (prefix : List (List ℕ × Deed)) (count i : ℕ) (family : Family) (rec : List ℕ) (at : ℕ) (pair : List ℕ × Deed) (next : ℕ) (total : Result (List (List ℕ × Deed) × ℕ) ℕ)
    → i < count → pair_at family rec at ≡ Ok (pair, next)
    → with_prefix prefix (pairs_from (count - i) family rec at) ≡ total → with_prefix (prefix ++ pair ∷ []) (pairs_from (count - (i + 1)) family rec next) ≡ total
unfolding pairs_from
pairs_go_on prefix count i family rec at pair next total lt h so_far =
    let k : count - i ≡ suc (count - (i + 1)) = omega arith in
    let one : with_prefix prefix (pairs_from (count - i) family rec at) ≡ with_prefix (prefix ++ pair ∷ []) (pairs_from (count - (i + 1)) family rec next) = rw (k, h) (regroup prefix pair (pairs_from (count - (i + 1)) family rec next)) in
    sym one ∙ so_far

pub pairs_end : (fault : RecordFault) (prefix : List (List ℕ × Deed)) (count i : ℕ) (family : Family) (rec : List ℕ) (at : ℕ) (total : Result (List (List ℕ × Deed) × ℕ) ℕ)
    → i < count → Fails fault (pair_at family rec at) → with_prefix prefix (pairs_from (count - i) family rec at) ≡ total → Fails fault total
unfolding pairs_from
pairs_end (faults.Version n) prefix count i family rec at total lt h so_far = h
pairs_end faults.OutOfMemory prefix count i family rec at total lt h so_far = tt
pairs_end (faults.Bad offset) prefix count i family rec at total lt h so_far =
    let k : count - i ≡ suc (count - (i + 1)) = omega arith in
    let one : with_prefix prefix (pairs_from (count - i) family rec at) ≡ Err offset = rw (k, h) refl in
    sym so_far ∙ one

pub pairs_done : (prefix : List (List ℕ × Deed)) (count i : ℕ) (family : Family) (rec : List ℕ) (at : ℕ) (total : Result (List (List ℕ × Deed) × ℕ) ℕ)
    → count ≤ i → with_prefix prefix (pairs_from (count - i) family rec at) ≡ total → total ≡ Ok (prefix, at)
unfolding pairs_from
pairs_done prefix count i family rec at total le so_far =
    let k : count - i ≡ 0 = omega arith in
    let one : with_prefix prefix (pairs_from (count - i) family rec at) ≡ Ok (prefix, at) = rw k (ap (λ xs. Ok (xs, at)) (append-nil prefix)) in
    sym so_far ∙ one

-- ---- asks

pub asks_go_on : (prefix : List Ask) (count i : ℕ) (mail : Bool) (rec : List ℕ) (at : ℕ) (ask : Ask) (next : ℕ) (total : Result (List Ask × ℕ) ℕ)
    → i < count → ask_at mail rec at ≡ Ok (ask, next)
    → with_prefix prefix (asks_from (count - i) mail rec at) ≡ total
    → with_prefix (prefix ++ ask ∷ []) (asks_from (count - (i + 1)) (mail || is_mail_ask ask) rec next) ≡ total
unfolding asks_from
asks_go_on prefix count i mail rec at ask next total lt h so_far =
    let k : count - i ≡ suc (count - (i + 1)) = omega arith in
    let one : with_prefix prefix (asks_from (count - i) mail rec at) ≡ with_prefix (prefix ++ ask ∷ []) (asks_from (count - (i + 1)) (mail || is_mail_ask ask) rec next) = rw (k, h) (regroup prefix ask (asks_from (count - (i + 1)) (mail || is_mail_ask ask) rec next)) in
    sym one ∙ so_far

pub asks_end : (fault : RecordFault) (prefix : List Ask) (count i : ℕ) (mail : Bool) (rec : List ℕ) (at : ℕ) (total : Result (List Ask × ℕ) ℕ)
    → i < count → Fails fault (ask_at mail rec at) → with_prefix prefix (asks_from (count - i) mail rec at) ≡ total → Fails fault total
unfolding asks_from
asks_end (faults.Version n) prefix count i mail rec at total lt h so_far = h
asks_end faults.OutOfMemory prefix count i mail rec at total lt h so_far = tt
asks_end (faults.Bad offset) prefix count i mail rec at total lt h so_far =
    let k : count - i ≡ suc (count - (i + 1)) = omega arith in
    let one : with_prefix prefix (asks_from (count - i) mail rec at) ≡ Err offset = rw (k, h) refl in
    sym so_far ∙ one

pub asks_done : (prefix : List Ask) (count i : ℕ) (mail : Bool) (rec : List ℕ) (at : ℕ) (total : Result (List Ask × ℕ) ℕ)
    → count ≤ i → with_prefix prefix (asks_from (count - i) mail rec at) ≡ total → total ≡ Ok (prefix, at)
unfolding asks_from
asks_done prefix count i mail rec at total le so_far =
    let k : count - i ≡ 0 = omega arith in
    let one : with_prefix prefix (asks_from (count - i) mail rec at) ≡ Ok (prefix, at) = rw k (ap (λ xs. Ok (xs, at)) (append-nil prefix)) in
    sym so_far ∙ one
