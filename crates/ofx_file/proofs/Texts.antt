-- The printed form of a file, message set by message set.
use Rattle.std.proofs.Common.{◌≡◌, ℕ, ◌<◌, Bool, true, false, cond, ◌||◌, filter, List, [], ◌∷◌, ◌++◌, length, codes, None, refl, sym, ap, arith}
use Rattle.std.proofs.lemmas.List.{append-nil}
use Rattle.std.specs.List.{flat_map, list_any}
use Rattle.ofx_types.specs.Sheet.{aggregate, aggregate_of_some, header_text}
use Rattle.ofx_types.specs.RequestText.{signon_request, statement_request}
use Rattle.ofx_types.specs.DeedText.{deed_text, deed_reply_text}
use Rattle.ofx_types.specs.PrintedSync.{sync_text, sync_reply_text}
use Rattle.ofx_types.specs.PrintedFile.{ask_text, file_text}
use Rattle.ofx_types.specs.ReplyForm.{signon_reply, ask_reply, reply_text}
use Rattle.ofx_types.specs.declared.number.Moment.{Moment}
use Rattle.ofx_types.specs.declared.request.Ask.{Ask}
use Rattle.ofx_types.specs.declared.request.Ask.TheVariants as asks
use Rattle.ofx_types.specs.declared.request.RequestFile.{RequestFile}
use Rattle.ofx_types.specs.declared.reply.AskReply.{AskReply}
use Rattle.ofx_types.specs.declared.reply.AskReply.TheVariants as replies
use Rattle.ofx_types.specs.declared.reply.ReplyFile.{ReplyFile}
use Rattle.ofx_types.proofs.Bytes.{not_zero}
use Rattle.ofx_file.specs.declared.messages.MessageSet.{MessageSet}
use Rattle.ofx_file.specs.declared.messages.MessageSet.TheVariants.{Bank, Mail}
use Rattle.ofx_file.specs.MessageSets.{request_set, is_ask_in, has_ask, text_in, reply_set, is_reply_in, has_answer, answer_text_in}
use Rattle.ofx_file.specs.FileParts.{request_body, reply_body}

-- ---- texts of those that pass a test

-- what is written of those that pass, one after the other
pub passing : {X : Type 0} (passes : X → Bool) (text_of : X → List ℕ) (xs : List X) →
    flat_map (λ (x : X). cond (passes x) (text_of x) []) xs ≡ flat_map text_of (filter passes xs)
passing passes text_of [] = refl
passing {X = X} passes text_of (x ∷ xs) = tested (passing passes text_of xs) (passes x)
  where
    tested : (flat_map (λ (other : X). cond (passes other) (text_of other) []) xs ≡ flat_map text_of (filter passes xs)) → (b : Bool) → cond b (text_of x) [] ++ flat_map (λ (other : X). cond (passes other) (text_of other) []) xs ≡ flat_map text_of (cond b (x ∷ filter passes xs) (filter passes xs))
    tested more true = ap (λ (suffix : List ℕ). text_of x ++ suffix) more
    tested more false = more

-- where one passes something is written
some_passes : {X : Type 0} (passes : X → Bool) (text_of : X → List ℕ) → ((x : X) (rest : List ℕ) → 0 < length (text_of x ++ rest)) → (xs : List X) →
    list_any passes xs ≡ true → 0 < length (flat_map (λ (x : X). cond (passes x) (text_of x) []) xs)
some_passes passes text_of there [] h = cc
some_passes {X = X} passes text_of there (x ∷ xs) h = tested (λ e. some_passes passes text_of there xs e) (passes x) h
  where
    tested : (list_any passes xs ≡ true → 0 < length (flat_map (λ (other : X). cond (passes other) (text_of other) []) xs)) → (b : Bool) → (b || list_any passes xs) ≡ true →
        0 < length (cond b (text_of x) [] ++ flat_map (λ (other : X). cond (passes other) (text_of other) []) xs)
    tested more true e = there x (flat_map (λ (other : X). cond (passes other) (text_of other) []) xs)
    tested more false e = more e

-- and where none passes nothing is
none_passes : {X : Type 0} (passes : X → Bool) (text_of : X → List ℕ) (xs : List X) → list_any passes xs ≡ false →
    flat_map (λ (x : X). cond (passes x) (text_of x) []) xs ≡ []
none_passes passes text_of [] h = refl
none_passes {X = X} passes text_of (x ∷ xs) h = tested (λ e. none_passes passes text_of xs e) (passes x) h
  where
    tested : (list_any passes xs ≡ false → flat_map (λ (other : X). cond (passes other) (text_of other) []) xs ≡ []) → (b : Bool) → (b || list_any passes xs) ≡ false → cond b (text_of x) [] ++ flat_map (λ (other : X). cond (passes other) (text_of other) []) xs ≡ []
    tested more true e = cc
    tested more false e = more e

-- ---- message sets

pub some_set : (name inner : List ℕ) → 0 < length inner → aggregate_of_some name inner ≡ aggregate name inner
unfolding aggregate_of_some
some_set name inner h = rw (not_zero (length inner) h) refl

no_set : (out name inner : List ℕ) → inner ≡ [] → out ≡ out ++ aggregate_of_some name inner
unfolding aggregate_of_some
no_set out name inner h = rw h (sym (append-nil out))

pub ask_is_there : (ask : Ask) (rest : List ℕ) → 0 < length (ask_text ask ++ rest)
unfolding ask_text statement_request deed_text sync_text aggregate
ask_is_there (asks.Statement trnuid account period) rest = omega arith
ask_is_there (asks.One trnuid deed) rest = omega arith
ask_is_there (asks.Sync ask) rest = omega arith

pub ask_set_written : (set : MessageSet) (all : List Ask) → has_ask set all ≡ true →
    aggregate_of_some (request_set set) (flat_map (text_in set) all) ≡ aggregate (request_set set) (flat_map (text_in set) all)
ask_set_written set all h = some_set (request_set set) (flat_map (text_in set) all) (some_passes (is_ask_in set) ask_text ask_is_there all h)

pub no_ask_set : (out : List ℕ) (set : MessageSet) (all : List Ask) → has_ask set all ≡ false →
    out ≡ out ++ aggregate_of_some (request_set set) (flat_map (text_in set) all)
no_ask_set out set all h = no_set out (request_set set) (flat_map (text_in set) all) (none_passes (is_ask_in set) ask_text all h)

pub answer_is_there : (answer : AskReply) (rest : List ℕ) → 0 < length (ask_reply answer ++ rest)
unfolding ask_reply deed_reply_text sync_reply_text aggregate
answer_is_there (replies.Statement trnuid code body) rest = omega arith
answer_is_there (replies.One answer) rest = omega arith
answer_is_there (replies.Sync answer) rest = omega arith

pub answer_set_written : (set : MessageSet) (all : List AskReply) → has_answer set all ≡ true →
    aggregate_of_some (reply_set set) (flat_map (answer_text_in set) all) ≡ aggregate (reply_set set) (flat_map (answer_text_in set) all)
answer_set_written set all h = some_set (reply_set set) (flat_map (answer_text_in set) all) (some_passes (is_reply_in set) ask_reply answer_is_there all h)

pub no_answer_set : (out : List ℕ) (set : MessageSet) (all : List AskReply) → has_answer set all ≡ false →
    out ≡ out ++ aggregate_of_some (reply_set set) (flat_map (answer_text_in set) all)
no_answer_set out set all h = no_set out (reply_set set) (flat_map (answer_text_in set) all) (none_passes (is_reply_in set) ask_reply all h)

-- ---- whole files

body_of : (signon bank bank_again mail mail_again : List ℕ) → bank ≡ bank_again → mail ≡ mail_again → (first second : List ℕ) →
    aggregate (codes "OFX") (signon ++ (aggregate_of_some first bank ++ aggregate_of_some second mail))
    ≡ aggregate (codes "OFX") (signon ++ (aggregate_of_some first bank_again ++ aggregate_of_some second mail_again))
body_of signon bank bank_again mail mail_again same also first second = rw (same, also) refl

pub file_text_is : (file : RequestFile) (at : Moment) → file_text file at ≡ header_text file.version file.older file.newer ++ request_body file at
unfolding file_text
file_text_is file at =
    ap (λ (body : List ℕ). header_text file.version file.older file.newer ++ body)
    (body_of (aggregate (codes "SIGNONMSGSRQV1") (signon_request file.user file.pass at)) _ _ _ _
    (sym (passing (is_ask_in Bank) ask_text file.asks)) (sym (passing (is_ask_in Mail) ask_text file.asks)) (codes "BANKMSGSRQV1") (codes "EMAILMSGSRQV1"))

pub reply_text_is : (reply : ReplyFile) → reply_text reply ≡ header_text reply.version None reply.newer ++ reply_body reply
unfolding reply_text
reply_text_is reply =
    ap (λ (body : List ℕ). header_text reply.version None reply.newer ++ body)
    (body_of (aggregate (codes "SIGNONMSGSRSV1") (signon_reply reply.signon reply.moment)) _ _ _ _
    (sym (passing (is_reply_in Bank) ask_reply reply.replies)) (sym (passing (is_reply_in Mail) ask_reply reply.replies)) (codes "BANKMSGSRSV1") (codes "EMAILMSGSRSV1"))
