-- Lines are texts as they are: each begins and ends with a byte that isn't white space.
use Rattle.std.proofs.Common.{◌≡◌, ℕ, ℤ, ◌+◌, ◌%◌, ◌/◌, ◌^◌, ◌<◌, false, cond, List, [], ◌∷◌, ◌++◌, length, reverse, codes, Option, None, Some, refl, sym, ap, ◌∙◌, append_assoc, arith}
use Rattle.std.specs.Fmt.{decimal}
use Rattle.std.specs.Int.{is_negative}
use Rattle.std.specs.Prelude.{unsigned_abs}
use Rattle.ofx_types.specs.Digits.{two_digits}
use Rattle.std.proofs.lemmas.Fmt.{decimal_by_steps}
use Rattle.std.proofs.lemmas.Grind.{common_steps}
use Rattle.std.proofs.lemmas.List.{reverse-append, reverse-reverse}
use Rattle.ofx_types.specs.TextRules.{is_white, trim_start, trim_end, trimmed}
use Rattle.ofx_types.specs.AmountForm.{amount_text}
use Rattle.ofx_types.specs.declared.account.AcctName.{AcctName}
use Rattle.ofx_types.specs.declared.reply.StatementBody.{StatementBody}
use Rattle.ofx_types.specs.declared.sync.ObjectName.{ObjectName}
use Rattle.ofx_types.specs.declared.sync.ObjectName.TheVariants.{Intra, RecIntra, BankMail, Mail}
use Rattle.bank_model.specs.Stores.{Store}
use Rattle.client_report.specs.Lines.{account_words, object_words, balance_words, flag_word, balance_text, done_text, store_text, newest_text}

-- the first byte isn't white space
pub record Begins (text : List ℕ) : Type 0 where
  pub first : ℕ
  pub rest : List ℕ
  pub parts : text ≡ first ∷ rest
  pub is_visible : is_white first ≡ false

-- the last byte isn't white space
pub record Ends (text : List ℕ) : Type 0 where
  pub prefix : List ℕ
  pub last : ℕ
  pub parts : text ≡ prefix ++ last ∷ []
  pub is_visible : is_white last ≡ false

pub begins_append : (xs ys : List ℕ) → Begins xs → Begins (xs ++ ys)
begins_append xs ys b = record {
  first = b.first;
  rest = b.rest ++ ys;
  parts = ap (λ (l : List ℕ). l ++ ys) b.parts;
  is_visible = b.is_visible;
}

pub ends_append : (xs ys : List ℕ) → Ends ys → Ends (xs ++ ys)
ends_append xs ys e = record {
  prefix = xs ++ e.prefix;
  last = e.last;
  parts = ap (λ (l : List ℕ). xs ++ l) e.parts ∙ sym (append_assoc xs e.prefix (e.last ∷ []));
  is_visible = e.is_visible;
}

start_kept : (b : ℕ) (rest : List ℕ) → is_white b ≡ false → trim_start (b ∷ rest) ≡ b ∷ rest
start_kept b rest visible = ap (λ w. cond w (trim_start rest) (b ∷ rest)) visible

begins_kept : (text : List ℕ) → Begins text → trim_start text ≡ text
begins_kept text b = ap trim_start b.parts ∙ start_kept b.first b.rest b.is_visible ∙ sym b.parts

reversed : (text : List ℕ) (e : Ends text) → reverse text ≡ e.last ∷ reverse e.prefix
reversed text e = ap reverse e.parts ∙ reverse-append e.prefix (e.last ∷ [])

ends_kept : (text : List ℕ) → Ends text → trim_end text ≡ text
ends_kept text e =
    let back = begins_kept (reverse text) (record { first = e.last; rest = reverse e.prefix; parts = reversed text e; is_visible = e.is_visible }) in
    ap reverse back ∙ reverse-reverse text

pub trimmed_between : (text : List ℕ) → Begins text → Ends text → trimmed text ≡ text
trimmed_between text b e = ap trim_end (begins_kept text b) ∙ ends_kept text e

-- ---- digits

digit_visible : (d : ℕ) → d < 10 → is_white (48 + d) ≡ false
digit_visible d less = grind (arith, common_steps)

digit_ends : (prefix : List ℕ) (d : ℕ) → d < 10 → Ends (prefix ++ (48 + d) ∷ [])
digit_ends prefix d less = record { prefix = prefix; last = 48 + d; parts = refl; is_visible = digit_visible d less }

pub decimal_ends : (n : ℕ) → n < 2 ^ 64 → Ends (decimal n)
decimal_ends = decimal_by_steps (λ n ds. Ends ds)
    (λ n h. digit_ends [] n h)
    (λ n ds h p. digit_ends ds (n % 10) (omega arith))

-- ---- lines

object_begins : (object : ObjectName) → Begins (object_words object)
unfolding object_words
object_begins (Intra account) = record { first = 105; rest = codes "ntra " ++ account_words account; parts = refl; is_visible = refl }
object_begins (RecIntra account) = record { first = 114; rest = codes "ecintra " ++ account_words account; parts = refl; is_visible = refl }
object_begins (BankMail account) = record { first = 98; rest = codes "ankmail " ++ account_words account; parts = refl; is_visible = refl }
object_begins Mail = record { first = 109; rest = codes "ail"; parts = refl; is_visible = refl }

pub store_trimmed : (store : Store) → length store.rows < 2 ^ 64 → trimmed (store_text store) ≡ store_text store
unfolding store_text
store_trimmed store few =
    let rows = decimal_ends (length store.rows) few in
    let rest = codes " lost " ++ (flag_word store.is_lost ++ (codes " rows " ++ decimal (length store.rows))) in
    trimmed_between (store_text store)
    (begins_append (object_words store.name) (codes " token " ++ (decimal store.token ++ rest)) (object_begins store.name))
    (ends_append (object_words store.name) (codes " token " ++ (decimal store.token ++ rest))
    (ends_append (codes " token ") (decimal store.token ++ rest)
    (ends_append (decimal store.token) rest
    (ends_append (codes " lost ") (flag_word store.is_lost ++ (codes " rows " ++ decimal (length store.rows)))
    (ends_append (flag_word store.is_lost) (codes " rows " ++ decimal (length store.rows))
    (ends_append (codes " rows ") (decimal (length store.rows)) rows))))))

pub done_trimmed : (trnuid : List ℕ) (code : ℕ) → code < 2 ^ 64 → trimmed (done_text trnuid code) ≡ done_text trnuid code
unfolding done_text
done_trimmed trnuid code less =
    trimmed_between (done_text trnuid code)
    (record { first = 100; rest = codes "one " ++ (trnuid ++ 32 ∷ decimal code); parts = refl; is_visible = refl })
    (ends_append (codes "done ") (trnuid ++ 32 ∷ decimal code)
    (ends_append trnuid (32 ∷ decimal code) (ends_append (32 ∷ []) (decimal code) (decimal_ends code less))))

pub newest_trimmed : (object : ObjectName) (token : ℕ) → token < 2 ^ 64 → trimmed (newest_text object token) ≡ newest_text object token
unfolding newest_text
newest_trimmed object token less =
    trimmed_between (newest_text object token)
    (record { first = 110; rest = codes "ewest " ++ (object_words object ++ 32 ∷ decimal token); parts = refl; is_visible = refl })
    (ends_append (codes "newest ") (object_words object ++ 32 ∷ decimal token)
    (ends_append (object_words object) (32 ∷ decimal token) (ends_append (32 ∷ []) (decimal token) (decimal_ends token less))))

amount_ends : (c : ℤ) → Ends (amount_text c)
unfolding amount_text
amount_ends c =
    let cents : ℕ = unsigned_abs c % 100 in
    let sign : List ℕ = cond (is_negative c) (45 ∷ []) [] in
    let dollars : List ℕ = decimal (unsigned_abs c / 100) in
    ends_append sign (dollars ++ 46 ∷ two_digits cents)
    (ends_append dollars (46 ∷ two_digits cents) (digit_ends (46 ∷ (48 + cents / 10) ∷ []) (cents % 10) (omega arith)))

words_end : (code : ℕ) (body : Option StatementBody) → code < 2 ^ 64 → Ends (balance_words code body)
words_end code None less = ends_append (codes "error ") (decimal code) (decimal_ends code less)
words_end code (Some body) less = amount_ends body.ledger.0

pub balance_trimmed : (account : AcctName) (code : ℕ) (body : Option StatementBody) → code < 2 ^ 64
    → trimmed (balance_text account code body) ≡ balance_text account code body
unfolding balance_text
balance_trimmed account code body less =
    trimmed_between (balance_text account code body)
    (record { first = 98; rest = codes "alance " ++ (account_words account ++ 32 ∷ balance_words code body); parts = refl; is_visible = refl })
    (ends_append (codes "balance ") (account_words account ++ 32 ∷ balance_words code body)
    (ends_append (account_words account) (32 ∷ balance_words code body)
    (ends_append (32 ∷ []) (balance_words code body) (words_end code body less))))
