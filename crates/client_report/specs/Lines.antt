-- The lines that a client prints, each without its LF. Words are parted by one space.
use Rattle.std.specs.Prelude.{ℕ, Bool, List, ◌∷◌, ◌++◌, length, codes, Option, None, Some, if◌then◌else◌}
use Rattle.std.specs.Fmt.{decimal}
use Rattle.ofx_types.specs.AccountForm.{kind_word}
use Rattle.ofx_types.specs.AmountForm.{amount_text}
use Rattle.ofx_types.specs.declared.account.AcctName.{AcctName}
use Rattle.ofx_types.specs.declared.reply.StatementBody.{StatementBody}
use Rattle.ofx_types.specs.declared.sync.ObjectName.{ObjectName}
use Rattle.ofx_types.specs.declared.sync.ObjectName.TheVariants.{Intra, RecIntra, BankMail, Mail}
use Rattle.bank_model.specs.Stores.{Store}

-- the number and the kind of an account
unfoldable pub account_words : AcctName → List ℕ
account_words account = account.number ++ 32 ∷ kind_word account.kind

-- what is synchronised, and the account that it is about
unfoldable pub object_words : ObjectName → List ℕ
object_words (Intra account) = codes "intra " ++ account_words account
object_words (RecIntra account) = codes "recintra " ++ account_words account
object_words (BankMail account) = codes "bankmail " ++ account_words account
object_words Mail = codes "mail"

abbrev pub flag_word : Bool → List ℕ
flag_word flag = if flag then codes "Y" else codes "N"

-- `balance NUMBER KIND AMOUNT` tells the ledger balance of a statement, `balance NUMBER KIND error CODE` why there is none.
abbrev pub balance_words : ℕ → Option StatementBody → List ℕ
balance_words code None = codes "error " ++ decimal code
balance_words code (Some body) = amount_text body.ledger.0

unfoldable pub balance_text : AcctName → ℕ → Option StatementBody → List ℕ
balance_text account code body = codes "balance " ++ (account_words account ++ 32 ∷ balance_words code body)

-- `done TRNUID CODE` tells the code of a deed.
unfoldable pub done_text : List ℕ → ℕ → List ℕ
done_text trnuid code = codes "done " ++ (trnuid ++ 32 ∷ decimal code)

-- `OBJ token T lost N rows R` tells of a store its token, whether it is marked lost, and how many rows it has.
unfoldable pub store_text : Store → List ℕ
store_text store = object_words store.name
    ++ (codes " token " ++ (decimal store.token
    ++ (codes " lost " ++ (flag_word store.is_lost ++ (codes " rows " ++ decimal (length store.rows))))))

-- `newest OBJ T` tells the newest token of an object.
unfoldable pub newest_text : ObjectName → ℕ → List ℕ
newest_text object token = codes "newest " ++ (object_words object ++ 32 ∷ decimal token)
