-- Replies to polls may be printed.
use Rattle.std.proofs.Common.{◌≡◌, ℕ, List, [], ◌∷◌, ◌++◌, Option, None, Some, sym, subst}
use Rattle.std.specs.List.{AllByRecursion}
use Rattle.ofx_types.specs.Printable.{IsPrintableReply, HasChangeByCode}
use Rattle.ofx_types.specs.declared.transfer.DeedReply.{DeedReply}
use Rattle.ofx_types.specs.declared.sync.SyncAsk.{SyncAsk}
use Rattle.ofx_types.specs.declared.request.Ask.{Ask}
use Rattle.ofx_types.specs.declared.request.Ask.TheVariants as asks
use Rattle.ofx_types.specs.declared.reply.AskReply.{AskReply}
use Rattle.bank_model.specs.Polls.{reported_token}
use Rattle.bank_model.proofs.Lists.{all_append}
use Rattle.token_board.specs.declared.view.Load.{Load}
use Rattle.bank_callers.specs.Polled.{answer_with, answer_told, answers_reported}

abbrev MayBePrinted : DeedReply → Type 0
MayBePrinted reply = HasChangeByCode reply.code reply.change

token_printable : (ask : SyncAsk) (token : Option ℕ) → AllByRecursion MayBePrinted (reported_token ask token).replies
token_printable ask None = tt
token_printable ask (Some token) = tt

one_printable : (ask : Ask) (token : Option ℕ) → AllByRecursion IsPrintableReply (answer_with ask token)
one_printable (asks.Statement trnuid name period) token = tt
one_printable (asks.One trnuid deed) token = tt
one_printable (asks.Sync ask) token = (token_printable ask token, tt)

pub answers_printable : (all : List Ask) (loads : List (Option Load)) → AllByRecursion IsPrintableReply (answers_reported all loads)
answers_printable [] loads = tt
answers_printable (ask ∷ more) [] = tt
answers_printable (ask ∷ more) (load ∷ loads) =
    all_append IsPrintableReply (answer_told ask load) (answers_reported more loads) (one_printable ask _) (answers_printable more loads)

pub all_printable : (all : List Ask) (loads : List (Option Load)) (replies : List AskReply) → replies ≡ answers_reported all loads → AllByRecursion IsPrintableReply replies
all_printable all loads replies is = subst (AllByRecursion IsPrintableReply) (sym is) (answers_printable all loads)
