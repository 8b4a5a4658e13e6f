-- Lists of asks that may be kept.
use Rattle.std.specs.Prelude.{◌≡◌, ◌≤◌, not, List, ◌++◌, filter, length}
use Rattle.std.specs.List.{AllByRecursion}
use Rattle.ofx_types.specs.PrintedFile.{is_mail_ask}
use Rattle.ofx_types.specs.declared.request.Ask.{Ask}
use Rattle.bank_model.specs.Sound.{IsSoundAsk}

-- The asks of a file: all of them are within their bounds, and what the bank is asked comes before mail.
pub record AreAsks (asks : List Ask) : Type 0 where
  pub few : length asks ≤ 65535
  pub bank_first : asks ≡ filter (λ (ask : Ask). not (is_mail_ask ask)) asks ++ filter is_mail_ask asks
  pub sound : AllByRecursion IsSoundAsk asks
