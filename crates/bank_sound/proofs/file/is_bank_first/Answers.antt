use Rattle.std.proofs.Common.{refl, sym, ap, ◌∙◌}
use Rattle.std.specs.List.{list_all}
use Rattle.ofx_types.specs.PrintedFile.{is_mail_ask}
use Rattle.bank_sound.proofs.BankFirst.{all_after, found_last, none_last}
use Rattle.bank_sound.proofs.file.is_bank_first.Goals as goal

pub returns-in-Some : goal.returns-in-Some
returns-in-Some c =
    let both = found_last is_mail_ask c.args.asks.now c.in-Some.at c.first_mail.result c.first_mail.ensures c.in-Some.is in
    let all = c.are_mail.ensures ∙ ap (list_all is_mail_ask) (all_after c.args.asks.now c.in-Some.at) in
    ((λ here. both.0 (sym all ∙ here)), (λ last. all ∙ both.1 last))

pub returns-in-None : goal.returns-in-None
returns-in-None c = ((λ is. none_last is_mail_ask c.args.asks.now c.first_mail.result c.first_mail.ensures c.in-None.is), λ last. refl)
