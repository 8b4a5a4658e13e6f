use Rattle.std.proofs.Common.{◌∙◌, ap, Some, ◌∷◌, List, ℕ, Option, arith}
use Rattle.std.proofs.lemmas.Option.{slice_get_within}
use Rattle.atomic_table.specs.Table.{rest}
use Rattle.bank_accounts.specs.AccountView.{AccountView}
use Rattle.bank_accounts.specs.Sides.{tables_of}
use Rattle.bank_accounts.proofs.Sides.{holding}
use Rattle.bank_accounts.proofs.Turns.{gives_back}
use Rattle.bank_accounts.proofs.row_steps.put_back.Goals as goal

pub store-requires : goal.store-requires
store-requires c =
    let given = c.exchange.ensures in
    let account = c.args.account in
    let back = holding given.3 ∙ ap (λ (held : List (ℕ × Option AccountView)). (c.args.number, Some account) ∷ rest held) c.requires.seat.1 in
    let within = slice_get_within (tables_of c.args.table.now.key.value.items) account.number.0 account.table c.requires.account.1 in (
      given.0 ∙ c.requires.seat.0,
      omega (arith, within, c.requires.account.0, c.requires.row.word_count),
      gives_back _ _ _ _ account _ back c.requires.account.0 c.requires.account.1,
    )
