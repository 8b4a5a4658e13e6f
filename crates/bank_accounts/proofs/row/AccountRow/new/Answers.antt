use Rattle.std.proofs.Common.{◌≡◌, ℕ, List, length, replicate, sym, ap, ◌∙◌, subst, rules, arith}
use Rattle.atomic_table.specs.Table.{opening}
use Rattle.bank_accounts.specs.AccountView.{AccountView}
use Rattle.bank_accounts.specs.Row.{AreHomeOrOut}
use Rattle.bank_accounts.specs.Sides.{tables_of}
use Rattle.bank_accounts.proofs.Turns.{starts}
use Rattle.bank_accounts.proofs.row.AccountRow.new.Goals as goal

pub new-requires : goal.new-requires
new-requires c =
    let accounts : List AccountView = c.args.accounts.items in
    let made : c.of-made_with.result.value.items ≡ accounts = λ i. (c.of-made_with.ensures i).items in
    let count : c.len.result ≡ length accounts = first_of (omega arith, search rules, cc) in
    let laid : c.in_ok-words.words.items ≡ replicate c.len.result 0 = c.in_ok-words.ensures.items_if_clones_equal (λ y same. cc) in
    let shown : c.as_slice.result.now ≡ c.in_ok-words.words.items = first_of (cc, search rules) in
    let zeros : c.as_slice.result.now ≡ replicate (length accounts) 0 = shown ∙ laid ∙ ap (λ (n : ℕ). replicate n 0) count in
    subst (λ (items : List AccountView). AreHomeOrOut (tables_of items) (opening c.as_slice.result.now c.in_ok-slots.slots.items c.of-made_with.result)) (sym made)
    (starts accounts c.as_slice.result.now c.in_ok-slots.slots.items c.of-made_with.result c.requires zeros c.in_ok-slots.ensures)
