use Rattle.std.proofs.Common.{ℕ, All, length, ap, sym, subst, ◌∙◌}
use Rattle.bank_model.specs.declared.setup.Setup.{Setup}
use Rattle.bank_shared.proofs.Numbers.{is_below, listed_in_both}
use Rattle.bank_shared.proofs.bank.Bank.numbers_of_both.Goals as goal

pub returns-clause-listed : goal.returns-clause-listed
returns-clause-listed g c entries listed =
    listed_in_both _ c.args.numbers.now c.args.more.now c.in_ok-all.all.items
    (subst (λ (n : ℕ). All (is_below n) c.args.numbers.now)
    (c.self.invariant.6 ∙ (ap (λ (s : Setup). length s.accounts) (sym c.self.invariant.0) ∙ sym (ap (λ l. length l) c.items-count.ensures))) c.requires.may.known)
    c.in_ok-all.ensures.both entries listed
