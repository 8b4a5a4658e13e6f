use Rattle.std.proofs.Common.{◌≡◌, ◌∙◌, Some, refl, sym, ap, subst}
use Rattle.bank_model.specs.declared.setup.Setup.{Setup}
use Rattle.bank_model.specs.Objects.{object_named}
use Rattle.token_board.specs.Steps.{load_of}
use Rattle.token_board.specs.Tokens.{IsFreshIn}
use Rattle.token_board.specs.Views.{BoardView}
use Rattle.bank_callers.specs.Polled.{object_asked}
use Rattle.bank_shared.proofs.Asked.{one_load}
use Rattle.bank_shared.proofs.bank.Bank.token_asked.Goals as goal

pub returns-in-Some-clause-load : goal.returns-in-Some-clause-load
returns-in-Some-clause-load g c =
    let load = load_of c.in-Some.object c.newest.result in
    let found : object_named g.N.BankName.setup c.args.user c.in-Sync.ask.object ≡ Some c.in-Some.object =
    ap (λ (s : Setup). object_named s c.args.user c.in-Sync.ask.object) (sym c.self.invariant.0) ∙ (sym c.object.ensures ∙ c.in-Some.is) in (
      Some load,
      sym (ap (object_asked g.N.BankName.setup c.args.user) c.in-Sync.is ∙ found),
      refl,
      one_load g.N.BankName.setup g.N.BankName.opening g.N.BankName.board c.args.user c.in-Sync.ask.object c.in-Some.object c.newest.result c.args.pass.now c.newest.new.pass
          c.tokens_are_the_banks.ensures.counted c.tokens_are_the_banks.ensures.fresh c.self.invariant.4 c.requires.known found c.newest.ensures.polled
          (subst (λ (b : BoardView). IsFreshIn b.start c.args.pass.now.seen load) c.self.invariant.1 c.newest.ensures.fresh),
    )
