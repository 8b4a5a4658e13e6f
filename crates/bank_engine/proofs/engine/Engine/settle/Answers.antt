use Rattle.std.proofs.Common.{◌≡◌, List, Some, sym, ◌∙◌, subst}
use Rattle.std.specs.Option.{IfSome}
use Rattle.bank_model.specs.Rules.{named}
use Rattle.bank_accounts.specs.AccountView.{AccountView}
use Rattle.bank_accounts.specs.HeldAccounts.{AreHeld}
use Rattle.bank_engine.specs.Steps.{Expects}
use Rattle.bank_engine.specs.Views.{EngineView, PendingView}
use Rattle.bank_engine.proofs.EngineLemmas.{names_held, expected_held}
use Rattle.bank_engine.proofs.engine.Engine.settle.Goals as goal

pub adopt-requires-clause-named : goal.adopt-requires-clause-named
adopt-requires-clause-named g c =
    let some : c.self.inside.pending ≡ Some c.in-Some.pending = cc in
    names_held c.self.inside.book.setup c.self.inside.book.state c.meet.new.held c.self.inside.pending c.in-Some.pending some
    (subst (λ (v : EngineView). IfSome v.pending (λ (p : PendingView). AreHeld c.meet.new.held (named v.setup v.state p.event))) (sym (c.self.view_is ∙ c.meet.ensures.same))
    (subst (λ (held : List AccountView). IfSome c.args.self.now.pending (λ (p : PendingView). AreHeld held (named c.args.self.now.setup c.args.self.now.state p.event))) (sym c.meet.ensures.accounts) c.requires.named))

pub adopt-requires-clause-expected : goal.adopt-requires-clause-expected
adopt-requires-clause-expected g c =
    let some : c.self.inside.pending ≡ Some c.in-Some.pending = cc in
    expected_held (g.L.Publisher.expects c.args.log.now) c.self.inside.book.setup c.self.inside.book.state c.self.inside.pending c.in-Some.pending some
    (subst (λ (v : EngineView). IfSome v.pending (λ (p : PendingView). Expects (g.L.Publisher.expects c.args.log.now) v.setup v.state p.at p.event)) (sym (c.self.view_is ∙ c.meet.ensures.same)) c.requires.expected)
