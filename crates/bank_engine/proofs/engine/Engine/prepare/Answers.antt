use Rattle.std.proofs.Common.{◌∙◌, ap, sym, subst}
use Rattle.bank_model.specs.Rules.{IsLegal}
use Rattle.bank_engine.specs.Views.{EngineView}
use Rattle.bank_engine.proofs.EngineLemmas.{idle, ready_now}
use Rattle.bank_engine.proofs.engine.Engine.prepare.Goals as goal

pub invariant_of-self-2 : goal.invariant_of-self-2
invariant_of-self-2 g c = idle c.answer.new.self c.self.inside.pending (ap (λ (v : EngineView). v.pending) c.self.view_is ∙ c.requires.settled)

pub returns-clause-ready : goal.returns-clause-ready
returns-clause-ready g c =
    let made = c.in_ok-prepared.ensures in
    ready_now c.self.inside.book.setup c.answer.new.self.setup c.self.inside.book.state c.answer.new.self.state c.answer.new.self.room c.args.at c.args.event c.in_ok-prepared.prepared c.entries-added.result.now
    c.answer.ensures.setup c.answer.ensures.state c.requires.moment
    (subst (λ (v : EngineView). IsLegal v.setup v.state c.args.at c.args.event) (sym c.self.view_is) c.requires.legal)
    made.of made.before made.event made.after made.reply made.room c.entries-added.ensures

pub invariant_of-self-in_err-rec : goal.invariant_of-self-in_err-rec
invariant_of-self-in_err-rec g c = idle c.answer.new.self c.self.inside.pending (ap (λ (v : EngineView). v.pending) c.self.view_is ∙ c.requires.settled)
