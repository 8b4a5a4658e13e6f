use Rattle.std.proofs.Common.{◌∙◌, ap, subst}
use Rattle.bank_model.specs.SetupForm.{IsWithinLimits}
use Rattle.bank_engine.specs.Views.{EngineView}
use Rattle.bank_engine.proofs.Truth.{true_new}
use Rattle.token_board.specs.Views.{WriterView}
use Rattle.bank_shared.proofs.Begun.{opening_belongs}
use Rattle.bank_shared.proofs.journal.Journal.new.Goals as goal

pub invariant_of-result : goal.invariant_of-result
invariant_of-result g c = (
  true_new g.N.BankName.setup g.N.BankName.opening g.N.BankName.first _
      (ap (λ (v : EngineView). v.setup) c.new.ensures ∙ c.requires.setup) (ap (λ (v : EngineView). v.state) c.new.ensures ∙ c.requires.state)
      (ap (λ (w : WriterView). w.log) c.requires.writer) (ap (λ (v : EngineView). v.pending) c.new.ensures) c.requires.settled c.requires.holds c.requires.kept,
  record {
    own = ap (λ (w : WriterView). w.table) c.requires.writer;
    unclaimed = ap (λ (w : WriterView). w.claimed) c.requires.writer;
    begins = c.requires.begins;
    belong = opening_belongs g.N.BankName.setup g.N.BankName.opening c.entries_belong.ensures.steps (subst IsWithinLimits c.requires.setup c.setup-setup.ensures.within)
        (c.requires.holds.records, c.requires.holds.reopens);
  },
  ap (λ (v : EngineView). v.tables) c.new.ensures ∙ c.requires.tables,
)
