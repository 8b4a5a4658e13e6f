use Rattle.std.proofs.Common.{List, sym, ap, ◌∙◌}
use Rattle.std.proofs.lemmas.List.Sums.{fold-append}
use Rattle.std.specs.List.{flat_map}
use Rattle.ofx_types.specs.declared.number.AcctId.{AcctId}
use Rattle.bank_model.specs.Rules.{named_by_object, named_by_pair}
use Rattle.bank_model.specs.Naming.{with_any, with_all}
use Rattle.bank_model.proofs.named.add_sync.Goals as goal

pub returns : goal.returns
returns c =
    c.in_ok-add_deeds.ensures
    ∙ ap (λ l. with_all c.add_object.new.accounts.items (flat_map (named_by_pair c.args.setup.now) l)) c.items.ensures
    ∙ ap (λ (l : List AcctId). with_all l (flat_map (named_by_pair c.args.setup.now) c.args.ask.now.deeds)) c.in_ok-add_object.ensures
    ∙ sym (fold-append with_any c.args.accounts.now.items (named_by_object c.args.setup.now c.args.ask.now.object) (flat_map (named_by_pair c.args.setup.now) c.args.ask.now.deeds))
