use Rattle.std.proofs.Common.{◌≡◌, ◌++◌, ◌∷◌, [], false, sym, ap, subst, ◌∙◌}
use Rattle.std.proofs.lemmas.Result.{IfOk-at_ok}
use Rattle.bank_model.specs.declared.once.UsedPair.{UsedPair}
use Rattle.bank_model.specs.Once.{is_used}
use Rattle.once_records.specs.Names.{UsedView, name_of}
use Rattle.once_records.proofs.UsedLemmas.{new_pair, once_more, used_more}
use Rattle.once_records.proofs.used.Used.use_up.Goals as goal

pub invariant_of-self : goal.invariant_of-self
invariant_of-self c =
    let held = c.self.inside.held.entries in
    let named : c.new-name.result ≡ name_of c.args.user c.args.trnuid = c.new-name.ensures ∙ ap (name_of c.args.user) c.as_bytes.ensures.bytes in
    let unused = subst (λ (v : UsedView). is_used c.args.user c.args.trnuid v.used ≡ false) (sym c.self.view_is) c.requires.unused in
    let put = new_pair c.args.user c.args.trnuid c.self.inside.next held c.self.invariant unused c.insert-used.new.self.entries _ named
    _ (IfOk-at_ok _ c.unwrap-none.ensures c.insert-used.ensures.old) (IfOk-at_ok _ c.unwrap-none.ensures c.insert-used.ensures.entries) in
    once_more c.args.user c.args.trnuid c.self.inside.next held c.self.invariant unused c.insert-used.new.self.entries put

pub returns-clause-used : goal.returns-clause-used
returns-clause-used c =
    let held = c.self.inside.held.entries in
    let named : c.new-name.result ≡ name_of c.args.user c.args.trnuid = c.new-name.ensures ∙ ap (name_of c.args.user) c.as_bytes.ensures.bytes in
    let unused = subst (λ (v : UsedView). is_used c.args.user c.args.trnuid v.used ≡ false) (sym c.self.view_is) c.requires.unused in
    let put = new_pair c.args.user c.args.trnuid c.self.inside.next held c.self.invariant unused c.insert-used.new.self.entries _ named
    _ (IfOk-at_ok _ c.unwrap-none.ensures c.insert-used.ensures.old) (IfOk-at_ok _ c.unwrap-none.ensures c.insert-used.ensures.entries) in
    let pair : UsedPair = record { user = c.args.user; trnuid = c.args.trnuid } in
    used_more c.args.user c.args.trnuid c.self.inside.next held c.self.invariant unused c.insert-used.new.self.entries put
    ∙ ap (λ (v : UsedView). v.used ++ pair ∷ []) c.self.view_is
