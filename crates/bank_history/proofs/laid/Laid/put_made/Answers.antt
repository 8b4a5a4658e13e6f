use Rattle.std.proofs.Common.{◌≡◌, ◌++◌, List, sym, ap, ◌∙◌, subst}
use Rattle.std.proofs.lemmas.List.{append-nil}
use Rattle.std.specs.List.{flat_map}
use Rattle.std.specs.Option.{option_copied}
use Rattle.bank_model.specs.declared.entry.Entry.{Entry}
use Rattle.bank_model.specs.Objects.{history_of}
use Rattle.bank_history.specs.ObjectHistory.{LaidFor, held_at}
use Rattle.bank_history.specs.Made.{made_in, origin_in, made_of, made_from}
use Rattle.bank_history.proofs.ObjectHistoryLemmas.{found_kept, found_none, when_done}
use Rattle.bank_history.proofs.MadeLemmas.{made_joined}
use Rattle.bank_history.proofs.laid.Laid.put_made.Goals as goal

pub returns-in-Some : goal.returns-in-Some
returns-in-Some c =
    when_done c.put_origins.result
    (c.put_origins.new.made.items ≡ c.args.made.now.items ++ made_from c.origins.result.now c.rows.result.now)
    ((entries : List Entry) → LaidFor entries c.args.self.now → c.put_origins.new.made.items ≡ c.args.made.now.items ++ made_of c.args.object entries)
    (λ put entries holds.
    let all = subst (LaidFor entries) (sym c.self.view_is) holds in
    let found = sym c.get.ensures ∙ ap option_copied c.in-Some.is in
    let kept = found_kept (history_of c.args.object entries) c.self.inside.objects.width (held_at c.args.object c.self.inside.objects.held) c.in-Some.kept.now found (all.objects c.args.object) in
    put
    ∙ ap (λ l. c.args.made.now.items ++ l) (
    ap (λ os. made_from os c.rows.result.now) (c.origins.ensures ∙ kept.origins)
    ∙ ap (made_from (flat_map (λ (entry : Entry). origin_in entry.change) (history_of c.args.object entries))) (c.rows.ensures.represented entries all.mails)
    ∙ made_joined c.args.object entries))
    c.put_origins.ensures

pub returns-in-None : goal.returns-in-None
returns-in-None c entries holds =
    let all = (subst (LaidFor entries) (sym c.self.view_is) holds).objects c.args.object in
    let found = sym c.get.ensures ∙ ap option_copied c.in-None.is in
    let none = found_none (history_of c.args.object entries) c.self.inside.objects.width (held_at c.args.object c.self.inside.objects.held) found all in
    sym (ap (λ l. c.args.made.now.items ++ flat_map (λ (entry : Entry). made_in entry.change) l) none ∙ append-nil c.args.made.now.items)
