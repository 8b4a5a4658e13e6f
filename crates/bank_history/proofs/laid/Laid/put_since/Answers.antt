use Rattle.std.proofs.Common.{◌≡◌, List, ◌≤◌, ◌++◌, filter, sym, ap, ◌∙◌, subst}
use Rattle.std.proofs.lemmas.List.{append-nil}
use Rattle.std.specs.Option.{option_copied}
use Rattle.bank_model.specs.declared.entry.Entry.{Entry}
use Rattle.bank_model.specs.Objects.{history_of}
use Rattle.bank_model.specs.Sync.{is_above}
use Rattle.token_window.specs.WindowView.{WindowView, Represents}
use Rattle.bank_history.specs.ObjectHistory.{LaidView, LaidFor, held_at, floor_in}
use Rattle.bank_history.proofs.AmongLemmas.{lent}
use Rattle.bank_history.proofs.ObjectHistoryLemmas.{found_kept, found_none, when_done}
use Rattle.bank_history.proofs.laid.Laid.put_since.Goals as goal

pub since-requires : goal.since-requires
since-requires c =
    let found = sym c.get.ensures ∙ ap option_copied c.in-Some.is in
    let least = subst (λ (v : LaidView). floor_in (held_at c.args.object v.objects.held) ≤ c.args.token) (sym c.self.view_is) c.requires.floor in
    let own = subst (λ o. floor_in o ≤ c.args.token) found least in
    record { floor = subst (λ (w : WindowView). w.floor ≤ c.args.token) (sym c.window.ensures) own }

pub returns-in-Some : goal.returns-in-Some
returns-in-Some c =
    when_done c.put_lent.result
    (lent c.put_lent.new.since.items ≡ lent c.args.since.now.items ++ c.since.result)
    ((entries : List Entry) → LaidFor entries c.args.self.now → lent c.put_lent.new.since.items ≡ lent c.args.since.now.items ++ filter (is_above c.args.token) (history_of c.args.object entries))
    (λ put entries holds.
    let all = (subst (LaidFor entries) (sym c.self.view_is) holds).objects c.args.object in
    let found = sym c.get.ensures ∙ ap option_copied c.in-Some.is in
    let kept = found_kept (history_of c.args.object entries) c.self.inside.objects.width (held_at c.args.object c.self.inside.objects.held) c.in-Some.kept.now found all in
    put
    ∙ ap (λ l. lent c.args.since.now.items ++ l) (c.since.ensures.represented (history_of c.args.object entries) c.self.inside.objects.width
    (subst (λ (w : WindowView). Represents (history_of c.args.object entries) c.self.inside.objects.width w) (sym c.window.ensures) kept.window)))
    c.put_lent.ensures

pub returns-in-None : goal.returns-in-None
returns-in-None c entries holds =
    let all = (subst (LaidFor entries) (sym c.self.view_is) holds).objects c.args.object in
    let found = sym c.get.ensures ∙ ap option_copied c.in-None.is in
    let none = found_none (history_of c.args.object entries) c.self.inside.objects.width (held_at c.args.object c.self.inside.objects.held) found all in
    sym (ap (λ l. lent c.args.since.now.items ++ filter (is_above c.args.token) l) none ∙ append-nil (lent c.args.since.now.items))
