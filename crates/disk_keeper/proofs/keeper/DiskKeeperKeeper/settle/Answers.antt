-- What settling finds, and what a crash leaves meanwhile.
use Rattle.std.proofs.Common.{◌≡◌, None, Some, ◌+◌, [], ◌∷◌, refl, ap, subst, sym, ◌∙◌, arith}
use Rattle.std.specs.Prelude.{slice_index}
use Rattle.disk_keeper.specs.Disk.{History, GoesOn, shown}
use Rattle.disk_keeper.specs.Keeping.{NextWithin}
use Rattle.disk_keeper.specs.DiskKeeperView.{ListsWith, NowLeaves, settled_on, records_on, landed_on}
use Rattle.disk_keeper.specs.declared.change.Change.TheVariants.{Sync}
use Rattle.disk_keeper.proofs.Keepings.{AllKept, settled_now, kept_synced, kept_open, kept_shut, synced_settled, synced_records, records_stay, same_moments, synced_moments, synced_now, answer_open, answer_shut, settles_open, settles_shut, next_within}
use Rattle.disk_keeper.proofs.keeper.DiskKeeperKeeper.settle.Goals as goal

pub invariant_of-self : goal.invariant_of-self
invariant_of-self g c =
    let i = c.self.invariant in
    let size = c.sync.ensures.extent in record {
      within = record { offset = omega (arith, i.within.offset, size); most = i.within.most; few = i.within.few };
      last_within = omega (arith, i.last_within, size);
      last_before = i.last_before;
      next = subst (λ s. NextWithin c.self.inside.end s c.self.inside.begun) (sym size) i.next;
      keeps = λ h is. i.keeps h (sym c.in_default.ensures.refused ∙ is);
    }

pub invariant_of-self-in_default-read_gate : goal.invariant_of-self-in_default-read_gate
invariant_of-self-in_default-read_gate g c =
    let quiet : g.D.Disk.history c.self.inside.disk ≡ None → g.D.Disk.history c.read_gate.new.disk ≡ None = λ none. c.read_gate.ensures.history ∙ c.sync.ensures.quiet none in
    let synced = subst (λ o. GoesOn (g.D.Disk.history c.self.inside.disk) o (Sync ∷ [])) (sym c.read_gate.ensures.history) c.in-Ok.ensures.synced in
    let size = c.read_gate.ensures.extent ∙ c.sync.ensures.extent in
    let i = c.self.invariant in record {
      within = record { offset = omega (arith, i.within.offset, size); most = i.within.most; few = i.within.few };
      last_within = omega (arith, i.last_within, size);
      last_before = i.last_before;
      next = subst (λ s. NextWithin c.self.inside.end s c.self.inside.begun) (sym size) i.next;
      keeps = kept_synced (g.D.Disk.history c.self.inside.disk) (g.D.Disk.history c.read_gate.new.disk) c.self.inside.end c.self.inside.last c.self.inside.begun i.keeps quiet synced;
    }

pub invariant_of-self-in-Some : goal.invariant_of-self-in-Some
invariant_of-self-in-Some g c =
    let quiet : g.D.Disk.history c.self.inside.disk ≡ None → g.D.Disk.history c.read_gate.new.disk ≡ None = λ none. c.read_gate.ensures.history ∙ c.sync.ensures.quiet none in
    let synced = subst (λ o. GoesOn (g.D.Disk.history c.self.inside.disk) o (Sync ∷ [])) (sym c.read_gate.ensures.history) c.in-Ok.ensures.synced in
    let keeps = kept_synced (g.D.Disk.history c.self.inside.disk) (g.D.Disk.history c.read_gate.new.disk) c.self.inside.end c.self.inside.last c.self.inside.begun c.self.invariant.keeps quiet synced in
    let settled = synced_settled (g.D.Disk.history c.self.inside.disk) (g.D.Disk.history c.read_gate.new.disk) quiet synced in
    let read : (h : History) → g.D.Disk.history c.read_gate.new.disk ≡ Some h → c.in-Ok-read_gate.gate ≡ slice_index (shown h) c.self.inside.end.offset = λ h is. c.in-Ok-read_gate.ensures.known h (sym c.read_gate.ensures.history ∙ is) in
    let found = sym c.opened.ensures ∙ c.in-Some.is in
    let all = kept_open (g.D.Disk.history c.read_gate.new.disk) c.self.inside.end c.self.inside.last c.self.inside.begun c.in-Ok-read_gate.gate c.in-Some.next keeps settled read found in
    let size = c.read_gate.ensures.extent ∙ c.sync.ensures.extent in
    let i = c.self.invariant in
    let next = next_within c.self.inside.begun c.in-Ok-read_gate.gate c.in-Some.next c.self.inside.end _ found i.next in record {
      within = record { offset = omega (arith, next.0, size); most = next.1; few = omega (arith, i.within.few, next.2) };
      last_within = omega (arith, i.last_within, size);
      last_before = omega (arith, i.last_before);
      next = tt;
      keeps = all;
    }

pub invariant_of-self-in-None : goal.invariant_of-self-in-None
invariant_of-self-in-None g c =
    let quiet : g.D.Disk.history c.self.inside.disk ≡ None → g.D.Disk.history c.read_gate.new.disk ≡ None = λ none. c.read_gate.ensures.history ∙ c.sync.ensures.quiet none in
    let synced = subst (λ o. GoesOn (g.D.Disk.history c.self.inside.disk) o (Sync ∷ [])) (sym c.read_gate.ensures.history) c.in-Ok.ensures.synced in
    let keeps = kept_synced (g.D.Disk.history c.self.inside.disk) (g.D.Disk.history c.read_gate.new.disk) c.self.inside.end c.self.inside.last c.self.inside.begun c.self.invariant.keeps quiet synced in
    let settled = synced_settled (g.D.Disk.history c.self.inside.disk) (g.D.Disk.history c.read_gate.new.disk) quiet synced in
    let read : (h : History) → g.D.Disk.history c.read_gate.new.disk ≡ Some h → c.in-Ok-read_gate.gate ≡ slice_index (shown h) c.self.inside.end.offset = λ h is. c.in-Ok-read_gate.ensures.known h (sym c.read_gate.ensures.history ∙ is) in
    let found = sym c.opened.ensures ∙ c.in-None.is in
    let all = kept_shut (g.D.Disk.history c.read_gate.new.disk) c.self.inside.end c.self.inside.last c.self.inside.begun c.in-Ok-read_gate.gate keeps settled read found in
    let size = c.read_gate.ensures.extent ∙ c.sync.ensures.extent in
    let i = c.self.invariant in record {
      within = record { offset = omega (arith, i.within.offset, size); most = i.within.most; few = i.within.few };
      last_within = omega (arith, i.last_within, size);
      last_before = i.last_before;
      next = tt;
      keeps = all;
    }

pub returns-in_default-clause-kept : goal.returns-in_default-clause-kept
returns-in_default-clause-kept g c =
    rw (← c.self.view_is) (ap (λ o. landed_on c.self.inside.end.records (records_on o)) c.in_default.ensures.refused, refl)

pub returns-in_default-read_gate-clause-kept : goal.returns-in_default-read_gate-clause-kept
returns-in_default-read_gate-clause-kept g c =
    let quiet : g.D.Disk.history c.self.inside.disk ≡ None → g.D.Disk.history c.read_gate.new.disk ≡ None = λ none. c.read_gate.ensures.history ∙ c.sync.ensures.quiet none in
    let synced = subst (λ o. GoesOn (g.D.Disk.history c.self.inside.disk) o (Sync ∷ [])) (sym c.read_gate.ensures.history) c.in-Ok.ensures.synced in
    rw (← c.self.view_is) (ap (landed_on c.self.inside.end.records) (synced_records (g.D.Disk.history c.self.inside.disk) (g.D.Disk.history c.read_gate.new.disk) quiet synced), refl)

pub returns-in_default-read_gate-clause-list : goal.returns-in_default-read_gate-clause-list
returns-in_default-read_gate-clause-list g c =
    let quiet : g.D.Disk.history c.self.inside.disk ≡ None → g.D.Disk.history c.read_gate.new.disk ≡ None = λ none. c.read_gate.ensures.history ∙ c.sync.ensures.quiet none in
    let synced = subst (λ o. GoesOn (g.D.Disk.history c.self.inside.disk) o (Sync ∷ [])) (sym c.read_gate.ensures.history) c.in-Ok.ensures.synced in
    rw (← c.self.view_is) (records_stay (g.D.Disk.history c.self.inside.disk) (g.D.Disk.history c.read_gate.new.disk) (synced_records (g.D.Disk.history c.self.inside.disk) (g.D.Disk.history c.read_gate.new.disk) quiet synced))

pub returns-in_default-clause-moments : goal.returns-in_default-clause-moments
returns-in_default-clause-moments g c =
    rw (← c.self.view_is) (λ begun now. same_moments (ListsWith (settled_on c.self.inside.end.records (records_on (g.D.Disk.history c.self.inside.disk))) begun) (g.D.Disk.history c.self.inside.disk) (g.D.Disk.history c.sync.new.self) c.in_default.ensures.refused now)

pub returns-in_default-read_gate-clause-moments : goal.returns-in_default-read_gate-clause-moments
returns-in_default-read_gate-clause-moments g c =
    let quiet : g.D.Disk.history c.self.inside.disk ≡ None → g.D.Disk.history c.read_gate.new.disk ≡ None = λ none. c.read_gate.ensures.history ∙ c.sync.ensures.quiet none in
    let synced = subst (λ o. GoesOn (g.D.Disk.history c.self.inside.disk) o (Sync ∷ [])) (sym c.read_gate.ensures.history) c.in-Ok.ensures.synced in
    rw (← c.self.view_is) (λ begun now. synced_moments (ListsWith (settled_on c.self.inside.end.records (records_on (g.D.Disk.history c.self.inside.disk))) begun) (g.D.Disk.history c.self.inside.disk) (g.D.Disk.history c.read_gate.new.disk) synced now)

pub returns-in_default-clause-awaits : goal.returns-in_default-clause-awaits
returns-in_default-clause-awaits g c =
    rw (← c.self.view_is) (λ begun now. subst (λ o. NowLeaves (ListsWith (settled_on c.self.inside.end.records (records_on o)) begun) o) (sym c.in_default.ensures.refused) now)

pub returns-in_default-read_gate-clause-awaits : goal.returns-in_default-read_gate-clause-awaits
returns-in_default-read_gate-clause-awaits g c =
    let quiet : g.D.Disk.history c.self.inside.disk ≡ None → g.D.Disk.history c.read_gate.new.disk ≡ None = λ none. c.read_gate.ensures.history ∙ c.sync.ensures.quiet none in
    let synced = subst (λ o. GoesOn (g.D.Disk.history c.self.inside.disk) o (Sync ∷ [])) (sym c.read_gate.ensures.history) c.in-Ok.ensures.synced in
    rw (← c.self.view_is) (
    λ begun now.
    subst (λ rs. NowLeaves (ListsWith (settled_on c.self.inside.end.records rs) begun) (g.D.Disk.history c.read_gate.new.disk)) (sym (synced_records (g.D.Disk.history c.self.inside.disk) (g.D.Disk.history c.read_gate.new.disk) quiet synced))
    (synced_now (ListsWith (settled_on c.self.inside.end.records (records_on (g.D.Disk.history c.self.inside.disk))) begun) (g.D.Disk.history c.self.inside.disk) (g.D.Disk.history c.read_gate.new.disk) quiet synced now)
    )

pub returns-in-Some-clause-list : goal.returns-in-Some-clause-list
returns-in-Some-clause-list g c =
    let quiet : g.D.Disk.history c.self.inside.disk ≡ None → g.D.Disk.history c.read_gate.new.disk ≡ None = λ none. c.read_gate.ensures.history ∙ c.sync.ensures.quiet none in
    let synced = subst (λ o. GoesOn (g.D.Disk.history c.self.inside.disk) o (Sync ∷ [])) (sym c.read_gate.ensures.history) c.in-Ok.ensures.synced in
    rw (← c.self.view_is) (records_stay (g.D.Disk.history c.self.inside.disk) (g.D.Disk.history c.read_gate.new.disk) (synced_records (g.D.Disk.history c.self.inside.disk) (g.D.Disk.history c.read_gate.new.disk) quiet synced))

pub returns-in-Some-clause-moments : goal.returns-in-Some-clause-moments
returns-in-Some-clause-moments g c =
    let quiet : g.D.Disk.history c.self.inside.disk ≡ None → g.D.Disk.history c.read_gate.new.disk ≡ None = λ none. c.read_gate.ensures.history ∙ c.sync.ensures.quiet none in
    let synced = subst (λ o. GoesOn (g.D.Disk.history c.self.inside.disk) o (Sync ∷ [])) (sym c.read_gate.ensures.history) c.in-Ok.ensures.synced in
    rw (← c.self.view_is) (λ begun now. synced_moments (ListsWith (settled_on c.self.inside.end.records (records_on (g.D.Disk.history c.self.inside.disk))) begun) (g.D.Disk.history c.self.inside.disk) (g.D.Disk.history c.read_gate.new.disk) synced now)

pub returns-in-None-clause-list : goal.returns-in-None-clause-list
returns-in-None-clause-list g c =
    let quiet : g.D.Disk.history c.self.inside.disk ≡ None → g.D.Disk.history c.read_gate.new.disk ≡ None = λ none. c.read_gate.ensures.history ∙ c.sync.ensures.quiet none in
    let synced = subst (λ o. GoesOn (g.D.Disk.history c.self.inside.disk) o (Sync ∷ [])) (sym c.read_gate.ensures.history) c.in-Ok.ensures.synced in
    rw (← c.self.view_is) (records_stay (g.D.Disk.history c.self.inside.disk) (g.D.Disk.history c.read_gate.new.disk) (synced_records (g.D.Disk.history c.self.inside.disk) (g.D.Disk.history c.read_gate.new.disk) quiet synced))

pub returns-in-None-clause-moments : goal.returns-in-None-clause-moments
returns-in-None-clause-moments g c =
    let quiet : g.D.Disk.history c.self.inside.disk ≡ None → g.D.Disk.history c.read_gate.new.disk ≡ None = λ none. c.read_gate.ensures.history ∙ c.sync.ensures.quiet none in
    let synced = subst (λ o. GoesOn (g.D.Disk.history c.self.inside.disk) o (Sync ∷ [])) (sym c.read_gate.ensures.history) c.in-Ok.ensures.synced in
    rw (← c.self.view_is) (λ begun now. synced_moments (ListsWith (settled_on c.self.inside.end.records (records_on (g.D.Disk.history c.self.inside.disk))) begun) (g.D.Disk.history c.self.inside.disk) (g.D.Disk.history c.read_gate.new.disk) synced now)

pub returns-in-Some-clause-answer : goal.returns-in-Some-clause-answer
returns-in-Some-clause-answer g c =
    let quiet : g.D.Disk.history c.self.inside.disk ≡ None → g.D.Disk.history c.read_gate.new.disk ≡ None = λ none. c.read_gate.ensures.history ∙ c.sync.ensures.quiet none in
    let synced = subst (λ o. GoesOn (g.D.Disk.history c.self.inside.disk) o (Sync ∷ [])) (sym c.read_gate.ensures.history) c.in-Ok.ensures.synced in
    let keeps = kept_synced (g.D.Disk.history c.self.inside.disk) (g.D.Disk.history c.read_gate.new.disk) c.self.inside.end c.self.inside.last c.self.inside.begun c.self.invariant.keeps quiet synced in
    let settled = synced_settled (g.D.Disk.history c.self.inside.disk) (g.D.Disk.history c.read_gate.new.disk) quiet synced in
    let read : (h : History) → g.D.Disk.history c.read_gate.new.disk ≡ Some h → c.in-Ok-read_gate.gate ≡ slice_index (shown h) c.self.inside.end.offset = λ h is. c.in-Ok-read_gate.ensures.known h (sym c.read_gate.ensures.history ∙ is) in
    let found = sym c.opened.ensures ∙ c.in-Some.is in
    let all = kept_open (g.D.Disk.history c.read_gate.new.disk) c.self.inside.end c.self.inside.last c.self.inside.begun c.in-Ok-read_gate.gate c.in-Some.next keeps settled read found in
    rw (← c.self.view_is) (answer_open (g.D.Disk.history c.self.inside.disk) (g.D.Disk.history c.read_gate.new.disk) c.self.inside.end c.self.inside.last c.self.inside.begun c.in-Ok-read_gate.gate c.in-Some.next synced found all)

pub returns-in-None-clause-answer : goal.returns-in-None-clause-answer
returns-in-None-clause-answer g c =
    let quiet : g.D.Disk.history c.self.inside.disk ≡ None → g.D.Disk.history c.read_gate.new.disk ≡ None = λ none. c.read_gate.ensures.history ∙ c.sync.ensures.quiet none in
    let synced = subst (λ o. GoesOn (g.D.Disk.history c.self.inside.disk) o (Sync ∷ [])) (sym c.read_gate.ensures.history) c.in-Ok.ensures.synced in
    let keeps = kept_synced (g.D.Disk.history c.self.inside.disk) (g.D.Disk.history c.read_gate.new.disk) c.self.inside.end c.self.inside.last c.self.inside.begun c.self.invariant.keeps quiet synced in
    let settled = synced_settled (g.D.Disk.history c.self.inside.disk) (g.D.Disk.history c.read_gate.new.disk) quiet synced in
    let read : (h : History) → g.D.Disk.history c.read_gate.new.disk ≡ Some h → c.in-Ok-read_gate.gate ≡ slice_index (shown h) c.self.inside.end.offset = λ h is. c.in-Ok-read_gate.ensures.known h (sym c.read_gate.ensures.history ∙ is) in
    let found = sym c.opened.ensures ∙ c.in-None.is in
    let all = kept_shut (g.D.Disk.history c.read_gate.new.disk) c.self.inside.end c.self.inside.last c.self.inside.begun c.in-Ok-read_gate.gate keeps settled read found in
    rw (← c.self.view_is) (answer_shut (g.D.Disk.history c.self.inside.disk) (g.D.Disk.history c.read_gate.new.disk) c.self.inside.end c.self.inside.last c.self.inside.begun synced all)

pub returns-in-Some-clause-leaves : goal.returns-in-Some-clause-leaves
returns-in-Some-clause-leaves g c =
    let quiet : g.D.Disk.history c.self.inside.disk ≡ None → g.D.Disk.history c.read_gate.new.disk ≡ None = λ none. c.read_gate.ensures.history ∙ c.sync.ensures.quiet none in
    let synced = subst (λ o. GoesOn (g.D.Disk.history c.self.inside.disk) o (Sync ∷ [])) (sym c.read_gate.ensures.history) c.in-Ok.ensures.synced in
    let keeps = kept_synced (g.D.Disk.history c.self.inside.disk) (g.D.Disk.history c.read_gate.new.disk) c.self.inside.end c.self.inside.last c.self.inside.begun c.self.invariant.keeps quiet synced in
    let settled = synced_settled (g.D.Disk.history c.self.inside.disk) (g.D.Disk.history c.read_gate.new.disk) quiet synced in
    let read : (h : History) → g.D.Disk.history c.read_gate.new.disk ≡ Some h → c.in-Ok-read_gate.gate ≡ slice_index (shown h) c.self.inside.end.offset = λ h is. c.in-Ok-read_gate.ensures.known h (sym c.read_gate.ensures.history ∙ is) in
    let found = sym c.opened.ensures ∙ c.in-Some.is in
    let all = kept_open (g.D.Disk.history c.read_gate.new.disk) c.self.inside.end c.self.inside.last c.self.inside.begun c.in-Ok-read_gate.gate c.in-Some.next keeps settled read found in
    settled_now (g.D.Disk.history c.read_gate.new.disk) (record { records = c.self.inside.end.records + 1; offset = c.in-Some.next }) c.self.inside.last all

pub returns-in-None-clause-leaves : goal.returns-in-None-clause-leaves
returns-in-None-clause-leaves g c =
    let quiet : g.D.Disk.history c.self.inside.disk ≡ None → g.D.Disk.history c.read_gate.new.disk ≡ None = λ none. c.read_gate.ensures.history ∙ c.sync.ensures.quiet none in
    let synced = subst (λ o. GoesOn (g.D.Disk.history c.self.inside.disk) o (Sync ∷ [])) (sym c.read_gate.ensures.history) c.in-Ok.ensures.synced in
    let keeps = kept_synced (g.D.Disk.history c.self.inside.disk) (g.D.Disk.history c.read_gate.new.disk) c.self.inside.end c.self.inside.last c.self.inside.begun c.self.invariant.keeps quiet synced in
    let settled = synced_settled (g.D.Disk.history c.self.inside.disk) (g.D.Disk.history c.read_gate.new.disk) quiet synced in
    let read : (h : History) → g.D.Disk.history c.read_gate.new.disk ≡ Some h → c.in-Ok-read_gate.gate ≡ slice_index (shown h) c.self.inside.end.offset = λ h is. c.in-Ok-read_gate.ensures.known h (sym c.read_gate.ensures.history ∙ is) in
    let found = sym c.opened.ensures ∙ c.in-None.is in
    let all = kept_shut (g.D.Disk.history c.read_gate.new.disk) c.self.inside.end c.self.inside.last c.self.inside.begun c.in-Ok-read_gate.gate keeps settled read found in
    settled_now (g.D.Disk.history c.read_gate.new.disk) c.self.inside.end c.self.inside.last all

pub returns-in-Some-clause-holds : goal.returns-in-Some-clause-holds
returns-in-Some-clause-holds g c =
    let quiet : g.D.Disk.history c.self.inside.disk ≡ None → g.D.Disk.history c.read_gate.new.disk ≡ None = λ none. c.read_gate.ensures.history ∙ c.sync.ensures.quiet none in
    let synced = subst (λ o. GoesOn (g.D.Disk.history c.self.inside.disk) o (Sync ∷ [])) (sym c.read_gate.ensures.history) c.in-Ok.ensures.synced in
    let keeps = kept_synced (g.D.Disk.history c.self.inside.disk) (g.D.Disk.history c.read_gate.new.disk) c.self.inside.end c.self.inside.last c.self.inside.begun c.self.invariant.keeps quiet synced in
    let settled = synced_settled (g.D.Disk.history c.self.inside.disk) (g.D.Disk.history c.read_gate.new.disk) quiet synced in
    let read : (h : History) → g.D.Disk.history c.read_gate.new.disk ≡ Some h → c.in-Ok-read_gate.gate ≡ slice_index (shown h) c.self.inside.end.offset = λ h is. c.in-Ok-read_gate.ensures.known h (sym c.read_gate.ensures.history ∙ is) in
    let found = sym c.opened.ensures ∙ c.in-Some.is in
    let all = kept_open (g.D.Disk.history c.read_gate.new.disk) c.self.inside.end c.self.inside.last c.self.inside.begun c.in-Ok-read_gate.gate c.in-Some.next keeps settled read found in
    rw (← c.self.view_is) (λ begun now. settles_open (g.D.Disk.history c.self.inside.disk) (g.D.Disk.history c.read_gate.new.disk) c.self.inside.end c.self.inside.last c.in-Some.next begun synced all now)

pub returns-in-None-clause-holds : goal.returns-in-None-clause-holds
returns-in-None-clause-holds g c =
    let quiet : g.D.Disk.history c.self.inside.disk ≡ None → g.D.Disk.history c.read_gate.new.disk ≡ None = λ none. c.read_gate.ensures.history ∙ c.sync.ensures.quiet none in
    let synced = subst (λ o. GoesOn (g.D.Disk.history c.self.inside.disk) o (Sync ∷ [])) (sym c.read_gate.ensures.history) c.in-Ok.ensures.synced in
    rw (← c.self.view_is) (λ begun now. settles_shut (g.D.Disk.history c.self.inside.disk) (g.D.Disk.history c.read_gate.new.disk) c.self.inside.end.records begun (synced_records (g.D.Disk.history c.self.inside.disk) (g.D.Disk.history c.read_gate.new.disk) quiet synced))
