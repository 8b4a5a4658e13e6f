-- What a fetch reads, and what a crash leaves meanwhile.
use Rattle.std.proofs.Common.{◌≡◌, Some, ◌+◌, ◌<◌, ◌≤◌, List, ℕ, drop, length, refl, ap, subst, sym, ◌∙◌, arith}
use Rattle.std.specs.Prelude.{OnOk}
use Rattle.disk_keeper.specs.Disk.{History, shown}
use Rattle.disk_keeper.specs.Keeping.{NextWithin}
use Rattle.disk_keeper.specs.Passing.{Holds, Passed}
use Rattle.disk_keeper.specs.Reading.{IsRecord}
use Rattle.disk_keeper.specs.DiskKeeperView.{records_on}
use Rattle.disk_keeper.proofs.Keepings.{AllKept, settled_now, settled_moments, records_stay, nothing_begun, kept_nothing, found_after_gate, kept_read, passed_from, offset_from}
use Rattle.disk_keeper.proofs.keeper.DiskKeeperKeeper.fetch.Goals as goal

pub find_gate-requires-clause-within : goal.find_gate-requires-clause-within
find_gate-requires-clause-within g c =
    let i = c.self.invariant in
    offset_from c.self.inside.last c.gate_before-from.result c.self.inside.end _ c.gate_before-from.ensures.known i.last_within (omega (arith, i.within.offset, i.within.few))

pub invariant_of-self : goal.invariant_of-self
invariant_of-self g c =
    let i = c.self.invariant in
    let size = c.find_gate.ensures.extent in record {
      within = record { offset = omega (arith, i.within.offset, size); most = i.within.most; few = i.within.few };
      last_within = omega (arith, i.last_within, size);
      last_before = i.last_before;
      next = subst (λ s. NextWithin c.self.inside.end s c.self.inside.begun) (sym size) i.next;
      keeps = λ h is. i.keeps h (sym c.find_gate.ensures.history ∙ is);
    }

pub invariant_of-self-2 : goal.invariant_of-self-2
invariant_of-self-2 g c =
    let nothing = nothing_begun c.self.inside.begun (ap (λ s. s.unsettled) c.self.view_is ∙ c.requires.settled) in
    let keeps = kept_nothing (g.D.Disk.history c.self.inside.disk) c.self.inside.end c.self.inside.last c.self.inside.begun nothing c.self.invariant.keeps in
    let few : c.args.number ≤ c.self.inside.end.records = omega (arith, c.requires.last, ap (λ s. s.size) c.self.view_is) in
    let same = c.read_record.ensures.history ∙ c.find_gate.ensures.history in
    let passed : (h : History) (rs : List (List ℕ)) → (g.D.Disk.history c.self.inside.disk) ≡ Some h → Holds rs (shown h) → c.args.number ≤ length rs → Passed rs c.self.inside.last → Passed rs c.in-Ok.gate =
    λ h rs is holds number last. c.in-Ok.ensures.known h rs is holds (passed_from rs c.self.inside.last c.gate_before-from.result c.gate_before-from.ensures.known last) number in
    let all = kept_read (g.D.Disk.history c.self.inside.disk) (g.D.Disk.history c.read_record.new.disk) c.self.inside.end c.self.inside.last c.in-Ok.gate c.args.number keeps same few passed in
    let i = c.self.invariant in
    let size = c.read_record.ensures.extent ∙ c.find_gate.ensures.extent in record {
      within = record { offset = omega (arith, i.within.offset, size); most = i.within.most; few = i.within.few };
      last_within = omega (arith, c.in-Ok.ensures.within.0, c.read_record.ensures.extent);
      last_before = omega (arith, c.in-Ok.ensures.within.1, few);
      next = subst (λ s. NextWithin c.self.inside.end s c.self.inside.begun) (sym size) i.next;
      keeps = subst (AllKept (g.D.Disk.history c.read_record.new.disk) c.self.inside.end c.in-Ok.gate) (sym nothing) all;
    }

pub returns-in-Err-clause-list : goal.returns-in-Err-clause-list
returns-in-Err-clause-list g c =
    rw (← c.self.view_is) (records_stay (g.D.Disk.history c.self.inside.disk) (g.D.Disk.history c.find_gate.new.disk) (ap records_on c.find_gate.ensures.history))

pub returns-clause-list : goal.returns-clause-list
returns-clause-list g c =
    let same = c.read_record.ensures.history ∙ c.find_gate.ensures.history in
    rw (← c.self.view_is) (records_stay (g.D.Disk.history c.self.inside.disk) (g.D.Disk.history c.read_record.new.disk) (ap records_on same))

pub returns-in-Err-clause-moments : goal.returns-in-Err-clause-moments
returns-in-Err-clause-moments g c =
    let nothing = nothing_begun c.self.inside.begun (ap (λ s. s.unsettled) c.self.view_is ∙ c.requires.settled) in
    let keeps = kept_nothing (g.D.Disk.history c.self.inside.disk) c.self.inside.end c.self.inside.last c.self.inside.begun nothing c.self.invariant.keeps in
    let few : c.args.number ≤ c.self.inside.end.records = omega (arith, c.requires.last, ap (λ s. s.size) c.self.view_is) in
    rw (← c.self.view_is) (settled_moments (g.D.Disk.history c.self.inside.disk) (g.D.Disk.history c.find_gate.new.disk) c.self.inside.end c.self.inside.last keeps c.find_gate.ensures.history)

pub returns-clause-moments : goal.returns-clause-moments
returns-clause-moments g c =
    let nothing = nothing_begun c.self.inside.begun (ap (λ s. s.unsettled) c.self.view_is ∙ c.requires.settled) in
    let keeps = kept_nothing (g.D.Disk.history c.self.inside.disk) c.self.inside.end c.self.inside.last c.self.inside.begun nothing c.self.invariant.keeps in
    let few : c.args.number ≤ c.self.inside.end.records = omega (arith, c.requires.last, ap (λ s. s.size) c.self.view_is) in
    let same = c.read_record.ensures.history ∙ c.find_gate.ensures.history in
    rw (← c.self.view_is) (settled_moments (g.D.Disk.history c.self.inside.disk) (g.D.Disk.history c.read_record.new.disk) c.self.inside.end c.self.inside.last keeps same)

pub returns-in-Err-clause-leaves : goal.returns-in-Err-clause-leaves
returns-in-Err-clause-leaves g c =
    let nothing = nothing_begun c.self.inside.begun (ap (λ s. s.unsettled) c.self.view_is ∙ c.requires.settled) in
    let keeps = kept_nothing (g.D.Disk.history c.self.inside.disk) c.self.inside.end c.self.inside.last c.self.inside.begun nothing c.self.invariant.keeps in
    let few : c.args.number ≤ c.self.inside.end.records = omega (arith, c.requires.last, ap (λ s. s.size) c.self.view_is) in
    settled_now (g.D.Disk.history c.find_gate.new.disk) c.self.inside.end c.self.inside.last (λ h is. keeps h (sym c.find_gate.ensures.history ∙ is))

pub returns-clause-leaves : goal.returns-clause-leaves
returns-clause-leaves g c =
    let nothing = nothing_begun c.self.inside.begun (ap (λ s. s.unsettled) c.self.view_is ∙ c.requires.settled) in
    let keeps = kept_nothing (g.D.Disk.history c.self.inside.disk) c.self.inside.end c.self.inside.last c.self.inside.begun nothing c.self.invariant.keeps in
    let few : c.args.number ≤ c.self.inside.end.records = omega (arith, c.requires.last, ap (λ s. s.size) c.self.view_is) in
    let same = c.read_record.ensures.history ∙ c.find_gate.ensures.history in
    let passed : (h : History) (rs : List (List ℕ)) → (g.D.Disk.history c.self.inside.disk) ≡ Some h → Holds rs (shown h) → c.args.number ≤ length rs → Passed rs c.self.inside.last → Passed rs c.in-Ok.gate =
    λ h rs is holds number last. c.in-Ok.ensures.known h rs is holds (passed_from rs c.self.inside.last c.gate_before-from.result c.gate_before-from.ensures.known last) number in
    let all = kept_read (g.D.Disk.history c.self.inside.disk) (g.D.Disk.history c.read_record.new.disk) c.self.inside.end c.self.inside.last c.in-Ok.gate c.args.number keeps same few passed in
    settled_now (g.D.Disk.history c.read_record.new.disk) c.self.inside.end c.in-Ok.gate all

pub returns-clause-found : goal.returns-clause-found
returns-clause-found g c =
    let nothing = nothing_begun c.self.inside.begun (ap (λ s. s.unsettled) c.self.view_is ∙ c.requires.settled) in
    let keeps = kept_nothing (g.D.Disk.history c.self.inside.disk) c.self.inside.end c.self.inside.last c.self.inside.begun nothing c.self.invariant.keeps in
    let few : c.args.number ≤ c.self.inside.end.records = omega (arith, c.requires.last, ap (λ s. s.size) c.self.view_is) in
    let passed : (h : History) (rs : List (List ℕ)) → (g.D.Disk.history c.self.inside.disk) ≡ Some h → Holds rs (shown h) → c.args.number ≤ length rs → Passed rs c.self.inside.last → Passed rs c.in-Ok.gate =
    λ h rs is holds number last. c.in-Ok.ensures.known h rs is holds (passed_from rs c.self.inside.last c.gate_before-from.result c.gate_before-from.ensures.known last) number in
    rw (← c.self.view_is) (
    found_after_gate (g.D.Disk.history c.self.inside.disk) c.self.inside.end c.self.inside.last c.in-Ok.gate c.args.number c.read_record.new.into.items c.read_record.result keeps c.in-Ok.ensures.within.1 few passed
    (λ h is within. c.read_record.ensures.found h (c.find_gate.ensures.history ∙ is) within)
    )
