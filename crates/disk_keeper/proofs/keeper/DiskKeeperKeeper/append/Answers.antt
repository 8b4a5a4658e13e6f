-- What an append leaves on the disk, by how far it came.
use Rattle.std.proofs.Common.{◌+◌, ap, subst, sym, ◌∙◌, refl, arith}
use Rattle.disk_keeper.specs.declared.appending.Reached.TheVariants.{Acknowledged, Body, Gate}
use Rattle.disk_keeper.specs.Keeping.{is_begun, NextWithin}
use Rattle.disk_keeper.proofs.Keepings.{AllKept, settled_now, append_moments, kept_after, list_grows, list_may_grow, settled_stay, append_awaits, nothing_begun, kept_nothing}
use Rattle.disk_keeper.proofs.keeper.DiskKeeperKeeper.append.Goals as goal

pub invariant_of-self : goal.invariant_of-self
invariant_of-self g c =
    let i = c.self.invariant in
    let nothing = nothing_begun c.self.inside.begun (ap (λ s. s.unsettled) c.self.view_is ∙ c.requires) in
    let keeps = kept_nothing _ _ _ _ nothing i.keeps in
    let next = c.in-Acknowledged.ensures.next in record {
      within = record { offset = next.1; most = next.2; few = omega (arith, next.0, i.within.few) };
      last_within = omega (arith, i.last_within, c.append_record.ensures.no_shorter);
      last_before = omega (arith, i.last_before);
      next = subst (λ b. NextWithin (record { records = c.self.inside.end.records + 1; offset = c.in-Acknowledged.next }) (g.D.Disk.extent c.append_record.new.disk) b) (sym nothing) tt;
      keeps = subst (AllKept (g.D.Disk.history c.append_record.new.disk) (record { records = c.self.inside.end.records + 1; offset = c.in-Acknowledged.next }) c.self.inside.last) (sym nothing)
          (kept_after _ _ c.self.inside.end c.self.inside.last c.args.rec.now (Acknowledged c.in-Acknowledged.next) keeps c.append_record.ensures.quiet c.in-Acknowledged.ensures.known);
    }

pub invariant_of-self-in-Body : goal.invariant_of-self-in-Body
invariant_of-self-in-Body g c =
    let i = c.self.invariant in
    let nothing = nothing_begun c.self.inside.begun (ap (λ s. s.unsettled) c.self.view_is ∙ c.requires) in
    let keeps = kept_nothing _ _ _ _ nothing i.keeps in record {
      within = record { offset = omega (arith, i.within.offset, c.append_record.ensures.no_shorter); most = i.within.most; few = i.within.few };
      last_within = omega (arith, i.last_within, c.append_record.ensures.no_shorter);
      last_before = i.last_before;
      next = tt;
      keeps = kept_after _ _ c.self.inside.end c.self.inside.last c.args.rec.now Body keeps c.append_record.ensures.quiet c.in-Body.ensures.known;
    }

pub invariant_of-self-in-Gate : goal.invariant_of-self-in-Gate
invariant_of-self-in-Gate g c =
    let i = c.self.invariant in
    let nothing = nothing_begun c.self.inside.begun (ap (λ s. s.unsettled) c.self.view_is ∙ c.requires) in
    let keeps = kept_nothing _ _ _ _ nothing i.keeps in
    let next = c.in-Gate.ensures.next in record {
      within = record { offset = omega (arith, i.within.offset, c.append_record.ensures.no_shorter); most = i.within.most; few = i.within.few };
      last_within = omega (arith, i.last_within, c.append_record.ensures.no_shorter);
      last_before = i.last_before;
      next = (next.1, next.2, omega (arith, next.0));
      keeps = kept_after _ _ c.self.inside.end c.self.inside.last c.args.rec.now (Gate c.in-Gate.next) keeps c.append_record.ensures.quiet c.in-Gate.ensures.known;
    }

pub returns-in-Acknowledged-clause-list : goal.returns-in-Acknowledged-clause-list
returns-in-Acknowledged-clause-list g c =
    let nothing = nothing_begun c.self.inside.begun (ap (λ s. s.unsettled) c.self.view_is ∙ c.requires) in
    let keeps = kept_nothing _ _ _ _ nothing c.self.invariant.keeps in
    rw (← c.self.view_is) (
      list_grows _ _ c.self.inside.end c.self.inside.last c.args.rec.now c.in-Acknowledged.next keeps c.in-Acknowledged.ensures.known,
      ap is_begun nothing,
    )

pub returns-in-Acknowledged-clause-moments : goal.returns-in-Acknowledged-clause-moments
returns-in-Acknowledged-clause-moments g c =
    let nothing = nothing_begun c.self.inside.begun (ap (λ s. s.unsettled) c.self.view_is ∙ c.requires) in
    let keeps = kept_nothing _ _ _ _ nothing c.self.invariant.keeps in
    rw (← c.self.view_is) (append_moments _ _ c.self.inside.end c.self.inside.last c.args.rec.now (Acknowledged c.in-Acknowledged.next) keeps c.in-Acknowledged.ensures.known)

pub returns-in-Acknowledged-clause-leaves : goal.returns-in-Acknowledged-clause-leaves
returns-in-Acknowledged-clause-leaves g c =
    let nothing = nothing_begun c.self.inside.begun (ap (λ s. s.unsettled) c.self.view_is ∙ c.requires) in
    let keeps = kept_nothing _ _ _ _ nothing c.self.invariant.keeps in
    settled_now _ (record { records = c.self.inside.end.records + 1; offset = c.in-Acknowledged.next }) c.self.inside.last
    (kept_after _ _ c.self.inside.end c.self.inside.last c.args.rec.now (Acknowledged c.in-Acknowledged.next) keeps c.append_record.ensures.quiet c.in-Acknowledged.ensures.known)

pub returns-in-Body-clause-list : goal.returns-in-Body-clause-list
returns-in-Body-clause-list g c =
    let nothing = nothing_begun c.self.inside.begun (ap (λ s. s.unsettled) c.self.view_is ∙ c.requires) in
    let keeps = kept_nothing _ _ _ _ nothing c.self.invariant.keeps in
    rw (← c.self.view_is) (list_may_grow _ _ c.self.inside.end c.self.inside.last c.args.rec.now Body keeps c.in-Body.ensures.known, refl)

pub returns-in-Body-clause-moments : goal.returns-in-Body-clause-moments
returns-in-Body-clause-moments g c =
    let nothing = nothing_begun c.self.inside.begun (ap (λ s. s.unsettled) c.self.view_is ∙ c.requires) in
    let keeps = kept_nothing _ _ _ _ nothing c.self.invariant.keeps in
    rw (← c.self.view_is) (append_moments _ _ c.self.inside.end c.self.inside.last c.args.rec.now Body keeps c.in-Body.ensures.known)

pub returns-in-Body-clause-awaits : goal.returns-in-Body-clause-awaits
returns-in-Body-clause-awaits g c =
    let nothing = nothing_begun c.self.inside.begun (ap (λ s. s.unsettled) c.self.view_is ∙ c.requires) in
    let keeps = kept_nothing _ _ _ _ nothing c.self.invariant.keeps in
    append_awaits _ _ c.self.inside.end c.self.inside.last c.args.rec.now Body keeps c.append_record.ensures.quiet c.in-Body.ensures.known

pub returns-in-Body-clause-kept : goal.returns-in-Body-clause-kept
returns-in-Body-clause-kept g c =
    let nothing = nothing_begun c.self.inside.begun (ap (λ s. s.unsettled) c.self.view_is ∙ c.requires) in
    let keeps = kept_nothing _ _ _ _ nothing c.self.invariant.keeps in
    rw (← c.self.view_is) (settled_stay _ _ c.self.inside.end c.self.inside.last c.args.rec.now Body keeps c.append_record.ensures.quiet c.in-Body.ensures.known)

pub returns-in-Gate-clause-list : goal.returns-in-Gate-clause-list
returns-in-Gate-clause-list g c =
    let nothing = nothing_begun c.self.inside.begun (ap (λ s. s.unsettled) c.self.view_is ∙ c.requires) in
    let keeps = kept_nothing _ _ _ _ nothing c.self.invariant.keeps in
    rw (← c.self.view_is) (list_may_grow _ _ c.self.inside.end c.self.inside.last c.args.rec.now (Gate c.in-Gate.next) keeps c.in-Gate.ensures.known, refl)

pub returns-in-Gate-clause-moments : goal.returns-in-Gate-clause-moments
returns-in-Gate-clause-moments g c =
    let nothing = nothing_begun c.self.inside.begun (ap (λ s. s.unsettled) c.self.view_is ∙ c.requires) in
    let keeps = kept_nothing _ _ _ _ nothing c.self.invariant.keeps in
    rw (← c.self.view_is) (append_moments _ _ c.self.inside.end c.self.inside.last c.args.rec.now (Gate c.in-Gate.next) keeps c.in-Gate.ensures.known)

pub returns-in-Gate-clause-awaits : goal.returns-in-Gate-clause-awaits
returns-in-Gate-clause-awaits g c =
    let nothing = nothing_begun c.self.inside.begun (ap (λ s. s.unsettled) c.self.view_is ∙ c.requires) in
    let keeps = kept_nothing _ _ _ _ nothing c.self.invariant.keeps in
    append_awaits _ _ c.self.inside.end c.self.inside.last c.args.rec.now (Gate c.in-Gate.next) keeps c.append_record.ensures.quiet c.in-Gate.ensures.known

pub returns-in-Gate-clause-kept : goal.returns-in-Gate-clause-kept
returns-in-Gate-clause-kept g c =
    let nothing = nothing_begun c.self.inside.begun (ap (λ s. s.unsettled) c.self.view_is ∙ c.requires) in
    let keeps = kept_nothing _ _ _ _ nothing c.self.invariant.keeps in
    rw (← c.self.view_is) (settled_stay _ _ c.self.inside.end c.self.inside.last c.args.rec.now (Gate c.in-Gate.next) keeps c.append_record.ensures.quiet c.in-Gate.ensures.known)
