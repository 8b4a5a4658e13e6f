use Rattle.std.proofs.Common.{ap, sym, ◌∙◌, List, Option}
use Rattle.ofx_types.specs.declared.number.UserId.{UserId}
use Rattle.bank_model.specs.SetupReading.{◌>>=◌, words_of, owner_more, owners_from}
use Rattle.bank_model.proofs.SetupLines.{took, refused_one, owners_next, owners_last}
use Rattle.bank_model.proofs.setup.lines.owners_of.Goals as goal

pub returns-then-not-branch : goal.returns-then-not-branch
returns-then-not-branch c =
    let none = refused_one c.in_ok-add_owner.field-0 (owner_more c.args.users.now c.loop-name.owners c.in-Some.name.now) c.add_owner.new.owners c.if-not-branch.true c.in_ok-add_owner.ensures in
    sym (ap (λ (more : Option (List UserId)). more >>= λ owners. owners_from c.args.users.now owners (words_of c.in-Some.others.now)) none) ∙ sym (owners_next c.args.users.now c.loop-name.owners c.loop-name.rest.now c.in-Some.name.now c.in-Some.others.now c.in-Some.ensures.exact) ∙ c.loop-name.invariant

pub loop-name-preserved : goal.loop-name-preserved
loop-name-preserved c =
    let one = took c.in_ok-add_owner.field-0 (owner_more c.args.users.now c.loop-name.owners c.in-Some.name.now) c.add_owner.new.owners c.if-not-branch.false c.in_ok-add_owner.ensures in
    sym (ap (λ (more : Option (List UserId)). more >>= λ owners. owners_from c.args.users.now owners (words_of c.in-Some.others.now)) one) ∙ sym (owners_next c.args.users.now c.loop-name.owners c.loop-name.rest.now c.in-Some.name.now c.in-Some.others.now c.in-Some.ensures.exact) ∙ c.loop-name.invariant

pub returns-then-not-branch-2 : goal.returns-then-not-branch-2
returns-then-not-branch-2 c =
    sym (refused_one c.in_ok-add_owner-2.field-0 (owner_more c.args.users.now c.loop-name.owners c.loop-name.rest.now) c.add_owner-2.new.owners c.if-not-branch-2.true c.in_ok-add_owner-2.ensures)
    ∙ sym (owners_last c.args.users.now c.loop-name.owners c.loop-name.rest.now c.in_default.ensures.exact)
    ∙ c.loop-name.invariant

pub returns : goal.returns
returns c =
    sym (took c.in_ok-add_owner-2.field-0 (owner_more c.args.users.now c.loop-name.owners c.loop-name.rest.now) c.add_owner-2.new.owners c.if-not-branch-2.false c.in_ok-add_owner-2.ensures)
    ∙ sym (owners_last c.args.users.now c.loop-name.owners c.loop-name.rest.now c.in_default.ensures.exact)
    ∙ c.loop-name.invariant
