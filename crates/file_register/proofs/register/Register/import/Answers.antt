use Rattle.std.proofs.Common.{◌≡◌, ◌<◌, ◌≤◌, ◌+◌, ◌-◌, ◌++◌, ◌∙◌, length, refl, ap, subst, arith}
use Rattle.std.specs.List.Sorted.{IsPermutation}
use Rattle.file_register.specs.Lines.{lines_of}
use Rattle.file_register.specs.Registers.{IsRegister}
use Rattle.file_register.specs.Gathering.{Gathered}
use Rattle.file_register.proofs.GatheringLaws.{is_full, is_placed, is_taken}
use Rattle.file_register.proofs.Taking.{gathered_at}
use Rattle.file_register.proofs.register.Register.import.Goals as goal

pub returns-then-len-added-gt-MAX_LINES : goal.returns-then-len-added-gt-MAX_LINES
returns-then-len-added-gt-MAX_LINES c =
    let gathered : Gathered c.args.self.now (lines_of c.args.reply.now) c.in_ok-fresh.fresh.keys =
    gathered_at _ _ _ _ _ _ _ c.deref.ensures.value c.self.view_is c.deref-2.ensures.value c.in_ok-lines.ensures c.in_ok-fresh.ensures.gathered in
    let is : IsRegister c.args.self.now = subst IsRegister c.self.view_is c.self.invariant in
    let many : 500000 < length c.args.self.now + length c.in_ok-fresh.fresh.keys =
    omega (
      arith,
      c.if-len-added-gt-MAX_LINES.true,
      c.len.ensures,
      c.len-added.ensures.len,
      c.deref.ensures.len,
      ap length (c.deref.ensures.value ∙ c.self.view_is),
    ) in
    ((omega (arith, c.if-reply-ne0.false), is_full c.args.self.now (lines_of c.args.reply.now) c.in_ok-fresh.fresh.keys is.rising gathered many), refl)

pub invariant_of-self-2 : goal.invariant_of-self-2
invariant_of-self-2 c =
    let gathered : Gathered c.args.self.now (lines_of c.args.reply.now) c.in_ok-fresh.fresh.keys =
    gathered_at _ _ _ _ _ _ _ c.deref.ensures.value c.self.view_is c.deref-2.ensures.value c.in_ok-lines.ensures c.in_ok-fresh.ensures.gathered in
    let is : IsRegister c.args.self.now = subst IsRegister c.self.view_is c.self.invariant in
    let few : length c.args.self.now + length c.in_ok-fresh.fresh.keys ≤ 500000 =
    omega (
      arith,
      c.if-len-added-gt-MAX_LINES.false,
      c.len.ensures,
      c.len-added.ensures.len,
      c.deref.ensures.len,
      ap length (c.deref.ensures.value ∙ c.self.view_is),
    ) in
    let moved : IsPermutation (c.args.self.now ++ c.in_ok-fresh.fresh.keys) c.add_all.new.lines.items = rw (← c.self.view_is) c.in_ok-add_all.ensures.added in
    is_placed c.args.self.now (lines_of c.args.reply.now) c.in_ok-fresh.fresh.keys c.add_all.new.lines.items is c.requires.sound gathered few moved c.in_ok-add_all.ensures.sorted

pub returns : goal.returns
returns c =
    let gathered : Gathered c.args.self.now (lines_of c.args.reply.now) c.in_ok-fresh.fresh.keys =
    gathered_at _ _ _ _ _ _ _ c.deref.ensures.value c.self.view_is c.deref-2.ensures.value c.in_ok-lines.ensures c.in_ok-fresh.ensures.gathered in
    let is : IsRegister c.args.self.now = subst IsRegister c.self.view_is c.self.invariant in
    let few : length c.args.self.now + length c.in_ok-fresh.fresh.keys ≤ 500000 =
    omega (
      arith,
      c.if-len-added-gt-MAX_LINES.false,
      c.len.ensures,
      c.len-added.ensures.len,
      c.deref.ensures.len,
      ap length (c.deref.ensures.value ∙ c.self.view_is),
    ) in
    let moved : IsPermutation (c.args.self.now ++ c.in_ok-fresh.fresh.keys) c.add_all.new.lines.items = rw (← c.self.view_is) c.in_ok-add_all.ensures.added in
    let counted : c.len-added.result + (c.len-2.result - c.len-added.result) ≡ length (lines_of c.args.reply.now) =
    omega (
      arith,
      gathered.few,
      c.len-added.ensures.len,
      c.len-2.ensures,
      c.deref-2.ensures.len,
      ap length (c.deref-2.ensures.value ∙ c.in_ok-lines.ensures),
    ) in (
      omega (arith, c.if-reply-ne0.false),
      is_taken c.args.self.now (lines_of c.args.reply.now) c.in_ok-fresh.fresh.keys c.add_all.new.lines.items _ is.rising gathered few moved c.in_ok-add_all.ensures.sorted
          c.len-added.ensures.len counted,
    )
