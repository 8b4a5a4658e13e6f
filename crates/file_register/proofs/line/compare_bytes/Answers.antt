use Rattle.std.proofs.Common.{◌∙◌, sym, refl}
use Rattle.std.proofs.lemmas.Option.{none-some, same_Some}
use Rattle.std.specs.Ordering.{nat_cmp}
use Rattle.std.specs.Cmp.Lexicographic.{slice_cmp, lists_agrees}
use Rattle.file_register.proofs.line.compare_bytes.Goals as goal

-- Bytes always compare.
pub unreachable-requires : goal.unreachable-requires
unreachable-requires c =
    none-some (slice_cmp nat_cmp c.args.one.now c.args.other.now)
    (sym c.in-None.is ∙ c.partial_cmp.ensures ∙ lists_agrees {R = nat_cmp} (λ x y. refl) c.args.one.now c.args.other.now)

pub returns : goal.returns
returns c = same_Some _ _ (sym c.in-Some.is ∙ c.partial_cmp.ensures ∙ lists_agrees {R = nat_cmp} (λ x y. refl) c.args.one.now c.args.other.now)
