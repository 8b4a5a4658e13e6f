use Rattle.std.proofs.Common.{ℕ, ◌<◌, List, get_or}
use Rattle.ofx_types.specs.declared.transfer.Deed.{Deed}
use Rattle.bank_model.specs.Sound.{IsSoundPair}
use Rattle.bank_sound.proofs.file.are_sound_pairs.Given as goal

abbrev pub invariant-loop-deed : goal.invariant-loop-deed
invariant-loop-deed l = (k : ℕ) (d : List ℕ × Deed) → k < l.deed-index → IsSoundPair l.family (get_or l.deeds k d)
