use Rattle.std.proofs.Common.{ℕ, ◌<◌, get_or}
use Rattle.ofx_types.specs.declared.request.Ask.{Ask}
use Rattle.bank_model.specs.Sound.{IsSoundAsk}
use Rattle.bank_sound.proofs.file.are_sound.Given as goal

abbrev pub invariant-loop-ask : goal.invariant-loop-ask
invariant-loop-ask l = (k : ℕ) (d : Ask) → k < l.ask-index → IsSoundAsk (get_or l.asks k d)
