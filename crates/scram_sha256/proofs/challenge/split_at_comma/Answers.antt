use Rattle.scram_sha256.specs.Exchange.{is_comma}
use Rattle.scram_sha256.proofs.Commas.{before-found, after-found, before-none, after-none}
use Rattle.scram_sha256.proofs.challenge.split_at_comma.Goals as goal

pub returns-in-Some-clause-before : goal.returns-in-Some-clause-before
returns-in-Some-clause-before c = before-found is_comma c.args.text.now c.in-Some.comma c.in-Some.ensures.offset

pub returns-in-Some-clause-after : goal.returns-in-Some-clause-after
returns-in-Some-clause-after c = after-found is_comma c.args.text.now c.in-Some.comma c.in-Some.ensures.offset

pub returns-in-None-clause-before : goal.returns-in-None-clause-before
returns-in-None-clause-before c = before-none is_comma c.args.text.now c.in-None.ensures.offset

pub returns-in-None-clause-after : goal.returns-in-None-clause-after
returns-in-None-clause-after c = after-none is_comma c.args.text.now c.in-None.ensures.offset
