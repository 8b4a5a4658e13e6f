use Rattle.std.proofs.Common.{◌∙◌, ap}
use Rattle.bank_recur.specs.Spawning.{date_found}
use Rattle.bank_recur.proofs.SpawnLemmas.{date_is}
use Rattle.bank_recur.proofs.models.Models.date_to_make.Goals as goal

pub returns : goal.returns
returns c entries holds =
    c.next_date.ensures
    ∙ ap (date_found c.args.last) c.own.ensures
    ∙ date_is c.args.last c.args.self.now entries c.args.id holds
