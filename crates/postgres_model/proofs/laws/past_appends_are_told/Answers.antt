use Rattle.std.proofs.Common.{suc, refl}
use Rattle.postgres_model.specs.Engine.{Inserted}
use Rattle.postgres_model.proofs.Reporting.{every-reporting}
use Rattle.postgres_model.proofs.laws.past_appends_are_told.Goals as goal

pub returns : goal.returns
returns c = λ events t n k j epoch past first count taking rows group is also lt.
    (every-reporting events).reports t n k j epoch past first taking rows group (Inserted (suc count)) is also refl lt
