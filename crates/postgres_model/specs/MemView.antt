-- What the engine in memory answers.
use Rattle.postgres_model.specs.Engine as model
use Rattle.postgres_model.specs.declared.engine.Appended.{Appended}
use Rattle.postgres_model.specs.declared.engine.Appended.TheVariants.{Inserted, Duplicate}

abbrev pub answer_of : Appended → model.Answer
answer_of (Inserted count) = model.Inserted count
answer_of Duplicate = model.Duplicate
