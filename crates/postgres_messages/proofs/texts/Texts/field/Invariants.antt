use Rattle.std.proofs.Common.{◌≡◌, ◌-◌, length}
use Rattle.postgres_messages.specs.Fields.{field, texts_of}
use Rattle.postgres_messages.proofs.texts.Texts.field.Given as goal

-- the field is in what is left
abbrev pub invariant-loop : goal.invariant-loop
invariant-loop l = field l.kind (texts_of (length l.self.bytes.now - l.counter) l.rest) ≡ field l.kind (texts_of (length l.self.bytes.now) l.self.bytes.now)
