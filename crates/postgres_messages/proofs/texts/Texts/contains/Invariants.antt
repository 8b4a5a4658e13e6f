use Rattle.std.proofs.Common.{◌≡◌, ◌-◌, length}
use Rattle.postgres_messages.specs.Fields.{has_text, texts_of}
use Rattle.postgres_messages.proofs.texts.Texts.contains.Given as goal

-- the text is in what is left
abbrev pub invariant-loop : goal.invariant-loop
invariant-loop l = has_text l.wanted (texts_of (length l.self.bytes.now - l.counter) l.rest) ≡ has_text l.wanted (texts_of (length l.self.bytes.now) l.self.bytes.now)
