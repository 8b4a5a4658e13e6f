-- When two events are the same.
use Rattle.std.specs.Prelude.{◌≡◌, []}
use Rattle.bank_model.specs.declared.event.Event.{Event}
use Rattle.bank_model.specs.declared.event.Event.TheVariants.{File, Post, Spawn, Letter}

-- an event without the name and the password with which a file's user signed on
abbrev pub without_signon : Event → Event
without_signon (File user file) = File user (record { version = file.version; older = file.older; newer = file.newer; user = []; pass = []; asks = file.asks })
without_signon (Post id) = Post id
without_signon (Spawn model occurrence) = Spawn model occurrence
without_signon (Letter user subject body) = Letter user subject body

-- Two events are the same where they differ only in the user name and the password of a file: these let the user in, and are no
-- part of what happens.
abbrev pub IsSameEvent : Event → Event → Type 0
IsSameEvent event other = without_signon event ≡ without_signon other
