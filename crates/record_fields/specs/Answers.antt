-- How the answers of calls relate to what reading gives.
use Rattle.std.specs.Prelude.{◌≡◌, ℕ, Result, Ok, Err}
use Rattle.record_fields.specs.declared.fault.RecordFault.{RecordFault}
use Rattle.record_fields.specs.declared.fault.RecordFault.TheVariants as faults

-- A refusal is the offset of the first field without a form, unless memory was refused.
abbrev pub Fails : {A : Type 0} → RecordFault → Result A ℕ → Type 0
Fails (faults.Version n) read = ⊥
Fails (faults.Bad at) read = read ≡ Err at
Fails faults.OutOfMemory read = Unit {0}

-- A call answers what reading gives.
abbrev pub ReadsField : {A : Type 0} → Result A RecordFault → Result A ℕ → Type 0
ReadsField (Ok x) read = read ≡ Ok x
ReadsField (Err fault) read = Fails fault read

-- The same of a call whose value is seen by a view.
abbrev pub ReadsFieldBy : {A B : Type 0} → (A → B) → Result A RecordFault → Result B ℕ → Type 0
ReadsFieldBy view (Ok x) read = read ≡ Ok (view x)
ReadsFieldBy view (Err fault) read = Fails fault read

-- The same of a whole record.
abbrev pub ReadsRecord : {A : Type 0} → Result A RecordFault → Result A RecordFault → Type 0
ReadsRecord (Ok x) read = read ≡ Ok x
ReadsRecord (Err (faults.Version n)) read = read ≡ Err (faults.Version n)
ReadsRecord (Err (faults.Bad at)) read = read ≡ Err (faults.Bad at)
ReadsRecord (Err faults.OutOfMemory) read = Unit {0}
