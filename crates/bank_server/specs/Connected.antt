-- Links and doorways, as contracts see those of a worker.
use Rattle.std.specs.Prelude.{ℕ, List, Option, Some}
use Rattle.ofx_types.specs.declared.number.Moment.{Moment}
use Rattle.bank_callers.specs.Callers.{CallerView}
use Rattle.bank_connection.specs.Connection.{LinkView, around}

-- What is seen of a link: the bytes that it has left, its count of reads' faults, the bytes that it holds, and its count of writes'
-- faults.
pub record Faces (L : Type 0) : Type 0 where
  pub left : L → Option (List ℕ)
  pub reads : L → ℕ
  pub held : L → Option (List ℕ)
  pub writes : L → ℕ

abbrev pub faces : {L : Type 0} → (L → Option (List ℕ)) → (L → ℕ) → (L → Option (List ℕ)) → (L → ℕ) → Faces L
faces left reads held writes = record { left = left; reads = reads; held = held; writes = writes }

-- a link beside what the clock has shown and what the caller who serves it knows
abbrev pub around_link : {L : Type 0} → Faces L → L → Option (List Moment) → CallerView → LinkView
around_link faces link shown caller = around (faces.left link) (faces.reads link) (faces.held link) (faces.writes link) shown (Some caller)

-- What is seen of a doorway: the links that it gave and took back, if they are known, and its counts of faults and of closings.
pub record DoorView (L : Type 0) : Type 0 where
  pub given : Option (List L)
  pub back : Option (List L)
  pub faults : ℕ
  pub closings : ℕ

abbrev pub door_view : {L : Type 0} → Option (List L) → Option (List L) → ℕ → ℕ → DoorView L
door_view given back faults closings = record { given = given; back = back; faults = faults; closings = closings }
