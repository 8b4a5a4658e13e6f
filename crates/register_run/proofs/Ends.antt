-- How the parts of a run join: opening the register, answering the frames, and closing it.
use Rattle.std.proofs.Common.{◌≡◌, ℕ, ◌<◌, ◌≤◌, inl, inr, List, Option, None, Some, Result, Ok, Err, ◌⊎◌, refl, sym, ap, subst, ◌∙◌, arith}
use Rattle.std.specs.Io.KnownBytes.{Keeps, Appends}
use Rattle.std.proofs.KnownBytes.{Keeps-refl}
use Rattle.ofx_ports.specs.Faults.{Rose}
use Rattle.ofx_ports.specs.Known.{Stays}
use Rattle.ofx_ports.specs.Saved.{Becomes}
use Rattle.file_register.specs.declared.line.Line.{Line}
use Rattle.register_run.specs.Keeping.{Finds, Holds, ClosesSo}
use Rattle.register_run.specs.Turns.{Finishes, AnswersAll}
use Rattle.register_run.specs.Runs.{Opens, EndsSo}
use Rattle.register_run.specs.Views.{ports_view}
use Rattle.register_run.specs.declared.stop.Stop.{Stop}
use Rattle.register_run.specs.declared.stop.Stop.TheVariants as stops

opened : (left saved held : Option (List ℕ)) (reads stores writes : ℕ) (lines : List Line) → Finds saved (Ok lines) → Opens (ports_view left reads saved stores held writes) lines
opened left saved held reads stores writes lines finds = record { text = finds.0; text_is = finds.1; is_text = finds.2 }

-- a register that isn't opened ends a run
pub unopened : (left held saved saved' : Option (List ℕ)) (reads stores stores' writes : ℕ) (stop : Stop) → Finds saved (Err stop) → Stays saved saved'
    → (stop ≡ stops.StoreFailed → Rose stores stores') → EndsSo (ports_view left reads saved stores held writes) (ports_view left reads saved' stores' held writes) (Err stop)
unopened left held saved saved' reads stores stores' writes (stops.BadStore offset) finds stays rose =
    record { text = finds.0; text_is = finds.1; fault = finds.2; read = Keeps-refl left; stays = stays; printed = Keeps-refl held }
unopened left held saved saved' reads stores stores' writes stops.StoreFailed finds stays rose = (inl (record { read = Keeps-refl left; stays = stays; printed = Keeps-refl held }), rose refl)
unopened left held saved saved' reads stores stores' writes stops.NoMemory finds stays rose = inl (record { read = Keeps-refl left; stays = stays; printed = Keeps-refl held })
unopened left held saved saved' reads stores stores' writes (stops.Frame offset) finds stays rose = absurd finds
unopened left held saved saved' reads stores stores' writes stops.ReadFailed finds stays rose = absurd finds
unopened left held saved saved' reads stores stores' writes stops.WriteFailed finds stays rose = absurd finds

-- frames that aren't all answered end it
pub unanswered : (left held saved saved' left' held' : Option (List ℕ)) (reads stores stores' writes reads' writes' : ℕ) (lines after : List Line) (stop : Stop)
    → Finds saved (Ok lines) → Stays saved saved' → AnswersAll lines left held after left' held' (Err stop)
    → (stop ≡ stops.ReadFailed → Rose reads reads') → (stop ≡ stops.WriteFailed → Rose writes writes')
    → EndsSo (ports_view left reads saved stores held writes) (ports_view left' reads' saved' stores' held' writes') (Err stop)
unanswered left held saved saved' left' held' reads stores stores' writes reads' writes' lines after (stops.Frame offset) finds stays all read wrote =
    record { lines = lines; opens = opened left saved held reads stores writes lines finds; stops = all; stays = stays }
unanswered left held saved saved' left' held' reads stores stores' writes reads' writes' lines after stops.ReadFailed finds stays all read wrote =
    (record { lines = lines; opens = opened left saved held reads stores writes lines finds; stops = all; stays = stays }, read refl)
unanswered left held saved saved' left' held' reads stores stores' writes reads' writes' lines after stops.WriteFailed finds stays all read wrote =
    (inl (record { lines = lines; opens = opened left saved held reads stores writes lines finds; stops = all; stays = stays }), wrote refl)
unanswered left held saved saved' left' held' reads stores stores' writes reads' writes' lines after stops.NoMemory finds stays all read wrote =
    inr (inl (record { lines = lines; opens = opened left saved held reads stores writes lines finds; stops = all; stays = stays }))
unanswered left held saved saved' left' held' reads stores stores' writes reads' writes' lines after stops.StoreFailed finds stays all read wrote = absurd all
unanswered left held saved saved' left' held' reads stores stores' writes reads' writes' lines after (stops.BadStore offset) finds stays all read wrote = absurd all

stays_on : (a b c : Option (List ℕ)) → Stays a b → Stays b c → Stays a c
stays_on None b c p q = tt
stays_on (Some xs) None c p q = absurd p
stays_on (Some xs) (Some ys) None p q = absurd q
stays_on (Some xs) (Some ys) (Some zs) p q = q ∙ p

becomes_on : (a b c : Option (List ℕ)) (text : List ℕ) → Stays a b → Becomes b c text → Becomes a c text
becomes_on None b c text p q = tt
becomes_on (Some xs) None c text p q = absurd p
becomes_on (Some xs) (Some ys) None text p q = q
becomes_on (Some xs) (Some ys) (Some zs) text p q = q

stands_on : (lines : List Line) (a b c : Option (List ℕ)) → Stays a b → Holds lines b c → Holds lines a c
stands_on lines a b c p q = (q.0, q.1, becomes_on a b c q.0 p q.2)

saved_on : (lines : List Line) (a b c : Option (List ℕ)) → Stays a b → Stays b c ⊎ Holds lines b c → Stays a c ⊎ Holds lines a c
saved_on lines a b c p (inl q) = inl (stays_on a b c p q)
saved_on lines a b c p (inr q) = inr (stands_on lines a b c p q)

failed_on : (text : List ℕ) (a b c : Option (List ℕ)) → Stays a b → Stays b c ⊎ Becomes b c text → Stays a c ⊎ Becomes a c text
failed_on text a b c p (inl q) = inl (stays_on a b c p q)
failed_on text a b c p (inr q) = inr (becomes_on a b c text p q)

-- the save and what is printed after it end it
pub closed : (left held saved saved' left' held' saved'' held'' : Option (List ℕ)) (reads stores writes reads' stores' stores'' writes' writes'' : ℕ) (first lines : List Line) (end : Result (Unit {0}) Stop)
    → Finds saved (Ok first) → Stays saved saved' → Finishes first left held lines left' held' → ClosesSo lines saved' held' saved'' held'' end
    → (end ≡ Err stops.StoreFailed → Rose stores stores'') → (end ≡ Err stops.WriteFailed → Rose writes writes'')
    → EndsSo (ports_view left reads saved stores held writes) (ports_view left' reads' saved'' stores'' held'' writes'') end
closed left held saved saved' left' held' saved'' held'' reads stores writes reads' stores' stores'' writes' writes'' first lines (Ok done) finds stays finishes closes stored wrote = record {
  held = held';
  lines = lines;
  answered = record { first = first; opens = opened left saved held reads stores writes first finds; finishes = finishes };
  saved = stands_on lines saved saved' saved'' stays closes.0;
  printed = closes.1;
}
closed left held saved saved' left' held' saved'' held'' reads stores writes reads' stores' stores'' writes' writes'' first lines (Err stops.WriteFailed) finds stays finishes closes stored wrote = (
  inr (record {
    held = held';
    lines = lines;
    answered = record { first = first; opens = opened left saved held reads stores writes first finds; finishes = finishes };
    saved = stands_on lines saved saved' saved'' stays closes.0;
    part = closes.1;
  }),
  wrote refl,
)
closed left held saved saved' left' held' saved'' held'' reads stores writes reads' stores' stores'' writes' writes'' first lines (Err stops.StoreFailed) finds stays finishes closes stored wrote = (
  inr (record {
    held = held';
    lines = lines;
    answered = record { first = first; opens = opened left saved held reads stores writes first finds; finishes = finishes };
    text = closes.0.0;
    is_text = closes.0.1;
    saved = failed_on closes.0.0 saved saved' saved'' stays closes.0.2;
    printed = closes.1;
  }),
  stored refl,
)
closed left held saved saved' left' held' saved'' held'' reads stores writes reads' stores' stores'' writes' writes'' first lines (Err stops.NoMemory) finds stays finishes closes stored wrote =
    inr (inr (record {
      held = held';
      lines = lines;
      answered = record { first = first; opens = opened left saved held reads stores writes first finds; finishes = finishes };
      saved = saved_on lines saved saved' saved'' stays closes.0;
      printed = closes.1;
    }))
closed left held saved saved' left' held' saved'' held'' reads stores writes reads' stores' stores'' writes' writes'' first lines (Err stops.ReadFailed) finds stays finishes closes stored wrote = absurd closes
closed left held saved saved' left' held' saved'' held'' reads stores writes reads' stores' stores'' writes' writes'' first lines (Err (stops.BadStore offset)) finds stays finishes closes stored wrote = absurd closes
closed left held saved saved' left' held' saved'' held'' reads stores writes reads' stores' stores'' writes' writes'' first lines (Err (stops.Frame offset)) finds stays finishes closes stored wrote = absurd closes
