-- What writes and syncs make of an image, and of what a crash may leave.
use Rattle.std.proofs.Common.{◌≡◌, ◌⊎◌, inl, inr, ℕ, zero, suc, ◌+◌, ◌-◌, ◌<◌, ◌≤◌, List, [], ◌∷◌, ◌++◌, length, take, drop, get_or, Option, Some, None, refl, sym, ◌∙◌, ap, subst, arith, append_assoc, length-append, length-take, length-drop, take-append-drop}
use Rattle.std.specs.Prelude.{max, slice_range, IsSome}
use Rattle.std.proofs.lemmas.List.{append-nil, take_at, drop_at, take-take, take-append-le, drop-drop, take_all, drop_all, length-take-le}
use Rattle.disk_keeper.specs.Disk.{History, overlaid, image, Torn, MayLeave, Leaves, LeavesThroughout, LeavesOnly, GoesOn, ReportsOn, IsBroken, Breaks, Shows, HasSize, after, shown}
use Rattle.disk_keeper.specs.declared.change.Change.{Change}
use Rattle.disk_keeper.specs.declared.change.Change.TheVariants.{Write, Sync}

pub length-overlaid : (old : List ℕ) (at : ℕ) (bytes : List ℕ) → at ≤ length old → length (overlaid old at bytes) ≡ max (length old) (at + length bytes)
length-overlaid old at bytes within =
    omega (arith, length-append (take at old ++ bytes) (drop (at + length bytes) old), length-append (take at old) bytes, length-take-le at old within, length-drop (at + length bytes) old)

-- what comes before a write stays
pub prefix_overlaid : (n : ℕ) (old : List ℕ) (at : ℕ) (bytes : List ℕ) → n ≤ at → n ≤ length old → take n (overlaid old at bytes) ≡ take n old
prefix_overlaid n old at bytes before within =
    ap (take n) (append_assoc (take at old) bytes (drop (at + length bytes) old))
    ∙ take-append-le n (take at old) (bytes ++ drop (at + length bytes) old) (omega (arith, length-take at old))
    ∙ take-take n at old before

-- Of a write, also of one that left only some of its bytes, the image is one that a crash may leave.
pub torn_overlaid : (old : List ℕ) (at size : ℕ) (bytes : List ℕ) → at ≤ length old → length bytes ≤ size → Torn at size old (overlaid old at bytes)
torn_overlaid old at size bytes within part = record {
  before = prefix_overlaid at old at bytes (omega arith) within;
  suffix = suffix;
  no_shorter = omega (arith, length-overlaid old at bytes within);
  no_longer = omega (arith, length-overlaid old at bytes within);
}
  where
    prefix_length : length (take at old ++ bytes) ≡ at + length bytes
    prefix_length = omega (arith, length-append (take at old) bytes, length-take-le at old within)

    suffix : drop (at + size) (overlaid old at bytes) ≡ drop (at + size) old
    suffix =
        ap (λ n. drop n (overlaid old at bytes)) (omega (arith, part))
        ∙ sym (drop-drop (size - length bytes) (at + length bytes) (overlaid old at bytes))
        ∙ ap (drop (size - length bytes)) (drop_at (take at old ++ bytes) (drop (at + length bytes) old) (at + length bytes) prefix_length)
        ∙ drop-drop (size - length bytes) (at + length bytes) old
        ∙ ap (λ n. drop n old) (omega (arith, part))

-- what comes before a torn write stays
pub prefix_torn : (n at size : ℕ) (old new : List ℕ) → n ≤ at → Torn at size old new → take n new ≡ take n old
prefix_torn n at size old new before torn =
    sym (take-take n at new before) ∙ ap (take n) torn.before ∙ take-take n at old before

some_is : (g h : History) → Some g ≡ Some h → g ≡ h
some_is g h is = cc

-- a history that is reported goes on
pub reported_on : (a b : Option History) (h : History) (more : List Change) → a ≡ Some h → GoesOn a b more → b ≡ Some (after h more)
reported_on None b h more is goes = cc
reported_on (Some g) b h more is goes = goes ∙ ap (λ (o : History). Some (after o more)) (some_is g h is)

-- what a write that failed made of a history that is reported
pub reported_broken : (a b : Option History) (h : History) (at size : ℕ) → a ≡ Some h → Breaks at size a b
    → (more : List Change) × IsBroken at size more × (b ≡ Some (after h more))
reported_broken a b h at size is breaks = (breaks.0, breaks.1, reported_on a b h breaks.0 is breaks.2)

-- what is told at one moment is one history
pub same_reported : (a : Option History) (g h : History) → a ≡ Some g → a ≡ Some h → g ≡ h
same_reported a g h p q = some_is g h (sym p ∙ q)

-- the bytes that a read gives of an image that is reported
pub shown_at : (a : Option History) (h : History) (at : ℕ) (bytes : List ℕ) → a ≡ Some h → Shows a at bytes → bytes ≡ take (length bytes) (drop at (shown h))
shown_at a h at bytes is shows =
    let now : bytes ≡ slice_range (shown h) at (at + length bytes) = subst (λ o. Shows o at bytes) is shows in
    now ∙ ap (λ n. take n (drop at (shown h))) (omega arith)

pub size_reported : (a : Option History) (h : History) (size : ℕ) → a ≡ Some h → HasSize a size → size ≡ length (shown h)
size_reported a h size is has = subst (λ o. HasSize o size) is has

none_some : (g : History) → None ≡ Some g → ⊥
none_some g is = cc

-- a disk that tells has told before
pub reported_before : (a b : Option History) (g : History) → (a ≡ None → b ≡ None) → b ≡ Some g → (h : History) × (a ≡ Some h)
reported_before None b g quiet is = absurd (none_some g (sym (quiet refl) ∙ is))
reported_before (Some h) b g quiet is = (h, refl)

-- what is shown after a sync
pub reported_synced : (a b : Option History) (g : History) → (a ≡ None → b ≡ None) → GoesOn a b (Sync ∷ []) → b ≡ Some g
    → (h : History) × (a ≡ Some h) × (g ≡ after h (Sync ∷ []))
reported_synced a b g quiet goes is =
    let h = reported_before a b g quiet is in (h.0, h.1, some_is g (after h.0 (Sync ∷ [])) (sym is ∙ reported_on a b h.0 (Sync ∷ []) h.1 goes))

-- a disk whose history is known tells it after two calls
pub reports_on : (a b c : Option History) (more last : List Change) → GoesOn a b more → GoesOn b c last → ReportsOn a c
reports_on None b c more last first second = tt
reports_on (Some h) b c more last first second = subst IsSome (sym (reported_on b c (after h more) last first second)) refl
