-- What the writing of a body makes of the image, and of what a crash may leave.
use Rattle.std.proofs.Common.{◌≡◌, ◌⊎◌, inl, inr, ℕ, zero, suc, ◌+◌, ◌-◌, ◌<◌, ◌≤◌, List, [], ◌∷◌, ◌++◌, length, take, drop, Option, Some, None, Result, Ok, Err, refl, sym, ◌∙◌, ap, subst, arith, append_assoc, length-append, length-take, length-drop, take-append-drop}
use Rattle.std.specs.Prelude.{OnOk, OnErr}
use Rattle.std.proofs.lemmas.List.{append-nil, take_at, length-take-le}
use Rattle.ofx_ports.specs.declared.fault.Failed.{Failed}
use Rattle.disk_keeper.specs.Disk.{History, overlaid, image, Torn, MayLeave, Leaves, LeavesThroughout, GoesOn, IsBroken, Breaks, after, shown, write_of}
use Rattle.disk_keeper.specs.File.{size_bytes}
use Rattle.disk_keeper.specs.Appending.{WriteAfter, WritesAfter, HasImage, HasBody}
use Rattle.disk_keeper.specs.declared.change.Change.{Change}
use Rattle.disk_keeper.specs.declared.change.Change.TheVariants.{Write, Sync}
use Rattle.disk_keeper.proofs.DiskLemmas.{reported_on, reported_broken, length-overlaid}
use Rattle.disk_keeper.proofs.FileLemmas.{length-size_bytes}

-- one history after another
pub after_after : (h : History) (more first : List Change) → after (after h first) more ≡ after h (more ++ first)
after_after h more first = ap (λ (l : List Change). record { found = h.found; changes = l }) (sym (append_assoc more first h.changes))

after_append : (n : ℕ) (more first : List Change) → WriteAfter n more → WriteAfter n first → WriteAfter n (more ++ first)
after_append n [] first p q = q
after_append n (Write at size bytes ∷ more) first p q = (p.0, after_append n more first p.1 q)
after_append n (Sync ∷ more) first p q = p

after_less : (m n : ℕ) (more : List Change) → n ≤ m → WriteAfter m more → WriteAfter n more
after_less m n [] le p = tt
after_less m n (Write at size bytes ∷ more) le p = (omega (arith, le, p.0), after_less m n more le p.1)
after_less m n (Sync ∷ more) le p = p

-- a write, whatever came of it
pub after_write : (r : Result (Unit {0}) Failed) (a b : Option History) (h : History) (at : ℕ) (bytes : List ℕ)
    → OnOk r (GoesOn a b (write_of at bytes ∷ [])) → OnErr r (Breaks at (length bytes) a b) → a ≡ Some h → WritesAfter at h b
after_write (Ok done) a b h at bytes written broken is = (write_of at bytes ∷ [], reported_on a b h _ is written, (omega arith, tt))
after_write (Err e) a b h at bytes written broken is =
    let t = reported_broken a b h at (length bytes) is broken in (t.0, t.2, part t.0 t.1)
  where
    part : (more : List Change) → IsBroken at (length bytes) more → WriteAfter at more
    part more (inl none) = subst (WriteAfter at) (sym none) tt
    part more (inr some) = subst (WriteAfter at) (sym some.2) (omega arith, tt)

-- writes after others
pub after_on : (n m : ℕ) (h : History) (a b : Option History) → n ≤ m → WritesAfter n h a → ((g : History) → a ≡ Some g → WritesAfter m g b) → WritesAfter n h b
after_on n m h a b le first then_more =
    let next = then_more (after h first.0) first.1 in (
      next.0 ++ first.0,
      next.1 ∙ ap (λ (o : History). Some o) (after_after h next.0 first.0),
      after_append n next.0 first.0 (after_less m n next.0 le next.2) first.2,
    )

-- the image after a write
pub image_written : (a b : Option History) (h : History) (at : ℕ) (bytes : List ℕ) → a ≡ Some h → GoesOn a b (write_of at bytes ∷ []) → HasImage b (overlaid (shown h) at bytes)
image_written a b h at bytes is goes = subst (λ o. HasImage o (overlaid (shown h) at bytes)) (sym (reported_on a b h _ is goes)) refl

-- an image that is reported
pub image_reported : (a : Option History) (file : List ℕ) → HasImage a file → (h : History) × (a ≡ Some h) × (shown h ≡ file)
image_reported None file has = absurd has
image_reported (Some h) file has = (h, refl, has)

overlaid_at : (p x bytes : List ℕ) (at : ℕ) → length p ≡ at → overlaid (p ++ x) at bytes ≡ p ++ bytes ++ drop (at + length bytes) (p ++ x)
overlaid_at p x bytes at is = ap (λ (l : List ℕ). l ++ bytes ++ drop (at + length bytes) (p ++ x)) (take_at p x at is)

-- the three writes of a body, one after another
pub body_laid : (old bytes : List ℕ) (gate : ℕ) → gate < length old
    → (rest : List ℕ) × (overlaid (overlaid (overlaid old (gate + 1) (size_bytes (length bytes))) (gate + 9) bytes) (gate + 9 + length bytes) (0 ∷ [])
    ≡ take (gate + 1) old ++ size_bytes (length bytes) ++ bytes ++ 0 ∷ rest)
body_laid old bytes gate within =
    let p = take (gate + 1) old in
    let size = size_bytes (length bytes) in
    let p_length : length p ≡ gate + 1 = length-take-le (gate + 1) old (omega (arith, within)) in
    let size_length = length-size_bytes (length bytes) in
    let head_length : length (p ++ size) ≡ gate + 9 = omega (arith, length-append p size, p_length, size_length) in
    let body_length : length (p ++ size ++ bytes) ≡ gate + 9 + length bytes = omega (arith, length-append (p ++ size) bytes, head_length) in
    let x = drop (gate + 1 + length size) (p ++ drop (gate + 1) old) in
    let first : overlaid old (gate + 1) size ≡ p ++ size ++ x =
    ap (λ (l : List ℕ). overlaid l (gate + 1) size) (sym (take-append-drop (gate + 1) old)) ∙ overlaid_at p (drop (gate + 1) old) size (gate + 1) p_length in
    let y = drop (gate + 9 + length bytes) (p ++ size ++ x) in
    let second : overlaid (overlaid old (gate + 1) size) (gate + 9) bytes ≡ p ++ size ++ bytes ++ y =
    ap (λ (l : List ℕ). overlaid l (gate + 9) bytes) first ∙ overlaid_at (p ++ size) x bytes (gate + 9) head_length in
    let z = drop (gate + 9 + length bytes + 1) (p ++ size ++ bytes ++ y) in (
      z,
      ap (λ (l : List ℕ). overlaid l (gate + 9 + length bytes) (0 ∷ [])) second
          ∙ overlaid_at (p ++ size ++ bytes) y (0 ∷ []) (gate + 9 + length bytes) body_length
          ∙ append_assoc (p ++ size ++ bytes) (0 ∷ []) z,
    )

-- a body that was written
pub body_written : (h : History) (gate : ℕ) (bytes size : List ℕ) (a b d : Option History) → gate < length (shown h) → size ≡ size_bytes (length bytes)
    → HasImage a (overlaid (shown h) (gate + 1) size)
    → ((f : History) → a ≡ Some f → gate + 9 ≤ length (shown f) → HasImage b (overlaid (shown f) (gate + 9) bytes))
    → GoesOn b d (write_of (gate + 9 + length bytes) (0 ∷ []) ∷ []) → HasBody gate bytes (shown h) d
body_written h gate bytes size a b d within size_is first second third =
    let one = image_reported a _ first in
    let one_is : shown one.0 ≡ overlaid (shown h) (gate + 1) (size_bytes (length bytes)) = one.2 ∙ ap (overlaid (shown h) (gate + 1)) size_is in
    let long : gate + 9 ≤ length (shown one.0) =
    omega (arith, ap length one_is, length-overlaid (shown h) (gate + 1) (size_bytes (length bytes)) (omega (arith, within)), length-size_bytes (length bytes)) in
    let two = image_reported b _ (second one.0 one.1 long) in
    let three = image_written b d two.0 (gate + 9 + length bytes) (0 ∷ []) two.1 third in
    let laid = body_laid (shown h) bytes gate within in (
      laid.0,
      subst (HasImage d) (
          ap (λ (l : List ℕ). overlaid l (gate + 9 + length bytes) (0 ∷ [])) (two.2 ∙ ap (λ (l : List ℕ). overlaid l (gate + 9) bytes) one_is)
          ∙ laid.1
          ) three,
    )
