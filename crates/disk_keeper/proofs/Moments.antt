-- What an append leaves at each moment, by how far it came.
use Rattle.std.proofs.Common.{◌≡◌, ◌≢◌, ◌⊎◌, inl, inr, ⊎_elim, ℕ, zero, suc, ◌+◌, ◌-◌, ◌<◌, ◌≤◌, ◌^◌, List, [], ◌∷◌, ◌++◌, length, take, drop, Option, Some, None, refl, sym, ◌∙◌, ap, subst, arith, append_assoc, length-append, length-take, length-drop}
use Rattle.std.proofs.lemmas.List.{take_at}
use Rattle.disk_keeper.specs.Disk.{History, overlaid, image, Torn, MayLeave, Leaves, LeavesThroughout, GoesOn, IsBroken, Breaks, after, shown, write_of}
use Rattle.disk_keeper.specs.File.{size_bytes}
use Rattle.disk_keeper.specs.Layout.{prefix, HaveSizes, IsFile, MayHave}
use Rattle.disk_keeper.specs.Appending.{WriteAfter, WritesAfter, HasImage, HasBody, IsSettled, offset_after, ReachedBy, Appends}
use Rattle.disk_keeper.specs.declared.appending.Reached.TheVariants.{Acknowledged, Body, Gate}
use Rattle.disk_keeper.specs.declared.change.Change.{Change}
use Rattle.disk_keeper.specs.declared.change.Change.TheVariants.{Write, Sync}
use Rattle.disk_keeper.proofs.DiskLemmas.{reported_on, reported_broken, torn_overlaid, prefix_overlaid, prefix_torn, same_reported}
use Rattle.disk_keeper.proofs.Bodies.{image_reported}
use Rattle.disk_keeper.proofs.Gates.{same_prefix, within_file, torn_gate, gate_opened}

-- what a crash may leave after the last change
pub leaves_last : (P : List ℕ → Type 0) (h : History) (more : List Change) → LeavesThroughout P h more → Leaves P (after h more)
leaves_last P h [] all = all
leaves_last P h (change ∷ more) all = all.0

-- one property follows from another at each moment
pub throughout_map : (P Q : List ℕ → Type 0) (h : History) (more : List Change) → ((c : List ℕ) → P c → Q c) → LeavesThroughout P h more → LeavesThroughout Q h more
throughout_map P Q h [] f all = λ c left. f c (all c left)
throughout_map P Q h (change ∷ more) f all = ((λ c left. f c (all.0 c left)), throughout_map P Q h more f all.1)

-- Writes after an offset leave what comes before it.
prefix_left : (n : ℕ) (F : List ℕ) (h : History) (more : List Change) → WriteAfter n more → Leaves (λ c. take n c ≡ F) h → LeavesThroughout (λ c. take n c ≡ F) h more
prefix_left n F h [] suffix left = left
prefix_left n F h (Write at size bytes ∷ more) suffix left =
    let earlier = prefix_left n F h more suffix.1 left in
    ((λ c now. prefix_torn n at size now.0 c suffix.0 now.2 ∙ leaves_last _ h more earlier now.0 now.1), earlier)
prefix_left n F h (Sync ∷ more) suffix left = absurd suffix

grown : (old : List ℕ) (at : ℕ) (bytes : List ℕ) → length old ≤ length (overlaid old at bytes)
grown old at bytes =
    omega (arith, length-append (take at old ++ bytes) (drop (at + length bytes) old), length-append (take at old) bytes, length-take at old, length-drop (at + length bytes) old)

longer : (h : History) (more : List Change) → (n : ℕ) → WriteAfter n more → length (shown h) ≤ length (shown (after h more))
longer h [] n suffix = omega arith
longer h (Write at size bytes ∷ more) n suffix = omega (arith, longer h more n suffix.1, grown (shown (after h more)) at bytes)
longer h (Sync ∷ more) n suffix = absurd suffix

prefix_shown : (n : ℕ) (h : History) (more : List Change) → WriteAfter n more → n ≤ length (shown h) → take n (shown (after h more)) ≡ take n (shown h)
prefix_shown n h [] suffix within = refl
prefix_shown n h (Write at size bytes ∷ more) suffix within =
    prefix_overlaid n (shown (after h more)) at bytes suffix.0 (omega (arith, within, longer h more n suffix.1)) ∙ prefix_shown n h more suffix.1 within
prefix_shown n h (Sync ∷ more) suffix within = absurd suffix

module _ (rs : List (List ℕ)) (gate : ℕ) (bytes : List ℕ) (h : History) (is : IsFile rs gate (shown h)) (settled : IsSettled h) where
  -- the writing of a body leaves the records as they were
  pub body_moments : (more : List Change) → WriteAfter (gate + 1) more → LeavesThroughout (IsFile rs gate) h more
  body_moments more suffix =
      throughout_map (λ c. take (gate + 1) c ≡ take (gate + 1) (shown h)) (IsFile rs gate) h more (λ c same. same_prefix rs gate (shown h) c is same)
      (prefix_left (gate + 1) (take (gate + 1) (shown h)) h more suffix (λ c left. ap (take (gate + 1)) (settled c left)))

  body_shown : (more : List Change) → WriteAfter (gate + 1) more → IsFile rs gate (shown (after h more))
  body_shown more suffix = same_prefix rs gate (shown h) _ is (prefix_shown (gate + 1) h more suffix (omega (arith, within_file rs gate (shown h) is)))

  may_have : (more : List Change) → LeavesThroughout (IsFile rs gate) h more → LeavesThroughout (MayHave rs bytes gate (offset_after gate bytes)) h more
  may_have more all = throughout_map (IsFile rs gate) _ h more (λ c file. inl file) all

  -- an append that failed before the gate
  pub stopped_in_body : (a : Option History) → WritesAfter (gate + 1) h a → Appends rs gate bytes Body h a
  stopped_in_body a writes = record {
    more = writes.0;
    known = writes.1;
    moments = may_have writes.0 (body_moments writes.0 writes.2);
    now = (body_shown writes.0 writes.2, leaves_last (IsFile rs gate) h writes.0 (body_moments writes.0 writes.2));
  }

  -- its sync changed nothing
  pub stopped_at_sync : (a b : Option History) → WritesAfter (gate + 1) h a → b ≡ a → Appends rs gate bytes Body h b
  stopped_at_sync a b writes same = stopped_in_body b (writes.0, same ∙ writes.1, writes.2)

  module _ (fits : length bytes < 2 ^ 64) (a b : Option History) (writes : WritesAfter (gate + 1) h a) (body : HasBody gate bytes (shown h) a) (synced : GoesOn a b (Sync ∷ [])) where
    abbrev staged : List Change
    staged = Sync ∷ writes.0

    abbrev Both : List ℕ → Type 0
    Both = MayHave rs bytes gate (offset_after gate bytes)

    known : b ≡ Some (after h (Sync ∷ writes.0))
    known = reported_on a b (after h writes.0) (Sync ∷ []) writes.1 synced

    -- the body stands whole after the gate
    shown_is : shown (after h (Sync ∷ writes.0)) ≡ prefix rs ++ is.gate ∷ (size_bytes (length bytes) ++ bytes ++ 0 ∷ body.0)
    shown_is =
        let one = image_reported a _ body.1 in
        let tail = size_bytes (length bytes) ++ bytes ++ 0 ∷ body.0 in
        let split : prefix rs ++ is.gate ∷ is.suffix ≡ (prefix rs ++ is.gate ∷ []) ++ is.suffix = sym (append_assoc (prefix rs) (is.gate ∷ []) is.suffix) in
        let prefix_is : take (gate + 1) (shown h) ≡ prefix rs ++ is.gate ∷ [] =
        ap (take (gate + 1)) (is.bytes ∙ split) ∙ take_at (prefix rs ++ is.gate ∷ []) is.suffix (gate + 1) (omega (arith, length-append (prefix rs) (is.gate ∷ []), is.offset_is)) in
        ap shown (same_reported a (after h writes.0) one.0 writes.1 one.1)
        ∙ one.2
        ∙ append_assoc (take (gate + 1) (shown h) ++ size_bytes (length bytes)) bytes (0 ∷ body.0)
        ∙ append_assoc (take (gate + 1) (shown h)) (size_bytes (length bytes)) (bytes ++ 0 ∷ body.0)
        ∙ ap (λ (l : List ℕ). l ++ (size_bytes (length bytes) ++ (bytes ++ 0 ∷ body.0))) prefix_is
        ∙ append_assoc (prefix rs) (is.gate ∷ []) (size_bytes (length bytes) ++ (bytes ++ 0 ∷ body.0))
        ∙ ap (λ (l : List ℕ). prefix rs ++ is.gate ∷ l) (sym (append_assoc (size_bytes (length bytes)) bytes (0 ∷ body.0)))

    staged_file : IsFile rs gate (shown (after h (Sync ∷ writes.0)))
    staged_file = body_shown writes.0 writes.2

    staged_moments : LeavesThroughout Both h (Sync ∷ writes.0)
    staged_moments =
        ((λ c left. inl (subst (IsFile rs gate) (sym left) staged_file)), may_have writes.0 (body_moments writes.0 writes.2))

    -- the gate was being written: it is open or not
    torn : (c : List ℕ) → Torn gate 1 (shown (after h (Sync ∷ writes.0))) c → Both c
    torn c cut = torn_gate rs bytes body.0 gate is.offset_is is.sizes fits is.gate (shown (after h (Sync ∷ writes.0))) c shown_is cut

    gate_left : (left : List ℕ) → Leaves Both (after h (Write gate 1 left ∷ Sync ∷ writes.0))
    gate_left left c now = torn c (subst (λ (e : List ℕ). Torn gate 1 e c) now.1 now.2)

    gate_shown : (left : List ℕ) → length left ≤ 1 → Both (shown (after h (Write gate 1 left ∷ Sync ∷ writes.0)))
    gate_shown left part = torn _ (torn_overlaid _ gate 1 left (omega (arith, within_file rs gate _ staged_file)) part)

    -- a write at the gate, which left some of its byte
    at_gate : (left : List ℕ) → length left ≤ 1 → (e : Option History) → e ≡ Some (after h (Write gate 1 left ∷ Sync ∷ writes.0))
        → Appends rs gate bytes (Gate (offset_after gate bytes)) h e
    at_gate left part e is_reported = record {
      more = Write gate 1 left ∷ Sync ∷ writes.0;
      known = is_reported;
      moments = (gate_left left, staged_moments);
      now = (gate_shown left part, gate_left left);
    }

    -- an append that failed at the gate
    pub stopped_at_gate : (d : Option History) → Breaks gate 1 b d → Appends rs gate bytes (Gate (offset_after gate bytes)) h d
    stopped_at_gate d breaks = by_part broken.0 broken.1 broken.2
      where
        broken : (more : List Change) × IsBroken gate 1 more × (d ≡ Some (after (after h (Sync ∷ writes.0)) more))
        broken = reported_broken b d (after h (Sync ∷ writes.0)) gate 1 known breaks

        by_part : (more : List Change) → IsBroken gate 1 more → d ≡ Some (after (after h (Sync ∷ writes.0)) more) → Appends rs gate bytes (Gate (offset_after gate bytes)) h d
        by_part more (inl none) is_reported = record {
          more = Sync ∷ writes.0;
          known = is_reported ∙ ap (λ (l : List Change). Some (after (after h (Sync ∷ writes.0)) l)) none;
          moments = staged_moments;
          now = (inl staged_file, staged_moments.0);
        }
        by_part more (inr some) is_reported = at_gate some.0 some.1 d (is_reported ∙ ap (λ (l : List Change). Some (after (after h (Sync ∷ writes.0)) l)) some.2)

    -- and one that failed at its sync
    pub stopped_at_last : (d e : Option History) → GoesOn b d (write_of gate (1 ∷ []) ∷ []) → e ≡ d → Appends rs gate bytes (Gate (offset_after gate bytes)) h e
    stopped_at_last d e opened same =
        at_gate (1 ∷ []) (omega arith) e (same ∙ reported_on b d (after h (Sync ∷ writes.0)) _ known opened)

    -- an append that is acknowledged
    pub acknowledged : (d e : Option History) → GoesOn b d (write_of gate (1 ∷ []) ∷ []) → GoesOn d e (Sync ∷ []) → Appends rs gate bytes (Acknowledged (offset_after gate bytes)) h e
    acknowledged d e opened kept = record {
      more = Sync ∷ Write gate 1 (1 ∷ []) ∷ Sync ∷ writes.0;
      known = reported_on d e _ (Sync ∷ []) (reported_on b d (after h (Sync ∷ writes.0)) _ known opened) kept;
      moments = ((λ c left. inr (subst (IsFile (rs ++ bytes ∷ []) (offset_after gate bytes)) (sym left) done)), (gate_left (1 ∷ []), staged_moments));
      now = (done, (λ c left. left));
    }
      where
        done : IsFile (rs ++ bytes ∷ []) (offset_after gate bytes) (overlaid (shown (after h (Sync ∷ writes.0))) gate (1 ∷ []))
        done = gate_opened rs bytes body.0 gate is.offset_is is.sizes fits is.gate _ shown_is
