-- Runs of bytes that pass a test or avoid one.
use Rattle.std.proofs.Common.{◌≡◌, ℕ, ◌+◌, Bool, true, false, not, List, [], ◌∷◌, ◌++◌, length, position, nat_eq, nat_lt, eqb-true, None, refl, sym, ap, ◌∙◌, one-add, add-one, append-nil}
use Rattle.std.proofs.lemmas.Bool.{and_parts, and_right, or_parts, or_from, false_from_ne_true, both_ways}
use Rattle.std.proofs.lemmas.List.{append_cancel_left}
use Rattle.std.proofs.lemmas.List.Folds.{list_any_at}
use Rattle.std.proofs.lemmas.List.Quantifiers.{position-Some}
use Rattle.std.specs.List.{list_all, list_any, before_first, after_first, position_or_len}

-- a byte that passes a test isn't one that doesn't
pub no_such_byte : (p : ℕ → Bool) (b c : ℕ) → p b ≡ true → p c ≡ false → nat_eq b c ≡ false
no_such_byte p b c passes refused =
    false_from_ne_true (nat_eq b c) (λ same. let e = eqb-true b c same in both_ways (p b) (ap p e ∙ refused) passes)

-- where each byte that passes one test avoids the other, so does a run of them
pub all_avoid : (p q : ℕ → Bool) (run : List ℕ) → ((b : ℕ) → p b ≡ true → q b ≡ false) → list_all p run ≡ true → list_any q run ≡ false
all_avoid p q [] avoids all = refl
all_avoid p q (b ∷ run) avoids all =
    let parts = and_parts (p b) (list_all p run) all in
    or_from (q b) (list_any q run) (avoids b parts.0) (all_avoid p q run avoids parts.1)

-- the first byte that passes isn't in a run that avoids the test
pub any_run : (p : ℕ → Bool) (run rest : List ℕ) → list_any p run ≡ false → list_any p (run ++ rest) ≡ list_any p rest
any_run p [] rest avoids = refl
any_run p (b ∷ run) rest avoids =
    let parts = or_parts (p b) (list_any p run) avoids in
    rw (parts.0, any_run p run rest parts.1) refl

pub before_run : (p : ℕ → Bool) (run rest : List ℕ) → list_any p run ≡ false → before_first p (run ++ rest) ≡ run ++ before_first p rest
before_run p [] rest avoids = refl
before_run p (b ∷ run) rest avoids =
    let parts = or_parts (p b) (list_any p run) avoids in
    rw (parts.0, one-add) (ap (λ x. b ∷ x) (before_run p run rest parts.1))

pub after_run : (p : ℕ → Bool) (run rest : List ℕ) → list_any p run ≡ false → after_first p (run ++ rest) ≡ after_first p rest
after_run p [] rest avoids = refl
after_run p (b ∷ run) rest avoids =
    let parts = or_parts (p b) (list_any p run) avoids in
    rw (parts.0, one-add) (simp add-one (simp add-one at (after_run p run rest parts.1)))

pub before_at : (p : ℕ → Bool) (b : ℕ) (bytes : List ℕ) → p b ≡ true → before_first p (b ∷ bytes) ≡ []
before_at p b bytes passes = rw passes

pub before_past : (p : ℕ → Bool) (b : ℕ) (bytes : List ℕ) → p b ≡ false → before_first p (b ∷ bytes) ≡ b ∷ before_first p bytes
before_past p b bytes fails = before_run p (b ∷ []) bytes (rw fails)

pub after_past : (p : ℕ → Bool) (b : ℕ) (bytes : List ℕ) → p b ≡ false → after_first p (b ∷ bytes) ≡ after_first p bytes
after_past p b bytes fails = after_run p (b ∷ []) bytes (rw fails)

-- nothing is left, or a byte that passes comes next
abbrev pub stops : (ℕ → Bool) → List ℕ → Bool
stops p [] = true
stops p (b ∷ bytes) = p b

-- a run that avoids the test ends where the bytes after it begin with a byte that passes
pub before_stop : (p : ℕ → Bool) (run rest : List ℕ) → list_any p run ≡ false → stops p rest ≡ true → before_first p (run ++ rest) ≡ run
before_stop p run [] avoids at = before_run p run [] avoids ∙ append-nil run
before_stop p run (b ∷ rest) avoids at = before_run p run (b ∷ rest) avoids ∙ ap (λ x. run ++ x) (before_at p b rest at) ∙ append-nil run

-- so such a run is told by the bytes
pub same_run : (p : ℕ → Bool) (run other rest others : List ℕ) → list_any p run ≡ false → list_any p other ≡ false →
    stops p rest ≡ true → stops p others ≡ true → run ++ rest ≡ other ++ others → (run ≡ other) × (rest ≡ others)
same_run p run other rest others avoids other_avoids at other_at same =
    let same_runs : run ≡ other =
    sym (before_stop p run rest avoids at) ∙ ap (before_first p) same ∙ before_stop p other others other_avoids other_at in
    (same_runs, append_cancel_left other rest others (rw same_runs at same))

-- one that fails makes the run fail
pub all_stopped : (p : ℕ → Bool) (run : List ℕ) (b : ℕ) (rest : List ℕ) → p b ≡ false → list_all p (run ++ b ∷ rest) ≡ false
all_stopped p [] b rest fails = rw fails
all_stopped p (c ∷ run) b rest fails = and_right (p c) (list_all p (run ++ b ∷ rest)) (all_stopped p run b rest fails)

-- a run that passes a test avoids its denial
pub none_from_all : (p : ℕ → Bool) (run : List ℕ) → list_all p run ≡ true → list_any (λ b. not (p b)) run ≡ false
none_from_all p run all = all_avoid p (λ b. not (p b)) run (λ b passes. rw passes refl) all

-- in a run that avoids a test none is found
pub none_from_avoids : (p : ℕ → Bool) (run : List ℕ) → list_any p run ≡ false → position p run ≡ None
none_from_avoids p run avoids = go (nat_lt (position_or_len p run) (length run)) refl
  where
    go : (c : Bool) → nat_lt (position_or_len p run) (length run) ≡ c → position p run ≡ None
    go true e =
        let at = position-Some p run (position_or_len p run) 0 (rw e refl) in
        absurd (both_ways (list_any p run) avoids (list_any_at p run (position_or_len p run) 0 at.0 at.1))
    go false e = rw e refl
