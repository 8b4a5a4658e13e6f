-- The lines of a statement, one posting after another, and those of an account's postings alone.
use Rattle.std.proofs.Common.{◌≡◌, ℕ, zero, suc, ◌+◌, ◌-◌, ◌<◌, ◌≤◌, ℤ, ◌≤ℤ◌, Bool, true, false, not, ◌||◌, ◌&&◌, cond, eqb, List, [], ◌∷◌, ◌++◌, length, map, filter, fold, take, reverse, get_or, Option, None, Some, refl, sym, ap, subst, ◌∙◌, append_assoc, arith}
use Rattle.std.proofs.Math.Seq.{take-suc}
use Rattle.std.proofs.lemmas.Bool.{and_parts, and_right, or_parts, eq-eqb}
use Rattle.std.proofs.lemmas.List.{map-append, append-nil, reverse-append, length-take-le}
use Rattle.std.proofs.lemmas.List.Folds.{find-append}
use Rattle.std.proofs.lemmas.List.Elements.{filter-append}
use Rattle.std.proofs.lemmas.Option.{slice_get-get_or}
use Rattle.std.proofs.lemmas.Int.{ints}
use Rattle.std.specs.Prelude.{int_le, int_lt}
use Rattle.std.specs.List.{find, slice_get}
use Rattle.std.specs.Option.{option_map, option_or}
use Rattle.std.specs.Str.{bytes_eq}
use Rattle.ofx_types.specs.AccountForm.{same_account, kind_word}
use Rattle.ofx_types.specs.declared.account.AcctName.{AcctName}
use Rattle.ofx_types.specs.declared.number.Moment.{Moment}
use Rattle.ofx_types.specs.declared.reply.StatementLine.{StatementLine}
use Rattle.ofx_types.proofs.Bytes.{bytes_eq_is}
use Rattle.bank_model.specs.Ledger.{Posting, is_about, is_before_end, is_within_period, line_for, lines_of}
use Rattle.bank_transfers.specs.Chain.{key_step, is_of, key_of, touches, index_before, last_by, posting_of, postings_of, PassesAt, IsBetween, IsLinked, AreLinked}
use Rattle.bank_transfers.specs.Lines.{lines_for}
use Rattle.bank_transfers.specs.SkipLink.{is_outside, next}
use Rattle.bank_transfers.specs.declared.skip_link.SkipLink.{SkipLink}
use Rattle.bank_transfers.specs.declared.postings.Linked.{Linked}
use Rattle.bank_transfers.proofs.ChainLemmas.{last_within, last_passes, passes_in, posting_is, link_at, before_within}

one_line : (name : AcctName) (posting : Posting) (more : List Posting) (listed : Bool) → map (line_for name) (cond listed (posting ∷ more) more) ≡ cond listed (line_for name posting ∷ []) [] ++ map (line_for name) more
one_line name posting more true = refl
one_line name posting more false = refl

lines_cons : (name : AcctName) (start : Moment) (end : Option Moment) (posting : Posting) (more : List Posting) → lines_of name start end (posting ∷ more) ≡ lines_for name start end posting ++ lines_of name start end more
unfolding lines_of
lines_cons name start end posting more =
    let listed = λ (p : Posting). is_about name p && is_within_period start end p in
    one_line name posting (filter listed more) (listed posting)

lines_push : (name : AcctName) (start : Moment) (end : Option Moment) (postings : List Posting) (posting : Posting) → lines_of name start end (postings ++ posting ∷ []) ≡ lines_of name start end postings ++ lines_for name start end posting
unfolding lines_of
lines_push name start end postings posting =
    let listed = λ (p : Posting). is_about name p && is_within_period start end p in
    ap (map (line_for name)) (filter-append listed postings (posting ∷ []))
    ∙ map-append (line_for name) (filter listed postings) (filter listed (posting ∷ []))
    ∙ ap (λ ls. map (line_for name) (filter listed postings) ++ ls) (one_line name posting [] (listed posting) ∙ append-nil (cond (listed posting) (line_for name posting ∷ []) []))

-- ---- postings of other accounts tell nothing

same_key : (a b : AcctName) → same_account a b ≡ true → key_of a ≡ key_of b
same_key a b same =
    let parts = and_parts (bytes_eq a.bank b.bank && bytes_eq a.number b.number) (bytes_eq (kind_word a.kind) (kind_word b.kind)) same in
    ap (λ (number : List ℕ). fold key_step 0 number) (bytes_eq_is a.number b.number (and_parts (bytes_eq a.bank b.bank) (bytes_eq a.number b.number) parts.0).1)

other_account : (a name : AcctName) → eqb (key_of a) (key_of name) ≡ false → same_account a name ≡ false
other_account a name apart = by (same_account a name) refl
  where
    by : (b : Bool) → same_account a name ≡ b → b ≡ false
    by true same = sym (eq-eqb (key_of a) (key_of name) (same_key a name same)) ∙ apart
    by false same = refl

lines_silent : (name : AcctName) (start : Moment) (end : Option Moment) (posting : Posting) → touches (key_of name) posting ≡ false → lines_for name start end posting ≡ []
lines_silent name start end posting apart =
    let parts = or_parts (eqb (key_of posting.row.from) (key_of name)) (eqb (key_of posting.row.to) (key_of name)) apart in
    ap (λ b. cond (cond b true (same_account posting.row.to name) && is_within_period start end posting) (line_for name posting ∷ []) []) (other_account posting.row.from name parts.0)
    ∙ ap (λ b. cond (b && is_within_period start end posting) (line_for name posting ∷ []) []) (other_account posting.row.to name parts.1)

-- After the last posting of its key an account has no lines.
pub silent : (name : AcctName) (start : Moment) (end : Option Moment) (postings : List Posting) → lines_of name start end postings ≡ lines_of name start end (take (last_by (touches (key_of name)) postings) postings)
silent name start end [] = refl
silent name start end (posting ∷ more) = by (touches (key_of name) posting) (last_by (touches (key_of name)) more) refl (silent name start end more)
  where
    by : (b : Bool) (n : ℕ) → touches (key_of name) posting ≡ b → lines_of name start end more ≡ lines_of name start end (take n more)
        → lines_of name start end (posting ∷ more) ≡ lines_of name start end (take (index_before b n) (posting ∷ more))
    by true zero is rest =
        lines_cons name start end posting more ∙ ap (λ ls. lines_for name start end posting ++ ls) rest ∙ sym (lines_cons name start end posting [])
    by false zero is rest =
        lines_cons name start end posting more ∙ ap (λ ls. ls ++ lines_of name start end more) (lines_silent name start end posting is) ∙ rest
    by b (suc n) is rest =
        lines_cons name start end posting more ∙ ap (λ ls. lines_for name start end posting ++ ls) rest ∙ sym (lines_cons name start end posting (take (suc n) more))

-- ---- from a posting to the one before it

take_take : {A : Type 0} (m k : ℕ) (xs : List A) → m ≤ k → take m (take k xs) ≡ take m xs
take_take zero k xs le = refl
take_take (suc m) zero xs le = absurd (omega (arith, le))
take_take (suc m) (suc k) [] le = refl
take_take (suc m) (suc k) (x ∷ xs) le = ap (λ l. x ∷ l) (take_take m k xs (omega (arith, le)))

one_reversed : (name : AcctName) (start : Moment) (end : Option Moment) (posting : Posting) → reverse (lines_for name start end posting) ≡ lines_for name start end posting
one_reversed name start end posting = by (is_about name posting && is_within_period start end posting)
  where
    by : (b : Bool) → reverse (cond b (line_for name posting ∷ []) []) ≡ cond b (line_for name posting ∷ []) []
    by true = refl
    by false = refl

-- After the place stand the lines that were found so far, the last of them first.
pub record IsAt (name : AcctName) (start : Moment) (end : Option Moment) (postings : List Posting) (index : ℕ) (lines : List StatementLine) : Type 0 where
  pub within : index ≤ length postings
  pub passes : PassesAt (touches (key_of name)) index postings
  pub reported : lines_of name start end postings ≡ lines_of name start end (take index postings) ++ reverse lines

pub at_last : (name : AcctName) (start : Moment) (end : Option Moment) (postings : List Posting) (index : ℕ) (lines : List StatementLine) → index ≡ last_by (touches (key_of name)) postings → lines ≡ [] → IsAt name start end postings index lines
at_last name start end postings index lines is none =
    subst (λ n. IsAt name start end postings n lines) (sym is) (subst (λ ls. IsAt name start end postings (last_by (touches (key_of name)) postings) ls) (sym none) (record {
      within = last_within (touches (key_of name)) postings;
      passes = last_passes (touches (key_of name)) postings;
      reported = silent name start end postings ∙ sym (append-nil (lines_of name start end (take (last_by (touches (key_of name)) postings) postings)));
    }))

one_back : (name : AcctName) (start : Moment) (end : Option Moment) (held : List Linked) (index : ℕ) (linked : Linked) (link : SkipLink) (lines more : List StatementLine) → 0 < index
    → linked ≡ get_or held (index - 1) linked → IsLinked (key_of name) link (index - 1) (postings_of held)
    → more ≡ lines ++ lines_for name start end (posting_of linked) → IsAt name start end (postings_of held) index lines
    → (link.before < index) × IsAt name start end (postings_of held) link.before more
one_back name start end held zero linked link lines more there is leads listed at = absurd (omega (arith, there))
one_back name start end held (suc k) linked link lines more there is leads listed at =
    let test = touches (key_of name) in
    let all = postings_of held in
    let prefix = take k all in
    let same : suc k - 1 ≡ k = omega arith in
    let here : linked ≡ get_or held k linked = subst (λ n. linked ≡ get_or held n linked) same is in
    let within : suc k ≤ length all = at.within in
    let inside : k < length all = omega (arith, within) in
    let before = link.before in
    let found : before ≡ last_by test prefix = leads.before ∙ ap (λ n. last_by test (take n all)) same in
    let bound : last_by test prefix ≤ length prefix = last_within test prefix in
    let size : length prefix ≡ k = length-take-le k all (omega (arith, inside)) in
    let little : before ≤ k = omega (arith, found, bound, size) in (
      omega (arith, little),
      record {
        within = omega (arith, little, inside);
        passes = passes_in test before k all little (subst (λ n. PassesAt test n prefix) (sym found) (last_passes test prefix));
        reported = at.reported
            ∙ ap (λ l. lines_of name start end l ++ reverse lines) (take-suc all k (posting_of linked) inside ∙ ap (λ (p : Posting). prefix ++ p ∷ []) (posting_is held k linked here))
            ∙ ap (λ ls. ls ++ reverse lines) (lines_push name start end prefix (posting_of linked))
            ∙ append_assoc (lines_of name start end prefix) (lines_for name start end (posting_of linked)) (reverse lines)
            ∙ ap (λ ls. lines_of name start end prefix ++ (ls ++ reverse lines)) (sym (one_reversed name start end (posting_of linked)))
            ∙ ap (λ ls. lines_of name start end prefix ++ ls) (sym (ap reverse listed ∙ reverse-append lines (lines_for name start end (posting_of linked))))
            ∙ ap (λ ls. ls ++ reverse more) (silent name start end prefix ∙ ap (λ n. lines_of name start end (take n prefix)) (sym found) ∙ ap (lines_of name start end) (take_take before k all little));
      },
    )

-- ---- over postings that are outside of a period

not_within : (start : Moment) (end : Option Moment) (least greatest at : ℤ) → (int_lt greatest start.0 || not (is_before_end end least)) ≡ true → least ≤ℤ at → at ≤ℤ greatest → (int_le start.0 at && is_before_end end at) ≡ false
not_within start end least greatest at out low high = by (int_lt greatest start.0) refl out
  where
    past : int_lt greatest start.0 ≡ true → int_le start.0 at ≡ false
    past is = grind (arith, ints)

    after : (end : Option Moment) → not (is_before_end end least) ≡ true → is_before_end end at ≡ false
    after None late = cc
    after (Some end) late = grind (arith, ints)

    by : (b : Bool) → int_lt greatest start.0 ≡ b → (b || not (is_before_end end least)) ≡ true → (int_le start.0 at && is_before_end end at) ≡ false
    by true is out = ap (λ b. b && is_before_end end at) (past is)
    by false is out = and_right (int_le start.0 at) (is_before_end end at) (after end out)

outside_silent : (name : AcctName) (start : Moment) (end : Option Moment) (link : SkipLink) (posting : Posting) → is_outside link start end ≡ true → (touches (key_of name) posting ≡ true → IsBetween link.least link.greatest posting) → lines_for name start end posting ≡ []
outside_silent name start end link posting out between = by (touches (key_of name) posting) refl
  where
    by : (b : Bool) → touches (key_of name) posting ≡ b → lines_for name start end posting ≡ []
    by true touched =
        let its = between touched in
        ap (λ b. cond b (line_for name posting ∷ []) []) (and_right (is_about name posting) (is_within_period start end posting) (not_within start end link.least.0 link.greatest.0 posting.row.stamp.0 out its.0 its.1))
    by false apart = lines_silent name start end posting apart

silent_over : (name : AcctName) (start : Moment) (end : Option Moment) (postings : List Posting) (d : Posting) (skip steps : ℕ) → ((k : ℕ) → skip ≤ k → k < skip + steps → lines_for name start end (get_or postings k d) ≡ []) → skip + steps ≤ length postings
    → lines_of name start end (take (skip + steps) postings) ≡ lines_of name start end (take skip postings)
silent_over name start end postings d skip zero none within = let same : skip + 0 ≡ skip = omega arith in ap (λ n. lines_of name start end (take n postings)) same
silent_over name start end postings d skip (suc steps) none within =
    let next : skip + suc steps ≡ suc (skip + steps) = omega arith in
    ap (λ n. lines_of name start end (take n postings)) next
    ∙ ap (lines_of name start end) (take-suc postings (skip + steps) d (omega (arith, within)))
    ∙ lines_push name start end (take (skip + steps) postings) (get_or postings (skip + steps) d)
    ∙ ap (λ ls. lines_of name start end (take (skip + steps) postings) ++ ls) (none (skip + steps) (omega arith) (omega arith))
    ∙ append-nil (lines_of name start end (take (skip + steps) postings))
    ∙ silent_over name start end postings d skip steps (λ k low high. none k low (omega (arith, high))) (omega (arith, within))

-- Where all that a link skips is outside of the period, the walk goes on from there.
next_back : (name : AcctName) (start : Moment) (end : Option Moment) (postings : List Posting) (d : Posting) (k : ℕ) (link : SkipLink) (lines : List StatementLine) → IsLinked (key_of name) link k postings → link.before ≤ k
    → IsAt name start end postings link.before lines → (next link start end ≤ link.before) × IsAt name start end postings (next link start end) lines
next_back name start end postings d k link lines linked little at = by (is_outside link start end) refl
  where
    steps : link.skip + (link.before - link.skip) ≡ link.before
    steps = omega (arith, linked.skip)

    by : (b : Bool) → is_outside link start end ≡ b → (cond b link.skip link.before ≤ link.before) × IsAt name start end postings (cond b link.skip link.before) lines
    by true out = (
      linked.skip,
      record {
        within = omega (arith, linked.skip, at.within);
        passes = linked.lands;
        reported = at.reported
            ∙ ap (λ ls. ls ++ reverse lines) (ap (λ n. lines_of name start end (take n postings)) (sym steps)
            ∙ silent_over name start end postings d link.skip (link.before - link.skip)
            (λ j low high. outside_silent name start end link (get_or postings j d) out (linked.stamps j d low (omega (arith, high, steps, little))))
            (omega (arith, steps, at.within)));
      },
    )
    by false within = (omega arith, at)

-- One step of the walk: the posting at the place is told, where a statement tells of it, and the walk goes on before it.
pub step_back : (name : AcctName) (start : Moment) (end : Option Moment) (held : List Linked) (index goes : ℕ) (linked : Linked) (link : SkipLink) (lines more : List StatementLine) → AreLinked held → 0 < index
    → linked ≡ get_or held (index - 1) linked → link ≡ cond (eqb (key_of linked.row.from) (key_of name)) linked.from_link linked.to_link → goes ≡ next link start end
    → more ≡ lines ++ lines_for name start end (posting_of linked) → IsAt name start end (postings_of held) index lines
    → (goes < index) × IsAt name start end (postings_of held) goes more
step_back name start end held index goes linked link lines more are there is its goes_is listed at =
    let within : index ≤ length (postings_of held) = at.within in
    let leads : IsLinked (key_of name) link (index - 1) (postings_of held) =
    subst (λ (l : SkipLink). IsLinked (key_of name) l (index - 1) (postings_of held)) (sym its) (link_at (key_of name) held index linked are there within at.passes is) in
    let back = one_back name start end held index linked link lines more there is leads listed at in
    let on = next_back name start end (postings_of held) (posting_of linked) (index - 1) link more leads (before_within (key_of name) link (index - 1) (postings_of held) (omega (arith, within)) leads) back.1 in
    (omega (arith, goes_is, on.0, back.0), subst (λ n. IsAt name start end (postings_of held) n more) (sym goes_is) on.1)

pub at_first : (name : AcctName) (start : Moment) (end : Option Moment) (postings : List Posting) (index : ℕ) (lines all : List StatementLine) → IsAt name start end postings index lines → index ≡ 0 → all ≡ reverse lines → all ≡ lines_of name start end postings
unfolding lines_of
at_first name start end postings index lines all at none is =
    is ∙ sym (at.reported ∙ ap (λ n. lines_of name start end (take n postings) ++ reverse lines) none)

-- ---- the last posting of a transfer

abbrev pub at_index : ℕ → List Posting → Option Posting
at_index zero postings = None
at_index (suc k) postings = slice_get postings k

found_before : (b : Bool) (n : ℕ) (posting : Posting) (more : List Posting) → n ≤ length more → option_or (at_index n more) (cond b (Some posting) None) ≡ at_index (index_before b n) (posting ∷ more)
found_before true zero posting more le = refl
found_before false zero posting more le = refl
found_before b (suc k) posting more le =
    let some = slice_get-get_or more k posting (omega (arith, le)) in
    ap (λ (o : Option Posting). option_or o (cond b (Some posting) None)) some ∙ sym some

pub found_last : (test : Posting → Bool) (postings : List Posting) → find test (reverse postings) ≡ at_index (last_by test postings) postings
found_last test [] = refl
found_last test (posting ∷ more) =
    ap (find test) (reverse-append (posting ∷ []) more)
    ∙ find-append test (reverse more) (posting ∷ [])
    ∙ ap (λ (o : Option Posting). option_or o (cond (test posting) (Some posting) None)) (found_last test more)
    ∙ found_before (test posting) (last_by test more) posting more (last_within test more)

pub last_row : (id : ℕ) (held : List Linked) (index : ℕ) (linked : Linked) → index ≡ last_by (is_of id) (postings_of held) → 0 < index → linked ≡ get_or held (index - 1) linked
    → Some linked.row ≡ option_map (λ (p : Posting). p.row) (find (is_of id) (reverse (postings_of held)))
last_row id held zero linked is there at = absurd (omega (arith, there))
last_row id held (suc k) linked is there at =
    let bound : last_by (is_of id) (postings_of held) ≤ length (postings_of held) = last_within (is_of id) (postings_of held) in
    let inside : k < length (postings_of held) = omega (arith, is, bound) in
    let same : suc k - 1 ≡ k = omega arith in
    let here : linked ≡ get_or held k linked = subst (λ n. linked ≡ get_or held n linked) same at in
    let posting : get_or (postings_of held) k (posting_of linked) ≡ posting_of linked = posting_is held k linked here in
    sym (ap (option_map (λ (p : Posting). p.row))
    (found_last (is_of id) (postings_of held)
    ∙ ap (λ n. at_index n (postings_of held)) (sym is)
    ∙ slice_get-get_or (postings_of held) k (posting_of linked) inside
    ∙ ap (λ (p : Posting). Some p) posting))

pub no_row : (id : ℕ) (held : List Linked) (index : ℕ) → index ≡ last_by (is_of id) (postings_of held) → index ≡ 0
    → None ≡ option_map (λ (p : Posting). p.row) (find (is_of id) (reverse (postings_of held)))
no_row id held index is none = sym (ap (option_map (λ (p : Posting). p.row)) (found_last (is_of id) (postings_of held) ∙ ap (λ n. at_index n (postings_of held)) (sym is ∙ none)))
