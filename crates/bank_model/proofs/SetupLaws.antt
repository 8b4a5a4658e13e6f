-- The laws of reading a setup: a setup is read where it is spelled, and a fault where the bytes have it.
use Rattle.std.proofs.Common.{◌≡◌, ℕ, ◌+◌, ◌<◌, ◌≤◌, ◌⊎◌, Bool, true, false, cond, not, ◌||◌, eqb, ltb, List, [], ◌∷◌, ◌++◌, length, take, codes, Option, None, Some, Result, Ok, Err, pos, refl, sym, ap, ◌∙◌, subst, arith, inl, inr}
use Rattle.std.specs.Prelude.{IfOk, IfErr}
use Rattle.std.specs.List.{IsDistinct}
use Rattle.std.specs.Str.{bytes_eq}
use Rattle.std.proofs.lemmas.Bool.{not-false, ltb-false, le-ltb, leb-true, leb-false, le-leb, lt-leb, ne_eqb, or_parts, or_from}
use Rattle.std.proofs.lemmas.List.{nil_from_length, take_all}
use Rattle.std.proofs.lemmas.Int.{ints}
use Rattle.ofx_types.proofs.Bytes.{bytes_eq_is}
use Rattle.bank_model.specs.declared.setup.Setup.{Setup}
use Rattle.bank_model.specs.declared.setup.SetupFault.{SetupFault}
use Rattle.bank_model.specs.declared.setup.SetupFault.TheVariants as faults
use Rattle.bank_model.specs.declared.setup.draft.SetupDraft.{SetupDraft}
use Rattle.bank_model.specs.SetupForm.{IsWord, lines_of, AreLines, KeepsLineLimits, SpellsSetup}
use Rattle.bank_model.specs.SetupFault.{lines_in, lines_within, BeginSetup, AreLinesOf, IsWrongAt, IsLackingAt, IsTooWideAt, IsSetupFault}
use Rattle.bank_model.specs.SetupOutcome.{IsRefusalOf, NamesFaultOf, Answers}
use Rattle.bank_model.specs.SetupReading.{◌>>=◌, unless, ReadsSetup, after_key, is_word_form, bank_at, limit_at, number_within, with_format, with_bank, with_lead, with_window, with_entries, unread, or_fault_at, with_line, with_lines, left_in, objects_fit, IsBounded, lacks_line, judged, setup_at}
use Rattle.bank_model.proofs.SetupWords.{bind_some, unless_some, chosen_some, some_is, after_back, word_parts}
use Rattle.bank_model.proofs.SetupNumbers.{within_back}
use Rattle.bank_model.proofs.SetupLines.{ok_is, taken_some, lines_back, lines_there}
use Rattle.bank_model.proofs.SetupGrowth.{some_there, zero_word, first_line, bank_line, limit_line, Grown, with_lines_adds, begun_prefix, line_limits, begun_grown}
use Rattle.bank_model.proofs.SetupSpelled.{built, all_there, joined_read, begun_read, lines_clean}

-- ---- what is read begins a setup

-- the lines are all those of the draft
pub record AreAll (lines : List (List ℕ)) (d : SetupDraft) : Type 0 where
  pub same : lines_of d.setup ≡ lines
  pub limits : KeepsLineLimits d.setup

-- what reading lines says of them
pub record IsRead (lines : List (List ℕ)) (d : SetupDraft) : Type 0 where
  pub begun : BeginSetup lines
  pub bounded : IsBounded d.setup
  pub whole : 0 < length d.setup.accounts → AreAll lines d

-- the limits of the head as they are read
abbrev headed : List ℕ → ℕ → ℕ → ℕ → SetupDraft
headed bank lead window entries = record { setup = record { bank = bank; users = []; accounts = []; lead = lead; window = window; entries = entries }; openings = record { 0 = pos 0 } }

grown_head : (bank : List ℕ) (lead window entries : ℕ) → IsWord bank → lead ≤ 30 → 1 ≤ window → window ≤ 10000 → 1 ≤ entries → entries ≤ 9999999999 → Grown (headed bank lead window entries)
unfolding IsDistinct
grown_head bank lead window entries word lead_high window_low window_high entries_low entries_high = record {
  bank = word;
  lead = lead_high;
  window_low = window_low;
  window_high = window_high;
  entries_low = entries_low;
  entries_high = entries_high;
  users_high = omega arith;
  users = tt;
  names = tt;
  accounts_high = omega arith;
  accounts = tt;
  numbers = tt;
  sum = refl;
  most = omega (arith, ints);
  owned = λ some. absurd (omega (arith, some));
}

-- a draft of no users and no accounts whose lines begin a setup
head_read : (bank : List ℕ) (lead window entries : ℕ) (lines : List (List ℕ)) → window ≤ 10000 → BeginSetup lines → IsRead lines (headed bank lead window entries)
head_read bank lead window entries lines high begun = record {
  begun = begun;
  bounded = record { window = high; users = omega arith; accounts = omega arith };
  whole = λ some. absurd (omega (arith, some));
}

read_body : (d e : SetupDraft) (lines : List (List ℕ)) → Grown d → with_lines 6 d lines ≡ Ok e → IsRead (lines_of d.setup ++ lines) e
read_body d e lines g h =
    let adds = with_lines_adds 6 d e lines (omega arith) g h in
    let more = adds.grown in
    record {
      begun = subst BeginSetup adds.lines (begun_grown e more);
      bounded = record { window = more.window_high; users = more.users_high; accounts = more.accounts_high };
      whole = λ some. record { same = adds.lines; limits = line_limits e more some };
    }

limit_back : (key : List ℕ) (lowest highest : ℕ) (line : List ℕ) (n : ℕ) → limit_at key lowest highest line ≡ Some n → (line ≡ limit_line key n) × (lowest ≤ n) × (n ≤ highest)
unfolding limit_at
limit_back key lowest highest line n h =
    let k = bind_some (after_key key line) (number_within lowest highest) n h in
    let is = within_back lowest highest k.0 n k.2 in
    (after_back key line k.0 k.1 ∙ ap (λ (l : List ℕ). key ++ 32 ∷ l) is.0, is.1, is.2)

bank_back : (line bank : List ℕ) → bank_at line ≡ Some bank → (line ≡ bank_line bank) × IsWord bank
unfolding bank_at
bank_back line bank h =
    let k = bind_some (after_key (codes "BANK") line) (λ bank. unless (not (is_word_form bank)) (Some bank)) bank h in
    let w = unless_some (not (is_word_form k.0)) (Some k.0) bank k.2 in
    let same : k.0 ≡ bank = some_is k.0 bank w.1 in
    (after_back (codes "BANK") line k.0 k.1 ∙ ap bank_line same, subst IsWord same (word_parts k.0 (not-false _ w.0)))

-- the lines from the fifth on, after four
abbrev after_four : List ℕ → ℕ → ℕ → List (List ℕ) → List (List ℕ)
after_four bank lead window lines = first_line ∷ bank_line bank ∷ limit_line (codes "LEAD") lead ∷ limit_line (codes "WINDOW") window ∷ lines

read_entries : (bank : List ℕ) (lead window : ℕ) (e : SetupDraft) (lines : List (List ℕ)) → IsWord bank → lead ≤ 30 → 1 ≤ window → window ≤ 10000 → with_lines 5 (headed bank lead window 0) lines ≡ Ok e → IsRead (after_four bank lead window lines) e
unfolding with_lines with_line with_entries lines_of
read_entries bank lead window e [] word lead_high low high h =
    let grown = grown_head bank lead window 1 word lead_high low high (omega arith) (omega arith) in
    subst (IsRead (after_four bank lead window [])) (ok_is (headed bank lead window 0) e h) (head_read bank lead window 0 (after_four bank lead window []) high (begun_prefix (after_four bank lead window []) (limit_line (codes "ENTRIES") 1 ∷ []) (begun_grown (headed bank lead window 1) grown)))
read_entries bank lead window e (line ∷ lines) word lead_high low high h =
    let one = taken_some 5 (limit_at (codes "ENTRIES") 1 9999999999 line >>= λ n. Some (headed bank lead window n)) (λ next. with_lines 6 next lines) e h in
    let n = bind_some (limit_at (codes "ENTRIES") 1 9999999999 line) (λ n. Some (headed bank lead window n)) one.0 one.1 in
    let is = limit_back (codes "ENTRIES") 1 9999999999 line n.0 n.1 in
    let rest : with_lines 6 (headed bank lead window n.0) lines ≡ Ok e = ap (λ (d : SetupDraft). with_lines 6 d lines) (some_is (headed bank lead window n.0) one.0 n.2) ∙ one.2 in
    let read = read_body (headed bank lead window n.0) e lines (grown_head bank lead window n.0 word lead_high low high is.1 is.2) rest in
    subst (λ (l : List ℕ). IsRead (after_four bank lead window (l ∷ lines)) e) (sym is.0) read

abbrev after_three : List ℕ → ℕ → List (List ℕ) → List (List ℕ)
after_three bank lead lines = first_line ∷ bank_line bank ∷ limit_line (codes "LEAD") lead ∷ lines

read_window : (bank : List ℕ) (lead : ℕ) (e : SetupDraft) (lines : List (List ℕ)) → IsWord bank → lead ≤ 30 → with_lines 4 (headed bank lead 0 0) lines ≡ Ok e → IsRead (after_three bank lead lines) e
unfolding with_lines with_line with_window
read_window bank lead e [] word lead_high h =
    let more = read_entries bank lead 1 (headed bank lead 1 0) [] word lead_high (omega arith) (omega arith) refl in
    subst (IsRead (after_three bank lead [])) (ok_is (headed bank lead 0 0) e h) (head_read bank lead 0 0 (after_three bank lead []) (omega arith) (begun_prefix (after_three bank lead []) (limit_line (codes "WINDOW") 1 ∷ []) more.begun))
read_window bank lead e (line ∷ lines) word lead_high h =
    let one = taken_some 4 (limit_at (codes "WINDOW") 1 10000 line >>= λ n. Some (headed bank lead n 0)) (λ next. with_lines 5 next lines) e h in
    let n = bind_some (limit_at (codes "WINDOW") 1 10000 line) (λ n. Some (headed bank lead n 0)) one.0 one.1 in
    let is = limit_back (codes "WINDOW") 1 10000 line n.0 n.1 in
    let rest : with_lines 5 (headed bank lead n.0 0) lines ≡ Ok e = ap (λ (d : SetupDraft). with_lines 5 d lines) (some_is (headed bank lead n.0 0) one.0 n.2) ∙ one.2 in
    subst (λ (l : List ℕ). IsRead (after_three bank lead (l ∷ lines)) e) (sym is.0) (read_entries bank lead n.0 e lines word lead_high is.1 is.2 rest)

abbrev after_two : List ℕ → List (List ℕ) → List (List ℕ)
after_two bank lines = first_line ∷ bank_line bank ∷ lines

read_lead : (bank : List ℕ) (e : SetupDraft) (lines : List (List ℕ)) → IsWord bank → with_lines 3 (headed bank 0 0 0) lines ≡ Ok e → IsRead (after_two bank lines) e
unfolding with_lines with_line with_lead
read_lead bank e [] word h =
    let more = read_window bank 0 (headed bank 0 0 0) [] word (omega arith) refl in
    subst (IsRead (after_two bank [])) (ok_is (headed bank 0 0 0) e h) (head_read bank 0 0 0 (after_two bank []) (omega arith) (begun_prefix (after_two bank []) (limit_line (codes "LEAD") 0 ∷ []) more.begun))
read_lead bank e (line ∷ lines) word h =
    let one = taken_some 3 (limit_at (codes "LEAD") 0 30 line >>= λ n. Some (headed bank n 0 0)) (λ next. with_lines 4 next lines) e h in
    let n = bind_some (limit_at (codes "LEAD") 0 30 line) (λ n. Some (headed bank n 0 0)) one.0 one.1 in
    let is = limit_back (codes "LEAD") 0 30 line n.0 n.1 in
    let rest : with_lines 4 (headed bank n.0 0 0) lines ≡ Ok e = ap (λ (d : SetupDraft). with_lines 4 d lines) (some_is (headed bank n.0 0 0) one.0 n.2) ∙ one.2 in
    subst (λ (l : List ℕ). IsRead (after_two bank (l ∷ lines)) e) (sym is.0) (read_window bank n.0 e lines word is.2 rest)

read_bank : (e : SetupDraft) (lines : List (List ℕ)) → with_lines 2 unread lines ≡ Ok e → IsRead (first_line ∷ lines) e
unfolding with_lines with_line with_bank
read_bank e [] h =
    let more = read_lead (codes "0") (headed (codes "0") 0 0 0) [] zero_word refl in
    subst (IsRead (first_line ∷ [])) (ok_is unread e h) (head_read [] 0 0 0 (first_line ∷ []) (omega arith) (begun_prefix (first_line ∷ []) (bank_line (codes "0") ∷ []) more.begun))
read_bank e (line ∷ lines) h =
    let one = taken_some 2 (bank_at line >>= λ bank. Some (headed bank 0 0 0)) (λ next. with_lines 3 next lines) e h in
    let n = bind_some (bank_at line) (λ bank. Some (headed bank 0 0 0)) one.0 one.1 in
    let is = bank_back line n.0 n.1 in
    let rest : with_lines 3 (headed n.0 0 0 0) lines ≡ Ok e = ap (λ (d : SetupDraft). with_lines 3 d lines) (some_is (headed n.0 0 0 0) one.0 n.2) ∙ one.2 in
    subst (λ (l : List ℕ). IsRead (first_line ∷ l ∷ lines) e) (sym is.0) (read_lead n.0 e lines is.1 rest)

-- lines that are read begin a setup, and are all of it after its first account
pub lines_read : (e : SetupDraft) (lines : List (List ℕ)) → with_lines 1 unread lines ≡ Ok e → IsRead lines e
unfolding with_lines with_line
lines_read e [] h =
    let more = read_bank unread [] refl in
    subst (IsRead []) (ok_is unread e h) (head_read [] 0 0 0 [] (omega arith) (begun_prefix [] (first_line ∷ []) more.begun))
lines_read e (line ∷ lines) h =
    let one = taken_some 1 (with_format unread line) (λ next. with_lines 2 next lines) e h in
    let is = chosen_some (bytes_eq line (codes "OFXBANK 1")) unread one.0 one.1 in
    let rest : with_lines 2 unread lines ≡ Ok e = ap (λ (d : SetupDraft). with_lines 2 d lines) is.1 ∙ one.2 in
    subst (λ (l : List ℕ). IsRead (l ∷ lines) e) (sym (bytes_eq_is line (codes "OFXBANK 1") is.0)) (read_bank e lines rest)

-- ---- a line that is not taken

-- the first line that is not taken
record IsStopped (n : ℕ) (d : SetupDraft) (lines : List (List ℕ)) (k : ℕ) : Type 0 where
  pub before : List (List ℕ)
  pub line : List ℕ
  pub suffix : List (List ℕ)
  pub split : lines ≡ before ++ line ∷ suffix
  pub number : k ≡ n + length before
  pub mid : SetupDraft
  pub read : with_lines n d before ≡ Ok mid
  pub refused : with_line (n + length before) mid line ≡ None

err_is : {A : Type 0} (j k : ℕ) → (let r : Result A ℕ = Err j in r) ≡ Err k → j ≡ k
err_is j k h = cc

stopped : (n : ℕ) (d : SetupDraft) (lines : List (List ℕ)) (k : ℕ) → with_lines n d lines ≡ Err k → IsStopped n d lines k
unfolding with_lines
stopped n d [] k h = absurd cc
stopped n d (line ∷ lines) k h = by_line (with_line n d line) refl h (λ next. stopped (n + 1) next lines k)
  where
    by_line : (found : Option SetupDraft) → with_line n d line ≡ found → or_fault_at n found (λ next. with_lines (n + 1) next lines) ≡ Err k → ((next : SetupDraft) → with_lines (n + 1) next lines ≡ Err k → IsStopped (n + 1) next lines k) → IsStopped n d (line ∷ lines) k
    by_line None e h suffix =
        let here : n + 0 ≡ n = omega arith in
        record { before = []; line = line; suffix = lines; split = refl; number = sym (err_is {A = SetupDraft} n k h) ∙ sym here; mid = d; read = refl; refused = ap (λ (m : ℕ). with_line m d line) here ∙ e }
    by_line (Some next) e h suffix =
        let more = suffix next h in
        let count : n + length (line ∷ more.before) ≡ n + 1 + length more.before = omega arith in
        record {
          before = line ∷ more.before;
          line = more.line;
          suffix = more.suffix;
          split = ap (λ (l : List (List ℕ)). line ∷ l) more.split;
          number = more.number ∙ sym count;
          mid = more.mid;
          read = ap (λ (found : Option SetupDraft). or_fault_at n found (λ next. with_lines (n + 1) next more.before)) e ∙ more.read;
          refused = ap (λ (m : ℕ). with_line m more.mid more.line) count ∙ more.refused;
        }

one_line : (n : ℕ) (d : SetupDraft) (line : List ℕ) (more : List (List ℕ)) → with_line n d line ≡ None → with_lines n d (line ∷ more) ≡ Err n
unfolding with_lines
one_line n d line more h = rw h refl

wrong_back : (lines : List (List ℕ)) (k : ℕ) → with_lines 1 unread lines ≡ Err k → IsWrongAt lines k
wrong_back lines k h =
    let s = stopped 1 unread lines k h in
    record {
      before = s.before;
      line = s.line;
      suffix = s.suffix;
      split = s.split;
      number = omega (arith, s.number);
      begun = (lines_read s.mid s.before s.read).begun;
      wrong = λ begun.
          let read = begun_read (s.before ++ s.line ∷ []) begun in
          let fault : with_lines 1 unread (s.before ++ s.line ∷ []) ≡ Err (1 + length s.before) = joined_read 1 unread s.mid s.before (s.line ∷ []) s.read ∙ one_line (1 + length s.before) s.mid s.line [] s.refused in
          let both : Ok read.0 ≡ Err (1 + length s.before) = sym read.1 ∙ fault in absurd cc;
    }

wrong_there : (lines : List (List ℕ)) (k : ℕ) → IsWrongAt lines k → with_lines 1 unread lines ≡ Err k
unfolding with_lines
wrong_there lines k w =
    let read = begun_read w.before w.begun in
    let whole : with_lines 1 unread lines ≡ with_lines (1 + length w.before) read.0 (w.line ∷ w.suffix) = ap (with_lines 1 unread) w.split ∙ joined_read 1 unread read.0 w.before (w.line ∷ w.suffix) read.1 in
    whole ∙ by_line (1 + length w.before) read.0 (omega (arith, w.number)) (joined_read 1 unread read.0 w.before (w.line ∷ []) read.1)
  where
    taken : (n : ℕ) (mid : SetupDraft) (found : Option SetupDraft) → with_line n mid w.line ≡ found → with_lines 1 unread (w.before ++ w.line ∷ []) ≡ or_fault_at n found (λ next. Ok next) → found ≡ None
    taken n mid None e h = refl
    taken n mid (Some next) e h = absurd (w.wrong (lines_read next (w.before ++ w.line ∷ []) h).begun)

    by_line : (n : ℕ) (mid : SetupDraft) → n ≡ k → with_lines 1 unread (w.before ++ w.line ∷ []) ≡ with_lines n mid (w.line ∷ []) → with_lines n mid (w.line ∷ w.suffix) ≡ Err k
    by_line n mid e h = one_line n mid w.line w.suffix (taken n mid (with_line n mid w.line) refl h) ∙ ap (λ (m : ℕ). Err m) e

-- ---- all lines of a setup

abbrev left_within : List ℕ → List ℕ
left_within bytes = left_in (take 262144 bytes)

nothing_left : (left : List ℕ) → ltb 0 (length left) ≡ false → left ≡ []
nothing_left left h = nil_from_length left (omega (arith, ltb-false 0 (length left) h))

-- where no line is missing the bytes are all lines of the draft
whole_back : (bytes : List ℕ) (d : SetupDraft) → with_lines 1 unread (lines_within bytes) ≡ Ok d → lacks_line bytes (left_within bytes) d ≡ false → AreLinesOf bytes d.setup × (lines_of d.setup ≡ lines_within bytes)
whole_back bytes d read h =
    let accounts = or_parts (ltb 262144 (length bytes) || ltb 0 (length (left_within bytes))) (eqb (length d.setup.accounts) 0) h in
    let left = or_parts (ltb 262144 (length bytes)) (ltb 0 (length (left_within bytes))) accounts.0 in
    let small : length bytes ≤ 262144 = ltb-false 262144 (length bytes) left.0 in
    let all : take 262144 bytes ≡ bytes = take_all 262144 bytes small in
    let hold : AreLines (take 262144 bytes) (lines_within bytes) = lines_back (take 262144 bytes) (nothing_left (left_within bytes) left.1) in
    let is = (lines_read d (lines_within bytes) read).whole (some_there d.setup.accounts accounts.1) in
    let P : List ℕ → Type 0 = λ prefix. AreLines prefix (lines_within bytes) in
    (record { small = small; limits = is.limits; lines = subst (AreLines bytes) (sym is.same) (subst P all hold) }, is.same)

abbrev built_whole : Setup → SetupDraft
built_whole s = built s s.users s.accounts

-- the lines of a setup are read, and none is missing
record IsWhole (bytes : List ℕ) (s : Setup) : Type 0 where
  pub same : lines_within bytes ≡ lines_of s
  pub read : with_lines 1 unread (lines_within bytes) ≡ Ok (built_whole s)
  pub whole : lacks_line bytes (left_within bytes) (built_whole s) ≡ false

whole_there : (bytes : List ℕ) (s : Setup) → AreLinesOf bytes s → IsWhole bytes s
whole_there bytes s are =
    let all : take 262144 bytes ≡ bytes = take_all 262144 bytes are.small in
    let there = lines_there bytes (lines_of s) (lines_clean s are.limits) are.lines in
    let same : lines_within bytes ≡ lines_of s = ap lines_in all ∙ there.0 in
    let left : left_within bytes ≡ [] = ap left_in all ∙ there.1 in
    let short : ltb 262144 (length bytes) ≡ false = le-ltb _ _ are.small in
    let none : ltb 0 (length (left_within bytes)) ≡ false = ap (λ (l : List ℕ). ltb 0 (length l)) left in
    let some : eqb (length s.accounts) 0 ≡ false = ne_eqb _ _ (λ e. omega (arith, are.limits.accounts_low, e)) in
    record { same = same; read = ap (with_lines 1 unread) same ∙ all_there s are.limits; whole = or_from _ _ (or_from _ _ short none) some }

-- ---- a setup

are_lines : (bytes : List ℕ) (s : Setup) → SpellsSetup bytes s → AreLinesOf bytes s
are_lines bytes s spells = record { small = spells.small; limits = spells.limits.lines; lines = spells.lines }

pub setup_back : (bytes : List ℕ) (s : Setup) → setup_at bytes ≡ Ok s → SpellsSetup bytes s
unfolding setup_at
setup_back bytes s h = by_read (with_lines 1 unread (lines_within bytes)) refl h
  where
    by_tests : (d : SetupDraft) (lacks fits : Bool) → with_lines 1 unread (lines_within bytes) ≡ Ok d → lacks_line bytes (left_within bytes) d ≡ lacks → objects_fit d.setup ≡ fits → cond lacks (Err (length (lines_within bytes) + 1)) (cond fits (Ok d.setup) (Err (length (lines_within bytes)))) ≡ Ok s → SpellsSetup bytes s
    by_tests d true fits read a b h = absurd cc
    by_tests d false false read a b h = absurd cc
    by_tests d false true read a b h =
        let whole = whole_back bytes d read a in
        let spells : SpellsSetup bytes d.setup = record { small = whole.0.small; limits = record { lines = whole.0.limits; objects = leb-true _ _ b }; lines = whole.0.lines } in
        let same : d.setup ≡ s = cc in
        subst (SpellsSetup bytes) same spells

    by_read : (read : Result SetupDraft ℕ) → with_lines 1 unread (lines_within bytes) ≡ read → judged bytes read ≡ Ok s → SpellsSetup bytes s
    by_read (Err k) e h = absurd cc
    by_read (Ok d) e h = by_tests d (lacks_line bytes (left_within bytes) d) (objects_fit d.setup) e refl refl h

pub setup_there : (bytes : List ℕ) (s : Setup) → SpellsSetup bytes s → setup_at bytes ≡ Ok s
unfolding setup_at
setup_there bytes s spells =
    let is = whole_there bytes s (are_lines bytes s spells) in
    let fit : objects_fit s ≡ true = le-leb _ _ spells.limits.objects in
    ap (judged bytes) is.read ∙ rw (is.whole, fit) refl

-- ---- a fault

pub fault_back : (bytes : List ℕ) (k : ℕ) → setup_at bytes ≡ Err k → IsSetupFault bytes k
unfolding setup_at IsSetupFault
fault_back bytes k h = by_read (with_lines 1 unread (lines_within bytes)) refl h
  where
    by_tests : (d : SetupDraft) (lacks fits : Bool) → with_lines 1 unread (lines_within bytes) ≡ Ok d → lacks_line bytes (left_within bytes) d ≡ lacks → objects_fit d.setup ≡ fits → cond lacks (Err (length (lines_within bytes) + 1)) (cond fits (Ok d.setup) (Err (length (lines_within bytes)))) ≡ Err k → IsSetupFault bytes k
    by_tests d true fits read a b h =
        let lacks : (s : Setup) → AreLinesOf bytes s → ⊥ = λ s are.
        let is = whole_there bytes s are in
        let same : built_whole s ≡ d = ok_is (built_whole s) d (sym is.read ∙ read) in
        let both : true ≡ false = sym a ∙ ap (lacks_line bytes (left_within bytes)) (sym same) ∙ is.whole in absurd cc in
        inr (inl (record { number = sym (err_is {A = Setup} _ k h); begun = (lines_read d (lines_within bytes) read).begun; lacking = lacks }))
    by_tests d false true read a b h = absurd cc
    by_tests d false false read a b h =
        let whole = whole_back bytes d read a in
        inr (inr (record { setup = d.setup; whole = whole.0; wide = leb-false _ _ b; number = sym (err_is {A = Setup} _ k h) ∙ ap length (sym whole.1) }))

    by_read : (read : Result SetupDraft ℕ) → with_lines 1 unread (lines_within bytes) ≡ read → judged bytes read ≡ Err k → IsSetupFault bytes k
    by_read (Err j) e h = inl (wrong_back (lines_within bytes) k (e ∙ ap (λ (m : ℕ). Err m) (err_is {A = Setup} j k h)))
    by_read (Ok d) e h = by_tests d (lacks_line bytes (left_within bytes) d) (objects_fit d.setup) e refl refl h

lacking_there : (bytes : List ℕ) (k : ℕ) → IsLackingAt bytes k → setup_at bytes ≡ Err k
unfolding setup_at
lacking_there bytes k l =
    let read = begun_read (lines_within bytes) l.begun in
    let lacks : lacks_line bytes (left_within bytes) read.0 ≡ true = by_test read.0 read.1 (lacks_line bytes (left_within bytes) read.0) refl in
    ap (judged bytes) read.1 ∙ rw (lacks, l.number) refl
  where
    by_test : (d : SetupDraft) → with_lines 1 unread (lines_within bytes) ≡ Ok d → (lacks : Bool) → lacks_line bytes (left_within bytes) d ≡ lacks → lacks_line bytes (left_within bytes) d ≡ true
    by_test d read true e = e
    by_test d read false e = absurd (l.lacking d.setup (whole_back bytes d read e).0)

wide_there : (bytes : List ℕ) (k : ℕ) → IsTooWideAt bytes k → setup_at bytes ≡ Err k
unfolding setup_at
wide_there bytes k w =
    let is = whole_there bytes w.setup w.whole in
    let wide : objects_fit w.setup ≡ false = lt-leb _ _ w.wide in
    let last : length (lines_within bytes) ≡ k = ap length is.same ∙ sym w.number in
    ap (judged bytes) is.read ∙ rw (is.whole, wide) (ap (λ (m : ℕ). Err m) last)

by_kind : (bytes : List ℕ) (k : ℕ) → IsWrongAt (lines_within bytes) k ⊎ (IsLackingAt bytes k ⊎ IsTooWideAt bytes k) → setup_at bytes ≡ Err k
unfolding setup_at
by_kind bytes k (inl w) = ap (judged bytes) (wrong_there (lines_within bytes) k w)
by_kind bytes k (inr (inl l)) = lacking_there bytes k l
by_kind bytes k (inr (inr w)) = wide_there bytes k w

pub fault_there : (bytes : List ℕ) (k : ℕ) → IsSetupFault bytes k → setup_at bytes ≡ Err k
unfolding IsSetupFault
fault_there bytes k fault = by_kind bytes k fault

-- ---- the answers of a reader

abbrev Read : List ℕ → Result Setup SetupFault → Type 0
Read bytes result = ReadsSetup (λ (s : Setup). s) result (setup_at bytes)

pub found_back : (bytes : List ℕ) (result : Result Setup SetupFault) → Read bytes result → IfOk result (λ s. SpellsSetup bytes s)
found_back bytes (Ok s) gives = setup_back bytes s gives
found_back bytes (Err fault) gives = tt

apart : (bytes : List ℕ) (s : Setup) (k : ℕ) → setup_at bytes ≡ Err k → SpellsSetup bytes s → ⊥
apart bytes s k fault spells = let both : Ok s ≡ Err k = sym (setup_there bytes s spells) ∙ fault in absurd cc

pub refused_back : (bytes : List ℕ) (result : Result Setup SetupFault) → Read bytes result → IfErr result (λ fault. IsRefusalOf bytes fault)
refused_back bytes (Ok s) gives = tt
refused_back bytes (Err faults.OutOfMemory) gives = tt
refused_back bytes (Err (faults.SetupLine k)) gives = λ s spells. apart bytes s k gives spells

pub line_back : (bytes : List ℕ) (result : Result Setup SetupFault) → Read bytes result → IfErr result (λ fault. NamesFaultOf bytes fault)
line_back bytes (Ok s) gives = tt
line_back bytes (Err faults.OutOfMemory) gives = tt
line_back bytes (Err (faults.SetupLine k)) gives = fault_back bytes k gives

pub spelled_answers : (bytes : List ℕ) (result : Result Setup SetupFault) (s : Setup) → Read bytes result → SpellsSetup bytes s → Answers result (Ok s)
unfolding Answers
spelled_answers bytes (Ok t) s gives spells = let same : Ok t ≡ Ok s = sym gives ∙ setup_there bytes s spells in let it : t ≡ s = cc in inl (ap (λ (u : Setup). Ok u) it)
spelled_answers bytes (Err faults.OutOfMemory) s gives spells = inr refl
spelled_answers bytes (Err (faults.SetupLine k)) s gives spells = absurd (apart bytes s k gives spells)

pub fault_answers : (bytes : List ℕ) (result : Result Setup SetupFault) (k : ℕ) → Read bytes result → IsSetupFault bytes k → Answers result (Err (faults.SetupLine k))
unfolding Answers
fault_answers bytes (Ok s) k gives fault = let both : Ok s ≡ Err k = sym gives ∙ fault_there bytes k fault in absurd cc
fault_answers bytes (Err faults.OutOfMemory) k gives fault = inr refl
fault_answers bytes (Err (faults.SetupLine j)) k gives fault = inl (ap (λ (m : ℕ). Err (faults.SetupLine m)) (err_is {A = Setup} j k (sym gives ∙ fault_there bytes k fault)))

-- ---- one setup, or one fault

pub spelled_once : (bytes : List ℕ) (a b : Setup) → SpellsSetup bytes a → SpellsSetup bytes b → a ≡ b
spelled_once bytes a b one two = let same : Ok a ≡ Ok b = sym (setup_there bytes a one) ∙ setup_there bytes b two in cc

pub fault_once : (bytes : List ℕ) (j k : ℕ) → IsSetupFault bytes j → IsSetupFault bytes k → j ≡ k
fault_once bytes j k one two = err_is {A = Setup} j k (sym (fault_there bytes j one) ∙ fault_there bytes k two)

pub spelled_or_fault : (bytes : List ℕ) → ((s : Setup) × SpellsSetup bytes s) ⊎ ((k : ℕ) × IsSetupFault bytes k)
spelled_or_fault bytes = by_read (setup_at bytes) refl
  where
    by_read : (read : Result Setup ℕ) → setup_at bytes ≡ read → ((s : Setup) × SpellsSetup bytes s) ⊎ ((k : ℕ) × IsSetupFault bytes k)
    by_read (Ok s) e = inl (s, setup_back bytes s e)
    by_read (Err k) e = inr (k, fault_back bytes k e)

pub never_both : (bytes : List ℕ) (s : Setup) (k : ℕ) → SpellsSetup bytes s → IsSetupFault bytes k → ⊥
never_both bytes s k spells fault = apart bytes s k (fault_there bytes k fault) spells
