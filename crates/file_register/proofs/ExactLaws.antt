-- Exactly where a file is refused, and what many imports come to.
use Rattle.std.proofs.Common.{◌≡◌, ℕ, ◌≤◌, inl, inr, ◌⊎◌, List, [], ◌∷◌, ◌++◌, length, Result, Ok, Err, refl, sym, ap, subst, ◌∙◌, append_assoc, append-nil, arith}
use Rattle.std.specs.List.{Contains}
use Rattle.std.proofs.lemmas.List.Concat.{flat_map-cons}
use Rattle.std.proofs.lemmas.List.Elements.{Contains-append_left, Contains-append_right, Contains-append_cases}
use Rattle.ofx_types.specs.declared.reply.ReplyFile.{ReplyFile}
use Rattle.file_register.specs.Order.{line_cmp, line_total, IsSameEntry, Clash}
use Rattle.file_register.specs.Lines.{lines_of}
use Rattle.file_register.specs.Registers.{register, HasNoClash, HaveSameMembers}
use Rattle.file_register.specs.Importing.{IsFirstClash, Accepts}
use Rattle.file_register.specs.Exact.{SignonsAreTold, ClashesAreTold, FullIsTold, OthersAreTaken, lines_of_all, AreImported, ImportsAddUp, NoneIsRefused}
use Rattle.file_register.specs.declared.line.Line.{Line}
use Rattle.file_register.specs.declared.import.Imported.{Imported}
use Rattle.file_register.specs.declared.import.ImportFault.{ImportFault}
use Rattle.file_register.specs.declared.import.ImportFault.TheVariants as faults
use Rattle.file_register.proofs.SortedLists.{none_in, first_in, later_in, in_cases, sub_length}
use Rattle.file_register.proofs.RegisterLaws.{register_rising, register_from, register_has, still_clean, one_register}

-- ---- one first clash

-- two lines at which a list is parted are one, or the one is before the other
data Parted (first : List Line) (one : Line) (second : List Line) (two : Line) : Type 0 where
  together : first ≡ second → one ≡ two → Parted first one second two
  earlier : ((z : Line) → Contains first z → Contains second z) → Contains second one → Parted first one second two
  later : ((z : Line) → Contains second z → Contains first z) → Contains first two → Parted first one second two

some_more : (x : Line) (xs ys : List Line) → ((z : Line) → Contains xs z → Contains ys z) → (z : Line) → Contains (x ∷ xs) z → Contains (x ∷ ys) z
some_more x xs ys goes z h = elim (in_cases x xs z h) [
  | inl e ↦ subst (Contains (x ∷ ys)) e (first_in x ys)
  | inr there ↦ later_in x ys z (goes z there)
]

one_more : (x y : Line) (first : List Line) (one : Line) (second : List Line) (two : Line) → x ≡ y → Parted first one second two → Parted (x ∷ first) one (y ∷ second) two
one_more x y first one second two same (together p q) = together (ap (λ (l : List Line). x ∷ l) p ∙ ap (λ (z : Line). z ∷ second) same) q
one_more x y first one second two same (earlier goes there) =
    earlier (λ z h. subst (λ (w : Line). Contains (w ∷ second) z) same (some_more x first second goes z h)) (later_in y second one there)
one_more x y first one second two same (later goes there) =
    later (λ z h. subst (λ (w : Line). Contains (w ∷ first) z) (sym same) (some_more y second first goes z h)) (later_in x first two there)

parted : (first : List Line) (one : Line) (rest : List Line) (second : List Line) (two : Line) (more : List Line) → first ++ one ∷ rest ≡ second ++ two ∷ more → Parted first one second two
parted [] one rest [] two more e = together refl cc
parted [] one rest (y ∷ second) two more e = let same : one ≡ y = cc in earlier (λ z h. absurd (none_in z h)) (subst (Contains (y ∷ second)) (sym same) (first_in y second))
parted (x ∷ first) one rest [] two more e = let same : x ≡ two = cc in later (λ z h. absurd (none_in z h)) (subst (Contains (x ∷ first)) same (first_in x first))
parted (x ∷ first) one rest (y ∷ second) two more e =
    let heads : x ≡ y = cc in
    let tails : first ++ one ∷ rest ≡ second ++ two ∷ more = cc in
    one_more x y first one second two heads (parted first one rest second two more tails)

-- a clash among lines without one
no_clash : (lines : List Line) (kept other : Line) → HasNoClash lines → Contains lines kept → Contains lines other → Clash kept other → ⊥
no_clash lines kept other clean p q clash = clash.differ (clean kept other p q clash.entry)

wider : (old first second : List Line) → ((z : Line) → Contains first z → Contains second z) → (z : Line) → Contains (old ++ first) z → Contains (old ++ second) z
wider old first second goes z h = elim (Contains-append_cases old first z h) [
  | inl left ↦ Contains-append_left old second z left
  | inr right ↦ Contains-append_right old second z (goes z right)
]

swapped : (a b : Line) → IsSameEntry a b → IsSameEntry b a
swapped a b same = record { account = sym same.account; fitid = sym same.fitid }

joined : (a b c : Line) → IsSameEntry a b → IsSameEntry b c → IsSameEntry a c
joined a b c p q = record { account = p.account ∙ q.account; fitid = p.fitid ∙ q.fitid }

abbrev clash_of : Line → Line → ImportFault
clash_of kept other = faults.Clash kept other

one_first : (old lines : List Line) (kept other kept' other' : Line) → IsFirstClash old lines kept other → IsFirstClash old lines kept' other' → clash_of kept other ≡ clash_of kept' other'
one_first old lines kept other kept' other' p q = by (parted p.before other p.rest q.before other' q.rest (sym p.parts ∙ q.parts))
  where
    by : Parted p.before other q.before other' → clash_of kept other ≡ clash_of kept' other'
    by (together same one) =
        let there : Contains (old ++ p.before) kept' = subst (λ (l : List Line). Contains (old ++ l) kept') (sym same) q.is_there in
        let entry : IsSameEntry kept' other = subst (IsSameEntry kept') (sym one) q.clash.entry in
        let kepts : kept ≡ kept' = p.clean kept kept' p.is_there there (joined kept other kept' p.clash.entry (swapped kept' other entry)) in
        ap (λ (k : Line). clash_of k other) kepts ∙ ap (clash_of kept') one
    by (earlier goes there) = absurd (no_clash (old ++ q.before) kept other q.clean (wider old p.before q.before goes kept p.is_there) (Contains-append_right old q.before other there) p.clash)
    by (later goes there) = absurd (no_clash (old ++ p.before) kept' other' p.clean (wider old q.before p.before goes kept' q.is_there) (Contains-append_right old p.before other' there) q.clash)

-- a list with a first clash has a clash
is_not_clean : (old lines : List Line) (kept other : Line) → IsFirstClash old lines kept other → HasNoClash (old ++ lines) → ⊥
is_not_clean old lines kept other p clean =
    let own : (z : Line) → Contains p.before z → Contains lines z = λ z h. subst (λ (l : List Line). Contains l z) (sym p.parts) (Contains-append_left p.before (other ∷ p.rest) z h) in
    let it : Contains lines other = subst (λ (l : List Line). Contains l other) (sym p.parts) (Contains-append_right p.before (other ∷ p.rest) other (first_in other p.rest)) in
    no_clash (old ++ lines) kept other clean (wider old p.before lines own kept p.is_there) (Contains-append_right old lines other it) p.clash

-- ---- exact refusals

abbrev reported : ImportFault → Result Imported ImportFault
reported fault = Err fault

pub signons_are_told : SignonsAreTold
signons_are_told old reply (Ok counts) new is failed = absurd (failed is.0)
signons_are_told old reply (Err (faults.Signon code)) new is failed = inl (ap (λ (n : ℕ). reported (faults.Signon n)) is.0.1)
signons_are_told old reply (Err (faults.Clash kept other)) new is failed = absurd (failed is.0.0)
signons_are_told old reply (Err faults.Full) new is failed = absurd (failed is.0.0)
signons_are_told old reply (Err faults.OutOfMemory) new is failed = inr refl

pub clashes_are_told : ClashesAreTold
clashes_are_told old reply (Ok counts) new kept other is passed first = absurd (is_not_clean old (lines_of reply) kept other first is.1.clean)
clashes_are_told old reply (Err (faults.Signon code)) new kept other is passed first = absurd (is.0.0 passed)
clashes_are_told old reply (Err (faults.Clash kept' other')) new kept other is passed first = inl (ap reported (one_first old (lines_of reply) kept' other' kept other is.0.1 first))
clashes_are_told old reply (Err faults.Full) new kept other is passed first = absurd (is_not_clean old (lines_of reply) kept other first is.0.1.clean)
clashes_are_told old reply (Err faults.OutOfMemory) new kept other is passed first = inr refl

too_many : (old lines : List Line) (counts : Imported) (new : List Line) → Accepts old lines counts new → length (register (old ++ lines)) ≤ 500000
too_many old lines counts new takes = subst (λ (l : List Line). length l ≤ 500000) takes.register_is takes.few

pub full_is_told : FullIsTold
full_is_told old reply (Ok counts) new is passed full = absurd (omega (arith, too_many old (lines_of reply) counts new is.1, full.many))
full_is_told old reply (Err (faults.Signon code)) new is passed full = absurd (is.0.0 passed)
full_is_told old reply (Err (faults.Clash kept other)) new is passed full = absurd (is_not_clean old (lines_of reply) kept other is.0.1 full.clean)
full_is_told old reply (Err faults.Full) new is passed full = inl refl
full_is_told old reply (Err faults.OutOfMemory) new is passed full = inr refl

pub others_are_taken : OthersAreTaken
others_are_taken old reply (Ok counts) new is passed clean few = inl (record { counts = counts; result_is = refl; takes = is.1 })
others_are_taken old reply (Err (faults.Signon code)) new is passed clean few = absurd (is.0.0 passed)
others_are_taken old reply (Err (faults.Clash kept other)) new is passed clean few = absurd (is_not_clean old (lines_of reply) kept other is.0.1 clean)
others_are_taken old reply (Err faults.Full) new is passed clean few = absurd (omega (arith, is.0.1.many, few))
others_are_taken old reply (Err faults.OutOfMemory) new is passed clean few = inr refl

-- ---- many files

-- a register goes on from the register of what came before
goes_on : (xs ys : List Line) → HasNoClash (xs ++ ys) → HaveSameMembers (register xs ++ ys) (xs ++ ys)
goes_on xs ys clean z = (
  λ h. elim (Contains-append_cases (register xs) ys z h) [
    | inl left ↦ Contains-append_left xs ys z (register_from xs z left)
    | inr right ↦ Contains-append_right xs ys z right
  ],
  λ h. elim (Contains-append_cases xs ys z h) [
    | inl left ↦ Contains-append_left (register xs) ys z (register_has xs z (still_clean (xs ++ ys) xs clean (λ w p. Contains-append_left xs ys w p)) left)
    | inr right ↦ Contains-append_right (register xs) ys z right
  ],
)

still_one : (xs ys : List Line) → HasNoClash xs → HasNoClash (register xs ++ ys) → HasNoClash (xs ++ ys)
still_one xs ys own clean = still_clean (register xs ++ ys) (xs ++ ys) clean (λ z h. elim (Contains-append_cases xs ys z h) [
  | inl left ↦ Contains-append_left (register xs) ys z (register_has xs z own left)
  | inr right ↦ Contains-append_right (register xs) ys z right
])

all_parts : (xs : List Line) (file : ReplyFile) (files : List ReplyFile) → (xs ++ lines_of file) ++ lines_of_all files ≡ xs ++ lines_of_all (file ∷ files)
all_parts xs file files = append_assoc xs (lines_of file) (lines_of_all files) ∙ ap (λ (l : List Line). xs ++ l) (sym (flat_map-cons lines_of file files))

adds_up : (xs : List Line) (files : List ReplyFile) (new : List Line) → HasNoClash xs → AreImported (register xs) files new
    → (new ≡ register (xs ++ lines_of_all files)) × HasNoClash (xs ++ lines_of_all files)
adds_up xs [] new clean h = (h ∙ ap register (sym (append-nil xs)), subst HasNoClash (sym (append-nil xs)) clean)
adds_up xs (file ∷ files) new clean h =
    let takes = h.2.1 in
    let whole : HasNoClash (xs ++ lines_of file) = still_one xs (lines_of file) clean takes.clean in
    let between : h.1 ≡ register (xs ++ lines_of file) = takes.register_is ∙ one_register (register xs ++ lines_of file) (xs ++ lines_of file) takes.clean (goes_on xs (lines_of file) whole) in
    let rest = adds_up (xs ++ lines_of file) files new whole (subst (λ (l : List Line). AreImported l files new) between h.3) in
    (rest.0 ∙ ap register (all_parts xs file files), subst HasNoClash (all_parts xs file files) rest.1)

nothing_clashes : HasNoClash []
nothing_clashes a b p q same = absurd (none_in a p)

none_registered : register [] ≡ []
unfolding register
none_registered = refl

pub imports_add_up : ImportsAddUp
imports_add_up files new h = (adds_up [] files new nothing_clashes (subst (λ (l : List Line). AreImported l files new) (sym none_registered) h)).0

-- the lines of the first files are among all
first_files : (before : List ReplyFile) (file : ReplyFile) (rest : List ReplyFile) (z : Line) → Contains (lines_of_all before) z ⊎ Contains (lines_of file) z
    → Contains (lines_of_all (before ++ file ∷ rest)) z
first_files [] file rest z (inl h) = absurd (none_in z h)
first_files [] file rest z (inr h) =
    subst (λ (l : List Line). Contains l z) (sym (flat_map-cons lines_of file rest)) (Contains-append_left (lines_of file) (lines_of_all rest) z h)
first_files (one ∷ before) file rest z (inl h) =
    subst (λ (l : List Line). Contains l z) (sym (flat_map-cons lines_of one (before ++ file ∷ rest)))
    (elim (Contains-append_cases (lines_of one) (lines_of_all before) z (subst (λ (l : List Line). Contains l z) (flat_map-cons lines_of one before) h)) [
      | inl own ↦ Contains-append_left (lines_of one) (lines_of_all (before ++ file ∷ rest)) z own
      | inr others ↦ Contains-append_right (lines_of one) (lines_of_all (before ++ file ∷ rest)) z (first_files before file rest z (inl others))
    ])
first_files (one ∷ before) file rest z (inr h) =
    subst (λ (l : List Line). Contains l z) (sym (flat_map-cons lines_of one (before ++ file ∷ rest)))
    (Contains-append_right (lines_of one) (lines_of_all (before ++ file ∷ rest)) z (first_files before file rest z (inr h)))

pub none_is_refused : NoneIsRefused
none_is_refused before file rest old result new clean few imported passed is =
    let all = lines_of_all (before ++ file ∷ rest) in
    let old_is : old ≡ register (lines_of_all before) = imports_add_up before old imported in
    let among : (z : Line) → Contains (old ++ lines_of file) z → Contains all z = λ z h. elim (Contains-append_cases old (lines_of file) z h) [
      | inl in_old ↦ first_files before file rest z (inl (register_from (lines_of_all before) z (subst (λ (l : List Line). Contains l z) old_is in_old)))
      | inr own ↦ first_files before file rest z (inr own)
    ] in
    let whole : HasNoClash (old ++ lines_of file) = still_clean all (old ++ lines_of file) clean among in
    let short : length (register (old ++ lines_of file)) ≤ length (register all) =
    sub_length line_cmp line_total (register (old ++ lines_of file)) (register all) (register_rising (old ++ lines_of file)) (register_rising all)
    (λ z h. register_has all z clean (among z (register_from (old ++ lines_of file) z h))) in
    others_are_taken old file result new is passed whole (omega (arith, short, few))
