-- The lines of a file that a register doesn't have, gathered one after another, and put among its lines.
use Rattle.std.proofs.Common.{◌≡◌, ◌+◌, ◌<◌, ◌≤◌, ◌∙◌, inl, inr, false, List, [], ◌∷◌, ◌++◌, length, refl, sym, ap, subst, append_assoc, length-append, arith}
use Rattle.std.specs.List.{AllByRecursion, Contains, IsDistinct}
use Rattle.std.specs.List.Sorted.{IsPermutation, IsSortedBy}
use Rattle.std.specs.Ordering.{eq_by_cmp, is_lt, is_eq}
use Rattle.std.specs.declared.cmp.Ordering.{Ordering}
use Rattle.std.specs.declared.cmp.Ordering.TheVariants.{Less, Equal, Greater}
use Rattle.std.proofs.lemmas.Cmp.{tied_back, eq_by_cmp_equiv}
use Rattle.std.proofs.lemmas.List.{append-nil}
use Rattle.std.proofs.lemmas.List.Elements.{All-from_recursion, All-contains, Contains-append_left, Contains-append_right, Contains-append_cases, Contains-push, Contains-push_cases}
use Rattle.std.proofs.lemmas.List.Sorted.{length_permutation, Contains-permutation, IsPermutation-sym}
use Rattle.std.proofs.lemmas.Map.Keys.{IsDistinct-from_sorted, IsDistinct-IsPermutation}
use Rattle.file_register.specs.Order.{line_cmp, line_total, Clash}
use Rattle.file_register.specs.Lines.{IsSoundLine}
use Rattle.file_register.specs.Registers.{register, put_line, IsRising, IsRegister, HasNoClash}
use Rattle.file_register.specs.Importing.{IsFirstClash, Accepts, IsFull}
use Rattle.file_register.specs.Gathering.{IsNewTo, Gathered, AddsOne, ClashesWith}
use Rattle.file_register.specs.declared.line.Line.{Line}
use Rattle.file_register.specs.declared.import.Imported.{Imported}
use Rattle.file_register.proofs.OrderLaws.{entry_ties}
use Rattle.file_register.proofs.SortedLists.{none_in, each_by, put_from, put_old, put_new, put_rising, put_length, putting, puts_rising, puts_old, puts_from, puts_new, puts_length, tied_once, distinct_both, strictly}
use Rattle.file_register.proofs.RegisterLaws.{still_clean, is_register, rising_clean, none_rising}

-- ---- gathering

pub gathered_none : (old : List Line) → IsRising old → Gathered old [] []
gathered_none old rising = record {
  same = λ z. (λ h. h, λ h. h);
  clean = subst HasNoClash (sym (append-nil old)) (rising_clean old rising);
  rising = none_rising;
  apart = λ z there. absurd (none_in z there);
  few = omega arith;
}

-- what is in a list with one more line
with_one : (old lines : List Line) (line z : Line) → Contains (old ++ (lines ++ line ∷ [])) z → Contains ((old ++ lines) ++ line ∷ []) z
with_one old lines line z h = subst (λ (xs : List Line). Contains xs z) (sym (append_assoc old lines (line ∷ []))) h

as_one : (old lines : List Line) (line z : Line) → Contains ((old ++ lines) ++ line ∷ []) z → Contains (old ++ (lines ++ line ∷ [])) z
as_one old lines line z h = subst (λ (xs : List Line). Contains xs z) (append_assoc old lines (line ∷ [])) h

known : (old lines fresh : List Line) (line : Line) → Gathered old lines fresh → Contains (old ++ fresh) line → Gathered old (lines ++ line ∷ []) fresh
known old lines fresh line so_far there =
    let before : (z : Line) → Contains (old ++ (lines ++ line ∷ [])) z → Contains (old ++ lines) z = λ z h. elim (Contains-push_cases (old ++ lines) line z (with_one old lines line z h)) [
      | inl h ↦ h
      | inr e ↦ subst (Contains (old ++ lines)) e ((so_far.same line).1 there)
    ] in
    record {
      same = λ z. (λ h. (so_far.same z).0 (before z h), λ h. as_one old lines line z (Contains-append_left (old ++ lines) (line ∷ []) z ((so_far.same z).1 h)));
      clean = still_clean (old ++ lines) (old ++ (lines ++ line ∷ [])) so_far.clean before;
      rising = so_far.rising;
      apart = so_far.apart;
      few = omega (arith, so_far.few, length-append lines (line ∷ []));
    }

-- a new line clashes with none
new_clean : (old lines fresh : List Line) (line : Line) → Gathered old lines fresh → IsNewTo (old ++ fresh) line → HasNoClash (old ++ (lines ++ line ∷ []))
new_clean old lines fresh line so_far new a b p q same =
    elim (Contains-push_cases (old ++ lines) line a (with_one old lines line a p)) [
      | inl a_in ↦ elim (Contains-push_cases (old ++ lines) line b (with_one old lines line b q)) [
        | inl b_in ↦ so_far.clean a b a_in b_in same
        | inr is_b ↦ absurd (new a ((so_far.same a).0 a_in) (tied_back line_total a line (subst (λ y. line_cmp a y ≡ Equal) (sym is_b) (entry_ties a b same))))
      ]
      | inr is_a ↦ elim (Contains-push_cases (old ++ lines) line b (with_one old lines line b q)) [
        | inl b_in ↦ absurd (new b ((so_far.same b).0 b_in) (subst (λ y. line_cmp y b ≡ Equal) (sym is_a) (entry_ties a b same)))
        | inr is_b ↦ sym is_a ∙ is_b
      ]
    ]

new_in : (old lines fresh : List Line) (line z : Line) → Gathered old lines fresh → IsNewTo (old ++ fresh) line
    → Contains (old ++ (lines ++ line ∷ [])) z → Contains (old ++ put_line fresh line) z
new_in old lines fresh line z so_far new h = elim (Contains-push_cases (old ++ lines) line z (with_one old lines line z h)) [
  | inl before ↦ elim (Contains-append_cases old fresh z ((so_far.same z).0 before)) [
    | inl in_old ↦ Contains-append_left old (put_line fresh line) z in_old
    | inr in_fresh ↦ Contains-append_right old (put_line fresh line) z (put_old line_cmp line_total line fresh z in_fresh)
  ]
  | inr e ↦ subst (Contains (old ++ put_line fresh line)) e (Contains-append_right old (put_line fresh line) line (elim (put_new line_cmp line_total line fresh) [
    | inl there ↦ there
    | inr tie ↦ absurd (new tie.0 (Contains-append_right old fresh tie.0 tie.1) tie.2)
  ]))
]

new_from : (old lines fresh : List Line) (line z : Line) → Gathered old lines fresh
    → Contains (old ++ put_line fresh line) z → Contains (old ++ (lines ++ line ∷ [])) z
new_from old lines fresh line z so_far h = as_one old lines line z (elim (Contains-append_cases old (put_line fresh line) z h) [
  | inl in_old ↦ Contains-append_left (old ++ lines) (line ∷ []) z ((so_far.same z).1 (Contains-append_left old fresh z in_old))
  | inr there ↦ elim (put_from line_cmp line_total line fresh z there) [
    | inl e ↦ subst (Contains ((old ++ lines) ++ line ∷ [])) e (Contains-push (old ++ lines) line)
    | inr in_fresh ↦ Contains-append_left (old ++ lines) (line ∷ []) z ((so_far.same z).1 (Contains-append_right old fresh z in_fresh))
  ]
])

added : (old lines fresh : List Line) (line : Line) → Gathered old lines fresh → IsNewTo (old ++ fresh) line → Gathered old (lines ++ line ∷ []) (put_line fresh line)
added old lines fresh line so_far new = record {
  same = λ z. (new_in old lines fresh line z so_far new, new_from old lines fresh line z so_far);
  clean = new_clean old lines fresh line so_far new;
  rising = put_rising line_cmp line_total line fresh so_far.rising;
  apart = λ z there. elim (put_from line_cmp line_total line fresh z there) [
    | inl e ↦ subst (IsNewTo old) e (λ other in_old. new other (Contains-append_left old fresh other in_old))
    | inr in_fresh ↦ so_far.apart z in_fresh
  ];
  few = omega (
    arith,
    so_far.few,
    length-append lines (line ∷ []),
    put_length line_cmp line_total line fresh (λ tie. new tie.0 (Contains-append_right old fresh tie.0 tie.1) tie.2),
  );
}

pub gathered_more : (old lines fresh : List Line) (line : Line) (after : List Line) → Gathered old lines fresh → AddsOne old fresh line after
    → Gathered old (lines ++ line ∷ []) after
gathered_more old lines fresh line after so_far (inl there) = subst (Gathered old (lines ++ line ∷ [])) (sym there.1) (known old lines fresh line so_far there.0)
gathered_more old lines fresh line after so_far (inr adds) = subst (Gathered old (lines ++ line ∷ [])) (sym adds.after_is) (added old lines fresh line so_far adds.is_new)

pub first_clash : (old all lines fresh rest : List Line) (line kept other : Line) → all ≡ lines ++ line ∷ rest → Gathered old lines fresh
    → ClashesWith old fresh line kept other → IsFirstClash old all kept other
first_clash old all lines fresh rest line kept other parts so_far clashes = record {
  before = lines;
  rest = rest;
  parts = parts ∙ ap (λ (l : Line). lines ++ l ∷ rest) (sym clashes.other_is);
  clean = so_far.clean;
  is_there = (so_far.same kept).1 clashes.is_there;
  clash = subst (Clash kept) (sym clashes.other_is) clashes.clash;
}

-- ---- placing

not_tied : (r : Ordering) → (r ≡ Equal → ⊥) → is_eq r ≡ false
not_tied Less h = refl
not_tied Equal h = absurd (h refl)
not_tied Greater h = refl

all_apart : (old lines fresh : List Line) → IsRising old → Gathered old lines fresh → IsDistinct (eq_by_cmp line_cmp) (old ++ fresh)
all_apart old lines fresh rising gathered =
    distinct_both line_cmp line_total old fresh (IsDistinct-from_sorted line_cmp old rising) (IsDistinct-from_sorted line_cmp fresh gathered.rising)
    (λ x y in_old in_fresh. not_tied (line_cmp x y) (λ tie. gathered.apart y in_fresh x in_old (tied_back line_total x y tie)))

pub placed_rising : (old lines fresh new : List Line) → IsRising old → Gathered old lines fresh → IsPermutation (old ++ fresh) new
    → IsSortedBy (λ x y. is_lt (line_cmp x y)) new → IsRising new
placed_rising old lines fresh new rising gathered moved sorted =
    strictly line_cmp line_total new sorted
    (IsDistinct-IsPermutation (eq_by_cmp line_cmp) (eq_by_cmp_equiv line_total).symm (old ++ fresh) new moved (all_apart old lines fresh rising gathered))

pub placed_register : (old lines fresh new : List Line) → IsRising old → Gathered old lines fresh → IsPermutation (old ++ fresh) new
    → IsSortedBy (λ x y. is_lt (line_cmp x y)) new → new ≡ register (old ++ lines)
placed_register old lines fresh new rising gathered moved sorted =
    is_register (old ++ lines) new gathered.clean (placed_rising old lines fresh new rising gathered moved sorted) (λ z. (
      λ h. Contains-permutation (old ++ fresh) new z moved ((gathered.same z).0 h),
      λ h. (gathered.same z).1 (Contains-permutation new (old ++ fresh) z (IsPermutation-sym (old ++ fresh) new moved) h),
    ))

pub placed_length : (old fresh new : List Line) → IsPermutation (old ++ fresh) new → length new ≡ length old + length fresh
placed_length old fresh new moved = length_permutation (old ++ fresh) new moved ∙ length-append old fresh

pub placed_sound : (old lines fresh new : List Line) → Gathered old lines fresh → IsPermutation (old ++ fresh) new
    → AllByRecursion IsSoundLine old → AllByRecursion IsSoundLine lines → AllByRecursion IsSoundLine new
placed_sound old lines fresh new gathered moved sound of_file = each_by IsSoundLine new (λ z h.
    elim (Contains-append_cases old lines z ((gathered.same z).1 (Contains-permutation new (old ++ fresh) z (IsPermutation-sym (old ++ fresh) new moved) h))) [
      | inl in_old ↦ All-contains IsSoundLine old z (All-from_recursion IsSoundLine old sound) in_old
      | inr in_lines ↦ All-contains IsSoundLine lines z (All-from_recursion IsSoundLine lines of_file) in_lines
    ])

pub is_placed : (old lines fresh new : List Line) → IsRegister old → AllByRecursion IsSoundLine lines → Gathered old lines fresh → length old + length fresh ≤ 500000
    → IsPermutation (old ++ fresh) new → IsSortedBy (λ x y. is_lt (line_cmp x y)) new → IsRegister new
is_placed old lines fresh new is of_file gathered few moved sorted = record {
  rising = placed_rising old lines fresh new is.rising gathered moved sorted;
  few = omega (arith, placed_length old fresh new moved);
  sound = placed_sound old lines fresh new gathered moved is.sound of_file;
}

pub is_taken : (old lines fresh new : List Line) (counts : Imported) → IsRising old → Gathered old lines fresh → length old + length fresh ≤ 500000
    → IsPermutation (old ++ fresh) new → IsSortedBy (λ x y. is_lt (line_cmp x y)) new → counts.new ≡ length fresh → counts.new + counts.known ≡ length lines
    → Accepts old lines counts new
is_taken old lines fresh new counts rising gathered few moved sorted count sums = record {
  clean = gathered.clean;
  register_is = placed_register old lines fresh new rising gathered moved sorted;
  few = omega (arith, placed_length old fresh new moved);
  added = omega (arith, placed_length old fresh new moved, count);
  counted = sums;
}

-- ---- a register that would be too long

-- the new lines put one after another among the old ones
gathered_has : (old lines fresh : List Line) (z : Line) → Gathered old lines fresh → Contains fresh z → Contains (putting line_cmp line_total old fresh) z
gathered_has old lines fresh z gathered there =
    let tie = puts_new line_cmp line_total old fresh z there in
    elim (puts_from line_cmp line_total old fresh tie.0 tie.1) [
      | inl in_old ↦ absurd (gathered.apart z there tie.0 in_old tie.2)
      | inr in_fresh ↦ subst (Contains (putting line_cmp line_total old fresh)) (sym (tied_once line_cmp line_total fresh z tie.0 gathered.rising there in_fresh tie.2)) tie.1
    ]

gathered_is : (old lines fresh : List Line) → IsRising old → Gathered old lines fresh → putting line_cmp line_total old fresh ≡ register (old ++ lines)
gathered_is old lines fresh rising gathered =
    is_register (old ++ lines) (putting line_cmp line_total old fresh) gathered.clean (puts_rising line_cmp line_total old fresh rising) (λ z. (
      λ h. elim (Contains-append_cases old fresh z ((gathered.same z).0 h)) [
        | inl in_old ↦ puts_old line_cmp line_total old fresh z in_old
        | inr in_fresh ↦ gathered_has old lines fresh z gathered in_fresh
      ],
      λ h. (gathered.same z).1 (elim (puts_from line_cmp line_total old fresh z h) [
        | inl in_old ↦ Contains-append_left old fresh z in_old
        | inr in_fresh ↦ Contains-append_right old fresh z in_fresh
      ]),
    ))

pub register_length : (old lines fresh : List Line) → IsRising old → Gathered old lines fresh → length (register (old ++ lines)) ≡ length old + length fresh
register_length old lines fresh rising gathered =
    ap length (sym (gathered_is old lines fresh rising gathered))
    ∙ puts_length line_cmp line_total old fresh (IsDistinct-from_sorted line_cmp fresh gathered.rising) (λ z there tie. gathered.apart z there tie.0 tie.1 tie.2)

pub is_full : (old lines fresh : List Line) → IsRising old → Gathered old lines fresh → 500000 < length old + length fresh → IsFull old lines
is_full old lines fresh rising gathered many = record { clean = gathered.clean; many = omega (arith, register_length old lines fresh rising gathered) }
