-- A register has the members of its list, and is made by them.
use Rattle.std.proofs.Common.{◌≡◌, inl, inr, List, [], sym, subst, arith}
use Rattle.std.specs.List.{Contains}
use Rattle.std.specs.List.Sorted.{IsStrictlySortedBy}
use Rattle.file_register.specs.Order.{line_cmp, line_total}
use Rattle.file_register.specs.Registers.{register, IsRising, IsRegister, HasNoClash, HaveSameMembers}
use Rattle.file_register.specs.declared.line.Line.{Line}
use Rattle.file_register.proofs.OrderLaws.{tied_entry, entry_ties}
use Rattle.file_register.proofs.SortedLists.{none_in, one_list, puts_rising, puts_from, puts_new, tied_once}

pub none_rising : IsRising []
unfolding IsStrictlySortedBy
none_rising = tt

pub register_rising : (lines : List Line) → IsRising (register lines)
unfolding register
register_rising lines = puts_rising line_cmp line_total [] lines none_rising

pub register_from : (lines : List Line) (z : Line) → Contains (register lines) z → Contains lines z
unfolding register
register_from lines z there = elim (puts_from line_cmp line_total [] lines z there) [ inl none ↦ absurd (none_in z none) | inr h ↦ h ]

pub register_has : (lines : List Line) (z : Line) → HasNoClash lines → Contains lines z → Contains (register lines) z
unfolding register
register_has lines z clean there =
    let tie = puts_new line_cmp line_total [] lines z there in
    let same : z ≡ tie.0 = clean z tie.0 there (register_from lines tie.0 tie.1) (tied_entry z tie.0 tie.2) in
    subst (Contains (register lines)) (sym same) tie.1

pub register_same : (lines : List Line) → HasNoClash lines → HaveSameMembers (register lines) lines
register_same lines clean z = (register_from lines z, register_has lines z clean)

-- lines of which all are in a list without a clash have none
pub still_clean : (lines others : List Line) → HasNoClash lines → ((z : Line) → Contains others z → Contains lines z) → HasNoClash others
still_clean lines others clean goes a b p q same = clean a b (goes a p) (goes b q) same

pub is_register : (lines new : List Line) → HasNoClash lines → IsRising new → HaveSameMembers lines new → new ≡ register lines
is_register lines new clean rising same =
    one_list line_cmp line_total new (register lines) rising (register_rising lines)
    (λ z. (λ h. register_has lines z clean ((same z).1 h), λ h. (same z).0 (register_from lines z h)))

pub one_register : (lines others : List Line) → HasNoClash lines → HaveSameMembers lines others → register lines ≡ register others
one_register lines others clean same =
    is_register others (register lines) (still_clean lines others clean (λ z. (same z).1)) (register_rising lines)
    (λ z. (λ h. register_has lines z clean ((same z).1 h), λ h. (same z).0 (register_from lines z h)))

-- no two lines of a register clash
pub rising_clean : (lines : List Line) → IsRising lines → HasNoClash lines
rising_clean lines rising a b p q same = tied_once line_cmp line_total lines a b rising p q (entry_ties a b same)

-- a register without lines
pub none_registered : IsRegister []
none_registered = record { rising = none_rising; few = omega arith; sound = tt }
