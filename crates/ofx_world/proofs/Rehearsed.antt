-- The setup of a rehearsal is within its limits and spelled by its lines, and its clients are new.
use Rattle.std.proofs.Common.{◌≡◌, ℕ, ◌<◌, ◌≤◌, true, List, [], ◌∷◌, ◌++◌, length, inl, refl, sym, ap, subst, arith}
use Rattle.std.proofs.lemmas.Int.{ints}
use Rattle.std.specs.Prelude.{◌≢◌, codes, slice_index_or}
use Rattle.std.specs.List.{list_all, IsDistinct}
use Rattle.bank_model.specs.declared.setup.User.{User}
use Rattle.bank_model.specs.SetupForm.{AreLines, IsWord, IsUser, IsAccountOf, KeepsLineLimits, IsWithinLimits, SpellsSetup, is_word_byte, lines_of}
use Rattle.ofx_world.specs.Kept.{AreNew}
use Rattle.ofx_world.specs.Rehearsal.{ended, rehearsed_setup, rehearsed_clients, account, line, number_names, owner, user}

-- ---- lines

are_ended : (lines : List (List ℕ)) → AreLines (ended lines) lines
are_ended [] = refl
are_ended (first ∷ lines) = (ended lines, inl refl, are_ended lines)

-- ---- limits

is_word : (word : List ℕ) → 0 < length word → length word ≤ 32 → list_all is_word_byte word ≡ true → IsWord word
is_word word there within plain = record { is_there = there; is_within = within; is_plain = plain }

short_word : (a b : ℕ) → list_all is_word_byte (a ∷ b ∷ []) ≡ true → IsWord (a ∷ b ∷ [])
short_word a b plain = is_word (a ∷ b ∷ []) (omega arith) (omega arith) plain

is_user : (name : List ℕ) → IsWord name → IsUser (user name)
is_user name named = record { name = named; pass = is_word (codes "p") (omega arith) (omega arith) refl }

abbrev three : List User
three = user (codes "u0") ∷ user (codes "u1") ∷ user (codes "u2") ∷ []

account_number : (a b c : ℕ) → list_all is_word_byte (a ∷ b ∷ c ∷ []) ≡ true → IsWord (a ∷ b ∷ c ∷ [])
account_number a b c plain = is_word (a ∷ b ∷ c ∷ []) (omega arith) (omega arith) plain

own_account : (number : ℕ) (u : ℕ) → IsWord (account number).number → u < 3 → IsAccountOf (codes "1") three (line number (owner u ∷ []))
unfolding IsDistinct
own_account number u word known = record {
  bank = refl;
  number = word;
  opening = omega (arith, ints);
  owned = omega arith;
  owners = (known, tt);
  once = (tt, tt);
}

shared_account : IsAccountOf (codes "1") three (line 3 (owner 0 ∷ owner 1 ∷ owner 2 ∷ []))
unfolding IsDistinct
shared_account = record {
  bank = refl;
  number = account_number 49 48 51 refl;
  opening = omega (arith, ints);
  owned = omega arith;
  owners = (omega arith, (omega arith, (omega arith, tt)));
  once = ((refl, (refl, tt)), ((refl, tt), (tt, tt)));
}

limits : KeepsLineLimits rehearsed_setup
unfolding rehearsed_setup IsDistinct
limits = record {
  bank = is_word (codes "1") (omega arith) (omega arith) refl;
  lead = omega arith;
  window_low = omega arith;
  window_high = omega arith;
  entries_low = omega arith;
  entries_high = omega arith;
  users_low = omega arith;
  users_high = omega arith;
  users = (is_user (codes "u0") (short_word 117 48 refl), (is_user (codes "u1") (short_word 117 49 refl), (is_user (codes "u2") (short_word 117 50 refl), tt)));
  names = ((refl, (refl, tt)), ((refl, tt), (tt, tt)));
  accounts_low = omega arith;
  accounts_high = omega arith;
  accounts = (own_account 0 0 (account_number 49 48 48 refl) (omega arith), (own_account 1 1 (account_number 49 48 49 refl) (omega arith), (own_account 2 2 (account_number 49 48 50 refl) (omega arith), (shared_account, tt))));
  numbers = ((refl, (refl, (refl, tt))), ((refl, (refl, tt)), ((refl, tt), (tt, tt))));
  sum = omega (arith, ints);
}

pub within : IsWithinLimits rehearsed_setup
unfolding rehearsed_setup
within = record { lines = limits; objects = omega arith }

-- Bytes that are its lines spell it.
pub spelled : (bytes : List ℕ) → length bytes ≤ 262144 → bytes ≡ ended (lines_of rehearsed_setup) → SpellsSetup bytes rehearsed_setup
spelled bytes small same = record {
  small = small;
  limits = within;
  lines = subst (λ (all : List ℕ). AreLines all (lines_of rehearsed_setup)) (sym same) (are_ended (lines_of rehearsed_setup));
}

-- By what the last account is known.
pub last_name : (number : ℕ) → number < 4 → number ≢ 0 → number ≢ 1 → number ≢ 2 → slice_index_or number_names number [] ≡ codes "103"
last_name number below first second third =
    let last : number ≡ 3 = omega arith in ap (λ (n : ℕ). slice_index_or number_names n []) last

-- ---- clients

pub new_clients : AreNew rehearsed_setup rehearsed_clients
unfolding rehearsed_setup IsDistinct
new_clients = record {
  new = ((refl, (owner 0, refl)), ((refl, (owner 1, refl)), ((refl, (owner 2, refl)), tt)));
  names = ((refl, (refl, tt)), ((refl, tt), (tt, tt)));
}
