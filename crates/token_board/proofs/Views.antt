-- Views that stay right: as the log grows, as endings change their owner, and where a view knows less than another one.
use Rattle.std.proofs.Common.{◌≡◌, ◌≢◌, ℕ, ◌+◌, ◌<◌, ◌≤◌, Bool, true, false, true≢false, cond, eqb, ltb, nat_lt, if◌then◌else◌, List, [], ◌∷◌, ◌++◌, length, set, refl, sym, ap, ◌∙◌, subst, le_trans, le_of_lt, le-ltb, lt-ltb, ltb-true, ltb-false, eq-eqb, ne_eqb, append-nil, arith}
use Rattle.std.specs.Prelude.{All}
use Rattle.std.proofs.lemmas.List.Elements.{All-nil, All-cons, All-append, All-push, All-weaker}
use mathlib.Core.Option.{some}
use lib.ListN.{get_elem?}
use Rattle.bank_model.specs.declared.log.LogItem.{LogItem}
use Rattle.bank_model.specs.declared.log.LogItem.TheVariants.{Effect, Answer, Adopted, Fault}
use Rattle.bank_model.specs.Log.{endings, is_ending}
use Rattle.token_board.specs.declared.view.Load.{Load}
use Rattle.token_board.specs.declared.view.View.{View}
use Rattle.token_board.specs.Tokens.{Begins, IsTokenIn}
use Rattle.token_board.specs.Views.{longer, claims_of}
use Rattle.token_board.specs.Rule.{IsRight, IsRuled}
use Rattle.token_board.specs.Steps.{empty}
use Rattle.token_board.proofs.Lists.{Begins-longer, begins_longer, after_set}
use Rattle.token_board.proofs.Numbers.{count-append}
use Rattle.token_board.proofs.Logs.{IsTokenIn-append}

pub off : false ≡ true → ⊥
off e = true≢false (sym e)

-- ---- the longer one of two logs

by_test : (P : List LogItem → Type 0) (xs ys : List LogItem) (test : Bool) → test ≡ nat_lt (length xs) (length ys) → (length ys ≤ length xs → P xs) → (length xs ≤ length ys → P ys) → P (if test then ys else xs)
by_test P xs ys true e one other = other (le_of_lt (ltb-true (length xs) (length ys) (sym e)))
by_test P xs ys false e one other = one (ltb-false (length xs) (length ys) (sym e))

longer_cases : (P : List LogItem → Type 0) (xs ys : List LogItem) → (length ys ≤ length xs → P xs) → (length xs ≤ length ys → P ys) → P (longer xs ys)
longer_cases P xs ys one other = by_test P xs ys (nat_lt (length xs) (length ys)) refl one other

pub longer_either : (P : List LogItem → Type 0) (xs ys : List LogItem) → P xs → P ys → P (longer xs ys)
longer_either P xs ys one other = longer_cases P xs ys (λ _. one) (λ _. other)

pub longer_begins : (log xs ys : List LogItem) → Begins xs log → Begins ys log → Begins xs (longer xs ys) × Begins ys (longer xs ys)
longer_begins log xs ys h g =
    let same : xs ++ h.0 ≡ ys ++ g.0 = sym h.1 ∙ g.1 in
    longer_cases (λ (l : List LogItem). Begins xs l × Begins ys l) xs ys
    (λ le. (([], sym (append-nil xs)), begins_longer ys xs g.0 h.0 (sym same) le))
    (λ le. (begins_longer xs ys h.0 g.0 same le, ([], sym (append-nil ys))))

-- ---- views

module _ (start : List ℕ) (log : List LogItem) (writer : ℕ) where
  pub empty_right : (owner : ℕ → ℕ) (seat : ℕ) → IsRight start log writer owner seat empty
  empty_right owner seat = record {
    writes = λ on. absurd (off on);
    seen = (log, refl);
    heard = (log, refl);
    owned = All-nil (λ number. (owner number ≡ seat) × (number ≤ length (endings log)));
    tokens = All-nil (IsTokenIn start log);
  }

  owned_moved : (owner owner' : ℕ → ℕ) (seat seat' : ℕ) (numbers : List ℕ) → ((n : ℕ) → owner n ≡ seat → owner' n ≡ seat') → All (λ number. (owner number ≡ seat) × (number ≤ length (endings log))) numbers → All (λ number. (owner' number ≡ seat') × (number ≤ length (endings log))) numbers
  owned_moved owner owner' seat seat' numbers moved all =
      All-weaker (λ number. (owner number ≡ seat) × (number ≤ length (endings log))) (λ number. (owner' number ≡ seat') × (number ≤ length (endings log)))
      (λ number own. (moved number own.0, own.1)) numbers all

  -- endings change their owner, and those of the seat stay
  pub right_owned : (owner owner' : ℕ → ℕ) (seat : ℕ) (view : View) → ((n : ℕ) → owner n ≡ seat → owner' n ≡ seat) → IsRight start log writer owner seat view → IsRight start log writer owner' seat view
  right_owned owner owner' seat view moved h = record {
    writes = h.writes;
    seen = h.seen;
    heard = h.heard;
    owned = owned_moved owner owner' seat seat view.owned moved h.owned;
    tokens = h.tokens;
  }

  pub moved_to : (owner owner' : ℕ → ℕ) (seat seat' : ℕ) (numbers : List ℕ) → ((n : ℕ) → owner n ≡ seat → owner' n ≡ seat') → All (λ number. (owner number ≡ seat) × (number ≤ length (endings log))) numbers → All (λ number. (owner' number ≡ seat') × (number ≤ length (endings log))) numbers
  moved_to = owned_moved

-- ---- a longer log

-- who owns the endings of a longer log: those that are new are the writer's
abbrev pub grown_owner : ℕ → ℕ → (ℕ → ℕ) → ℕ → ℕ
grown_owner count writer owner n = cond (ltb count n) writer (owner n)

pub grown_old : (count writer : ℕ) (owner : ℕ → ℕ) (n : ℕ) → n ≤ count → grown_owner count writer owner n ≡ owner n
grown_old count writer owner n le = ap (λ b. cond b writer (owner n)) (le-ltb count n le)

pub grown_new : (count writer : ℕ) (owner : ℕ → ℕ) (n : ℕ) → count < n → grown_owner count writer owner n ≡ writer
grown_new count writer owner n lt = ap (λ b. cond b writer (owner n)) (lt-ltb count n lt)

module _ (start : List ℕ) (log more : List LogItem) (writer : ℕ) (owner : ℕ → ℕ) where
  pub grown_owned : (seat : ℕ) (numbers : List ℕ) → All (λ number. (owner number ≡ seat) × (number ≤ length (endings log))) numbers → All (λ number. (grown_owner (length (endings log)) writer owner number ≡ seat) × (number ≤ length (endings (log ++ more)))) numbers
  grown_owned seat numbers all =
      let c = count-append log more in
      All-weaker (λ number. (owner number ≡ seat) × (number ≤ length (endings log))) (λ number. (grown_owner (length (endings log)) writer owner number ≡ seat) × (number ≤ length (endings (log ++ more))))
      (λ number own. (grown_old (length (endings log)) writer owner number own.1 ∙ own.0, (let le = own.1 in omega arith))) numbers all

  pub grown_tokens : (loads : List Load) → All (IsTokenIn start log) loads → All (IsTokenIn start (log ++ more)) loads
  grown_tokens loads all = All-weaker (IsTokenIn start log) (IsTokenIn start (log ++ more)) (λ load h. IsTokenIn-append start log more load h) loads all

  pub right_grown : (seat : ℕ) (view : View) → seat ≢ writer → IsRight start log writer owner seat view → IsRight start (log ++ more) writer (grown_owner (length (endings log)) writer owner) seat view
  right_grown seat view apart h = record {
    writes = λ on. absurd (apart (h.writes on).0);
    seen = Begins-longer view.seen log more h.seen;
    heard = Begins-longer view.heard log more h.heard;
    owned = grown_owned seat view.owned h.owned;
    tokens = grown_tokens view.tokens h.tokens;
  }

-- what an item is claimed under, where it is an ending
pub claims_all : (P : ℕ → Type 0) (item : LogItem) (n : ℕ) → (is_ending item ≡ true → P n) → All P (claims_of item n)
claims_all P (Effect entry) n h = All-nil P
claims_all P (Answer event at reply) n h = All-cons P n [] (h refl) (All-nil P)
claims_all P (Adopted fault event at) n h = All-nil P
claims_all P (Fault count pending) n h = All-cons P n [] (h refl) (All-nil P)

pub count_ending : (log : List LogItem) (item : LogItem) → is_ending item ≡ true → length (endings (log ++ item ∷ [])) ≡ length (endings log) + 1
count_ending log item is = count-append log (item ∷ []) ∙ ap (λ b. length (endings log) + length (cond b (item ∷ []) [])) is
