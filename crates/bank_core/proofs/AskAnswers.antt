-- The asks of a file, answered one after another.
use Rattle.std.proofs.Common.{◌≡◌, ℕ, zero, suc, ◌+◌, ◌<◌, ◌≤◌, List, [], ◌∷◌, ◌++◌, length, length-append, map, drop, get_or, Option, refl, sym, ap, ◌∙◌, subst, append_assoc, arith}
use Rattle.std.proofs.lemmas.List.{append-nil, get_or_append_left, get_or-append-add}
use Rattle.std.specs.List.{All, Contains, flat_map}
use Rattle.std.specs.Option.{IfSome}
use Rattle.ofx_types.specs.declared.number.AcctId.{AcctId}
use Rattle.ofx_types.specs.declared.number.UserId.{UserId}
use Rattle.ofx_types.specs.declared.number.Moment.{Moment}
use Rattle.ofx_types.specs.declared.request.Ask.{Ask}
use Rattle.ofx_types.specs.declared.reply.AskReply.{AskReply}
use Rattle.bank_model.specs.declared.setup.Setup.{Setup}
use Rattle.bank_model.specs.declared.event.State.{State}
use Rattle.bank_model.specs.Rules.{ask_answer, ask_answers}
use Rattle.bank_accounts.specs.AccountView.{AccountView}
use Rattle.bank_accounts.specs.HeldAccounts.{AreHeld}
use Rattle.bank_model.proofs.Lists.{rest_is}

-- ---- the accounts that one ask names

all_prefix : {X : Type 0} (P : X → Type 0) (xs ys : List X) → All P (xs ++ ys) → All P xs
all_prefix P xs ys all k d below =
    subst P (get_or_append_left xs ys d k below) (all k d (omega (arith, length-append xs ys)))

all_rest : {X : Type 0} (P : X → Type 0) (xs ys : List X) → All P (xs ++ ys) → All P ys
all_rest P xs ys all k d below =
    subst P (get_or-append-add xs ys k d) (all (length xs + k) d (omega (arith, length-append xs ys)))

pub AreHeld-prefix : (accounts : List AccountView) (names more : List (Option AcctId)) → AreHeld accounts (names ++ more) → AreHeld accounts names
AreHeld-prefix accounts names more held = all_prefix (λ (entry : Option AcctId). IfSome entry (λ n. Contains (map (λ (a : AccountView). a.number) accounts) n)) names more held

pub AreHeld-rest : (accounts : List AccountView) (names more : List (Option AcctId)) → AreHeld accounts (names ++ more) → AreHeld accounts more
AreHeld-rest accounts names more held = all_rest (λ (entry : Option AcctId). IfSome entry (λ n. Contains (map (λ (a : AccountView). a.number) accounts) n)) names more held

held_at : {X : Type 0} (names : X → List (Option AcctId)) (accounts : List AccountView) (xs : List X) (k : ℕ) (d : X) → AreHeld accounts (flat_map names xs) → k < length xs → AreHeld accounts (names (get_or xs k d))
held_at names accounts [] k d held below = absurd (omega arith)
held_at names accounts (x ∷ xs) zero d held below = AreHeld-prefix accounts (names x) (flat_map names xs) held
held_at names accounts (x ∷ xs) (suc k) d held below = held_at names accounts xs k d (AreHeld-rest accounts (names x) (flat_map names xs) held) (omega arith)

-- Where the accounts that all name are held, those that one names are.
pub AreHeld-one : {X : Type 0} (names : X → List (Option AcctId)) (accounts : List AccountView) (xs : List X) (k : ℕ) (x : X) → AreHeld accounts (flat_map names xs) → k < length xs → x ≡ get_or xs k x → AreHeld accounts (names x)
AreHeld-one names accounts xs k x held below is = subst (λ y. AreHeld accounts (names y)) (sym is) (held_at names accounts xs k x held below)

-- ---- one more of some that are answered in turn, each in the state that the one before left

pub reported_more : {X R : Type 0} (answers : State → List X → List R) (S next : State) (xs : List X) (k : ℕ) (x : X) (all replies more : List R) (reply : R) → k < length xs → x ≡ get_or xs k x → answers S (x ∷ drop (k + 1) xs) ≡ reply ∷ answers next (drop (k + 1) xs) → more ≡ replies ++ reply ∷ [] → all ≡ replies ++ answers S (drop k xs) → all ≡ more ++ answers next (drop (k + 1) xs)
reported_more answers S next xs k x all replies more reply below is step is_more so_far =
    so_far
    ∙ ap (λ l. replies ++ answers S l) (rest_is xs k x below is)
    ∙ ap (λ l. replies ++ l) step
    ∙ sym (append_assoc replies (reply ∷ []) (answers next (drop (k + 1) xs)))
    ∙ ap (λ l. l ++ answers next (drop (k + 1) xs)) (sym is_more)

pub left_more : {X : Type 0} (left : State → List X → State) (S next : State) (xs : List X) (k : ℕ) (x : X) (all : State) → k < length xs → x ≡ get_or xs k x → left S (x ∷ drop (k + 1) xs) ≡ left next (drop (k + 1) xs) → all ≡ left S (drop k xs) → all ≡ left next (drop (k + 1) xs)
left_more left S next xs k x all below is step so_far = so_far ∙ ap (left S) (rest_is xs k x below is) ∙ step

nothing_left : {X : Type 0} (xs : List X) (k : ℕ) → length xs ≤ k → drop k xs ≡ []
nothing_left [] zero past = refl
nothing_left [] (suc k) past = refl
nothing_left (x ∷ xs) zero past = absurd (omega arith)
nothing_left (x ∷ xs) (suc k) past = nothing_left xs k (omega arith)

pub reported_end : {X R : Type 0} (answers : State → List X → List R) (S : State) (xs : List X) (k : ℕ) (all replies : List R) → length xs ≤ k → answers S [] ≡ [] → all ≡ replies ++ answers S (drop k xs) → replies ≡ all
reported_end answers S xs k all replies past none so_far =
    sym (so_far ∙ ap (λ l. replies ++ answers S l) (nothing_left xs k past) ∙ ap (λ l. replies ++ l) none ∙ append-nil replies)

pub left_end : {X : Type 0} (left : State → List X → State) (S : State) (xs : List X) (k : ℕ) (all : State) → length xs ≤ k → left S [] ≡ S → all ≡ left S (drop k xs) → S ≡ all
left_end left S xs k all past none so_far = sym (so_far ∙ ap (left S) (nothing_left xs k past) ∙ none)

-- ---- asks

step_replies : (setup : Setup) (S next : State) (user : UserId) (at : Moment) (ask : Ask) (rest : List Ask) (reply : AskReply) → reply ≡ (ask_answer setup S user at ask).reply → next ≡ (ask_answer setup S user at ask).after → (ask_answers setup S user at (ask ∷ rest)).replies ≡ reply ∷ (ask_answers setup next user at rest).replies
unfolding ask_answers
step_replies setup S next user at ask rest reply is_reply is_next = rw (is_reply, is_next) refl

step_after : (setup : Setup) (S next : State) (user : UserId) (at : Moment) (ask : Ask) (rest : List Ask) → next ≡ (ask_answer setup S user at ask).after → (ask_answers setup S user at (ask ∷ rest)).after ≡ (ask_answers setup next user at rest).after
unfolding ask_answers
step_after setup S next user at ask rest is_next = rw is_next refl

pub replies_more : (setup : Setup) (S next : State) (user : UserId) (at : Moment) (asks : List Ask) (k : ℕ) (ask : Ask) (all replies more : List AskReply) (reply : AskReply) → k < length asks → ask ≡ get_or asks k ask → reply ≡ (ask_answer setup S user at ask).reply → next ≡ (ask_answer setup S user at ask).after → more ≡ replies ++ reply ∷ [] → all ≡ replies ++ (ask_answers setup S user at (drop k asks)).replies → all ≡ more ++ (ask_answers setup next user at (drop (k + 1) asks)).replies
replies_more setup S next user at asks k ask all replies more reply below is is_reply is_next is_more so_far =
    reported_more (λ (T : State) l. (ask_answers setup T user at l).replies) S next asks k ask all replies more reply below is (step_replies setup S next user at ask (drop (k + 1) asks) reply is_reply is_next) is_more so_far

pub after_more : (setup : Setup) (S next : State) (user : UserId) (at : Moment) (asks : List Ask) (k : ℕ) (ask : Ask) (all : State) → k < length asks → ask ≡ get_or asks k ask → next ≡ (ask_answer setup S user at ask).after → all ≡ (ask_answers setup S user at (drop k asks)).after → all ≡ (ask_answers setup next user at (drop (k + 1) asks)).after
after_more setup S next user at asks k ask all below is is_next so_far =
    left_more (λ (T : State) l. (ask_answers setup T user at l).after) S next asks k ask all below is (step_after setup S next user at ask (drop (k + 1) asks) is_next) so_far

-- ---- no ask left

none_replies : (setup : Setup) (S : State) (user : UserId) (at : Moment) → (ask_answers setup S user at []).replies ≡ []
unfolding ask_answers
none_replies setup S user at = refl

none_after : (setup : Setup) (S : State) (user : UserId) (at : Moment) → (ask_answers setup S user at []).after ≡ S
unfolding ask_answers
none_after setup S user at = refl

pub replies_end : (setup : Setup) (S : State) (user : UserId) (at : Moment) (asks : List Ask) (k : ℕ) (all replies : List AskReply) → length asks ≤ k → all ≡ replies ++ (ask_answers setup S user at (drop k asks)).replies → replies ≡ all
replies_end setup S user at asks k all replies past so_far =
    reported_end (λ (T : State) l. (ask_answers setup T user at l).replies) S asks k all replies past (none_replies setup S user at) so_far

pub after_end : (setup : Setup) (S : State) (user : UserId) (at : Moment) (asks : List Ask) (k : ℕ) (all : State) → length asks ≤ k → all ≡ (ask_answers setup S user at (drop k asks)).after → S ≡ all
after_end setup S user at asks k all past so_far =
    left_end (λ (T : State) l. (ask_answers setup T user at l).after) S asks k all past (none_after setup S user at) so_far
