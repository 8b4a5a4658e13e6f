-- What the seats of a writer, a pass and a note stay, after each call.
use Rattle.std.proofs.Common.{◌≡◌, ℕ, ◌+◌, ◌*◌, ◌/◌, ◌%◌, ◌^◌, ◌<◌, ◌≤◌, true, false, List, [], ◌∷◌, ◌++◌, length, refl, sym, ap, ◌∙◌, subst, le_refl, add-zero, append-nil, arith}
use Rattle.std.proofs.Math.Nat.{mod-add-div', add-mul-mod_self_right}
use Rattle.std.specs.Prelude.{All}
use Rattle.std.proofs.lemmas.List.Elements.{All-nil, All-weaker}
use Rattle.atomic_table.specs.Table.{Me, Step}
use Rattle.bank_model.specs.declared.entry.Entry.{Entry}
use Rattle.bank_model.specs.declared.log.LogItem.{LogItem}
use Rattle.bank_model.specs.declared.log.LogItem.TheVariants.{Effect, Answer, Adopted, Fault}
use Rattle.bank_model.specs.declared.log.Ending.{Ending}
use Rattle.bank_model.specs.declared.log.Ending.TheVariants as lent
use Rattle.bank_model.specs.Log.{endings, is_ending}
use Rattle.token_board.specs.declared.view.Load.{Load}
use Rattle.token_board.specs.declared.view.View.{View}
use Rattle.token_board.specs.Tokens.{Begins, Rises, AreEndings, AreAbove, IsTokenIn}
use Rattle.token_board.specs.Views.{longer, item_of, claims_of}
use Rattle.token_board.specs.Steps.{empty, fresh_writer, with_item, child, note_of, noted, with_note, met, compared, with_heard}
use Rattle.token_board.specs.Holders.{IsWriter, IsPass, IsNote}
use Rattle.token_board.proofs.Numbers.{count-append, AreEndings-begins, AreEndings-append}
use Rattle.token_board.proofs.Views.{claims_all, count_ending}

no_endings : (log : List LogItem) → AreEndings log []
no_endings log = record { rises = tt; within = All-nil (λ number. (1 ≤ number) × (number ≤ length (endings log))) }

-- ---- as the board begins, and children

pub is_empty_pass : (me : Me (Unit {0}) View) → me ≡ (empty, []) → IsPass me
is_empty_pass me is = subst IsPass (sym is) (record { writes = refl; mine = no_endings []; slots = refl })

pub is_fresh_writer : (me : Me (Unit {0}) View) → me ≡ (fresh_writer, []) → IsWriter 0 me
is_fresh_writer me is = subst (IsWriter 0) (sym is) (record { writes = refl; counted = refl; claimed = no_endings []; slots = refl })

pub is_child : (view : View) (me : Me (Unit {0}) View) → me ≡ (child view, []) → IsPass me
is_child view me is = subst IsPass (sym is) (record { writes = refl; mine = no_endings view.seen; slots = refl })

-- ---- a pass that meets a note

pub is_met : (pass note me : Me (Unit {0}) View) → IsPass pass → IsNote note → AreAbove note.0.owned pass.0.owned → Begins pass.0.seen (longer pass.0.seen note.0.seen) → Begins note.0.seen (longer pass.0.seen note.0.seen) → me ≡ (met (with_note pass.0 note.0), pass.1) → IsPass me
is_met pass note me p n above mine theirs is =
    let seen = longer pass.0.seen note.0.seen in
    subst IsPass (sym is) (record {
      writes = p.writes;
      mine =
          AreEndings-append seen pass.0.owned note.0.owned (AreEndings-begins pass.0.seen seen pass.0.owned mine p.mine)
          (AreEndings-begins note.0.seen seen note.0.owned theirs n.claimed) above;
      slots = p.slots;
    })

-- ---- a note, and the writer after it

pub is_note : (ended : ℕ) (writer me : Me (Unit {0}) View) → IsWriter ended writer → me ≡ (note_of writer.0, []) → IsNote me
is_note ended writer me w is = subst IsNote (sym is) (record { writes = refl; claimed = w.claimed; slots = refl })

pub is_noted : (ended : ℕ) (writer me : Me (Unit {0}) View) → IsWriter ended writer → me ≡ (noted writer.0, writer.1) → IsWriter ended me
is_noted ended writer me w is =
    subst (IsWriter ended) (sym is) (record { writes = w.writes; counted = w.counted; claimed = no_endings writer.0.seen; slots = w.slots })

-- ---- the writer after it has heard

pub has_heard : (ended : ℕ) (writer me : Me (Unit {0}) View) (pass : View) → IsWriter ended writer → me ≡ (with_heard writer.0 pass, writer.1) → IsWriter ended me
has_heard ended writer me pass w is =
    subst (IsWriter ended) (sym is) (record { writes = w.writes; counted = w.counted; claimed = w.claimed; slots = w.slots })

-- ---- the writer after it has published

next_mod : (n m : ℕ) → (n % m + 1) % m ≡ (n + 1) % m
next_mod n m =
    let d = mod-add-div' n m in
    let e : n + 1 ≡ (n % m + 1) + n / m * m = omega arith in
    sym (ap (λ (k : ℕ). k % m) e ∙ add-mul-mod_self_right (n % m + 1) (n / m) m)

effect_count : (log : List LogItem) (entry : Entry) → length (endings (log ++ Effect entry ∷ [])) ≡ length (endings log)
effect_count log entry = count-append log (Effect entry ∷ []) ∙ add-zero (length (endings log))

pub has_added : (ended : ℕ) (entry : Entry) (writer me : Me (Unit {0}) View) → IsWriter ended writer → me ≡ (with_item (Effect entry) writer.0, writer.1) → IsWriter ended me
has_added ended entry writer me w is =
    let log = writer.0.seen in
    subst (IsWriter ended) (sym is) (record {
      writes = w.writes;
      counted = w.counted ∙ ap (λ (n : ℕ). n % 2 ^ 64) (sym (effect_count log entry));
      claimed =
          subst (AreEndings (log ++ Effect entry ∷ [])) (sym (append-nil writer.0.owned))
          (AreEndings-begins log (log ++ Effect entry ∷ []) writer.0.owned (Effect entry ∷ [], refl) w.claimed);
      slots = w.slots;
    })

pub is_ending_item : (x : Ending) → is_ending (item_of x) ≡ true
is_ending_item (lent.Answer event at reply) = refl
is_ending_item (lent.Adopted fault event at) = refl
is_ending_item (lent.Fault count pending) = refl

-- what the count comes to is the number of endings with the new one
pub counts_ending : (ended count : ℕ) (x : Ending) (log : List LogItem) → ended ≡ length (endings log) % 2 ^ 64 → count ≡ (ended + 1) % 2 ^ 64 → count ≡ length (endings (log ++ item_of x ∷ [])) % 2 ^ 64
counts_ending ended count x log was is =
    is ∙ ap (λ (n : ℕ). (n + 1) % 2 ^ 64) was ∙ next_mod (length (endings log)) (2 ^ 64)
    ∙ ap (λ (n : ℕ). n % 2 ^ 64) (sym (count_ending log (item_of x) (is_ending_item x)))

rises_alone : (item : LogItem) (n : ℕ) → Rises (claims_of item n)
rises_alone (Effect entry) n = tt
rises_alone (Answer event at reply) n = (All-nil (λ later. n < later), tt)
rises_alone (Adopted fault event at) n = tt
rises_alone (Fault count pending) n = (All-nil (λ later. n < later), tt)

one_claim : (log : List LogItem) (item : LogItem) (n : ℕ) → n ≡ length (endings log) → 1 ≤ n → AreEndings log (claims_of item n)
one_claim log item n is low = record {
  rises = rises_alone item n;
  within = claims_all (λ number. (1 ≤ number) × (number ≤ length (endings log))) item n (λ _. (low, omega arith));
}

pub has_ended : (ended count : ℕ) (x : Ending) (writer me : Me (Unit {0}) View) → IsWriter ended writer → writer.0.owned ≡ [] → count ≡ (ended + 1) % 2 ^ 64 → me ≡ (with_item (item_of x) writer.0, writer.1) → IsWriter count me
has_ended ended count x writer me w none next is =
    let log = writer.0.seen in
    let now = log ++ item_of x ∷ [] in
    let n = length (endings now) in
    let e = count_ending log (item_of x) (is_ending_item x) in
    subst (IsWriter count) (sym is) (record {
      writes = w.writes;
      counted = counts_ending ended count x log w.counted next;
      claimed = subst (λ (own : List ℕ). AreEndings now (own ++ claims_of (item_of x) n)) (sym none) (one_claim now (item_of x) n refl (omega arith));
      slots = w.slots;
    })

-- ---- a pass that has met a note, from both steps

pub record HasMet (pass note me : Me (Unit {0}) View) : Type 0 where
  pub is : me ≡ (met (with_note pass.0 note.0), pass.1)
  pub mine : Begins pass.0.seen (longer pass.0.seen note.0.seen)
  pub theirs : Begins note.0.seen (longer pass.0.seen note.0.seen)
  pub holds : IsPass me

pub meets : (st : Step (Unit {0})) (found : ℕ) (pass note mid me : Me (Unit {0}) View) → IsPass pass → IsNote note → AreAbove note.0.owned pass.0.owned → mid ≡ (with_note pass.0 note.0, pass.1) → compared st mid found me → HasMet pass note me
meets st found pass note mid me p n above joined seen =
    let t = subst (λ (m : Me (Unit {0}) View). compared st m found me) joined seen in
    record { is = t.0; mine = t.1; theirs = t.2; holds = is_met pass note me p n above t.1 t.2 t.0 }

-- tokens that were heard, of values that are equal
pub tokens_along : {start start' : List ℕ} {log log' : List LogItem} {loads loads' : List Load} → start ≡ start' → log ≡ log' → loads ≡ loads' → All (IsTokenIn start log) loads → All (IsTokenIn start' log') loads'
tokens_along s l t h = subst (λ (x : List ℕ × List LogItem × List Load). All (IsTokenIn x.0 x.1) x.2) (λ i. (s i, l i, t i)) h

-- The endings of a pass that was heard are among the log's.
pub mine_within : {heard seen log log' : List LogItem} {own own' : List ℕ} → heard ≡ seen → log ≡ log' → own ≡ own' → Begins heard log → AreEndings seen own → All (λ number. number ≤ length (endings log')) own'
mine_within {heard} {seen} {log} {log'} {own} {own'} h l o begins endings_of =
    let known = AreEndings-begins seen log own (subst (λ (x : List LogItem). Begins x log) h begins) endings_of in
    let low = All-weaker (λ number. (1 ≤ number) × (number ≤ length (endings log))) (λ number. number ≤ length (endings log)) (λ number both. both.1) own known.within in
    subst (λ (x : List LogItem × List ℕ). All (λ number. number ≤ length (endings x.0)) x.1) (λ i. (l i, o i)) low
