-- The words and the order of entries, as the log grows by an item.
use Rattle.std.proofs.Common.{◌≡◌, ◌≢◌, ℕ, suc, ◌+◌, ◌%◌, ◌^◌, ◌<◌, ◌≤◌, List, [], ◌∷◌, ◌++◌, map, length, get_or, set, refl, sym, ap, ◌∙◌, subst, add-zero, add-one, append-nil, length-set, get_or-set_other, arith}
use Rattle.std.specs.Prelude.{All}
use Rattle.std.proofs.lemmas.Grind.{get_or-set_at}
use Rattle.std.proofs.lemmas.List.Elements.{All-nil, All-push}
use mathlib.Core.Logic.{dite}
use native.Mathlib.Decide.{ℕ_discrete}
use Rattle.ofx_types.specs.declared.number.ObjectId.{ObjectId}
use Rattle.bank_model.specs.declared.entry.Entry.{Entry}
use Rattle.bank_model.specs.declared.log.LogItem.{LogItem}
use Rattle.bank_model.specs.declared.log.LogItem.TheVariants.{Effect}
use Rattle.bank_model.specs.Log.{endings}
use Rattle.bank_model.specs.Objects.{history_of}
use Rattle.token_board.specs.Tokens.{added, number_of, numbers_in, newest_in}
use Rattle.token_board.specs.Rule.{greatest, RiseFrom, AreWords, IsOrdered}
use Rattle.token_board.proofs.Lists.{All-first, All-second}
use Rattle.token_board.proofs.Numbers.{greatest-below, last-below, RiseFrom-push, count-append}
use Rattle.token_board.proofs.Logs.{added-append, newest-hit, newest-miss, newest-same}

-- ---- as the board begins

pub first_words : (start : List ℕ) → AreWords start [] (0 ∷ start)
unfolding history_of
first_words start = record {
  size = omega arith;
  counted = refl;
  newest = λ object below. ap (λ (k : ℕ). get_or (0 ∷ start) k 0) (add-one object.0);
}

pub first_order : (start : List ℕ) → IsOrdered start []
first_order start = record { rises = tt; objects = All-nil (λ (entry : Entry). entry.object.0 < length start) }

-- ---- an entry more

pub words_effect : (start : List ℕ) (log : List LogItem) (words : List ℕ) (e : Entry) → e.object.0 < length start → AreWords start log words → AreWords start (log ++ Effect e ∷ []) (set words (e.object.0 + 1) e.number)
words_effect start log words e within h =
    let more : List LogItem = Effect e ∷ [] in
    let sized = h.size in
    record {
      size = length-set words (e.object.0 + 1) e.number ∙ sized;
      counted =
          get_or-set_other words (e.object.0 + 1) 0 e.number 0 (λ (z : 0 ≡ e.object.0 + 1). omega arith) ∙ h.counted
          ∙ ap (λ (n : ℕ). n % 2 ^ 64) (sym (count-append log more ∙ add-zero (length (endings log))));
      newest = λ object below.
          dite (ℕ_discrete object.0 e.object.0)
          (λ (same : object.0 ≡ e.object.0).
          get_or-set_at words (e.object.0 + 1) (object.0 + 1) e.number 0 (ap (λ (k : ℕ). k + 1) same) (omega arith)
          ∙ sym (newest-hit start log more e object refl same))
          (λ (other : object.0 ≢ e.object.0).
          get_or-set_other words (e.object.0 + 1) (object.0 + 1) e.number 0 (λ (z : object.0 + 1 ≡ e.object.0 + 1). other (omega arith))
          ∙ h.newest object below
          ∙ sym (newest-miss start log more e object refl other));
    }

pub order_effect : (start : List ℕ) (log : List LogItem) (e : Entry) → e.object.0 < length start → All (λ n. n < e.number) (numbers_in start log) → IsOrdered start log → IsOrdered start (log ++ Effect e ∷ [])
order_effect start log e within above h =
    let more : List LogItem = Effect e ∷ [] in
    let top : greatest start < e.number = greatest-below e.number start (omega arith) (All-first (λ n. n < e.number) start (map number_of (added log)) above) in
    let last = last-below e.number (greatest start) (added log) top (All-second (λ n. n < e.number) start (map number_of (added log)) above) in
    record {
      rises = subst (λ (es : List Entry). RiseFrom (greatest start) es) (sym (added-append log more)) (RiseFrom-push (greatest start) (added log) e h.rises last);
      objects =
          subst (λ (es : List Entry). All (λ (entry : Entry). entry.object.0 < length start) es) (sym (added-append log more))
          (All-push (λ (entry : Entry). entry.object.0 < length start) (added log) e h.objects within);
    }

-- ---- an ending more

pub words_ending : (start : List ℕ) (log : List LogItem) (words : List ℕ) (item : LogItem) (count : ℕ) → added (item ∷ []) ≡ [] → count ≡ length (endings (log ++ item ∷ [])) % 2 ^ 64 → AreWords start log words → AreWords start (log ++ item ∷ []) (set words 0 count)
words_ending start log words item count none is h =
    let sized = h.size in
    record {
      size = length-set words 0 count ∙ sized;
      counted = get_or-set_at words 0 0 count 0 refl (omega arith) ∙ is;
      newest = λ object below.
          get_or-set_other words 0 (object.0 + 1) count 0 (λ (z : object.0 + 1 ≡ 0). omega arith)
          ∙ h.newest object below
          ∙ sym (newest-same start log (item ∷ []) object none);
    }

pub order_ending : (start : List ℕ) (log : List LogItem) (item : LogItem) → added (item ∷ []) ≡ [] → IsOrdered start log → IsOrdered start (log ++ item ∷ [])
order_ending start log item none h =
    let same : added log ≡ added (log ++ item ∷ []) = sym (added-append log (item ∷ []) ∙ ap (λ (es : List Entry). added log ++ es) none ∙ append-nil (added log)) in
    record {
      rises = subst (λ (es : List Entry). RiseFrom (greatest start) es) same h.rises;
      objects = subst (λ (es : List Entry). All (λ (entry : Entry). entry.object.0 < length start) es) same h.objects;
    }
