-- Recent entries, of which the first one is last, laid one after another.
use Rattle.std.proofs.Common.{◌≡◌, ℕ, ◌<◌, List, [], ◌∷◌, ◌++◌, get_or, reverse, Option, None, Some, sym, ap, ◌∙◌, append_assoc, arith}
use Rattle.std.proofs.lemmas.List.{reverse-append}
use Rattle.ofx_types.specs.declared.number.ObjectId.{ObjectId}
use Rattle.bank_model.specs.declared.entry.Entry.{Entry}
use Rattle.bank_model.specs.Objects.{history_of, newest, last_number}
use Rattle.token_window.proofs.WindowLemmas.{newest_holds}
use Rattle.bank_history.specs.ObjectHistory.{ObjectHistoryView, HoldsHistoryOr, held_at, newest_in, LaidView, LaidFor}
use Rattle.bank_history.specs.HistoryHeld.{AreNumbered, IsLaidBefore}
use Rattle.bank_history.proofs.HistoryHeldLemmas.{first_rises}

newest_found : (object : ObjectId) (prefix : List Entry) (width : ℕ) (found : Option ObjectHistoryView) → HoldsHistoryOr (history_of object prefix) width found → newest_in found ≡ newest object prefix
unfolding newest
newest_found object prefix width None is = sym (ap last_number is)
newest_found object prefix width (Some kept) is = newest_holds (history_of object prefix) width kept.window is.window

pub newest_laid : (object : ObjectId) (prefix : List Entry) (laid : LaidView) → LaidFor prefix laid → newest_in (held_at object laid.objects.held) ≡ newest object prefix
newest_laid object prefix laid holds = newest_found object prefix laid.objects.width (held_at object laid.objects.held) (holds.objects object)

turned : (items rest : List Entry) (entry : Entry) → items ≡ rest ++ entry ∷ [] → reverse items ≡ entry ∷ reverse rest
turned items rest entry is = ap (λ (l : List Entry). reverse l) is ∙ reverse-append rest (entry ∷ [])

-- The last one has a number above those of its object before.
pub last_rises : (laid : LaidView) (items rest entries : List Entry) (entry : Entry) (number : ℕ) → AreNumbered entries → IsLaidBefore laid (reverse items) entries → items ≡ rest ++ entry ∷ [] → number ≡ newest_in (held_at entry.object laid.objects.held) → number < entry.number
last_rises laid items rest entries entry number are before last is =
    let all : before.prefix ++ entry ∷ reverse rest ≡ entries = ap (λ (l : List Entry). before.prefix ++ l) (sym (turned items rest entry last)) ∙ before.all in
    let rises = first_rises before.prefix (reverse rest) entries entry are all in
    omega (arith, rises, is ∙ newest_laid entry.object before.prefix laid before.holds)

pub laid_still : (laid later : LaidView) (recent entries : List Entry) → IsLaidBefore laid recent entries → ((es : List Entry) → LaidFor es laid → LaidFor es later) → IsLaidBefore later recent entries
laid_still laid later recent entries before stays = record { prefix = before.prefix; holds = stays before.prefix before.holds; all = before.all }

pub laid_one : (laid later : LaidView) (items rest entries : List Entry) (entry : Entry) → IsLaidBefore laid (reverse items) entries → items ≡ rest ++ entry ∷ [] → ((es : List Entry) → LaidFor es laid → LaidFor (es ++ entry ∷ []) later) → IsLaidBefore later (reverse rest) entries
laid_one laid later items rest entries entry before last adds = record {
  prefix = before.prefix ++ entry ∷ [];
  holds = adds before.prefix before.holds;
  all = append_assoc before.prefix (entry ∷ []) (reverse rest) ∙ ap (λ (l : List Entry). before.prefix ++ l) (sym (turned items rest entry last)) ∙ before.all;
}

-- what was read of the last one is what is taken out
pub popped : (items : List Entry) (k : ℕ) (entry out : Entry) (result : Option Entry) → entry ≡ get_or items k entry → result ≡ Some (get_or items k entry) → result ≡ Some out → out ≡ entry
popped items k entry out result is taken some =
    let both : Some out ≡ Some (get_or items k entry) = sym some ∙ taken in
    let same : out ≡ get_or items k entry = cc in
    same ∙ sym is
