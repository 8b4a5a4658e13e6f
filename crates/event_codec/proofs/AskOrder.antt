-- Asks of which those to the bank stand before mail.
use Rattle.std.proofs.Common.{◌≡◌, Bool, true, false, cond, not, ◌||◌, List, [], ◌∷◌, ◌++◌, filter, refl, sym, ap, subst, ◌∙◌}
use Rattle.ofx_types.specs.PrintedFile.{is_mail_ask}
use Rattle.ofx_types.specs.declared.request.Ask.{Ask}
use Rattle.event_codec.proofs.SyncLaws.{IsAllowed}

-- each ask is allowed after those before it
abbrev pub AreInOrder : Bool → List Ask → Type 0
AreInOrder is_after_mail [] = Unit {0}
AreInOrder is_after_mail (ask ∷ asks) = IsAllowed is_after_mail (is_mail_ask ask) × AreInOrder (is_after_mail || is_mail_ask ask) asks

abbrev is_bank_ask : Ask → Bool
is_bank_ask ask = not (is_mail_ask ask)

abbrev HasBankFirst : List Ask → Type 0
HasBankFirst asks = asks ≡ filter is_bank_ask asks ++ filter is_mail_ask asks

filter_yes : (p : Ask → Bool) (x : Ask) (xs : List Ask) → p x ≡ true → filter p (x ∷ xs) ≡ x ∷ filter p xs
filter_yes p x xs h = ap (λ (b : Bool). cond b (x ∷ filter p xs) (filter p xs)) h

filter_no : (p : Ask → Bool) (x : Ask) (xs : List Ask) → p x ≡ false → filter p (x ∷ xs) ≡ filter p xs
filter_no p x xs h = ap (λ (b : Bool). cond b (x ∷ filter p xs) (filter p xs)) h

-- after mail there is mail alone
mail_alone : (asks : List Ask) → AreInOrder true asks → (filter is_bank_ask asks ≡ []) × (filter is_mail_ask asks ≡ asks)
mail_alone [] h = (refl, refl)
mail_alone (x ∷ xs) h =
    let is : is_mail_ask x ≡ true = h.0 refl in
    let rest = mail_alone xs h.1 in
    let bank : is_bank_ask x ≡ false = ap not is in
    (filter_no is_bank_ask x xs bank ∙ rest.0, filter_yes is_mail_ask x xs is ∙ ap (λ (l : List Ask). x ∷ l) rest.1)

pub bank_first : (asks : List Ask) → AreInOrder false asks → HasBankFirst asks
bank_first [] h = refl
bank_first (x ∷ xs) h = by_cases (is_mail_ask x) refl (λ before. bank_first xs before)
  where
    by_cases : (b : Bool) → is_mail_ask x ≡ b → (AreInOrder false xs → HasBankFirst xs) → HasBankFirst (x ∷ xs)
    by_cases true is further =
        let suffix : AreInOrder true xs = subst (λ (b : Bool). AreInOrder b xs) is h.1 in
        let rest = mail_alone xs suffix in
        let bank : filter is_bank_ask (x ∷ xs) ≡ [] = filter_no is_bank_ask x xs (ap not is) ∙ rest.0 in
        let mail : filter is_mail_ask (x ∷ xs) ≡ x ∷ xs = filter_yes is_mail_ask x xs is ∙ ap (λ (l : List Ask). x ∷ l) rest.1 in
        sym mail ∙ ap (λ (l : List Ask). l ++ filter is_mail_ask (x ∷ xs)) (sym bank)
    by_cases false is further =
        let before : AreInOrder false xs = subst (λ (b : Bool). AreInOrder b xs) is h.1 in
        let rest = further before in
        let bank : filter is_bank_ask (x ∷ xs) ≡ x ∷ filter is_bank_ask xs = filter_yes is_bank_ask x xs (ap not is) in
        let mail : filter is_mail_ask (x ∷ xs) ≡ filter is_mail_ask xs = filter_no is_mail_ask x xs is in
        ap (λ (l : List Ask). x ∷ l) rest ∙ ap (λ (l : List Ask). l ++ filter is_mail_ask xs) (sym bank) ∙ ap (λ (l : List Ask). filter is_bank_ask (x ∷ xs) ++ l) (sym mail)

-- ---- the other way

-- all of these asks are mail
abbrev AreMail : List Ask → Type 0
AreMail [] = Unit {0}
AreMail (x ∷ xs) = (is_mail_ask x ≡ true) × AreMail xs

mail_in_order : (asks : List Ask) → AreMail asks → AreInOrder true asks
mail_in_order [] h = tt
mail_in_order (x ∷ xs) h = ((λ suffix. h.0), mail_in_order xs h.1)

filtered_mail : (asks : List Ask) → AreMail (filter is_mail_ask asks)
filtered_mail [] = tt
filtered_mail (x ∷ xs) = by_cases (is_mail_ask x) refl (filtered_mail xs)
  where
    by_cases : (b : Bool) → is_mail_ask x ≡ b → AreMail (filter is_mail_ask xs) → AreMail (filter is_mail_ask (x ∷ xs))
    by_cases true is rest = subst AreMail (sym (filter_yes is_mail_ask x xs is)) (is, rest)
    by_cases false is rest = subst AreMail (sym (filter_no is_mail_ask x xs is)) rest

-- all of these asks are to the bank
abbrev AreBank : List Ask → Type 0
AreBank [] = Unit {0}
AreBank (x ∷ xs) = (is_mail_ask x ≡ false) × AreBank xs

filtered_bank : (asks : List Ask) → AreBank (filter is_bank_ask asks)
filtered_bank [] = tt
filtered_bank (x ∷ xs) = by_cases (is_mail_ask x) refl (filtered_bank xs)
  where
    by_cases : (b : Bool) → is_mail_ask x ≡ b → AreBank (filter is_bank_ask xs) → AreBank (filter is_bank_ask (x ∷ xs))
    by_cases true is rest = subst AreBank (sym (filter_no is_bank_ask x xs (ap not is))) rest
    by_cases false is rest = subst AreBank (sym (filter_yes is_bank_ask x xs (ap not is))) (is, rest)

parts_in_order : (bank mail : List Ask) → AreBank bank → AreMail mail → AreInOrder false (bank ++ mail)
parts_in_order [] [] h k = tt
parts_in_order [] (x ∷ xs) h k = ((λ suffix. absurd cc), subst (λ (b : Bool). AreInOrder b xs) (sym k.0) (mail_in_order xs k.1))
parts_in_order (x ∷ xs) mail h k = ((λ suffix. absurd cc), subst (λ (b : Bool). AreInOrder b (xs ++ mail)) (sym h.0) (parts_in_order xs mail h.1 k))

pub in_order : (asks : List Ask) → HasBankFirst asks → AreInOrder false asks
in_order asks h = subst (AreInOrder false) (sym h) (parts_in_order (filter is_bank_ask asks) (filter is_mail_ask asks) (filtered_bank asks) (filtered_mail asks))
