-- What a caller knows after two holds of the journal, of which the first added nothing of its own.
use Rattle.std.proofs.Common.{◌≡◌, ℕ, ◌⊎◌, inl, inr, List, [], ◌∷◌, ◌++◌, length, fold, All, Option, None, Some, refl, sym, ap, ◌∙◌, subst, append_assoc}
use Rattle.std.proofs.lemmas.List.Elements.{filter-append}
use Rattle.std.proofs.lemmas.List.Sums.{fold-append}
use Rattle.std.specs.Option.{IfSome}
use Rattle.ofx_types.specs.declared.number.Moment.{Moment}
use Rattle.bank_model.specs.declared.event.Event.{Event}
use Rattle.bank_model.specs.declared.event.State.{State}
use Rattle.bank_model.specs.declared.log.LogItem.{LogItem}
use Rattle.bank_model.specs.declared.log.LogItem.TheVariants.{Effect, Answer, Adopted, Fault}
use Rattle.bank_model.specs.declared.setup.Setup.{Setup}
use Rattle.bank_model.specs.declared.submit.SubmitFault.{SubmitFault}
use Rattle.bank_model.specs.declared.submit.SubmitFault.TheVariants.{Keeper, OutOfMemory}
use Rattle.bank_model.specs.LegalLog.{after_ending, ends}
use Rattle.bank_model.specs.Log.{endings, is_ending}
use Rattle.bank_model.specs.Rules.{IsLegal, due}
use Rattle.token_board.specs.declared.view.Load.{Load}
use Rattle.bank_callers.specs.Callers.{CallerView, GainsEnding, GainsNothing, SeesMore, HoldsIn, entries_seen}
use Rattle.bank_shared.specs.Advancing.{IsAdvanced, IsUnadvanced, HasDone, HasGone, HasNothing, HasHappened, state_at}
use Rattle.bank_shared.specs.Outcomes.{Commits, IsRefused, HasFound, IsNoLongerLegal, SeesAny}
use Rattle.bank_shared.specs.declared.advance.Advance.{Advance}
use Rattle.bank_shared.specs.declared.advance.Advance.TheVariants as advances

-- ---- two steps

seen_twice : (start first second mid after : List LogItem) → mid ≡ start ++ first → after ≡ mid ++ second → after ≡ start ++ (first ++ second)
seen_twice start first second mid after one two = two ∙ (ap (λ (l : List LogItem). l ++ second) one ∙ append_assoc start first second)

pub sees_twice : (first second : List LogItem) (before mid after : CallerView) → SeesMore first before mid → SeesMore second mid after → SeesMore (first ++ second) before after
sees_twice first second before mid after one two = record {
  opening = two.opening ∙ one.opening;
  seen = seen_twice before.seen first second mid.seen after.seen one.seen two.seen;
  mine = two.mine ∙ one.mine;
  polled = two.polled ∙ one.polled;
  hold = subst (λ (l : List Load). All (HoldsIn (entries_seen after)) l) one.polled two.hold;
}

gains_twice : (first second : List LogItem) (before mid after : CallerView) → SeesMore first before mid → GainsEnding second mid after → GainsEnding (first ++ second) before after
gains_twice first second before mid after one two = record {
  opening = two.opening ∙ one.opening;
  seen = seen_twice before.seen first second mid.seen after.seen one.seen two.seen;
  mine = two.mine ∙ ap (λ (ns : List ℕ). ns ++ length (endings after.seen) ∷ []) one.mine;
  polled = two.polled ∙ one.polled;
  hold = subst (λ (l : List Load). All (HoldsIn (entries_seen after)) l) one.polled two.hold;
}

nothing_twice : (first : List LogItem) (before mid after : CallerView) → SeesMore first before mid → GainsNothing mid after → GainsNothing before after
nothing_twice first before mid after one two = record {
  opening = two.opening ∙ one.opening;
  grown = first ++ two.grown;
  seen = seen_twice before.seen first two.grown mid.seen after.seen one.seen two.seen;
  mine = two.mine ∙ one.mine;
  polled = two.polled ∙ one.polled;
}

-- the state after items of the second step
state_twice : (setup : Setup) (first items : List LogItem) (before mid : CallerView) → SeesMore first before mid → state_at setup mid items ≡ state_at setup before (first ++ items)
state_twice setup first items before mid one =
    ap (λ (S : State). ends setup S (mid.seen ++ items)) one.opening
    ∙ ap (ends setup before.opening) (ap (λ (l : List LogItem). l ++ items) one.seen ∙ append_assoc before.seen first items)

-- ---- items among which nothing has happened

nothing_happened : (setup : Setup) (items : List LogItem) → HasHappened items ⊎ ((S : State) → fold (after_ending setup) S (endings items) ≡ S)
nothing_happened setup [] = inr (λ S. refl)
nothing_happened setup (Effect entry ∷ more) = nothing_happened setup more
nothing_happened setup (Answer event at reply ∷ more) = inl tt
nothing_happened setup (Adopted fault event at ∷ more) = inl tt
nothing_happened setup (Fault count pending ∷ more) = nothing_happened setup more

ends_later : (setup : Setup) (S : State) (log more : List LogItem) → ends setup S (log ++ more) ≡ fold (after_ending setup) (ends setup S log) (endings more)
ends_later setup S log more =
    ap (fold (after_ending setup) S) (filter-append is_ending log more) ∙ fold-append (after_ending setup) S (endings log) (endings more)

-- ---- a look, and then a hold for what was due

pub found_done : (setup : Setup) (at : Moment) (event : Event) (reply : List ℕ) (before mid after : CallerView) → HasFound setup at event before mid → Commits event at reply mid after
    → HasDone setup at event before after
found_done setup at event reply before mid after f c = record {
  look = f.look;
  due_is = f.due_is;
  between = c.others;
  reply = reply;
  gains = subst (λ (l : List LogItem). GainsEnding l before after) (sym (append_assoc f.look c.others (Answer event at reply ∷ [])))
      (gains_twice f.look (c.others ++ Answer event at reply ∷ []) before mid after f.sees c.gains);
}

pub found_gone : (setup : Setup) (at : Moment) (event : Event) (before mid after : CallerView) → HasFound setup at event before mid → IsNoLongerLegal setup at event mid after
    → HasGone setup at event before after
found_gone setup at event before mid after f n = record {
  look = f.look;
  due_is = f.due_is;
  between = n.between;
  happened = by (nothing_happened setup n.between);
  illegal = λ legal. n.illegal (subst (λ (S : State). IsLegal setup S at event) (sym (state_twice setup f.look n.between before mid f.sees)) legal);
  sees = sees_twice f.look n.between before mid after f.sees n.sees;
}
  where
    by : HasHappened n.between ⊎ ((S : State) → fold (after_ending setup) S (endings n.between) ≡ S) → HasHappened n.between
    by (inl happened) = happened
    by (inr stays) =
        let here : ends setup mid.opening mid.seen ≡ state_at setup before f.look = ap (λ (S : State). ends setup S mid.seen) f.sees.opening ∙ ap (ends setup before.opening) f.sees.seen in
        let later : state_at setup mid n.between ≡ state_at setup before f.look =
        ends_later setup mid.opening mid.seen n.between ∙ (stays (ends setup mid.opening mid.seen) ∙ here) in
        absurd (n.illegal (subst (λ (S : State). IsLegal setup S at event) (sym later) f.legal))

pub found_again : (setup : Setup) (at : Moment) (event : Event) (before mid after : CallerView) → HasFound setup at event before mid → SeesAny mid after → SeesAny before after
found_again setup at event before mid after f more = (f.look ++ more.0, sees_twice f.look more.0 before mid after f.sees more.1)

pub found_refused : (setup : Setup) (at : Moment) (event : Event) (fault : SubmitFault) (before mid after : CallerView) → HasFound setup at event before mid → IsRefused event at mid after fault
    → IsUnadvanced setup at before after fault
found_refused setup at event (Keeper count) before mid after f r = record {
  look = f.look;
  between = r.others;
  pending = r.pending;
  was_due = was_due r.pending r.own;
  gains = subst (λ (l : List LogItem). GainsEnding l before after) (sym (append_assoc f.look r.others (Fault count r.pending ∷ [])))
      (gains_twice f.look (r.others ++ Fault count r.pending ∷ []) before mid after f.sees r.gains);
}
  where
    was_due : (pending : Option (Event × Moment)) → IfSome pending (λ (p : Event × Moment). (p.0 ≡ event) × (p.1 ≡ at))
        → IfSome pending (λ (p : Event × Moment). (due setup (state_at setup before f.look) at ≡ Some p.0) × (p.1 ≡ at))
    was_due None own = tt
    was_due (Some p) own = (f.due_is ∙ ap Some (sym own.0), own.1)
found_refused setup at event OutOfMemory before mid after f r = nothing_twice f.look before mid after f.sees r

-- ---- looks before the last one

-- So far the caller knows what it knew, or has seen more.
abbrev pub HasLooked : CallerView → CallerView → Type 0
HasLooked before now = (now ≡ before) ⊎ SeesAny before now

pub looked_again : (before mid after : CallerView) → HasLooked before mid → SeesAny mid after → HasLooked before after
looked_again before mid after (inl same) more = inr (subst (λ (v : CallerView). SeesAny v after) same more)
looked_again before mid after (inr one) more = inr (one.0 ++ more.0, sees_twice one.0 more.0 before mid after one.1 more.1)

four_parts : (first look between last : List LogItem) → first ++ look ++ between ++ last ≡ first ++ (look ++ between ++ last)
four_parts first look between last =
    append_assoc (first ++ look) between last
    ∙ (append_assoc first look (between ++ last) ∙ ap (λ (l : List LogItem). first ++ l) (sym (append_assoc look between last)))

done_since : (setup : Setup) (at : Moment) (event : Event) (first : List LogItem) (before mid after : CallerView) → SeesMore first before mid → HasDone setup at event mid after
    → HasDone setup at event before after
done_since setup at event first before mid after one d = record {
  look = first ++ d.look;
  due_is = subst (λ (S : State). due setup S at ≡ Some event) (state_twice setup first d.look before mid one) d.due_is;
  between = d.between;
  reply = d.reply;
  gains = subst (λ (l : List LogItem). GainsEnding l before after) (sym (four_parts first d.look d.between (Answer event at d.reply ∷ [])))
      (gains_twice first (d.look ++ d.between ++ Answer event at d.reply ∷ []) before mid after one d.gains);
}

gone_since : (setup : Setup) (at : Moment) (event : Event) (first : List LogItem) (before mid after : CallerView) → SeesMore first before mid → HasGone setup at event mid after
    → HasGone setup at event before after
gone_since setup at event first before mid after one g = record {
  look = first ++ g.look;
  due_is = subst (λ (S : State). due setup S at ≡ Some event) (state_twice setup first g.look before mid one) g.due_is;
  between = g.between;
  happened = g.happened;
  illegal = λ legal. g.illegal (subst (λ (S : State). IsLegal setup S at event)
      (sym (state_twice setup first (g.look ++ g.between) before mid one ∙ ap (state_at setup before) (sym (append_assoc first g.look g.between)))) legal);
  sees = subst (λ (l : List LogItem). SeesMore l before after) (sym (append_assoc first g.look g.between)) (sees_twice first (g.look ++ g.between) before mid after one g.sees);
}

nothing_since : (setup : Setup) (at : Moment) (first : List LogItem) (before mid after : CallerView) → SeesMore first before mid → HasNothing setup at mid after → HasNothing setup at before after
nothing_since setup at first before mid after one n = record {
  look = first ++ n.look;
  due_is = subst (λ (S : State). due setup S at ≡ None) (state_twice setup first n.look before mid one) n.due_is;
  sees = sees_twice first n.look before mid after one n.sees;
}

advanced_since : (setup : Setup) (at : Moment) (advance : Advance) (first : List LogItem) (before mid after : CallerView) → SeesMore first before mid → IsAdvanced setup at mid after advance
    → IsAdvanced setup at before after advance
advanced_since setup at (advances.Done event) first before mid after one d = done_since setup at event first before mid after one d
advanced_since setup at (advances.Gone event) first before mid after one g = gone_since setup at event first before mid after one g
advanced_since setup at advances.Nothing first before mid after one n = nothing_since setup at first before mid after one n

unadvanced_since : (setup : Setup) (at : Moment) (fault : SubmitFault) (first : List LogItem) (before mid after : CallerView) → SeesMore first before mid → IsUnadvanced setup at mid after fault
    → IsUnadvanced setup at before after fault
unadvanced_since setup at (Keeper count) first before mid after one h = record {
  look = first ++ h.look;
  between = h.between;
  pending = h.pending;
  was_due = subst (λ (S : State). IfSome h.pending (λ (p : Event × Moment). (due setup S at ≡ Some p.0) × (p.1 ≡ at))) (state_twice setup first h.look before mid one) h.was_due;
  gains = subst (λ (l : List LogItem). GainsEnding l before after) (sym (four_parts first h.look h.between (Fault count h.pending ∷ [])))
      (gains_twice first (h.look ++ h.between ++ Fault count h.pending ∷ []) before mid after one h.gains);
}
unadvanced_since setup at OutOfMemory first before mid after one n = nothing_twice first before mid after one n

pub advanced_from : (setup : Setup) (at : Moment) (advance : Advance) (before mid after : CallerView) → HasLooked before mid → IsAdvanced setup at mid after advance
    → IsAdvanced setup at before after advance
advanced_from setup at advance before mid after (inl same) a = subst (λ (v : CallerView). IsAdvanced setup at v after advance) same a
advanced_from setup at advance before mid after (inr one) a = advanced_since setup at advance one.0 before mid after one.1 a

pub unadvanced_from : (setup : Setup) (at : Moment) (fault : SubmitFault) (before mid after : CallerView) → HasLooked before mid → IsUnadvanced setup at mid after fault
    → IsUnadvanced setup at before after fault
unadvanced_from setup at fault before mid after (inl same) u = subst (λ (v : CallerView). IsUnadvanced setup at v after fault) same u
unadvanced_from setup at fault before mid after (inr one) u = unadvanced_since setup at fault one.0 before mid after one.1 u
