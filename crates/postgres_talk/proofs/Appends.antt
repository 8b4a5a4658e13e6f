-- Which messages acknowledge an append.
use Rattle.std.proofs.Common.{◌≡◌, ℕ, nat_eq, Bool, true, false, cond, List, [], ◌∷◌, length, Option, None, Some, refl, ap, subst, ◌∙◌}
use Rattle.std.specs.Prelude.{codes}
use Rattle.postgres_messages.specs.Fields.{field}
use Rattle.postgres_messages.specs.Messages.{Message, Setting, Ready, Bound, Completed, Failed}
use Rattle.postgres_talk.specs.declared.standing.Standing.{Standing}
use Rattle.postgres_talk.specs.declared.standing.Standing.TheVariants.{Waiting, Failing, Done, Refused, Unknown}
use Rattle.postgres_talk.specs.Statements.{inserted_in, is_some_text, coded, failed, heard, heard_all, append_sent}
use Rattle.postgres_talk.specs.Laws.{without_settings, Acknowledges}

-- ---- what is never done

abbrev IsLost : Standing → Type 0
IsLost (Failing code) = Unit {0}
IsLost (Refused code) = Unit {0}
IsLost Unknown = Unit {0}
IsLost (Done inserted) = ⊥
IsLost (Waiting parses statements rows is_bound inserted) = ⊥

lost_if : (b : Bool) (s : Standing) → IsLost s → IsLost (cond b s Unknown)
lost_if true s h = h
lost_if false s h = tt

lost_coded : (code : Option (List ℕ)) → IsLost (coded code)
lost_coded None = tt
lost_coded (Some code) = lost_if (nat_eq (length code) 5) (Failing code) tt

lost_failed : (report : List (List ℕ)) → IsLost (failed report)
lost_failed report = lost_if (is_some_text (field 86 report) (codes "ERROR")) (coded (field 67 report)) (lost_coded (field 67 report))

lost_heard : (s : Standing) (m : Message) → IsLost s → IsLost (heard s m)
lost_heard (Failing code) Ready h = tt
lost_heard (Failing code) m h = tt
lost_heard (Refused code) Ready h = tt
lost_heard (Refused code) m h = tt
lost_heard Unknown Ready h = tt
lost_heard Unknown m h = tt
lost_heard (Done inserted) m h = absurd h
lost_heard (Waiting parses statements rows is_bound inserted) m h = absurd h

never : (s : Standing) (ms : List Message) (i : Option ℕ) → IsLost s → heard_all s ms ≡ Done i → ⊥
never s [] i h e = subst IsLost e h
never s (m ∷ ms) i h e = never (heard s m) ms i (lost_heard s m h) e

-- ---- what is done

done_is : (i j : Option ℕ) → Done i ≡ Done j → i ≡ j
done_is i j e = cc

done_rest : (i j : Option ℕ) (ms : List Message) → heard_all (Done i) ms ≡ Done j → (i ≡ j) × (without_settings ms ≡ [])
done_rest i j [] e = (done_is i j e, refl)
done_rest i j (Setting name value ∷ ms) e = done_rest i j ms e
done_rest i j (m ∷ ms) e = absurd (never Unknown ms j tt e)

committing : (rows : Bool) (i j : Option ℕ) (ms : List Message) → heard_all (Waiting 0 0 rows false i) ms ≡ Done j → (i ≡ j) × (without_settings ms ≡ Ready ∷ [])
committing rows i j [] e = absurd cc
committing rows i j (Setting name value ∷ ms) e = committing rows i j ms e
committing rows i j (Ready ∷ ms) e = let d = done_rest i j ms e in (d.0, ap (λ (t : List Message). Ready ∷ t) d.1)
committing rows i j (Failed report ∷ ms) e = absurd (never (failed report) ms j (lost_failed report) e)
committing rows i j (m ∷ ms) e = absurd (never Unknown ms j tt e)

doing : (i j : Option ℕ) (ms : List Message) → heard_all (Waiting 0 1 false true i) ms ≡ Done j
    → (tag : List ℕ) × (without_settings ms ≡ Completed tag ∷ Ready ∷ []) × (inserted_in tag ≡ j)
doing i j [] e = absurd cc
doing i j (Setting name value ∷ ms) e = doing i j ms e
doing i j (Completed tag ∷ ms) e = let d = committing false (inserted_in tag) j ms e in (tag, ap (λ (t : List Message). Completed tag ∷ t) d.1, d.0)
doing i j (Failed report ∷ ms) e = absurd (never (failed report) ms j (lost_failed report) e)
doing i j (m ∷ ms) e = absurd (never Unknown ms j tt e)

sent : (i j : Option ℕ) (ms : List Message) → heard_all (Waiting 0 1 false false i) ms ≡ Done j
    → (tag : List ℕ) × (without_settings ms ≡ Bound ∷ Completed tag ∷ Ready ∷ []) × (inserted_in tag ≡ j)
sent i j [] e = absurd cc
sent i j (Setting name value ∷ ms) e = sent i j ms e
sent i j (Bound ∷ ms) e = let d = doing i j ms e in (d.0, ap (λ (t : List Message). Bound ∷ t) d.1, d.2)
sent i j (Failed report ∷ ms) e = absurd (never (failed report) ms j (lost_failed report) e)
sent i j (m ∷ ms) e = absurd (never Unknown ms j tt e)

pub acknowledges : (count : ℕ) (ms : List Message) → heard_all append_sent ms ≡ Done (Some count) → Acknowledges count ms
acknowledges count ms e = let d = sent None (Some count) ms e in record { tag = d.0; messages = d.1; inserted = d.2 }

-- ---- and back

skipped : (s : Standing) (ms : List Message) → heard_all s ms ≡ heard_all s (without_settings ms)
skipped s [] = refl
skipped s (Setting name value ∷ ms) = skipped s ms
skipped s (m ∷ ms) = skipped (heard s m) ms

pub acknowledged : (count : ℕ) (ms : List Message) → Acknowledges count ms → heard_all append_sent ms ≡ Done (Some count)
acknowledged count ms a = skipped append_sent ms ∙ ap (heard_all append_sent) a.messages ∙ ap (λ (i : Option ℕ). Done i) a.inserted
