-- The moments of the turns of a run, one after another.
use Rattle.std.proofs.Common.{◌≡◌, List, [], ◌∷◌, ◌++◌, Option, None, Some, sym}
use Rattle.std.proofs.lemmas.List.{map-append}
use Rattle.std.proofs.lemmas.List.Elements.{All-nil, All-append}
use Rattle.ofx_ports.specs.Known.{Stays}
use Rattle.ofx_types.specs.declared.number.Moment.{Moment}
use Rattle.bank_session.specs.Answers.{Turn, moments_in, AreMoments}
use Rattle.ofx_ports.proofs.KnownLaws.{Stays-trans, Grows-trans, Grows-kept}
use Rattle.bank_session.proofs.ReportedLemmas.{grows_nothing}

-- a clock that wasn't read gave no moment
pub no_moments : (at : Option Moment) (a b : Option (List Moment)) → Stays a b → AreMoments at a b []
no_moments None a b p = grows_nothing a b p
no_moments (Some at) a b p = (p, All-nil _)

pub more_moments : (at : Option Moment) (a b c : Option (List Moment)) (xs ys : List Moment) → AreMoments at a b xs → AreMoments at b c ys → AreMoments at a c (xs ++ ys)
more_moments None a b c xs ys p q = Grows-trans a b c xs ys p q
more_moments (Some at) a b c xs ys p q = (Stays-trans a b c p.0 q.0, All-append (λ (moment : Moment). moment ≡ at) xs ys p.1 q.1)

pub kept_moments : (at : Option Moment) (a b c : Option (List Moment)) (xs : List Moment) → AreMoments at a b xs → Stays b c → AreMoments at a c xs
kept_moments None a b c xs p q = Grows-kept a b c xs p q
kept_moments (Some at) a b c xs p q = (Stays-trans a b c p.0 q, p.1)

-- the moments with one more turn
pub one_more_moment : (turns : List Turn) (turn : Turn) → moments_in turns ++ turn.at ∷ [] ≡ moments_in (turns ++ turn ∷ [])
one_more_moment turns turn = sym (map-append (λ (t : Turn). t.at) turns (turn ∷ []))
