-- The next transfers beside the recurring transfers that make them, where one of these changes or is new.
use Rattle.std.proofs.Common.{◌≡◌, ℕ, ◌+◌, ◌-◌, min, ◌<◌, ◌≤◌, Bool, true, false, cond, eqb, List, [], ◌∷◌, ◌++◌, length, set, Option, None, Some, is_some, refl, sym, ap, ◌∙◌, arith, length-append, length-set}
use Rattle.std.proofs.lemmas.List.Sums.{sum_by-append, sum_by-set}
use Rattle.std.specs.Option.{option_map}
use Rattle.std.specs.List.{sum_by}
use Rattle.ofx_types.specs.declared.number.Day.{Day}
use Rattle.bank_recur.specs.Ahead.{IsAhead}
use Rattle.bank_recur.specs.ModelsView.{Series, series_found, row_found}
use Rattle.bank_recur.specs.Spawning.{date_ahead, date_ahead_of}
use Rattle.bank_recur.specs.Upcoming.{UpcomingView, day_in, days_of}
use Rattle.bank_recur.proofs.RepresentsLemmas.{IsAt, now_set, now_pushed}

pub at_most_one : (date : Option Day) → days_of date ≤ 1
at_most_one None = omega arith
at_most_one (Some day) = omega arith

-- There are no more next transfers than recurring transfers.
few : (series : List Series) → sum_by (λ (one : Series). days_of (date_ahead one)) series ≤ length series
few [] = omega arith
few (one ∷ series) =
    let both : sum_by (λ (o : Series). days_of (date_ahead o)) (one ∷ series) ≡ (0 + days_of (date_ahead one)) + sum_by (λ (o : Series). days_of (date_ahead o)) series = sum_by-append (λ (o : Series). days_of (date_ahead o)) (one ∷ []) series in
    let more = few series in
    let first = at_most_one (date_ahead one) in
    omega (arith, both, more, first)

pub none_more : (series : List Series) (upcoming : UpcomingView) → IsAhead series upcoming → length upcoming.spawns ≤ length series
none_more series upcoming ahead = omega (arith, ahead.many, few series)

-- A recurring transfer whose next transfer is there is there itself.
pub made_by_one : (id : ℕ) (day : Day) (series : List Series) (upcoming : UpcomingView) → IsAhead series upcoming → day_in id upcoming.spawns ≡ Some day → is_some (row_found id series) ≡ true
made_by_one id day series upcoming ahead is = looked (series_found id series) (sym (ahead.days id) ∙ is)
  where
    looked : (found : Option Series) → date_ahead_of found ≡ Some day → is_some (option_map (λ (one : Series). one.row) found) ≡ true
    looked None is = cc
    looked (Some one) is = refl

pub room_left : (a b capacity many : ℕ) → 0 < min (min a b) (capacity - many) → many < capacity
room_left a b capacity many room = omega arith

-- ---- one in another's stead

changed_many : (id at : ℕ) (one new : Series) (series : List Series) → IsAt id at one series → sum_by (λ (o : Series). days_of (date_ahead o)) (set series at new) + days_of (date_ahead one) ≡ sum_by (λ (o : Series). days_of (date_ahead o)) series + days_of (date_ahead new)
changed_many id at one new series there =
    ap (λ (o : Series). sum_by (λ (o : Series). days_of (date_ahead o)) (set series at new) + days_of (date_ahead o)) (sym there.element)
    ∙ sum_by-set (λ (o : Series). days_of (date_ahead o)) series at new one there.within

-- what the exchange asks
pub holds_before : (id at : ℕ) (one : Series) (series : List Series) (old : UpcomingView) (before : Option Day) → IsAt id at one series → IsAhead series old → before ≡ date_ahead one → day_in id old.spawns ≡ before
holds_before id at one series old before there ahead was = ahead.days id ∙ ap date_ahead_of there.found ∙ sym was

pub room_for_exchange : (id at : ℕ) (one new : Series) (series : List Series) (old : UpcomingView) (before after : Option Day) → IsAt id at one series → IsAhead series old → before ≡ date_ahead one → after ≡ date_ahead new → length old.spawns + days_of after ≤ old.room + days_of before
room_for_exchange id at one new series old before after there ahead was is =
    omega (arith, changed_many id at one new series there, few (set series at new), length-set series at new, ahead.many, ahead.room, ap days_of was, ap days_of is)

pub ahead_set : (id at : ℕ) (one new : Series) (series : List Series) (old upcoming : UpcomingView) (before after : Option Day) → IsAt id at one series → new.row.id ≡ id → IsAhead series old → before ≡ date_ahead one → after ≡ date_ahead new
    → ((other : ℕ) → day_in other upcoming.spawns ≡ cond (eqb id other) after (day_in other old.spawns))
    → length upcoming.spawns + days_of before ≡ length old.spawns + days_of after
    → upcoming.room ≡ old.room
    → IsAhead (set series at new) upcoming
ahead_set id at one new series old upcoming before after there same ahead was is exchanged many same_room = record {
  days = λ other. exchanged other ∙ chosen other (eqb id other) ∙ sym (ap date_ahead_of (now_set id at one new series there same other));
  many = omega (arith, changed_many id at one new series there, ahead.many, many, ap days_of was, ap days_of is);
  room = omega (arith, length-set series at new, same_room, ahead.room);
}
  where
    chosen : (other : ℕ) (b : Bool) → cond b after (day_in other old.spawns) ≡ date_ahead_of (cond b (Some new) (series_found other series))
    chosen other true = is
    chosen other false = ahead.days other

-- ---- one more

more_many : (new : Series) (series : List Series) → sum_by (λ (one : Series). days_of (date_ahead one)) (series ++ new ∷ []) ≡ sum_by (λ (one : Series). days_of (date_ahead one)) series + days_of (date_ahead new)
more_many new series =
    let both : sum_by (λ (o : Series). days_of (date_ahead o)) (series ++ new ∷ []) ≡ sum_by (λ (o : Series). days_of (date_ahead o)) series + (0 + days_of (date_ahead new)) = sum_by-append (λ (o : Series). days_of (date_ahead o)) series (new ∷ []) in
    omega (arith, both)

pub holds_none : (id : ℕ) (series : List Series) (old : UpcomingView) → series_found id series ≡ None → IsAhead series old → day_in id old.spawns ≡ None
holds_none id series old none ahead = ahead.days id ∙ ap date_ahead_of none

pub ahead_pushed : (id : ℕ) (new : Series) (series : List Series) (old upcoming : UpcomingView) (day : Option Day) → series_found id series ≡ None → new.row.id ≡ id → IsAhead series old → day ≡ date_ahead new
    → ((other : ℕ) → day_in other upcoming.spawns ≡ cond (eqb id other) day (day_in other old.spawns))
    → length upcoming.spawns ≡ length old.spawns + days_of day
    → upcoming.room ≡ old.room → length series < old.room
    → IsAhead (series ++ new ∷ []) upcoming
ahead_pushed id new series old upcoming day none same ahead is entered many same_room room = record {
  days = λ other. entered other ∙ chosen other (eqb id other) ∙ ap (λ n. date_ahead_of (cond (eqb n other) (Some new) (series_found other series))) (sym same) ∙ sym (ap date_ahead_of (now_pushed new series (ap (λ n. series_found n series) same ∙ none) other));
  many = omega (arith, more_many new series, ahead.many, many, ap days_of is);
  room = omega (arith, length-append series (new ∷ []), same_room, room);
}
  where
    chosen : (other : ℕ) (b : Bool) → cond b day (day_in other old.spawns) ≡ date_ahead_of (cond b (Some new) (series_found other series))
    chosen other true = is
    chosen other false = ahead.days other

-- Room for more of them changes nothing of what is there there.
pub ahead_reserved : (series : List Series) (old new : UpcomingView) → new.spawns ≡ old.spawns → old.room ≤ new.room → IsAhead series old → IsAhead series new
ahead_reserved series old new same more ahead = record {
  days = λ id. ap (day_in id) same ∙ ahead.days id;
  many = ap length same ∙ ahead.many;
  room = let room = ahead.room in omega (arith, room, more);
}
