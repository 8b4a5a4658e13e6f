use Rattle.std.specs.Prelude.{OnOk}
use Rattle.std.proofs.Common.{ℕ, ◌≤◌, List, set, sym, ◌∙◌, subst, arith}
use Rattle.bank_mail.specs.MailsView.{ObjectMails}
use Rattle.bank_mail.proofs.MailLemmas.{is_at, none_found, HasRoomFor, roomier_set, roomier_pushed}
use Rattle.bank_mail.proofs.mails.Mails.reserve.Goals as goal

pub returns-in-Some-clause-rows : goal.returns-in-Some-clause-rows
returns-in-Some-clause-rows c =
    let there = is_at c.args.object c.in-Some.at c.index_mut.result.now c.self.inside.mails.items c.deref.result.now c.index_of.result c.index_of.ensures c.deref.ensures.value c.in-Some.is c.index_mut.ensures.value in
    let roomier = subst (λ (v : List ObjectMails). HasRoomFor c.args.object v (set c.self.inside.mails.items c.in-Some.at c.reserve.new.self) c.reserve.new.self.room) c.self.view_is
    (roomier_set c.args.object c.in-Some.at c.index_mut.result.now c.reserve.new.self c.self.inside.mails.items there c.reserve.ensures.object c.reserve.ensures.rows c.reserve.ensures.room_stays) in
    roomier.rows

pub returns-in-Some-clause-holds : goal.returns-in-Some-clause-holds
returns-in-Some-clause-holds c entries holds object =
    let there = is_at c.args.object c.in-Some.at c.index_mut.result.now c.self.inside.mails.items c.deref.result.now c.index_of.result c.index_of.ensures c.deref.ensures.value c.in-Some.is c.index_mut.ensures.value in
    let roomier = subst (λ (v : List ObjectMails). HasRoomFor c.args.object v (set c.self.inside.mails.items c.in-Some.at c.reserve.new.self) c.reserve.new.self.room) c.self.view_is
    (roomier_set c.args.object c.in-Some.at c.index_mut.result.now c.reserve.new.self c.self.inside.mails.items there c.reserve.ensures.object c.reserve.ensures.rows c.reserve.ensures.room_stays) in
    roomier.rows object ∙ holds object

pub returns-in-Some-clause-room : goal.returns-in-Some-clause-room
returns-in-Some-clause-room c =
    let there = is_at c.args.object c.in-Some.at c.index_mut.result.now c.self.inside.mails.items c.deref.result.now c.index_of.result c.index_of.ensures c.deref.ensures.value c.in-Some.is c.index_mut.ensures.value in
    let roomier = subst (λ (v : List ObjectMails). HasRoomFor c.args.object v (set c.self.inside.mails.items c.in-Some.at c.reserve.new.self) c.reserve.new.self.room) c.self.view_is
    (roomier_set c.args.object c.in-Some.at c.index_mut.result.now c.reserve.new.self c.self.inside.mails.items there c.reserve.ensures.object c.reserve.ensures.rows c.reserve.ensures.room_stays) in
    subst (λ (n : ℕ). OnOk c.reserve.result (c.args.mails ≤ n)) (sym roomier.here) c.reserve.ensures.room

pub returns-in-Some-clause-room_stays : goal.returns-in-Some-clause-room_stays
returns-in-Some-clause-room_stays c =
    let there = is_at c.args.object c.in-Some.at c.index_mut.result.now c.self.inside.mails.items c.deref.result.now c.index_of.result c.index_of.ensures c.deref.ensures.value c.in-Some.is c.index_mut.ensures.value in
    let roomier = subst (λ (v : List ObjectMails). HasRoomFor c.args.object v (set c.self.inside.mails.items c.in-Some.at c.reserve.new.self) c.reserve.new.self.room) c.self.view_is
    (roomier_set c.args.object c.in-Some.at c.index_mut.result.now c.reserve.new.self c.self.inside.mails.items there c.reserve.ensures.object c.reserve.ensures.rows c.reserve.ensures.room_stays) in
    roomier.room_stays

pub returns-in_ok-push-in-None-clause-rows : goal.returns-in_ok-push-in-None-clause-rows
returns-in_ok-push-in-None-clause-rows c =
    let none = none_found c.args.object c.self.inside.mails.items c.deref.result.now c.index_of.result c.index_of.ensures c.deref.ensures.value c.in-None.is in
    let pushed = roomier_pushed c.args.object c.in_ok-held-in-None.held c.self.inside.mails.items none c.in_ok-held-in-None.ensures.object c.in_ok-held-in-None.ensures.rows in
    let roomier = subst (λ (v : List ObjectMails). HasRoomFor c.args.object v c.push.new.self.items c.in_ok-held-in-None.held.room) c.self.view_is
    (subst (λ (v : List ObjectMails). HasRoomFor c.args.object c.self.inside.mails.items v c.in_ok-held-in-None.held.room) (sym c.in_ok-push-in-None.ensures.items) pushed) in
    roomier.rows

pub returns-in_ok-push-in-None-clause-holds : goal.returns-in_ok-push-in-None-clause-holds
returns-in_ok-push-in-None-clause-holds c entries holds object =
    let none = none_found c.args.object c.self.inside.mails.items c.deref.result.now c.index_of.result c.index_of.ensures c.deref.ensures.value c.in-None.is in
    let pushed = roomier_pushed c.args.object c.in_ok-held-in-None.held c.self.inside.mails.items none c.in_ok-held-in-None.ensures.object c.in_ok-held-in-None.ensures.rows in
    let roomier = subst (λ (v : List ObjectMails). HasRoomFor c.args.object v c.push.new.self.items c.in_ok-held-in-None.held.room) c.self.view_is
    (subst (λ (v : List ObjectMails). HasRoomFor c.args.object c.self.inside.mails.items v c.in_ok-held-in-None.held.room) (sym c.in_ok-push-in-None.ensures.items) pushed) in
    roomier.rows object ∙ holds object

pub returns-in_ok-push-in-None-clause-room : goal.returns-in_ok-push-in-None-clause-room
returns-in_ok-push-in-None-clause-room c =
    let none = none_found c.args.object c.self.inside.mails.items c.deref.result.now c.index_of.result c.index_of.ensures c.deref.ensures.value c.in-None.is in
    let pushed = roomier_pushed c.args.object c.in_ok-held-in-None.held c.self.inside.mails.items none c.in_ok-held-in-None.ensures.object c.in_ok-held-in-None.ensures.rows in
    let roomier = subst (λ (v : List ObjectMails). HasRoomFor c.args.object v c.push.new.self.items c.in_ok-held-in-None.held.room) c.self.view_is
    (subst (λ (v : List ObjectMails). HasRoomFor c.args.object c.self.inside.mails.items v c.in_ok-held-in-None.held.room) (sym c.in_ok-push-in-None.ensures.items) pushed) in
    subst (λ (n : ℕ). c.args.mails ≤ n) (sym roomier.here) c.in_ok-held-in-None.ensures.room

pub returns-in_ok-push-in-None-clause-room_stays : goal.returns-in_ok-push-in-None-clause-room_stays
returns-in_ok-push-in-None-clause-room_stays c =
    let none = none_found c.args.object c.self.inside.mails.items c.deref.result.now c.index_of.result c.index_of.ensures c.deref.ensures.value c.in-None.is in
    let pushed = roomier_pushed c.args.object c.in_ok-held-in-None.held c.self.inside.mails.items none c.in_ok-held-in-None.ensures.object c.in_ok-held-in-None.ensures.rows in
    let roomier = subst (λ (v : List ObjectMails). HasRoomFor c.args.object v c.push.new.self.items c.in_ok-held-in-None.held.room) c.self.view_is
    (subst (λ (v : List ObjectMails). HasRoomFor c.args.object c.self.inside.mails.items v c.in_ok-held-in-None.held.room) (sym c.in_ok-push-in-None.ensures.items) pushed) in
    roomier.room_stays
