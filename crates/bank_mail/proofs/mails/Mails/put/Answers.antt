use Rattle.std.proofs.Common.{◌≡◌, ◌<◌, List, set, ap, sym, subst, arith}
use Rattle.bank_mail.specs.MailsView.{ObjectMails, room_in, room_found}
use Rattle.bank_mail.proofs.MailLemmas.{is_at, none_found, room_at, HasMailMore, mail_set, holds_with}
use Rattle.bank_mail.proofs.mails.Mails.put.Goals as goal

pub put-requires : goal.put-requires
put-requires c =
    let there = is_at c.args.object c.in-Some.at c.index_mut.result.now c.self.inside.mails.items c.deref.result.now c.index_of.result c.index_of.ensures c.deref.ensures.value c.in-Some.is c.index_mut.ensures.value in
    let same = room_at c.args.object c.in-Some.at c.index_mut.result.now c.self.inside.mails.items there in
    let some = subst (λ (v : List ObjectMails). 0 < room_found c.args.object v) (sym c.self.view_is) c.requires.room in
    record { room = omega arith }

pub unreachable-requires : goal.unreachable-requires
unreachable-requires c =
    let none = none_found c.args.object c.self.inside.mails.items c.deref.result.now c.index_of.result c.index_of.ensures c.deref.ensures.value c.in-None.is in
    let empty : room_found c.args.object c.self.inside.mails.items ≡ 0 = ap room_in none in
    let some = subst (λ (v : List ObjectMails). 0 < room_found c.args.object v) (sym c.self.view_is) c.requires.room in
    omega arith

pub returns-clause-rows : goal.returns-clause-rows
returns-clause-rows c =
    let there = is_at c.args.object c.in-Some.at c.index_mut.result.now c.self.inside.mails.items c.deref.result.now c.index_of.result c.index_of.ensures c.deref.ensures.value c.in-Some.is c.index_mut.ensures.value in
    let more = mail_set c.args.object c.in-Some.at c.index_mut.result.now c.put.new.self c.args.row c.self.inside.mails.items there c.put.ensures.object c.put.ensures.rows c.put.ensures.room in
    (subst (λ (v : List ObjectMails). HasMailMore c.args.object c.args.row v (set c.self.inside.mails.items c.in-Some.at c.put.new.self)) c.self.view_is more).rows

pub returns-clause-holds : goal.returns-clause-holds
returns-clause-holds c entries entry holds is_object is_mail =
    let there = is_at c.args.object c.in-Some.at c.index_mut.result.now c.self.inside.mails.items c.deref.result.now c.index_of.result c.index_of.ensures c.deref.ensures.value c.in-Some.is c.index_mut.ensures.value in
    let more = mail_set c.args.object c.in-Some.at c.index_mut.result.now c.put.new.self c.args.row c.self.inside.mails.items there c.put.ensures.object c.put.ensures.rows c.put.ensures.room in
    holds_with c.args.object c.args.row c.args.self.now _ entries entry (subst (λ (v : List ObjectMails). HasMailMore c.args.object c.args.row v (set c.self.inside.mails.items c.in-Some.at c.put.new.self)) c.self.view_is more) holds is_object is_mail

pub returns-clause-room : goal.returns-clause-room
returns-clause-room c =
    let there = is_at c.args.object c.in-Some.at c.index_mut.result.now c.self.inside.mails.items c.deref.result.now c.index_of.result c.index_of.ensures c.deref.ensures.value c.in-Some.is c.index_mut.ensures.value in
    let more = mail_set c.args.object c.in-Some.at c.index_mut.result.now c.put.new.self c.args.row c.self.inside.mails.items there c.put.ensures.object c.put.ensures.rows c.put.ensures.room in
    (subst (λ (v : List ObjectMails). HasMailMore c.args.object c.args.row v (set c.self.inside.mails.items c.in-Some.at c.put.new.self)) c.self.view_is more).room
