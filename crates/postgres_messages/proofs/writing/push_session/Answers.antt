use Rattle.postgres_messages.proofs.Groups.{session_parts}
use Rattle.postgres_messages.proofs.writing.push_session.Goals as goal

pub returns : goal.returns
returns c = session_parts c.args.out.now.items c.push_setting.new.out.items c.push_setting-2.new.out.items c.push_setting-3.new.out.items c.push_setting-4.new.out.items
    c.in_ok-push_setting.ensures c.in_ok-push_setting-2.ensures c.in_ok-push_setting-3.ensures c.in_ok-push_setting-4.ensures
