use Rattle.std.proofs.Common.{List, ◌++◌, Err, ◌∙◌, ap, sym, refl}
use Rattle.std.proofs.KnownBytes.{Keeps-refl}
use Rattle.bank_frames.specs.Frames.{frame_of}
use Rattle.bank_frames.specs.NextFrame.{content_in}
use Rattle.bank_session.proofs.TurnLemmas.{content_fits, content_ahead, content_size, size_within, whole_fits, frame_consumed, stays_there, frame_undone}
use Rattle.bank_session.proofs.turn.answer_frame.Goals as goal

pub size-requires : goal.size-requires
size-requires g c = whole_fits c.args.ahead.now c.args.frame c.requires.frame

pub consume-requires : goal.consume-requires
consume-requires g c = rw c.size.ensures (size_within c.args.ahead.now c.args.frame c.requires.frame)

pub returns-in-Err-clause-turn : goal.returns-in-Err-clause-turn
returns-in-Err-clause-turn g c coming left reads reads' shown shown' kept =
    rw c.stop_of.ensures (frame_undone c.args.at c.args.desk.now c.in-Err.undone (content_in c.args.ahead.now c.args.frame) _ _ (stays_there _ _ left c.args.ahead.now c.args.frame c.requires.frame kept refl) (rw c.bytes.ensures.bytes at c.in-Err.ensures.undone) (Keeps-refl _) (λ same. c.in-Err.ensures.faults.cause (ap Err same)))

pub returns-in-Ok-write_whole-clause-turn : goal.returns-in-Ok-write_whole-clause-turn
returns-in-Ok-write_whole-clause-turn g c coming left reads reads' shown shown' kept =
    let later = rw c.size.ensures at c.consume.ensures in
    let ahead = content_ahead c.args.ahead.now c.args.frame c.requires.frame ∙ ap (λ (l : List _). frame_of (content_in c.args.ahead.now c.args.frame) ++ l) (sym later) in
    record {
      content = content_in c.args.ahead.now c.args.frame;
      line = c.in-Ok.line.items;
      fits = content_fits c.args.ahead.now c.args.frame c.requires.frame;
      answers = rw c.bytes.ensures.bytes at c.in-Ok.ensures.line;
      setup = c.frame_line.ensures.setup;
      read = frame_consumed coming left c.args.ahead.now _ _ kept ahead;
      size_is = content_size c.args.ahead.now c.args.frame c.requires.frame;
      written = rw c.deref.ensures.value at c.in-Ok-write_whole.ensures.whole;
    }

pub returns-clause-turn : goal.returns-clause-turn
returns-clause-turn g c coming left reads reads' shown shown' kept =
    let part = rw c.deref.ensures.value at c.in-Err-write_whole.ensures.part in (
      record {
        content = content_in c.args.ahead.now c.args.frame;
        line = c.in-Ok.line.items;
        after = c.frame_line.new.desk;
        count = part.count;
        stays = stays_there _ _ left c.args.ahead.now c.args.frame c.requires.frame kept refl;
        answers = rw c.bytes.ensures.bytes at c.in-Ok.ensures.line;
        written = part.appended;
      },
      c.in-Err-write_whole.ensures.faults.cause refl,
    )
