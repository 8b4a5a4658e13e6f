use Rattle.bank_frames.proofs.HeadLines.{no_frame_without_end, no_frame_later, no_frame_after, begins_frame, begins_due}
use Rattle.bank_frames.proofs.frame_head.frame_head_of.Goals as goal

pub returns-then-ahead-lt-MAX_HEAD : goal.returns-then-ahead-lt-MAX_HEAD
returns-then-ahead-lt-MAX_HEAD c = (c.if-ahead-lt-MAX_HEAD.true, no_frame_without_end c.args.ahead.now c.in-None.ensures.none)

pub returns-else-ahead-lt-MAX_HEAD : goal.returns-else-ahead-lt-MAX_HEAD
returns-else-ahead-lt-MAX_HEAD c = no_frame_later c.args.ahead.now c.in-None.ensures.none c.if-ahead-lt-MAX_HEAD.false

pub returns-in-None-first_line : goal.returns-in-None-first_line
returns-in-None-first_line c = no_frame_after c.args.ahead.now c.in-Some.end c.in-Some.ensures.some c.in-None-first_line.ensures.none

pub returns-in-Some-Due : goal.returns-in-Some-Due
returns-in-Some-Due c = begins_due c.args.ahead.now c.in-Some.end c.in-Some.ensures.some (rw c.in-Some-Due.field-0-is at c.in-Some-Due.ensures.some)

pub returns-in-Some-File : goal.returns-in-Some-File
returns-in-Some-File c =
    let line = rw c.in-Some-File.field-0-is at c.in-Some-File.ensures.some in
    begins_frame c.args.ahead.now c.in-Some.end c.in-Some-File.file c.in-Some.ensures.some line.0 line.1
