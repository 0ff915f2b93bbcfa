use Rattle.rules.specs.Numbers as N
use Rattle.std.proofs.Common.{le-leb}
use borrow.Author.Tests.{lt-leb}
use Rattle.checks.proofs.numbers.outside.Goals as goal

pub returns-then-blocks-lt1 : goal.returns-then-blocks-lt1
unfolding N.outside
returns-then-blocks-lt1 c = rw (lt-leb 1 c.args.g.blocks c.if-blocks-lt1.true)

pub returns-then-blocks-gt-MAX_BLOCKS : goal.returns-then-blocks-gt-MAX_BLOCKS
unfolding N.outside
returns-then-blocks-gt-MAX_BLOCKS c = rw (le-leb 1 c.args.g.blocks c.if-blocks-lt1.false, lt-leb c.args.g.blocks 4096 c.if-blocks-gt-MAX_BLOCKS.true)

pub returns-then-slots-lt1 : goal.returns-then-slots-lt1
unfolding N.outside
returns-then-slots-lt1 c = rw (le-leb 1 c.args.g.blocks c.if-blocks-lt1.false, le-leb c.args.g.blocks 4096 c.if-blocks-gt-MAX_BLOCKS.false, lt-leb 1 c.args.g.slots c.if-slots-lt1.true)

pub returns-then-slots-gt-MAX_SLOTS : goal.returns-then-slots-gt-MAX_SLOTS
unfolding N.outside
returns-then-slots-gt-MAX_SLOTS c = rw (le-leb 1 c.args.g.blocks c.if-blocks-lt1.false, le-leb c.args.g.blocks 4096 c.if-blocks-gt-MAX_BLOCKS.false, le-leb 1 c.args.g.slots c.if-slots-lt1.false, lt-leb c.args.g.slots 512 c.if-slots-gt-MAX_SLOTS.true)

pub returns : goal.returns
unfolding N.outside
returns c = rw (le-leb 1 c.args.g.blocks c.if-blocks-lt1.false, le-leb c.args.g.blocks 4096 c.if-blocks-gt-MAX_BLOCKS.false, le-leb 1 c.args.g.slots c.if-slots-lt1.false, le-leb c.args.g.slots 512 c.if-slots-gt-MAX_SLOTS.false)
