-- The node, the answers and the line feed.
use Rattle.std.proofs.Common.{lit≤}
use Rattle.tickline.proofs.Writing.{node-fits, answers-fit, feed_fits, tick_written}
use Rattle.tickline.proofs.write_tick.Goals as goal

pub number-requires : goal.number-requires
number-requires c = (lit≤ tt, lit≤ tt, node-fits c.args.to.now c.args.node c.args.answers.now c.requires)

pub write_answers-requires : goal.write_answers-requires
write_answers-requires c = answers-fit c.args.to.now c.args.node c.args.answers.now c.requires c.number.ensures

pub byte-requires : goal.byte-requires
byte-requires c = feed_fits c.args.to.now c.args.node c.args.answers.now c.requires c.number.ensures c.write_answers.ensures

pub returns : goal.returns
returns c = tick_written c.args.to.now c.args.node c.args.answers.now c.number.ensures c.write_answers.ensures c.byte.ensures
