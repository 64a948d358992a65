-- Each token is passed, or it is the name.
use Rattle.sheet.proofs.Sheets.{fresh}
use Rattle.fault.proofs.Reaching.{going-first, token-taken}
use Rattle.fault.proofs.Searches.{count-first, count-ends, count-crowded, count-goes}
use Rattle.fault.proofs.find_signal.Goals as goal

pub loop-scanned-init : goal.loop-scanned-init
loop-scanned-init c = count-first _ (fresh c.args.text.now c.requires _ c.new-names.ensures) (going-first c.into_iter-scanned-iterator.ensures.into_iter_gives c.new-scanned-items.ensures)

pub returns-then-is_crowded : goal.returns-then-is_crowded
returns-then-is_crowded c = count-crowded c.loop-scanned.invariant (token-taken _ c.loop-scanned.invariant.going c.in-Some.ensures.steps) c.is_crowded.new.names _ c.if-is_crowded.true c.is_crowded.ensures

pub loop-scanned-preserved : goal.loop-scanned-preserved
loop-scanned-preserved c = count-goes c.loop-scanned.invariant (token-taken _ c.loop-scanned.invariant.going c.in-Some.ensures.steps) _ c.if-is_crowded.false c.is_crowded.ensures _ c.is_before_signal-is_signal.ensures

pub returns : goal.returns
returns c = count-ends c.next.new.self c.loop-scanned.invariant c.in-None.ensures.steps
