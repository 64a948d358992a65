-- Each token is passed, or it is the name.
use Rattle.sheet.proofs.Sheets.{fresh}
use Rattle.fault.proofs.Reaching.{going-first, token-taken}
use Rattle.fault.proofs.Searches.{look-first, look-ends, look-lost, look-goes}
use Rattle.fault.proofs.find_exit.Goals as goal

pub loop-scanned-init : goal.loop-scanned-init
loop-scanned-init c = look-first _ (fresh c.args.text.now c.requires _ c.new-levels.ensures) (going-first c.into_iter-scanned-iterator.ensures.into_iter_gives c.new-scanned-items.ensures)

pub returns-in_default : goal.returns-in_default
returns-in_default c = look-lost c.loop-scanned.invariant (token-taken _ c.loop-scanned.invariant.going c.in-Some.ensures.steps) c.pass.new.levels c.requires _ c.in_default.ensures

pub loop-scanned-preserved : goal.loop-scanned-preserved
loop-scanned-preserved c = look-goes c.loop-scanned.invariant (token-taken _ c.loop-scanned.invariant.going c.in-Some.ensures.steps) c.in-Ok.next c.in-Ok.ensures

pub returns : goal.returns
returns c = look-ends c.next.new.self c.requires c.loop-scanned.invariant c.in-None.ensures.steps
