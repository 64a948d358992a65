-- The checks after 14, in their order.
use Rattle.std.proofs.Common.{refl}
use Rattle.text.proofs.Settling.{told-lost, told-many, told-long, told-nested, told-done, handed-on}
use Rattle.text.proofs.settle.Goals as goal

pub returns-then-sheet : goal.returns-then-sheet
returns-then-sheet c = rw c.fault_at.ensures (λ t d f. told-lost c.args.text.now c.args.sheet.now t f d c.if-sheet.true c.args.table.now c.find_exit.result c.find_exit.ensures)

pub returns-then-signals-gt-SIGNALS : goal.returns-then-signals-gt-SIGNALS
returns-then-signals-gt-SIGNALS c = rw c.fault_at-then-signals-gt-SIGNALS.ensures (λ t d f. told-many c.args.text.now c.args.sheet.now t f d c.if-sheet.false c.if-signals-gt-SIGNALS.true c.args.table.now c.find_signal.result c.find_signal.ensures)

pub returns-then-nodes-gt-MAX_NODES : goal.returns-then-nodes-gt-MAX_NODES
returns-then-nodes-gt-MAX_NODES c = rw c.fault_at-then-nodes-gt-MAX_NODES.ensures (λ t d f. told-long c.args.text.now c.args.sheet.now t f d c.if-sheet.false c.if-signals-gt-SIGNALS.false c.if-nodes-gt-MAX_NODES.true c.args.table.now)

pub returns-in_err-check_nesting : goal.returns-in_err-check_nesting
returns-in_err-check_nesting c = λ t d f. rw (handed-on c.from_residual.result _ c.from_residual.ensures.1) (told-nested c.args.text.now c.args.sheet.now t f d c.if-sheet.false c.if-signals-gt-SIGNALS.false c.if-nodes-gt-MAX_NODES.false _ (c.in_err-check_nesting.ensures c.args.text.now t f) _ _ refl c.args.table.now)

pub returns : goal.returns
returns c = rw c.copy_table.ensures (λ t d f. told-done c.args.text.now c.args.sheet.now t f d c.if-sheet.false c.if-signals-gt-SIGNALS.false c.if-nodes-gt-MAX_NODES.false _ (c.in_ok-check_nesting.ensures c.args.text.now t f) refl c.args.table.now)
