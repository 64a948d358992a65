-- The law for each return is in proofs/Readers.antt.
use Rattle.grammar.specs.Machine.{expect}
use Rattle.sheet.specs.Sheet.{name_at}
use Rattle.reader.specs.Reading.{Entered}
use Rattle.reader.proofs.Readers.{whole-read, too_deep_lem, body_unread, statement-ends, going_first, going_on, sequence-read, sequence_unread, bars-missing, branch-first, branch_unread, branch-last, branch-again, else_unread, else_unclosed, else_ends}
use Rattle.reader.proofs.+read_bracket_read_else_read_sequence_read_statement.Goals as goal

pub read_bracket-returns-in_err-start : goal.read_bracket-returns-in_err-start
read_bracket-returns-in_err-start t c = rw c.from_residual.ensures (bars-missing c.args.text.now c.args.at c.args.depth _ c.args.sheet.now c.requires c.in_err-start.ensures)

pub read_bracket-loop-last-init : goal.read_bracket-loop-last-init
read_bracket-loop-last-init t c = branch-first c.args.text.now c.args.at c.args.depth c.args.sheet.now c.in_ok-start.ensures

pub read_bracket-returns-in_err-last : goal.read_bracket-returns-in_err-last
read_bracket-returns-in_err-last t c = rw c.from_residual-in_err-last.ensures (branch_unread c.loop-last.invariant c.read_sequence.new.sheet c.in_err-last.ensures)

pub read_bracket-returns-in_default : goal.read_bracket-returns-in_default
read_bracket-returns-in_default t c = branch-last c.loop-last.invariant c.in_ok-last.ensures _ c.put.ensures.nodes (c.put.ensures.adds c.args.text.now) c.in_default.ensures _ c.past_mark-in_default.ensures

pub read_bracket-loop-last-preserved : goal.read_bracket-loop-last-preserved
read_bracket-loop-last-preserved t c = branch-again c.loop-last.invariant c.in_ok-last.ensures _ c.put.ensures.nodes (c.put.ensures.adds c.args.text.now) c.in-Some.ensures

pub read_else-returns-in_default : goal.read_else-returns-in_default
read_else-returns-in_default t c = c.close_then.ensures c.args.depth c.requires.named

pub read_else-returns-in_err-last : goal.read_else-returns-in_err-last
read_else-returns-in_err-last t c = rw c.from_residual.ensures (else_unread c.args.text.now c.args.at c.args.depth c.args.sheet.now (name_at c.args.text.now c.args.name) c.in-Some.ensures c.read_sequence.new.sheet c.in_err-last.ensures)

pub read_else-returns-in_err-end : goal.read_else-returns-in_err-end
read_else-returns-in_err-end t c = rw c.from_residual-in_err-end.ensures (else_unclosed c.args.text.now c.args.at c.args.depth c.args.sheet.now (name_at c.args.text.now c.args.name) c.in-Some.ensures c.in_ok-last.ensures c.in_err-end.ensures)

pub read_else-returns : goal.read_else-returns
read_else-returns t c = else_ends c.args.text.now c.args.at c.args.depth c.args.sheet.now (name_at c.args.text.now c.args.name) c.in-Some.ensures c.in_ok-last.ensures _ c.put_named.ensures.nodes (c.put_named.ensures.adds c.requires.named) c.in_ok-end.ensures

pub read_sequence-loop-start-init : goal.read_sequence-loop-start-init
read_sequence-loop-start-init t c = going_first c.args.text.now _ c.args.depth _ c.in_ok-end.ensures.to

pub read_sequence-returns-in_err-end-2 : goal.read_sequence-returns-in_err-end-2
read_sequence-returns-in_err-end-2 t c = rw c.from_residual-in_err-end-2.ensures (sequence_unread c.loop-start.invariant c.in_ok-end.ensures c.in-Some.ensures c.in_err-end-2.ensures)

pub read_sequence-loop-start-preserved : goal.read_sequence-loop-start-preserved
read_sequence-loop-start-preserved t c = going_on c.loop-start.invariant c.in-Some.ensures c.in_ok-end-2.ensures _ c.put.ensures.nodes (c.put.ensures.adds c.args.text.now)

pub read_sequence-returns : goal.read_sequence-returns
read_sequence-returns t c = sequence-read c.loop-start.invariant c.in_ok-end.ensures c.in_default.ensures

pub read_statement-returns-in-Whole : goal.read_statement-returns-in-Whole
read_statement-returns-in-Whole t c = whole-read (rw c.in-Whole.is at c.in_ok-leaf.ensures) c.args.depth _ _ c.put_leaf.ensures.nodes c.put_leaf.ensures.adds

pub read_statement-returns-then-depth-eq0 : goal.read_statement-returns-then-depth-eq0
read_statement-returns-then-depth-eq0 t c = too_deep_lem (rw c.in-Inside.is at c.in_ok-leaf.ensures) c.args.depth c.if-depth-eq0.true

pub read_statement-returns-in_err-last : goal.read_statement-returns-in_err-last
read_statement-returns-in_err-last t c = rw c.from_residual-in_err-last.ensures (body_unread (rw c.in-Inside.is at c.in_ok-leaf.ensures) c.args.depth c.if-depth-eq0.false c.in_err-last.ensures)

pub read_statement-returns-in-Bracket : goal.read_statement-returns-in-Bracket
read_statement-returns-in-Bracket t c =
    let d : Entered expect c.args.text.now c.args.at c.in-Inside.frame c.in-Inside.end = rw c.in-Inside.is at c.in_ok-leaf.ensures in
    statement-ends d c.args.depth c.args.sheet.now c.enter.ensures.nodes (c.enter.ensures.enters d.bounds) c.in_ok-last.ensures _ c.read_bracket.result c.if-depth-eq0.false (rw c.in-Bracket.is c.read_bracket.ensures)

pub read_statement-returns-in-Then : goal.read_statement-returns-in-Then
read_statement-returns-in-Then t c =
    let d : Entered expect c.args.text.now c.args.at c.in-Inside.frame c.in-Inside.end = rw c.in-Inside.is at c.in_ok-leaf.ensures in
    statement-ends d c.args.depth c.args.sheet.now c.enter.ensures.nodes (c.enter.ensures.enters d.bounds) c.in_ok-last.ensures _ c.read_else.result c.if-depth-eq0.false (rw c.in-Then.is c.read_else.ensures)

pub read_statement-returns-in_default : goal.read_statement-returns-in_default
read_statement-returns-in_default t c =
    let d : Entered expect c.args.text.now c.args.at c.in-Inside.frame c.in-Inside.end = rw c.in-Inside.is at c.in_ok-leaf.ensures in
    statement-ends d c.args.depth c.args.sheet.now c.enter.ensures.nodes (c.enter.ensures.enters d.bounds) c.in_ok-last.ensures _ c.close.result c.if-depth-eq0.false (c.close.ensures _ d.bounds)
