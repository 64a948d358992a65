-- One law for each return: proofs/Closing.antt.
use Rattle.std.proofs.Common.{refl, sym, subst, arith}
use Rattle.esterel.specs.Limits.{max_nodes}
use Rattle.esterel.proofs.Replies.{handed}
use Rattle.esterel.proofs.Sizes.{size_pos}
use Rattle.table.specs.Program.{program_of}
use Rattle.instant.specs.Calls.{Starting}
use Rattle.instant.proofs.Closing.{start-refused, root-clear, start-hands, reacts_as}
use Rattle.instant.proofs.start.Goals as goal

pub returns-in_err-tree : goal.returns-in_err-tree
returns-in_err-tree c =
    subst (Starting c.args.table.now c.args.answers.now c.args.state.now c.args.emissions.now c.args.state.now c.args.emissions.now) (sym (handed c.from_residual.result _ c.from_residual.ensures.1))
    (start-refused c.args.table.now c.args.state.now c.args.emissions.now c.args.answers.now c.in_err-tree.ensures.answer)

pub start_at-ran-requires : goal.start_at-ran-requires
start_at-ran-requires c =
    let ready = c.in_ok-tree.ensures.ready _ refl in
    let some = size_pos (program_of c.in_ok-tree.tree.table.now) in (
      ready.runnable,
      record { within = omega arith; places = omega (arith, ready.few); marks = omega arith; lent = omega arith },
      root-clear ready (c.nodes-n.result) (omega arith) max_nodes,
    )

pub returns : goal.returns
returns c =
    let ready = c.in_ok-tree.ensures.ready _ refl in
    reacts_as
    (start-hands ready c.args.answers.now c.args.state.now c.args.emissions.now refl refl (omega arith) _ (omega (arith, ready.few)) c.start_at-ran.ensures)
    c.hand_over.ensures

pub overflow_sub-n : goal.overflow_sub-n
overflow_sub-n c = omega (arith, size_pos (program_of c.in_ok-tree.tree.table.now))
