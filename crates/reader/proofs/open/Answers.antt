-- Where the first token wants a name, and none comes, or no `in` after it.
use Rattle.grammar.specs.Machine.{an_emit, an_exit, a_signal, a_trap, a_sustain, an_await}
use Rattle.grammar.specs.Tokens.{emit, exit, signal, trap, sustain, await}
use Rattle.grammar.specs.Tree as T
use Rattle.scan.specs.declared.Opening.TheVariants.{Emit, Exit, Signal, Trap, Sustain, Await}
use Rattle.std.proofs.Common.{refl}
use Rattle.reader.proofs.Openings.{begun, unnamed, without-in}
use Rattle.reader.proofs.open.Goals as goal

pub returns-in_err-name-in-Emit : goal.returns-in_err-name-in-Emit
returns-in_err-name-in-Emit c = rw c.from_residual.ensures (unnamed emit an_emit (λ b k ts. refl) (begun c.args.text.now c.args.at _ c.next_token-scanned.result.part.stop Emit c.in-Opens.is c.in-Emit.is c.next_token-scanned.ensures.0) c.in_err-name-in-Emit.ensures)

pub returns-in_err-name-in-Exit : goal.returns-in_err-name-in-Exit
returns-in_err-name-in-Exit c = rw c.from_residual-in_err-name-in-Exit.ensures (unnamed exit an_exit (λ b k ts. refl) (begun c.args.text.now c.args.at _ c.next_token-scanned.result.part.stop Exit c.in-Opens.is c.in-Exit.is c.next_token-scanned.ensures.0) c.in_err-name-in-Exit.ensures)

pub returns-in_err-name-in-Signal : goal.returns-in_err-name-in-Signal
returns-in_err-name-in-Signal c = rw c.from_residual-in_err-name-in-Signal.ensures (without-in signal a_signal (λ b k ts. refl) (begun c.args.text.now c.args.at _ c.next_token-scanned.result.part.stop Signal c.in-Opens.is c.in-Signal.is c.next_token-scanned.ensures.0) (λ n. T.signal n) (λ n b k ts. refl) c.in_err-name-in-Signal.ensures)

pub returns-in_err-name-in-Trap : goal.returns-in_err-name-in-Trap
returns-in_err-name-in-Trap c = rw c.from_residual-in_err-name-in-Trap.ensures (without-in trap a_trap (λ b k ts. refl) (begun c.args.text.now c.args.at _ c.next_token-scanned.result.part.stop Trap c.in-Opens.is c.in-Trap.is c.next_token-scanned.ensures.0) (λ n. T.trap n) (λ n b k ts. refl) c.in_err-name-in-Trap.ensures)

pub returns-in_err-name-in-Sustain : goal.returns-in_err-name-in-Sustain
returns-in_err-name-in-Sustain c = rw c.from_residual-in_err-name-in-Sustain.ensures (unnamed sustain a_sustain (λ b k ts. refl) (begun c.args.text.now c.args.at _ c.next_token-scanned.result.part.stop Sustain c.in-Opens.is c.in-Sustain.is c.next_token-scanned.ensures.0) c.in_err-name-in-Sustain.ensures)

pub returns-in_err-name-in-Await : goal.returns-in_err-name-in-Await
returns-in_err-name-in-Await c = rw c.from_residual-in_err-name-in-Await.ensures (unnamed await an_await (λ b k ts. refl) (begun c.args.text.now c.args.at _ c.next_token-scanned.result.part.stop Await c.in-Opens.is c.in-Await.is c.next_token-scanned.ensures.0) c.in_err-name-in-Await.ensures)
