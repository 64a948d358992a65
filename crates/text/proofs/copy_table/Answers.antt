-- One node more is that of the sheet.
use Rattle.std.proofs.Common.{◌≡◌, ◌+◌, refl}
use denote.Enum.Declared.{tag_of}
use Rattle.sheet.specs.contracts.Kind.{the_type}
use Rattle.sheet.specs.declared.Kind.{Kind}
use Rattle.sheet.specs.declared.Kind.TheVariants.{Nothing, Pause, Emit, Exit, Signal, Present, Suspend, Loop, Sequence, Parallel, Trap}
use Rattle.sheet.specs.Sheet.{number_of}
use Rattle.text.proofs.Bytes.{filling-next, filling-end}
use Rattle.text.proofs.copy_table.Goals as goal

-- the variants count from 1 on
kind-number : (k : Kind) → tag_of the_type k + 1 ≡ number_of k
kind-number Nothing = refl
kind-number Pause = refl
kind-number Emit = refl
kind-number Exit = refl
kind-number Signal = refl
kind-number Present = refl
kind-number Suspend = refl
kind-number Loop = refl
kind-number Sequence = refl
kind-number Parallel = refl
kind-number Trap = refl

pub loop-i-preserved : goal.loop-i-preserved
loop-i-preserved c = filling-next c.requires c.loop-i.invariant _ _ c.loop-i-test.true (kind-number _) refl

pub returns : goal.returns
returns c = filling-end c.requires c.loop-i.invariant c.loop-i-test.false c.loop-i.auto.i-end
