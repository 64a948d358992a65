-- A case that fails is the last; behind another go the rest.
use Rattle.std.proofs.Common.{arith, of_calls, ◌≡◌, ℕ, suc, ◌+◌, ◌-◌, ◌<◌, ◌≤◌, true, false, Result, Ok, Err, subst, sym, ◌∙◌}
use Rattle.std.specs.Prelude.{is_err}
use Rattle.std.specs.declared.io.Error.{Error}
use Rattle.input.specs.Cases.{RunsCases, enough, failed, next}
use Rattle.input.specs.declared.TheConstants.{CASES}
use Rattle.input.proofs.for_each_case.Goals as goal

module _ {S : Type 0} (Step : S → Result Unit Error → S → Type 0) where
  one-less : (m k : ℕ) {s : S} → k < m → RunsCases Step (suc (m - (k + 1))) s → RunsCases Step (m - k) s
  one-less m k {s} h runs = let e : suc (m - (k + 1)) ≡ m - k = omega arith in subst (λ n. RunsCases Step n s) e runs

  behind : (m k : ℕ) {s s' : S} (r : Result Unit Error) → k < m → Step s r s' → is_err r ≡ false → RunsCases Step (m - (k + 1)) s' → RunsCases Step (m - k) s
  behind m k (Ok x) h step e runs = one-less m k h (next step runs)
  behind m k (Err x) h step e runs = cc

  last : (m k : ℕ) {s s' : S} (r : Result Unit Error) → k < m → Step s r s' → is_err r ≡ true → RunsCases Step (m - k) s
  last m k (Ok x) h step e = cc
  last m k (Err x) h step e = one-less m k h (failed x step)

  done : (m k : ℕ) {s : S} → m ≤ k → RunsCases Step (m - k) s
  done m k {s} h = let e : 0 ≡ m - k = omega arith in subst (λ n. RunsCases Step n s) e enough

pub loop-preserved : goal.loop-preserved
loop-preserved g c = (let a = c.loop.invariant.0 in search of_calls, λ runs. c.loop.invariant.1 (behind _ CASES c.loop.counter c.run_next.result c.loop-test.true c.run_next.ensures (sym c.is_err.ensures.value ∙ c.if-is_err.false) runs))

pub returns-then-is_err : goal.returns-then-is_err
returns-then-is_err g c = c.loop.invariant.1 (last _ CASES c.loop.counter c.run_next.result c.loop-test.true c.run_next.ensures (sym c.is_err.ensures.value ∙ c.if-is_err.true))

pub returns : goal.returns
returns g c = c.loop.invariant.1 (done _ CASES c.loop.counter c.loop-test.false)
