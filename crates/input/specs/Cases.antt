-- What running the cases of an input comes to.
use Rattle.std.specs.Prelude.{ℕ, suc, Result, Ok, Err}
use Rattle.std.specs.declared.io.Error.{Error}

-- calls that take a state to the next one run at most so many cases: each in the state that the one before left, and none behind one that
-- failed
pub data RunsCases {S : Type 0} (Step : S → Result Unit Error → S → Type 0) : (left : ℕ) → S → Type 0 where
  enough : {s : S} → RunsCases Step 0 s
  failed : {left : ℕ} {s s' : S} (e : Error) → Step s (Err e) s' → RunsCases Step (suc left) s
  next : {left : ℕ} {s s' : S} → Step s (Ok tt) s' → RunsCases Step left s' → RunsCases Step (suc left) s
