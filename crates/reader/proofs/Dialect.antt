-- The nodes of the forms of the everyday dialect.
use mathlib.Core.Path.{◌≡◌, refl}
use mathlib.Core.Bool.{Bool, true, false, ◌||◌}
use mathlib.Core.List.{List, ◌∷◌}
use Prim.Native.Nat.{ℕ, suc}
use native.Mathlib.Omega.{arith}
use lib.ListN.{length}
use borrow.Author.Tests.{lt-ltb}
use Rattle.grammar.specs.Tree as T
use Rattle.grammar.specs.Tree.{Name}
use Rattle.grammar.specs.Kernel.{Kernel, added, await_loop, guarded, abort_of}
use Rattle.grammar.specs.Names.{place}
use Rattle.grammar.specs.Progress as P
use Rattle.grammar.specs.Progress.{Progress, node, named, leave, past}
use Rattle.sheet.specs.declared.Sheet.{Sheet}
use Rattle.sheet.specs.Sheet.{Filled, Adds}
use Rattle.reader.specs.Reading.{guard_done}

-- an exit of the added trap, which stands around it
or-false : (a : Bool) → (a || false) ≡ a
or-false true = refl
or-false false = refl

exit-is : (ts : List Name) (g : Progress) → node 4 (place (added ∷ ts) added) (leave (added ∷ ts) added g) ≡ node 4 0 g
exit-is ts g = rw (lt-ltb 0 (suc (length ts)) (omega arith), or-false g.lost)

exit-added : (x : List ℕ) (w : Sheet) (us ts : List Name) (g : Progress) → Filled x w us (node 4 0 g) → Filled x w us (node 4 (place (added ∷ ts) added) (leave (added ∷ ts) added g))
exit-added x w us ts g f = rw (exit-is ts g) f

module _ (x : List ℕ) (s : Name) where
  pub await_put : {t t1 t2 t3 t4 t5 t6 t7 : Sheet} → Adds x t t1 (λ ts g. node 2 0 g) → Adds x t1 t2 (λ ts g. P.note s g) → Adds x t2 t3 (λ ts g. node 4 0 g) → Adds x t3 t4 (λ ts g. node 1 0 g) → Adds x t4 t5 (λ ts g. named 6 s g) → Adds x t5 t6 (λ ts g. node 9 0 g) → Adds x t6 t7 (λ ts g. node 8 0 g) → (ts : List Name) → Adds x t t7 (λ us g. past (added ∷ ts) (await_loop s) g)
  await_put {t3 = t3} a b c d e h i ts us g f =
      i us _ (h us _ (e us _ (d us _ (exit-added x t3 us ts (P.note s (node 2 0 g)) (c us _ (b us _ (a us g f)))))))

  -- the body of an abort
  guard_is : (w : T.Strength) (us : List Name) (p : Kernel) (g : Progress) → past us (guarded w s p) g ≡ guard_done w s (past us p g)
  guard_is T.strong us p g = refl
  guard_is T.weak us p g = refl

  pub abort_put : {t t1 t2 t3 t4 t5 t6 t7 : Sheet} (w : T.Strength) → Adds x t t1 (λ ts g. guard_done w s g) → Adds x t1 t2 (λ ts g. node 4 0 g) → Adds x t2 t3 (λ ts g. node 9 0 g) → ((ts : List Name) → Adds x t3 t4 (λ us g. past (added ∷ ts) (await_loop s) g)) → Adds x t4 t5 (λ ts g. node 10 0 g) → ((r : Name) (ts : List Name) (g : Progress) → Filled x t5 (r ∷ ts) g → Filled x t6 ts g) → Adds x t6 t7 (λ ts g. node 11 0 g) → (p : Kernel) (ts : List Name) (g : Progress) → Filled x t (added ∷ ts) (past (added ∷ ts) p g) → Filled x t7 ts (past ts (abort_of w s p) g)
  abort_put {t1 = t1} {t2 = t2} w a b c d e h i p ts g f =
      let us : List Name = added ∷ ts in
      let body : Filled x t1 us (past us (guarded w s p) g) = rw (guard_is w us p g) (a us (past us p g) f) in
      i ts _ (h added ts _ (e us _ (d ts us _ (c us _ (exit-added x t2 us ts (past us (guarded w s p) g) (b us _ body))))))
