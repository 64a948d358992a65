-- The search for a name among those kept.
use mathlib.Core.Path.{◌≡◌, refl, sym, ap, ◌∙◌}
use mathlib.Core.Bool.{Bool, true, false}
use mathlib.Core.List.{List, [], ◌∷◌}
use Prim.Native.Nat.{ℕ, zero, suc, ◌≤◌, ◌<◌}
use native.Mathlib.Omega.{arith}
use lib.ListN.{length, get_or}
use Rattle.grammar.specs.Tokens.{same_bytes}
use Rattle.grammar.specs.Tree.{Name}
use Rattle.grammar.specs.Names.{place}
use Rattle.scan.specs.declared.Part as S
use Rattle.sheet.specs.declared.Kept.{Kept}
use Rattle.sheet.specs.Sheet.{Part, name_at, InText, Entry, nowhere, Listed}

place_at : (ns : List Name) (s : Name) (i : ℕ) → i < length ns → ((j : ℕ) → j < i → same_bytes (get_or ns j []) s ≡ false) → same_bytes (get_or ns i []) s ≡ true → i ≡ place ns s
place_at [] s i h f e = absurd (omega arith)
place_at (n ∷ ns) s zero h f e = rw e
place_at (n ∷ ns) s (suc i) h f e = rw (f 0 (omega arith)) (ap suc (place_at ns s i (omega arith) (λ j g. f (suc j) (omega arith)) e))

place_none : (ns : List Name) (s : Name) → ((j : ℕ) → j < length ns → same_bytes (get_or ns j []) s ≡ false) → length ns ≡ place ns s
place_none [] s f = refl
place_none (n ∷ ns) s f = rw (f 0 (omega arith)) (ap suc (place_none ns s (λ j g. f (suc j) (omega arith))))

-- none of the names before i is the one
pub record Without (x : List ℕ) (ks : List Kept) (p : S.Part) (i : ℕ) : Type 0 where
  pub others : (ns : List Name) → InText x p → Listed x ks ns → length ns ≡ length ks → (j : ℕ) → j < i → same_bytes (get_or ns j []) (name_at x p) ≡ false

module _ (x : List ℕ) (ks : List Kept) (p : S.Part) where
  tested : (i : ℕ) {t : Bool} (q : S.Part) → i < length ks → q.start ≡ (get_or ks i nowhere).start → q.stop ≡ (get_or ks i nowhere).stop → (InText x q → InText x p → t ≡ same_bytes (name_at x q) (name_at x p)) → (ns : List Name) → InText x p → Listed x ks ns → length ns ≡ length ks → same_bytes (get_or ns i []) (name_at x p) ≡ t
  tested i q h a e r ns v l z =
      let k : Entry x (get_or ks i nowhere) (get_or ns i []) = l.at i (omega arith) in
      let b : Part x (get_or ks i nowhere).start (get_or ks i nowhere).stop = k.bounds in
      rw (← k.is) (rw (← a, ← e) (sym (r (rw (a, e) b) v)))

  module _ (i : ℕ) {t : Bool} (q : S.Part) (h : i < length ks) (a : q.start ≡ (get_or ks i nowhere).start) (e : q.stop ≡ (get_or ks i nowhere).stop) (r : InText x q → InText x p → t ≡ same_bytes (name_at x q) (name_at x p)) (o : Without x ks p i) where
    pub found_at : t ≡ true → (ns : List Name) → InText x p → Listed x ks ns → length ns ≡ length ks → i ≡ place ns (name_at x p)
    found_at c ns v l z = place_at ns (name_at x p) i (omega arith) (o.others ns v l z) (tested i q h a e r ns v l z ∙ c)

  pub none_found : (i : ℕ) → length ks ≤ i → Without x ks p i → (ns : List Name) → InText x p → Listed x ks ns → length ns ≡ length ks → length ns ≡ place ns (name_at x p)
  none_found i h o ns v l z = place_none ns (name_at x p) (λ j g. o.others ns v l z j (omega arith))
