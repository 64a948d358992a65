-- Check 19: the bytes are read from the first on.
use Rattle.std.proofs.Common.{◌≡◌, refl, sym, ap, ◌∙◌, leb, ℕ, ◌+◌, ◌<◌, ◌≤◌, List, length, get_or, set, take, Ok, Err, arith}
use Rattle.std.proofs.Math.ListN.{length-set, length-take, get_or-eq_default}
use Rattle.std.proofs.Math.Seq.{length-take-le, get_or-take, get_or-set_same, get_or-set_other}
use mathlib.Core.Path.{fun_ext}
use native.Mathlib.Decide.{dec_lt}
use Rattle.esterel.specs.Limits.{signals}
use Rattle.esterel.specs.declared.Refusal.{Refusal}
use Rattle.esterel.proofs.Scanning.{Tests, Scanned, scanned_next, scanned_found, scanned_end}
use Rattle.tied.specs.Ties.{tie_of, ties_of}
use Rattle.tied.specs.Passes.{TieRead, tied_by, TiesRead}
use Rattle.tied.specs.Calls.{are_ties}
use Rattle.tied.specs.declared.Tie.{Tie}
use Rattle.tied.specs.declared.Tie.TheVariants.{Unknown}

pub are-ties : Tests are_ties (λ b. leb b 2)
are-ties = record { none = refl; first = λ b bs. refl }

-- the bytes before i are 0, 1 or 2, and what they say is in `ties`
pub record Reading (bytes : List ℕ) (ties : List Tie) (i : ℕ) : Type 0 where
  pub scanned : Scanned are_ties (take signals bytes) i
  pub long : length ties ≡ signals
  pub is : (s : ℕ) → s < i → tied_by ties s ≡ tie_of (get_or bytes s 0)

module _ {bytes : List ℕ} {ties : List Tie} {i : ℕ} (room : signals ≤ length bytes) (o : Reading bytes ties i) where
  module _ (h : i < signals) where
    own : leb (get_or (take signals bytes) i 0) 2 ≡ leb (get_or bytes i 0) 2
    own = ap (λ b. leb b 2) (get_or-take signals bytes i 0 h)

    inside : i < length (take signals bytes)
    inside = omega (arith, length-take-le signals bytes room)

    pub reading_next : (tie : Tie) → TieRead (get_or bytes i 0) (Ok tie) → Reading bytes (set ties i tie) (i + 1)
    reading_next tie e =
        record {
          scanned = scanned_next are-ties o.scanned inside (own ∙ e.0);
          long = length-set ties i tie ∙ o.long;
          is = λ s l. is s l (dec_lt s i);
        }
      where
        is : (s : ℕ) → s < i + 1 → Dec (s < i) → tied_by (set ties i tie) s ≡ tie_of (get_or bytes s 0)
        is s l (yes b) = get_or-set_other ties i s tie Unknown (λ z. omega arith) ∙ o.is s b
        is s l (no b) = let z : s ≡ i = omega arith in rw z (get_or-set_same ties i tie Unknown (omega (arith, o.long)) ∙ e.1)

    pub reading_fails : (r : Refusal) → TieRead (get_or bytes i 0) (Err r) → TiesRead bytes ties (Err r)
    reading_fails r e = (scanned_found are-ties o.scanned inside (own ∙ e.0), e.1)

  pub reading_ends : signals ≤ i → TiesRead bytes ties (Ok tt)
  reading_ends h = (scanned_end are-ties o.scanned (omega (arith, length-take-le signals bytes room)), fun_ext (λ s. known s (dec_lt s signals)))
    where
      known : (s : ℕ) → Dec (s < signals) → tied_by ties s ≡ ties_of (take signals bytes) s
      known s (yes l) = o.is s (omega arith) ∙ ap tie_of (sym (get_or-take signals bytes s 0 l))
      known s (no l) = get_or-eq_default ties Unknown (omega (arith, o.long)) ∙ ap tie_of (sym (get_or-eq_default (take signals bytes) 0 (omega (arith, length-take signals bytes))))
