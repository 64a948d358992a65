-- The loops over the digits of a number.
use mathlib.Core.Path.{◌≡◌, sym, ap, ◌∙◌}
use mathlib.Core.Logic.{⊎_elim}
use mathlib.Core.List.{List, [], ◌∷◌, ◌++◌}
use Prim.Native.Nat.{ℕ, ◌+◌, ◌-◌, ◌/◌, ◌%◌, ◌^◌, ◌≤◌, ◌<◌}
use native.Mathlib.Nat.{div-le_self}
use native.Mathlib.Omega.{arith}
use lib.ListN.{length, set, length-set, length-append}
use lib.Seq.{sets}
use Rattle.listing.specs.Text.{digit, digits}
use Rattle.listing.specs.Written.{Written}
use Rattle.listing.proofs.Digits.{lt_or_le, has-digits, digits-one, digits_more}
use Rattle.table.proofs.Buffers.{sets-append}
use Rattle.listing.proofs.Writing.{set-sets}

-- the digits of `rest` are left to be written, up to the place i
pub record Numbering (base n : ℕ) (old : List ℕ) (at : ℕ) (now : List ℕ) (i rest : ℕ) : Type 0 where
  pub fits : rest < 2 ^ 64
  pub is : sets now at (digits base rest) ≡ sets old at (digits base n)
  pub here : i ≡ at + length (digits base rest)
  pub room : i ≤ length old
  pub long : length now ≡ length old

module _ {base n : ℕ} {old : List ℕ} {at : ℕ} {now : List ℕ} {i rest : ℕ} (two : 2 ≤ base) (o : Numbering base n old at now i rest) where
  pub numbering_some : at < i
  numbering_some = omega (arith, o.here, has-digits base rest)

  pub numbering_more : at + 1 < i → base ≤ rest
  numbering_more h =
      ⊎_elim
      (λ l. absurd (omega (arith, o.here, ap length (digits-one base rest l))))
      (λ g. g)
      (lt_or_le rest base)

  pub numbering_one : i ≤ at + 1 → rest < base
  numbering_one h =
      ⊎_elim
      (λ l. l)
      (λ g. absurd (omega (arith, o.here, ap length (digits_more base two rest o.fits g), length-append (digits base (rest / base)) (digit (rest % base) ∷ []), has-digits base (rest / base))))
      (lt_or_le rest base)

  module _ (h : base ≤ rest) (v : ℕ) (e : v ≡ digit (rest % base)) where
    split : digits base rest ≡ digits base (rest / base) ++ (v ∷ [])
    split = digits_more base two rest o.fits h ∙ ap (λ d. digits base (rest / base) ++ (d ∷ [])) (sym e)

    place : i - 1 ≡ at + length (digits base (rest / base))
    place = omega (arith, o.here, ap length split, length-append (digits base (rest / base)) (v ∷ []))

    pub numbering_next : Numbering base n old at (set now (i - 1) v) (i - 1) (rest / base)
    numbering_next =
        let less : rest / base ≤ rest = div-le_self rest base in
        record {
          fits = omega (arith, o.fits);
          is =
              sym (set-sets now at (digits base (rest / base)) (i - 1) v (omega (arith, place)))
              ∙ ap (λ j. set (sets now at (digits base (rest / base))) j v) place
              ∙ sym (sets-append now at (digits base (rest / base)) (v ∷ []))
              ∙ ap (sets now at) (sym split)
              ∙ o.is;
          here = place;
          room = omega (arith, o.room);
          long = length-set now (i - 1) v ∙ o.long;
        }

  pub numbering_end : (v end : ℕ) → rest < base → v ≡ digit rest → end ≡ at + length (digits base n) → Written old at (digits base n) (set now at v) end
  numbering_end v end h e f =
      record {
        is = ap (set now at) e ∙ ap (sets now at) (sym (digits-one base rest h)) ∙ o.is;
        end = f;
      }
