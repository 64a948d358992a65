-- The searches for an exit without its trap and for the name with which there are too many signals, from one token to the next.
use Rattle.std.proofs.Common.{◌≡◌, ℕ, ◌≤◌, Bool, true, false, List, [], ◌∷◌, length, Option, None, Result, Ok, Err, refl, sym, ap, subst, ◌∙◌}
use Rattle.grammar.specs.Limits.{max_source}
use Rattle.grammar.specs.Tokens as G
use Rattle.grammar.specs.Tokens.{tokens, byte_of}
use Rattle.grammar.specs.Tree.{Name as Word}
use Rattle.grammar.specs.Faults.{crowded_from}
use Rattle.grammar.specs.Search.{Want, no_name, look, Room}
use Rattle.grammar.proofs.Completeness.{complete}
use Rattle.grammar.proofs.Depth.{few-levels}
use Rattle.grammar.proofs.Letters.{lettered}
use Rattle.grammar.proofs.Exits.{look-finds, look-fits}
use Rattle.scan.specs.Scanning.{rest, token_is, Takes}
use Rattle.scan.specs.declared.Scanned.{Scanned}
use Rattle.scan.specs.declared.Token.TheVariants.{Names}
use Rattle.scan.specs.declared.Tokens.{Tokens}
use Rattle.sheet.specs.declared.Sheet.{Sheet}
use Rattle.sheet.specs.Sheet.{name_at, InText, Filled}
use Rattle.fault.specs.declared.Lost.{Lost}
use Rattle.fault.specs.declared.Wanted.{Wanted}
use Rattle.fault.specs.Walking.{met, Levels, want_is, PassedAs, before_signal, CrowdedAs, Going, Looked, Looking, Counting, ExitTold}
use Rattle.fault.proofs.Reaching.{TokenAt, none-taken, byte_next}

-- what the code tells of a token
abbrev pub PassesOn : List ℕ → Sheet → Want → Scanned → Sheet → Result (Option Wanted) Lost → Type 0
PassesOn x w want r w' q = (ls : List Word) (t : G.Token) (us : List G.Token) → token_is r.token (name_at x r.part) ≡ t ∷ [] → r.part.stop ≤ length x → (r.token ≡ Names → InText x r.part) → Room want ls (t ∷ us) → Levels x w ls → PassedAs x want t w' ls q

abbrev pub CrowdsOn : List ℕ → Sheet → Bool → Scanned → Sheet → Bool → Type 0
CrowdsOn x w is_signal r w' q = (ns : List Word) (t : G.Token) → token_is r.token (name_at x r.part) ≡ t ∷ [] → (r.token ≡ Names → InText x r.part) → Filled x w [] (met ns) → CrowdedAs x ns is_signal t w' q

pub look-first : {x : List ℕ} (w : Sheet) {it : Tokens} → Levels x w [] → Going x it × (it.at ≡ 0) → Looking x w no_name it
unfolding rest
look-first w l (g, i) = record { going = g; looked = λ h. record { levels = []; kept = l; room = rw i h; same = rw i } }

-- what is found so is the first exit of a derivation
exit-told : (x : List ℕ) (place : ℕ) → length x ≤ max_source → (Room no_name [] (tokens x) → place ≡ byte_of x (look no_name [] (tokens x))) → ExitTold x place
exit-told x place h f t d =
    f (look-fits t (tokens x) d (few-levels x t h (complete t (tokens x) d))) ∙ ap (byte_of x) (look-finds t (tokens x) d (lettered x))

pub look-ends : {x : List ℕ} {w : Sheet} {want : Want} {s : Tokens} (t : Tokens) → length x ≤ max_source → Looking x w want s → Takes s None t → ExitTold x (length x)
look-ends {x} {w} {want} t i k d = exit-told x (length x) i (λ h.
    let n = none-taken t k.going d in
    let o = k.looked h in
    let s : look no_name [] (tokens x) ≡ look want o.levels [] = o.same ∙ ap (look want o.levels) n.0 in
    rw s (sym n.1))

module _ {x : List ℕ} {w : Sheet} {want : Want} {s t : Tokens} {r : Scanned} (k : Looking x w want s) (d : TokenAt x s r t) where
  here : Room no_name [] (tokens x) → (o : Looked x w want s.at) × Room want o.levels (d.is ∷ rest x t.at)
  here h = let o = k.looked h in (o, subst (λ (l : List G.Token). Room want o.levels l) d.moves o.room)

  pub look-lost : (w' : Sheet) → length x ≤ max_source → (e : Lost) → PassesOn x w want r w' (Err e) → ExitTold x r.part.start
  look-lost w' i e f = exit-told x r.part.start i (λ h.
      let (o, m) = here h in
      let p = f o.levels d.is (rest x t.at) d.told d.stop d.bounds m o.kept in
      let z : look no_name [] (tokens x) ≡ rest x s.at = o.same ∙ ap (look want o.levels) d.moves ∙ p (rest x t.at) ∙ sym d.moves in
      rw z (sym (byte_next x s.at r.part.start t.at k.going.reached d.begins)))

  pub look-goes : {w' : Sheet} (next : Option Wanted) → PassesOn x w want r w' (Ok next) → Looking x w' (want_is next) t
  look-goes next f = record {
    going = d.going;
    looked = λ h.
        let (o, m) = here h in
        let p = f o.levels d.is (rest x t.at) d.told d.stop d.bounds m o.kept in
        record { levels = p.levels; kept = p.kept; room = p.room (rest x t.at) m; same = o.same ∙ ap (look want o.levels) d.moves ∙ p.on (rest x t.at) };
  }

pub count-first : {x : List ℕ} (w : Sheet) {it : Tokens} → Filled x w [] (met []) → Going x it × (it.at ≡ 0) → Counting x w false it
unfolding rest
count-first w l (g, i) = record { going = g; signals = []; kept = l; same = rw i }

none_left : (ns : List Word) (b : Bool) → crowded_from ns b [] ≡ []
none_left ns true = refl
none_left ns false = refl

pub count-ends : {x : List ℕ} {w : Sheet} {is_signal : Bool} {s : Tokens} (t : Tokens) → Counting x w is_signal s → Takes s None t → length x ≡ byte_of x (crowded_from [] false (tokens x))
count-ends {x} {w} {is_signal = b} t k d =
    let n = none-taken t k.going d in
    let z : crowded_from [] false (tokens x) ≡ [] = k.same ∙ ap (crowded_from k.signals b) n.0 ∙ none_left k.signals b in
    rw z (sym n.1)

module _ {x : List ℕ} {w : Sheet} {is_signal : Bool} {s t : Tokens} {r : Scanned} (k : Counting x w is_signal s) (d : TokenAt x s r t) where
  pub count-crowded : (w' : Sheet) (q : Bool) → q ≡ true → CrowdsOn x w is_signal r w' q → r.part.start ≡ byte_of x (crowded_from [] false (tokens x))
  count-crowded w' q e f =
      let p = rw e at (f k.signals d.is d.told d.bounds k.kept) in
      let z : crowded_from [] false (tokens x) ≡ rest x s.at = k.same ∙ ap (crowded_from k.signals is_signal) d.moves ∙ p (rest x t.at) ∙ sym d.moves in
      rw z (sym (byte_next x s.at r.part.start t.at k.going.reached d.begins))

  pub count-goes : {w' : Sheet} (q : Bool) → q ≡ false → CrowdsOn x w is_signal r w' q → (next : Bool) → ((v : List ℕ) (u : G.Token) → token_is r.token v ≡ u ∷ [] → next ≡ before_signal u) → Counting x w' next t
  count-goes q e f next g =
      let p = rw e at (f k.signals d.is d.told d.bounds k.kept) in
      let n : next ≡ before_signal d.is = g (name_at x r.part) d.is d.told in
      record {
        going = d.going;
        signals = p.signals;
        kept = p.kept;
        same = k.same ∙ ap (crowded_from k.signals is_signal) d.moves ∙ p.on (rest x t.at) ∙ ap (λ (b : Bool). crowded_from p.signals b (rest x t.at)) (sym n);
      }
