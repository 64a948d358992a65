-- The search for the first token with which a text can't go on: from one state that is kept to the next, and where it ends.
use Rattle.std.proofs.Common.{◌≡◌, ℕ, ◌≤◌, List, [], ◌∷◌, length, Some, None, refl, sym, ap, ◌∙◌, arith}
use Rattle.grammar.specs.Limits.{max_source}
use Rattle.grammar.specs.Tokens as G
use Rattle.grammar.specs.Tokens.{tokens, byte_of}
use Rattle.grammar.specs.Faults.{number_of_fault}
use Rattle.grammar.specs.Machine.{alone, top, within, State, expect, have, want_name, want_in, want_branch, want_end, want_abort, Next, to, no_way, next, stuck, finish, run, parse}
use Rattle.grammar.proofs.Viability.{fault-stuck}
use Rattle.scan.specs.Scanning.{rest, token_is, Takes}
use Rattle.scan.specs.declared.Scanned.{Scanned}
use Rattle.scan.specs.declared.Tokens.{Tokens}
use Rattle.fault.specs.declared.Mode.{Mode}
use Rattle.fault.specs.declared.Mode.TheVariants.{Statement}
use Rattle.fault.specs.declared.stack.Stack.{Stack}
use Rattle.fault.specs.Walking.{Stacked, Stepped, StepsOn, Going, OnWay, FaultTold}
use Rattle.fault.proofs.Climbing.{climbs}
use Rattle.fault.proofs.Reaching.{TokenAt, none-taken, byte_next}

pub way_first : {x : List ℕ} (w : Stack) (it : Tokens) → length x ≤ max_source → Stacked w top → Going x it × (it.at ≡ 0) → OnWay x w Statement it
unfolding rest
way_first w it h k (g, i) = record {
  going = g;
  state = expect alone top;
  kept = record { mode = refl; stack = k };
  moved = rw i;
  low = omega (arith, k.height);
  short = h;
}

same-stuck : (us vs : List G.Token) → stuck us ≡ stuck vs → us ≡ vs
same-stuck us vs e = cc

-- at the end of the text
finished_stuck : (s : State) (us : List G.Token) → finish s ≡ stuck us → us ≡ []
finished_stuck (expect b k) us e = cc
finished_stuck (have p top) us e = let z : ◌≡◌ {A = ℕ} 0 1 = cc in absurd (omega arith)
finished_stuck (have p (within f b k)) us e = cc
finished_stuck (want_name w b k) us e = cc
finished_stuck (want_in u b k) us e = cc
finished_stuck (want_branch s b k) us e = cc
finished_stuck (want_end p b k) us e = cc
finished_stuck (want_abort b k) us e = cc

pub way_ends : {x : List ℕ} {w : Stack} {m : Mode} {s : Tokens} (t : Tokens) → OnWay x w m s → Takes s None t → FaultTold x 14 (length x)
way_ends {x} t o k us f =
    let n = none-taken t o.going k in
    let g : run o.state [] ≡ stuck us = rw n.0 at (sym o.moved ∙ fault-stuck (tokens x) us f) in
    let i : us ≡ [] = finished_stuck o.state us g in
    rw i (refl, sym n.1)

module _ {x : List ℕ} {w w' : Stack} {m : Mode} {s t : Tokens} {r : Scanned} (o : OnWay x w m s) (k : TokenAt x s r t) where
  pub way_stops : StepsOn w m r.token w' None → (number : ℕ) → ((v : List ℕ) (u : G.Token) (us : List G.Token) → token_is r.token v ≡ u ∷ [] → number ≡ number_of_fault (u ∷ us)) → FaultTold x number r.part.start
  way_stops d number f us g = go (next o.state k.is) refl (d _ k.is k.told o.state o.kept) (fault-stuck (tokens x) us g)
    where
      go : (n : Next) → next o.state k.is ≡ n → Stepped n w' None → parse (tokens x) ≡ stuck us → (number ≡ number_of_fault us) × (r.part.start ≡ byte_of x us)
      go (to q) i d y = absurd d
      go no_way i d y =
          let a : run o.state (k.is ∷ rest x t.at) ≡ stuck (k.is ∷ rest x t.at) = rw i in
          let b : parse (tokens x) ≡ run o.state (k.is ∷ rest x t.at) = o.moved ∙ ap (run o.state) k.moves in
          let c : us ≡ k.is ∷ rest x t.at = same-stuck us (k.is ∷ rest x t.at) (sym y ∙ b ∙ a) in
          let z : us ≡ rest x s.at = c ∙ sym k.moves in
          (f _ k.is (rest x t.at) k.told ∙ ap number_of_fault (sym c), sym (byte_next x s.at r.part.start t.at o.going.reached k.begins) ∙ ap (byte_of x) (sym z))

  pub way_goes : (m' : Mode) → StepsOn w m r.token w' (Some m') → OnWay x w' m' t
  way_goes m' d = go (next o.state k.is) refl (d _ k.is k.told o.state o.kept)
    where
      go : (n : Next) → next o.state k.is ≡ n → Stepped n w' (Some m') → OnWay x w' m' t
      go (to q) i d = record {
        going = k.going;
        state = q;
        kept = d;
        moved = o.moved ∙ ap (run o.state) k.moves ∙ rw i;
        low = let c = rw i at (climbs o.state k.is) in omega (arith, d.stack.height, c, o.kept.stack.height, o.low, k.from);
        short = o.short;
      }
      go no_way i d = absurd d
