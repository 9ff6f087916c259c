-- A text handed over whole, and a part of the input taken piece by piece, as far as the buffer for what is printed has
-- room.
use mathlib.Core.List.{List, ◌++◌}
use mathlib.Core.Path.{◌∙◌, ◌≡◌, ap, refl, subst, sym}
use Prim.Native.Nat.{◌+◌, ◌<◌, ◌≤◌, ℕ}
use native.Mathlib.Omega.{arith}
use lib.ListN.{length, length-take, take}
use lib.Seq.{take-add, take_all}
use Rattle.console.specs.Buffers.{Buffered, ClosedTo, FedTo, ProgressRoom, console}
use Rattle.console.specs.Console.{Console, fed, written}
use Rattle.console.specs.declared.Fed.{Fed}
use Rattle.console.specs.declared.Progress.{Progress}
use Rattle.console.proofs.Feeding.{fed-append}
use Rattle.console.proofs.Parts.{fed-written}
use Rattle.bench.specs.Output.{Finished, Flushed, HandedAll, Idle, Takes, flushed}
use Rattle.std.specs.Prelude.{Err, Ok, Result}
use Rattle.bench.specs.declared.output.Written.{Written}
use Rattle.lists.proofs.Parts.{part, part-drop, part_length}

-- ---- a text handed over

pub start-size : (n : ℕ) (o : List ℕ) → n ≤ length o → length (take n o) ≡ n
start-size n o h = simp length-take (omega arith)

pub start-same : (n : ℕ) (o : List ℕ) → n ≤ length o → take n o ≡ take (length (take n o)) o
start-same n o h = ap (λ (k : ℕ). take k o) (sym (start-size n o h))

pub handed-size : (E : Type 0) (n : ℕ) (o : List ℕ) (k : ℕ) → n ≤ length o →
    HandedAll {E = E} (length (take n o)) (Ok k) → k ≡ n
unfolding HandedAll
handed-size E n o k h H = H ∙ start-size n o h

pub finished : {E : Type 0} (x : Console) (n : ℕ) (o : List ℕ) (t : Result ℕ E) → ClosedTo x n o →
    HandedAll (length (take n o)) t → Finished x o t
unfolding HandedAll Finished
finished x n o (Ok k) C e =
    let size = start-size n o (omega (arith, C.within, C.size)) in
    let all : k ≡ n = omega (arith, e, size) in ap (λ (j : ℕ). take j o) all ∙ C.text
finished x n o (Err e) C H = tt

-- ---- a part of the input

-- the first bytes of s, up to a place, were taken
pub record Taking (p : Progress) (x : Console) (s : List ℕ) (at : ℕ) (q : Progress) (l b w o : List ℕ) : Type 0 where
  pub ready : Buffered q l o
  pub printed : q.printed ≡ 0
  pub within : at ≤ length s
  pub lines : q.lines ≤ p.lines + at
  pub equal : console q l b w o ≡ written (fed x (take at s))

pub taking-start : (p : Progress) (l b w o s : List ℕ) → Buffered p l o → Idle p (length s) →
    Taking p (console p l b w o) s 0 p l b w o
taking-start p l b w o s R I = record {
  ready = R;
  printed = I.printed;
  within = omega arith;
  lines = omega arith;
  equal =
      λ i. record { held = take p.held l; lines = p.lines; table = b; scratch = w; text = take (I.printed i) o };
}

module _ {p : Progress} {x : Console} {s : List ℕ} {at : ℕ} {q : Progress} {l b w o : List ℕ}
    (T : Taking p x s at q l b w o) where
  -- there is room for the next piece
  pub taking-room : Idle p (length s) → ProgressRoom q (length (part s at)) 1
  taking-room I = record {
    lines = omega (arith, part_length s at, T.lines, T.within, I.lines);
    printed = omega (arith, T.printed);
  }

  module _ (f : Fed) (l' b' w' o' : List ℕ)
      (F : FedTo q (console q l b w o) (part s at) f l' b' w' o') where
    pub taken-within : at + f.taken ≤ length s
    taken-within = omega (arith, part_length s at, F.within, T.within)

    pub taken-some : at < length s → 0 < f.taken
    taken-some h = F.some (omega (arith, part_length s at))

    taking-flushed : Taking p x s (at + f.taken) (flushed f.progress) l' b' w' o'
    taking-flushed = let piece = take f.taken (part s at) in record {
      ready = record { line = F.ready.line; out = F.ready.out; held = F.ready.held };
      printed = refl;
      within = taken-within;
      lines = omega (arith, F.lines, T.lines);
      equal =
          ap written (F.equal ∙ ap (λ (y : Console). fed y piece) T.equal) ∙
          (fed-written piece (fed x (take at s)) ∙
          ap written (sym (fed-append (take at s) piece x) ∙ ap (fed x) bytes));
    }
      where
        bytes : take at s ++ take f.taken (part s at) ≡ take (at + f.taken) s
        bytes =
            ap (λ (r : List ℕ). take at s ++ take f.taken r) (part-drop s at) ∙ sym (take-add at f.taken s)

    pub taking-next : (E : Type 0) (v : Written) → Flushed {E = E} f.progress (Ok v) →
        Taking p x s (at + f.taken) v.progress l' b' w' o'
    unfolding Flushed
    taking-next E v e =
        subst (λ (r : Progress). Taking p x s (at + f.taken) r l' b' w' o') (sym e) taking-flushed

  pub taking-all : length s ≤ at → Takes p x s q l b w o
  taking-all h = record {
    rested = record { ready = T.ready; printed = T.printed; lines = omega (arith, T.lines, T.within) };
    equal = T.equal ∙ ap (λ (t : List ℕ). written (fed x t)) (take_all at s h);
  }
