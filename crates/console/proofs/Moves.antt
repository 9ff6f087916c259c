-- The console in the code's buffers: a byte kept, a line ended, a part of the input fed, and the end.
use mathlib.Core.Bool.{Bool, cond, false}
use mathlib.Core.List.{List, [], ◌++◌, ◌∷◌}
use mathlib.Core.Path.{◌∙◌, ◌≡◌, ap, refl, sym}
use Prim.Native.Nat.{◌+◌, ◌<◌, ◌≤◌, suc, zero, ℕ}
use native.Mathlib.Numerals.{add-one}
use native.Mathlib.Omega.{arith}
use lib.ListN.{get_or, length, length-set, length-take, set, take}
use lib.Seq.{take-suc-set}
use borrow.Author.Tests.{eq-eqb, le-ltb, lt-ltb, ne_eqb}
use Rattle.report.specs.Printing.{Printed, Put, line_bytes}
use Rattle.serving.specs.Answering.{Serves}
use Rattle.serving.specs.Serving.{closing}
use Rattle.console.specs.Buffers.{ClosedTo, FedTo, LineKept, Moved, Buffered, ProgressRoom, out_bytes, console}
use Rattle.console.specs.Input.{is_empty, newline}
use Rattle.console.specs.Console.{Console, after, closed, fed, held_bytes, holding, input_ended, kept, line_ended}
use Rattle.console.specs.Console.{stepped}
use Rattle.console.specs.declared.Progress.{Progress}
use Rattle.console.proofs.Feeding.{fed-next}

-- ---- a byte kept

pub kept_full : (l : List ℕ) (n b : ℕ) → length l ≡ held_bytes → n ≤ held_bytes → held_bytes ≤ n → LineKept l n b l n
unfolding holding
kept_full l n b e h k =
    let f : length (take n l) ≡ held_bytes = simp length-take (omega arith) in
    record { size = refl; within = h; bytes = rw (le-ltb (length (take n l)) held_bytes (omega arith)) }

pub kept_more : (l : List ℕ) (n b : ℕ) → length l ≡ held_bytes → n < held_bytes → LineKept l n b (set l n b) (n + 1)
unfolding holding
kept_more l n b e h =
    let f : length (take n l) ≡ n = simp length-take (omega arith) in
    record {
      size = length-set l n b;
      within = omega arith;
      bytes = rw (add-one, lt-ltb (length (take n l)) held_bytes (omega arith)) (take-suc-set l n b (omega arith));
    }

-- ---- a line ended, a byte taken

pub moved_as : {p r : Progress} {x y : Console} {l b w o : List ℕ} → Moved p x r l b w o → x ≡ y → Moved p y r l b w o
moved_as M e =
    record { ready = M.ready; lines = M.lines; printed = M.printed; equal = M.equal ∙ e }

pub stepped-end : (x : Console) (b : ℕ) → b ≡ newline → line_ended x ≡ stepped x b
unfolding stepped
stepped-end x b e = rw (eq-eqb b newline e)

pub stepped_kept : (x : Console) (b : ℕ) → (b ≡ newline → ⊥) → kept x b ≡ stepped x b
unfolding stepped
stepped_kept x b e = rw (ne_eqb b newline e)

module _ (p : Progress) (l b w o : List ℕ) where
  pub line-moved : (t b' w' o' : List ℕ) (k r : ℕ) → Buffered p l o →
      Serves (p.lines + 1) (take p.held l) b w t k b' w' →
      Put o o' p.printed (take k t) r →
      Moved p (line_ended (console p l b w o)) (record { held = 0; lines = p.lines + 1; printed = r }) l b' w' o'
  unfolding line_ended
  line-moved t b' w' o' k r R S P =
      let n : p.lines + 1 ≡ suc p.lines = add-one p.lines in
      let s = (rw n at S).equal in
      let u : length (take k t) ≤ line_bytes = simp length-take (omega (arith, S.within)) in
      record {
        ready = record { line = R.line; out = P.size ∙ R.out; held = omega arith };
        lines = omega arith;
        printed = omega (arith, P.end);
        equal =
            (λ i. record { held = []; lines = n i; table = b'; scratch = w'; text = P.bytes i }) ∙
            ap (after (console p l b w o)) s;
      }

  pub keep-moved : (byte : ℕ) (m : List ℕ) (r : ℕ) → Buffered p l o → LineKept l p.held byte m r →
      Moved p (kept (console p l b w o) byte) (record { held = r; lines = p.lines; printed = p.printed }) m b w o
  keep-moved byte m r R K = record {
    ready = record { line = K.size ∙ R.line; out = R.out; held = K.within };
    lines = omega arith;
    printed = omega arith;
    equal =
        λ i. record { held = K.bytes i; lines = p.lines; table = b; scratch = w; text = take p.printed o };
  }

  -- ---- the end of the input

  pub ended-without : Buffered p l o → p.held ≡ 0 → Moved p (input_ended (console p l b w o)) p l b w o
  unfolding input_ended
  ended-without R e = record {
    ready = R;
    lines = omega arith;
    printed = omega arith;
    equal = sym (ap (λ (n : ℕ). cond (is_empty (take n l)) (console p l b w o) (line_ended (console p l b w o))) e);
  }

  pub ended-with : Buffered p l o → (p.held ≡ 0 → ⊥) →
      line_ended (console p l b w o) ≡ input_ended (console p l b w o)
  unfolding input_ended
  ended-with R h =
      sym (ap (λ (t : Bool). cond t (console p l b w o) (line_ended (console p l b w o)))
      (go p.held l h (omega (arith, R.line))))
    where
      go : (n : ℕ) (l : List ℕ) → (n ≡ 0 → ⊥) → 0 < length l → is_empty (take n l) ≡ false
      go zero l h k = absurd (h refl)
      go (suc n) [] h k = absurd (omega arith)
      go (suc n) (x ∷ l) h k = refl

pub close-moved : (p q : Progress) (x : Console) (l b w o t o' : List ℕ) (k r : ℕ) → ProgressRoom p 1 2 →
    Moved p (input_ended x) q l b w o → Printed t (closing q.lines b) k →
    Put o o' q.printed (take k t) r → ClosedTo x r o'
unfolding closed
close-moved p q x l b w o t o' k r room M T P =
    let u : length (take k t) ≤ line_bytes = simp length-take (omega (arith, T.within)) in
    record {
      size = P.size ∙ M.ready.out;
      within = omega (arith, P.end, M.printed, room.printed);
      text =
          P.bytes ∙ ap (λ (s : List ℕ). take q.printed o ++ s) T.text ∙
          ap (λ (z : Console). z.text ++ closing z.lines z.table) M.equal;
    }

-- ---- a part of the input fed, up to byte i

pub record Feeding (p : Progress) (x : Console) (s : List ℕ) (i : ℕ) (q : Progress) (l b w o : List ℕ) : Type 0 where
  pub ready : Buffered q l o
  pub within : i ≤ length s
  pub lines : q.lines ≤ p.lines + i
  pub printed : q.printed ≤ out_bytes
  pub first : i ≡ 0 → q.printed ≤ p.printed
  pub equal : console q l b w o ≡ fed x (take i s)

pub feeding-start : (p : Progress) (l b w o s : List ℕ) (n : ℕ) → Buffered p l o → ProgressRoom p n 1 →
    Feeding p (console p l b w o) s 0 p l b w o
feeding-start p l b w o s n R room = record {
  ready = R;
  within = omega arith;
  lines = omega arith;
  printed = omega (arith, room.printed);
  first = λ e. omega arith;
  equal = refl;
}

module _ {p : Progress} {x : Console} {s : List ℕ} {i : ℕ} {q : Progress} {l b w o : List ℕ}
    (F : Feeding p x s i q l b w o) where
  pub feeding-next : (r : Progress) (l' b' w' o' : List ℕ) → i < length s →
      Moved q (stepped (console q l b w o) (get_or s i 0)) r l' b' w' o' → q.printed + line_bytes ≤ out_bytes →
      Feeding p x s (i + 1) r l' b' w' o'
  feeding-next r l' b' w' o' h M room = record {
    ready = M.ready;
    within = omega arith;
    lines = omega (arith, M.lines, F.lines);
    printed = omega (arith, M.printed);
    first = λ e. absurd (omega arith);
    equal = M.equal ∙ (ap (λ (y : Console). stepped y (get_or s i 0)) F.equal ∙ fed-next x s i h);
  }

  pub feeding-full : (n : ℕ) → ProgressRoom p n 1 → out_bytes < q.printed + line_bytes →
      FedTo p x s (record { taken = i; progress = q }) l b w o
  feeding-full n room h = record {
    ready = F.ready;
    within = F.within;
    some = λ k. go i F.first;
    lines = F.lines;
    printed = F.printed;
    equal = F.equal;
  }
    where
      go : (j : ℕ) → (j ≡ 0 → q.printed ≤ p.printed) → 0 < j
      go zero f = absurd (omega (arith, f refl, room.printed))
      go (suc j) f = omega arith

  pub feeding-all : length s ≤ i → FedTo p x s (record { taken = length s; progress = q }) l b w o
  feeding-all h =
      let e : i ≡ length s = omega (arith, F.within) in
      record {
        ready = F.ready;
        within = omega arith;
        some = λ k. k;
        lines = omega (arith, F.lines);
        printed = F.printed;
        equal = F.equal ∙ ap (λ (n : ℕ). fed x (take n s)) e;
      }
