-- The bytes of a table written from two lists of numbers: entries, transitions, zeros, and the whole.
use mathlib.Core.Bool.{Bool, false, true}
use mathlib.Core.List.{List}
use mathlib.Core.Path.{◌∙◌, ◌≡◌, refl}
use Prim.Native.Nat.{◌%◌, ◌*◌, ◌+◌, ◌-◌, ◌/◌, ◌<◌, ◌≤◌, ℕ}
use native.Mathlib.Omega.{arith}
use lib.Dec.{ltb}
use lib.ListN.{get_or, length, length-set, set}
use lib.Seq.{get_or-set_other, get_or-set_same}
use borrow.Author.Count.{below_more}
use borrow.Author.Tests.{ltb-false, ltb-true}
use Rattle.fields.specs.Entries.{HasFields, put_at}
use Rattle.format.specs.Format.{count_at, head_bytes, max_arity, table_bytes, transition_bytes}
use Rattle.minimize.specs.Written.{ClassesWritten}
use Rattle.sorted.specs.Sorted.{SameBytes, Written}
use Rattle.table.specs.Layout.{arg_of, arity_of, label_of, out_of}
use Rattle.packed.specs.Heads.{head_arity, head_label, head_out, place_of}
use Rattle.numbering.specs.Tables.{BlankAfter, EntryAt, RunPut, TablePut, ZerosBetween}
use Rattle.fields.proofs.Entries.{put_other, put_same}
use Rattle.lists.proofs.Filling.{set-next-from}
use Rattle.sorted.proofs.Placed.{same-arg, same-arity, same-label, same_out}

-- ---- one entry

-- an entry with its first k arguments
pub record EntryTo (entry : List ℕ) (h a k : ℕ) : Type 0 where
  pub size : length entry ≡ transition_bytes
  pub within : k ≤ max_arity
  pub label : label_of entry 0 ≡ head_label h
  pub arity : arity_of entry 0 ≡ head_arity h
  pub args : (j : ℕ) → j < k → arg_of entry 0 j ≡ place_of a j
  pub out : out_of entry 0 ≡ head_out h

module _ {entry : List ℕ} {h a k : ℕ} (inv : EntryTo entry h a k) where
  pub entry_next : k < max_arity → {x : ℕ} → x ≡ place_of a k → {put : List ℕ} →
      HasFields put (label_of entry 0) (arity_of entry 0) (put_at (arg_of entry 0) k x) (out_of entry 0) →
      EntryTo put h a (k + 1)
  entry_next l {x} e {put} is = record {
    size = is.size;
    within = omega arith;
    label = is.label ∙ inv.label;
    arity = is.arity ∙ inv.arity;
    args = below_more (λ j. arg_of put 0 j ≡ place_of a j) k
        (λ j m. is.arg j (omega arith) ∙ put_other (arg_of entry 0) k x j (λ z. omega arith) ∙ inv.args j m)
        (is.arg k l ∙ put_same (arg_of entry 0) k x ∙ e);
    out = is.out ∙ inv.out;
  }

  pub entry-end : max_arity ≤ k → HasFields entry (head_label h) (head_arity h) (place_of a) (head_out h)
  entry-end l = record {
    size = inv.size;
    label = inv.label;
    arity = inv.arity;
    arg = λ j m. inv.args j (omega arith);
    out = inv.out;
  }

-- ---- transitions

-- the same bytes are the same entry
pub entry-same : {t s : List ℕ} {x y h a : ℕ} → SameBytes t x s y → EntryAt s y h a → EntryAt t x h a
entry-same same is = record {
  label = same-label same ∙ is.label;
  arity = same-arity same ∙ is.arity;
  arg = λ k l. same-arg same k l ∙ is.arg k l;
  out = same_out same ∙ is.out;
}

pub run-start : (b hs us : List ℕ) (start : ℕ) → RunPut b b hs us start 0
run-start b hs us start = record { size = refl; head = λ i h. refl; each = λ i h. absurd (omega arith); beyond = λ i h. refl }

pub run-next : {b t t' hs us entry : List ℕ} {start i : ℕ} → RunPut b t hs us start i →
    HasFields entry (head_label (get_or hs i 0)) (head_arity (get_or hs i 0)) (place_of (get_or us i 0)) (head_out (get_or hs i 0)) →
    Written t t' (start + transition_bytes * i) entry → RunPut b t' hs us start (i + 1)
run-next {b} {t} {t'} {hs} {us} {entry} {start} {i} inv is w = record {
  size = w.size ∙ inv.size;
  head = λ j h. w.below j (omega arith) ∙ inv.head j h;
  each = below_more (λ j. EntryAt t' (start + transition_bytes * j) (get_or hs j 0) (get_or us j 0)) i
      (λ j h. entry-same (record { byte = λ k l. w.below _ (omega arith) }) (inv.each j h))
      (entry-same w.bytes (record { label = is.label; arity = is.arity; arg = is.arg; out = is.out }));
  beyond = λ j h. w.beyond j (omega arith) ∙ inv.beyond j (omega arith);
}

-- ---- zeros

-- zeros from a byte up to another
pub record ZerosTo (b t : List ℕ) (start i : ℕ) : Type 0 where
  pub order : start ≤ i
  pub size : length t ≡ length b
  pub below : (j : ℕ) → j < start → get_or t j 0 ≡ get_or b j 0
  pub zeros : (j : ℕ) → start ≤ j → j < i → get_or t j 0 ≡ 0
  pub beyond : (j : ℕ) → i ≤ j → get_or t j 0 ≡ get_or b j 0

pub zeros-start : (b : List ℕ) (start : ℕ) → ZerosTo b b start start
zeros-start b start = record {
  order = omega arith;
  size = refl;
  below = λ j h. refl;
  zeros = λ j h l. absurd (omega arith);
  beyond = λ j h. refl;
}

module _ {b t : List ℕ} {start i : ℕ} (inv : ZerosTo b t start i) where
  pub zeros-next : i < length b → ZerosTo b (set t i 0) start (i + 1)
  zeros-next h = record {
    order = omega (arith, inv.order);
    size = length-set t i 0 ∙ inv.size;
    below = λ j l. get_or-set_other t i j 0 0 (λ z. omega (arith, inv.order)) ∙ inv.below j l;
    zeros = set-next-from (λ y. y) (λ _. 0) start t i 0 (omega (arith, inv.size)) refl inv.zeros;
    beyond = λ j l. get_or-set_other t i j 0 0 (λ z. omega arith) ∙ inv.beyond j (omega arith);
  }

  pub zeros-end : {end : ℕ} → end ≤ i → i ≤ start + (end - start) → ZerosBetween b t start end
  zeros-end {end} h m = record {
    size = inv.size;
    below = inv.below;
    zeros = λ j l o. inv.zeros j l (omega arith);
    beyond = λ j l. same j l (ltb j start) refl;
  }
    where
      same : (j : ℕ) → end ≤ j → (c : Bool) → ltb j start ≡ c → get_or t j 0 ≡ get_or b j 0
      same j l true e = inv.below j (ltb-true j start e)
      same j l false e = let o = ltb-false j start e in inv.beyond j (omega arith)

-- ---- the whole table

module _ (b t : List ℕ) (n c old high low : ℕ) {u v : List ℕ} {f : ℕ → ℕ} {hs us : List ℕ} (room : length b ≡ table_bytes)
    (classes : ClassesWritten (set b 0 n) t f)
    (put : RunPut (set (set t count_at high) (count_at + 1) low) u hs us head_bytes c)
    (cleared : ZerosBetween u v (head_bytes + transition_bytes * c) (head_bytes + transition_bytes * old))
    (blank : BlankAfter b old) where
  length₁ : length t ≡ table_bytes
  length₁ = classes.size ∙ length-set b 0 n ∙ room

  length₂ : length (set (set t count_at high) (count_at + 1) low) ≡ table_bytes
  length₂ = length-set (set t count_at high) (count_at + 1) low ∙ length-set t count_at high ∙ length₁

  -- a byte of the head is not overwritten
  kept : (i : ℕ) → i < head_bytes → get_or v i 0 ≡ get_or (set (set t count_at high) (count_at + 1) low) i 0
  kept i h = cleared.below i (omega arith) ∙ put.head i h

  apart : (i : ℕ) → i < count_at → get_or v i 0 ≡ get_or t i 0
  apart i h =
      kept i (omega arith) ∙ get_or-set_other (set t count_at high) (count_at + 1) i low 0 (λ z. omega arith)
      ∙ get_or-set_other t count_at i high 0 (λ z. omega arith)

  -- a byte after the old transitions and the new is not written
  stays : (i : ℕ) → head_bytes + transition_bytes * c ≤ i → head_bytes + transition_bytes * old ≤ i → get_or v i 0 ≡ 0
  stays i h l =
      cleared.beyond i l ∙ put.beyond i h
      ∙ get_or-set_other (set t count_at high) (count_at + 1) i low 0 (λ z. omega arith)
      ∙ get_or-set_other t count_at i high 0 (λ z. omega arith) ∙ classes.beyond i (omega arith)
      ∙ get_or-set_other b 0 i n 0 (λ z. omega arith) ∙ blank i l

  after : (i : ℕ) → head_bytes + transition_bytes * c ≤ i → (d : Bool) → ltb i (head_bytes + transition_bytes * old) ≡ d →
      get_or v i 0 ≡ 0
  after i h true e = cleared.zeros i h (ltb-true i (head_bytes + transition_bytes * old) e)
  after i h false e = stays i h (ltb-false i (head_bytes + transition_bytes * old) e)

  pub table-put : high ≡ c / 256 → low ≡ c % 256 → TablePut v n f hs us c
  table-put d e = record {
    size = cleared.size ∙ put.size ∙ length₂;
    states = apart 0 (omega arith) ∙ classes.first ∙ get_or-set_same b 0 n 0 (omega arith);
    class = λ q h l. apart q (omega arith) ∙ classes.class q h l;
    high = kept count_at (omega arith)
        ∙ get_or-set_other (set t count_at high) (count_at + 1) count_at low 0 (λ z. omega arith)
        ∙ get_or-set_same t count_at high 0 (omega (arith, length₁)) ∙ d;
    low = kept (count_at + 1) (omega arith)
        ∙ get_or-set_same (set t count_at high) (count_at + 1) low 0
        (omega (arith, length-set t count_at high, length₁)) ∙ e;
    each = λ i h. entry-same (record { byte = λ k l. cleared.below _ (omega arith) }) (put.each i h);
    zeros = λ i h. after i h (ltb i (head_bytes + transition_bytes * old)) refl;
  }
