-- What one read brought is taken, and read after read.
use mathlib.Core.List.{List, [], ◌++◌, ◌∷◌, append_assoc, append-nil}
use mathlib.Core.Path.{◌∙◌, ◌≡◌, ap, refl, subst, sym}
use Prim.Native.Nat.{◌*◌, ◌+◌, ◌<◌, ◌^◌, ◌≤◌, min, ℕ}
use native.Mathlib.Omega.{arith}
use lib.ListN.{length, length-take, take}
use Rattle.std.proofs.lemmas.List.{take_min}
use Rattle.console.specs.Buffers.{Buffered, empty_scratch, empty_table, out_bytes, console}
use Rattle.console.specs.Console.{Console, fed, held_bytes, start, written}
use Rattle.console.specs.declared.Progress.{Progress}
use Rattle.console.proofs.Feeding.{fed-append}
use Rattle.console.proofs.Parts.{fed-written}
use Rattle.bench.specs.Output.{Idle, Took, begun}
use Rattle.bench.specs.Turns.{Brings, EachBrings, Met, MetAll, Moved, Read, ReadTurn, Turned, brought, chunk_bytes}
use Rattle.bench.specs.Turns.{input_of}
use Rattle.std.specs.declared.ops.ControlFlow.{ControlFlow}
use Rattle.std.specs.declared.ops.ControlFlow.TheVariants.{Break, Continue}
use Rattle.std.specs.Prelude.{Err, Ok, Result}
use Rattle.bench.specs.declared.output.Written.{Written}
use Rattle.bench.proofs.Taking.{start-size}

-- ---- one read

-- a read cannot have brought more than the chunk holds
pub brought-held : (got : ℕ) (c : List ℕ) {n : ℕ} → n ≡ min got (length c) → take n c ≡ brought got c
unfolding brought
brought-held got c e = ap (λ (j : ℕ). take j c) e ∙ take_min got c

pub turned-taken : (E : Type 0) (p : Progress) (x : Console) (s t : List ℕ) (v : Written) (l b w o : List ℕ) →
    s ≡ t → 0 < length s → Took {E = E} p x s (Ok v) l b w o → Turned {E = E} p x t (Ok (Continue v)) l b w o
unfolding Took Turned
turned-taken E p x s t v l b w o e some T = rw (← e) (record { some = some; takes = T })

pub turned-unwritten : {E : Type 0} (p : Progress) (x : Console) (s t : List ℕ) (e : E) (l b w o : List ℕ) →
    s ≡ t → Took p x s (Err e) l b w o → Turned p x t (Err e) l b w o
unfolding Took Turned
turned-unwritten p x s t e l b w o d T = rw (← d) T

pub turned-none : (E : Type 0) (v : Written) (c : List ℕ) (got : ℕ) (l b w o : List ℕ) (k : ℕ) {n : ℕ} →
    n ≡ min got (length c) → n ≡ 0 → Buffered v.progress l o → Idle v.progress k →
    Turned {E = E} v.progress (console v.progress l b w o) (brought got c) (Ok (Break v)) l b w o
unfolding Turned
turned-none E v c got l b w o k held none R I = record {
  none = sym (brought-held got c held) ∙ ap (λ (j : ℕ). take j c) none;
  rested = record { ready = R; printed = I.printed; lines = omega arith };
  equal = refl;
}

-- the same of a read that brought no more than the chunk holds

pub brought-taken : (E : Type 0) (p : Progress) (x : Console) (c : List ℕ) (got : ℕ) (v : Written) (l b w o : List ℕ) →
    Moved (length c) got → 0 < got → Took {E = E} p x (take got c) (Ok v) l b w o →
    Turned {E = E} p x (brought got c) (Ok (Continue v)) l b w o
unfolding brought
brought-taken E p x c got v l b w o h g T =
    turned-taken E p x (take got c) (take got c) v l b w o refl (omega (arith, start-size got c h)) T

pub brought-unwritten : {E : Type 0} (p : Progress) (x : Console) (c : List ℕ) (got : ℕ) (e : E) (l b w o : List ℕ) →
    Took p x (take got c) (Err e) l b w o → Turned p x (brought got c) (Err e) l b w o
unfolding brought
brought-unwritten p x c got e l b w o T = turned-unwritten p x (take got c) (take got c) e l b w o refl T

pub brought-none : (E : Type 0) (v : Written) (c : List ℕ) (got : ℕ) (l b w o : List ℕ) (k : ℕ) → got ≡ 0 →
    Buffered v.progress l o → Idle v.progress k →
    Turned {E = E} v.progress (console v.progress l b w o) (brought got c) (Ok (Break v)) l b w o
brought-none E v c got l b w o k none R I = turned-none E v c got l b w o k {n = 0} (omega arith) refl R I

pub read-turn : {E : Type 0} {p : Progress} {x : Console} {c : List ℕ} {t : Result (ControlFlow Written Written) E}
    {l b w o : List ℕ} (got n : ℕ) → length c ≡ n → Moved n got → Turned p x (brought got c) t l b w o →
    ReadTurn p x c t l b w o
read-turn got n k m T = record { got = got; moved = omega arith; turned = T }

brought-few : (got : ℕ) (c : List ℕ) → length (brought got c) ≤ length c
unfolding brought
brought-few got c = omega (arith, length-take got c)

-- ---- read after read

each-brings : (rs : List Read) (r : Read) → EachBrings rs → Brings r → EachBrings (rs ++ (r ∷ []))
each-brings [] r E B = (B, tt)
each-brings (q ∷ rs) r E B = (E.0, each-brings rs r E.1 B)

input-more : (rs : List Read) (r : Read) →
    input_of (rs ++ (r ∷ [])) ≡ input_of rs ++ brought r.got r.chunk
input-more [] r = append-nil (brought r.got r.chunk)
input-more (q ∷ rs) r =
    ap (λ (s : List ℕ). brought q.got q.chunk ++ s) (input-more rs r) ∙
    sym (append_assoc (brought q.got q.chunk) (input_of rs) (brought r.got r.chunk))

-- from the start the console took what the reads brought, and so many reads can follow
pub record Meeting (left : ℕ) (p : Progress) (l b w o : List ℕ) : Type 0 where
  pub reads : List Read
  pub bring : EachBrings reads
  pub ready : Buffered p l o
  pub printed : p.printed ≡ 0
  pub lines : p.lines + chunk_bytes * left + chunk_bytes ≤ 2 ^ 64
  pub equal : console p l b w o ≡ written (fed start (input_of reads))

meeting-begun : (l b w o : List ℕ) (left : ℕ) → chunk_bytes * left + chunk_bytes ≤ 2 ^ 64 → length l ≡ held_bytes →
    b ≡ empty_table → w ≡ empty_scratch → length o ≡ out_bytes → Meeting left begun l b w o
unfolding start empty_table empty_scratch
meeting-begun l b w o left h e f g k = record {
  reads = [];
  bring = tt;
  ready = record { line = e; out = k; held = omega arith };
  printed = refl;
  lines = omega arith;
  equal = λ i. record { held = []; lines = 0; table = f i; scratch = g i; text = [] };
}

pub meeting-start : (v : Written) (l b w o : List ℕ) (left : ℕ) → v.progress ≡ begun →
    chunk_bytes * left + chunk_bytes ≤ 2 ^ 64 → length l ≡ held_bytes → b ≡ empty_table → w ≡ empty_scratch →
    length o ≡ out_bytes → Meeting left v.progress l b w o
meeting-start v l b w o left s h e f g k =
    subst (λ (p : Progress). Meeting left p l b w o) (sym s) (meeting-begun l b w o left h e f g k)

module _ {left : ℕ} {p : Progress} {l b w o : List ℕ} (M : Meeting left p l b w o) where
  pub meeting-idle : 0 < left → Idle p chunk_bytes
  meeting-idle h = record { printed = M.printed; lines = omega (arith, M.lines) }

  pub meeting-met : Met p l b w o
  meeting-met = record {
    reads = M.reads;
    bring = M.bring;
    ready = M.ready;
    room = record { lines = omega (arith, M.lines); printed = omega (arith, M.printed) };
    equal = M.equal;
  }

  module _ (E : Type 0) (c : List ℕ) (t : ControlFlow Written Written) (v : Written) (l' b' w' o' : List ℕ)
      (T : ReadTurn {E = E} p (console p l b w o) c (Ok t) l' b' w' o') where
    pub meeting-next : (rest : ℕ) → t ≡ Continue v → rest < left → length c ≡ chunk_bytes →
        Meeting rest v.progress l' b' w' o'
    unfolding Turned
    meeting-next rest e h k =
        let C = rw e at T.turned in
        let before = input_of M.reads in
        let r : Read = record { got = T.got; chunk = c } in
        let s = brought T.got c in
        let N = C.takes.rested in
        record {
          reads = M.reads ++ (r ∷ []);
          bring =
              each-brings M.reads r M.bring (record {
                size = k;
                moved = subst (λ (n : ℕ). Moved n T.got) k T.moved;
                some = C.some;
              });
          ready = N.ready;
          printed = N.printed;
          lines = omega (arith, M.lines, N.lines, brought-few T.got c);
          equal =
              C.takes.equal ∙ (ap (λ (y : Console). written (fed y s)) M.equal ∙
              (fed-written s (fed start before) ∙
              ap written (sym (fed-append before s start) ∙ ap (fed start) (sym (input-more M.reads r)))));
        }

    pub meeting-ended : t ≡ Break v → MetAll {E = E} (Ok v) l' b' w' o'
    unfolding Turned MetAll
    meeting-ended e =
        let S = rw e at T.turned in
        let N = S.rested in
        record {
          reads = M.reads;
          bring = M.bring;
          ready = N.ready;
          room = record { lines = omega (arith, M.lines, N.lines); printed = omega (arith, N.printed) };
          equal = S.equal ∙ M.equal;
        }

pub met-ended : (E : Type 0) (v : Written) (l b w o : List ℕ) → MetAll {E = E} (Ok v) l b w o → Met v.progress l b w o
unfolding MetAll
met-ended E v l b w o M = M
