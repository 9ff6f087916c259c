-- Packed transitions written as bytes, one after another.
use mathlib.Core.Bool.{Bool, false, true}
use mathlib.Core.List.{List, map}
use mathlib.Core.Path.{◌∙◌, ◌≡◌, ap, refl, subst, sym}
use Prim.Native.Nat.{◌*◌, ◌+◌, ◌<◌, ◌≤◌, ℕ}
use native.Mathlib.Nat.{zero-add}
use native.Mathlib.Omega.{arith}
use lib.Dec.{ltb}
use lib.ListN.{get_or-eq_default, get_or, length}
use borrow.Author.Tests.{ltb-false, ltb-true}
use Rattle.automata.specs.Automaton.{Transition}
use Rattle.automata.specs.NamedChange.{OverNames}
use Rattle.change.specs.Between.{Packed, Run, between_names}
use Rattle.change.specs.Given.{Named}
use Rattle.format.specs.Format.{byte_values, max_arity, scratch_bytes, transition_bytes}
use Rattle.lists.specs.Positions.{up_from}
use Rattle.lists.specs.Tests.{◌∈◌}
use Rattle.packed.specs.Heads.{HoldsPacked, head_arity, head_out, nth_packed, packed_in, packed_transition}
use Rattle.packed.specs.Heads.{place_of}
use Rattle.naming.specs.Choice.{name_in}
use Rattle.numbering.specs.Tables.{EntryAt, RunPut}
use Rattle.subtrees.specs.Store.{bottom_up}
use Rattle.subtrees.specs.declared.Subtrees.{Subtrees}
use Rattle.table.specs.Layout.{arg_of, decode, nth_transition, transition_at, transitions_in}
use Rattle.trees.specs.Tree.{Tree}
use Rattle.change.proofs.Inputs.{given-few}
use Rattle.change.proofs.Results.{named-legal, named-over, used-bounded}
use Rattle.packed.proofs.Heads.{Fitting}
use Rattle.lists.proofs.Intervals.{get_d-in, get_d-tabulated, in-tabulated, length-tabulated, tabulated}

-- two functions that agree on an interval
tabulated-same : {X : Type 0} (f g : ℕ → X) (d : X) (n : ℕ) → ((i : ℕ) → i < n → f i ≡ g i) →
    map f (up_from 0 n) ≡ map g (up_from 0 n)
tabulated-same f g d n h =
    tabulated f 0 n d (map g (up_from 0 n)) (length-tabulated g 0 n)
    (λ i l. ap f (zero-add i) ∙ h i l ∙ sym (get_d-tabulated g 0 n i d l ∙ ap g (zero-add i)))

entry-transition : {t : List ℕ} {at h a : ℕ} → EntryAt t at h a → head_arity h ≤ max_arity →
    transition_at t at ≡ packed_transition h a
entry-transition {t} {at} {h} {a} E narrow =
    let args = ap (λ (k : ℕ). map (arg_of t at) (up_from 0 k)) E.arity
    ∙ tabulated-same (arg_of t at) (place_of a) 0 (head_arity h) (λ k l. E.arg k (omega arith)) in
    λ i. record { label = E.label i; args = args i; out = E.out i }

module _ {b s hs us : List ℕ} {c : ℕ} (H : HoldsPacked hs us c) (P : RunPut b s hs us 0 c) where
  entry : (i : ℕ) → i < c → EntryAt s (transition_bytes * i) (get_or hs i 0) (get_or us i 0)
  entry i h =
      subst (λ (x : ℕ). EntryAt s x (get_or hs i 0) (get_or us i 0)) (zero-add (transition_bytes * i)) (P.each i h)

  run-nth : (i : ℕ) → i < c → nth_transition s i ≡ nth_packed hs us i
  run-nth i h = entry-transition (entry i h) (H.each i h).narrow

  run-list : transitions_in s c ≡ packed_in hs us c
  unfolding transitions_in packed_in
  run-list = tabulated-same (nth_transition s) (nth_packed hs us) (nth_transition s 0) c run-nth

  in-run : (i : ℕ) → i < c → nth_packed hs us i ∈ packed_in hs us c
  unfolding packed_in
  in-run i h = in-tabulated (nth_packed hs us) 0 c i (omega arith) (omega arith)

  pub run-put : length b ≡ scratch_bytes → {inserting : Bool} {t : Tree} {tb : List ℕ} {k n : ℕ} {r : Subtrees}
      {o names : List ℕ} → Named inserting t tb k n r o names → Packed t tb names hs us c →
      Run t tb names s c (n + r.count)
  run-put size {inserting} {t} {tb} {k} {n} {r} {o} {names} N K = record {
    over = record {
      runs = record {
        inside = omega (arith, P.size, size, H.few);
        few = omega (arith, H.few);
        narrow = λ i h. omega (arith, (entry i h).arity, (H.each i h).narrow);
      };
      label = λ i h. omega (arith, (entry i h).label, (H.each i h).label-some);
      arg-some = λ i j h l.
          let m : j < head_arity (get_or hs i 0) = omega (arith, (entry i h).arity) in
          omega (arith, (entry i h).arg j (omega (arith, (H.each i h).narrow)), (H.each i h).some j m);
      arg-state = λ i j h l.
          let m : j < head_arity (get_or hs i 0) = omega (arith, (entry i h).arity) in
          omega (arith, (entry i h).arg j (omega (arith, (H.each i h).narrow)), arg-bounded i h j m);
      out_some = λ i h. omega (arith, (entry i h).out, out-bounded i h);
      out-state = λ i h. omega (arith, (entry i h).out, out-bounded i h);
    };
    list = run-list ∙ K.list;
  }
    where
      there : (i : ℕ) → i < c → nth_packed hs us i ∈ between_names t tb names
      there i h = subst (λ (W : List Transition). nth_packed hs us i ∈ W) K.list (in-run i h)

      arg-bounded : (i : ℕ) → i < c → (j : ℕ) → j < head_arity (get_or hs i 0) → place_of (get_or us i 0) j ≤ n + r.count
      arg-bounded i h j l =
          (used-bounded N (place_of (get_or us i 0) j)
          ((named-over N (nth_packed hs us i) (there i h)).args (place_of (get_or us i 0) j)
          (in-tabulated (place_of (get_or us i 0)) 0 (head_arity (get_or hs i 0)) j (omega arith) (omega arith)))).1

      out-bounded : (i : ℕ) → i < c → (1 ≤ head_out (get_or hs i 0)) × (head_out (get_or hs i 0) ≤ n + r.count)
      out-bounded i h =
          used-bounded N (head_out (get_or hs i 0)) (named-over N (nth_packed hs us i) (there i h)).out

-- the transitions between names fit their two numbers
pub between-fit : {inserting : Bool} {t : Tree} {b : List ℕ} {k n : ℕ} {r : Subtrees} {o names : List ℕ} →
    Named inserting t b k n r o names → (σ : Transition) → σ ∈ between_names t b names → Fitting σ
between-fit {inserting} {t} {b} {k} {n} {r} {o} {names} N σ i = record {
  label-some = (named-legal N σ i).label.0;
  label = (named-legal N σ i).label.1;
  args = record {
    short = (named-legal N σ i).arity;
    some = λ j h. (used-bounded N (get_or σ.args j 0) (O.args (get_or σ.args j 0) (get_d-in σ.args j 0 h))).0;
    bytes = λ j. byte j (ltb j (length σ.args)) refl;
  };
  out = omega (arith, used-bounded N σ.out O.out, most);
}
  where
    O : OverNames (decode b) t (bottom_up t) (name_in (bottom_up t) names) σ
    O = named-over N σ i

    most : n + r.count < byte_values
    most = omega (arith, given-few N.given, N.given.lists.few)

    byte : (j : ℕ) (c : Bool) → ltb j (length σ.args) ≡ c → get_or σ.args j 0 < byte_values
    byte j true e =
        let x = get_or σ.args j 0 in
        omega (
          arith,
          used-bounded N x (O.args x (get_d-in σ.args j 0 (ltb-true j (length σ.args) e))),
          most,
        )
    byte j false e = omega (arith, get_or-eq_default σ.args 0 (ltb-false j (length σ.args) e))
