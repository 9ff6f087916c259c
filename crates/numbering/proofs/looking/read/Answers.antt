-- `numbering::looking::read` meets its contract: each return is a lemma about the pass.
use native.Mathlib.Omega.{arith}
use Rattle.std.proofs.Common.{rules}
use mathlib.Core.List.{map}
use mathlib.Core.Path.{◌∙◌, ap, sym}
use Prim.Native.Nat.{ℕ}
use lib.ListN.{get_or}
use Rattle.automata.specs.Numbered.{top}
use Rattle.lists.specs.Positions.{up_from}
use Rattle.packed.specs.Heads.{place_of}
use Rattle.numbering.proofs.Passes.{read_known, read_low, read_next}
use Rattle.numbering.proofs.looking.read.Goals as goal

pub returns-then-out-t : goal.returns-then-out-t
returns-then-out-t c =
    let t = (c.top_place-t.ensures ∙ ap (λ (n : ℕ). top (map (place_of (get_or c.args.transitions.now.args.now
    c.args.i 0)) (up_from 0 n))) c.arity_of.ensures) in
    read_low c.args.transitions.now.heads.now c.args.transitions.now.args.now c.args.i c.args.seen.now
    c.requires.passed (search rules) c.requires.spans (omega (
      arith,
      t,
      c.out_of-out.ensures.value,
    ))

pub returns-then-leads_to : goal.returns-then-leads_to
returns-then-leads_to c =
    let t = (c.top_place-t.ensures ∙ ap (λ (n : ℕ). top (map (place_of (get_or c.args.transitions.now.args.now
    c.args.i 0)) (up_from 0 n))) c.arity_of.ensures) in
    let o = c.out_of-out.ensures.value in
    let m = ap (λ (q : ℕ). get_or c.args.seen.now q 0) o in
    let l = c.leads_to.ensures c.if-leads_to.true in
    read_known c.args.transitions.now.heads.now c.args.transitions.now.args.now c.args.i c.args.seen.now
    c.requires.passed (search rules) c.requires.spans (omega (arith, t, o, c.if-out-t.false))
    (omega (arith, l.0, m)) (omega (arith, l.1, m, t))

pub returns : goal.returns
returns c =
    let t = (c.top_place-t.ensures ∙ ap (λ (n : ℕ). top (map (place_of (get_or c.args.transitions.now.args.now
    c.args.i 0)) (up_from 0 n))) c.arity_of.ensures) in
    let o = c.out_of-out.ensures.value in
    let e = sym c.all_seen.ensures ∙ c.if-not-all_seen.false in
    rw (t, o) (read_next c.args.transitions.now.heads.now c.args.transitions.now.args.now c.args.i c.args.seen.now
    c.requires.passed (search rules) c.requires.spans (omega (arith, t, o, c.if-out-t.false))
    (omega (arith, o, c.out_of-out.ensures.upper_bound)) (rw (t, o) at e))
