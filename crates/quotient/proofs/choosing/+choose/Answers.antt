use native.Mathlib.Omega.{arith}
use mathlib.Core.Bool.{◌&&◌}
use mathlib.Core.Path.{◌∙◌, ap, refl, subst, sym}
use Prim.Native.Nat.{ℕ, ◌*◌, ◌+◌, ◌<◌, ◌^◌}
use lib.Dec.{ltb}
use Rattle.pairs.specs.Counts.{entry}
use Rattle.quotient.specs.Making.{with_name}
use Rattle.quotient.specs.Named.{choices_from, finished_in}
use Rattle.quotient.proofs.Appending.{appended-same, making-end, making-next, making-room, making-start}
use Rattle.quotient.proofs.Appending.{room-same}
use Rattle.quotient.proofs.Padding.{digit-below, digit-fits}
use Rattle.quotient.proofs.Walking.{chain-less, chosen-end, chosen-first, chosen_last, chosen_left, chosen-next}
use Rattle.quotient.proofs.Walking.{last-next}
use Rattle.quotient.proofs.choosing.+choose.Goals as goal
use Rattle.quotient.proofs.choosing.+choose.Goals.{else-k-arity-2, then-k-arity-2}

pub finish-requires-clause-room : goal.finish-requires-clause-room
finish-requires-clause-room t c =
    room-same c.args.entries.now.count
    (chosen_last c.args.names.now c.args.transitions.now c.args.at c.args.k c.args.choice.own c.args.choice.prefix
    (c.if-k-arity.true ∙ c.arity_of-arity.ensures)) c.requires.room

pub returns-then-k-arity-clause-appended : goal.returns-then-k-arity-clause-appended
returns-then-k-arity-clause-appended t c =
    appended-same
    (sym (chosen_last c.args.names.now c.args.transitions.now c.args.at c.args.k c.args.choice.own c.args.choice.prefix
    (c.if-k-arity.true ∙ c.arity_of-arity.ensures))) c.finish.ensures.appended

pub loop-x-init : goal.loop-x-init
loop-x-init t c = (
  making-start
      (chosen-first c.args.names.now c.args.transitions.now c.args.at c.args.k c.args.choice.own c.args.choice.prefix
      c.index-x.result (omega (arith, c.arity_of-arity.ensures, c.requires.k_bound, c.if-k-arity.false))
      (c.index-x.ensures.value ∙ ap (entry c.args.names.now.kept.now.firsts) c.arg_of.ensures.value)),
  c.index-x.ensures.upper_bound,
)

pub overflow_mul-longer : goal.overflow_mul-longer
overflow_mul-longer t c =
    omega (
      arith,
      digit-fits c.args.k c.args.choice.prefix c.loop-x.x
          (omega (
            arith,
            c.requires.readable.narrow,
            c.arity_of-arity.ensures,
            c.requires.k_bound,
            c.if-k-arity.false,
          )) c.requires.prefix_bound c.loop-x.invariant.1,
    )

pub overflow_add-longer : goal.overflow_add-longer
overflow_add-longer t c =
    omega (
      arith,
      digit-fits c.args.k c.args.choice.prefix c.loop-x.x
          (omega (
            arith,
            c.requires.readable.narrow,
            c.arity_of-arity.ensures,
            c.requires.k_bound,
            c.if-k-arity.false,
          )) c.requires.prefix_bound c.loop-x.invariant.1,
    )

pub finish-requires-then-k-arity-2-clause-prefix_bound : goal.finish-requires-then-k-arity-2-clause-prefix_bound
finish-requires-then-k-arity-2-clause-prefix_bound t c =
    subst (λ (j : ℕ). with_name c.args.choice.prefix c.loop-x.x < 2 ^ (8 * j))
    (c.if-k-arity-2.true ∙ c.arity_of-arity.ensures)
    (digit-below c.args.k c.args.choice.prefix c.loop-x.x c.requires.prefix_bound c.loop-x.invariant.1)

pub finish-requires-then-k-arity-2-clause-room : goal.finish-requires-then-k-arity-2-clause-room
finish-requires-then-k-arity-2-clause-room t c =
    let g = c.args.names.now in
    let s = c.args.transitions.now in
    let at = c.args.at in
    let own = c.args.choice.own in
    let prefix = c.args.choice.prefix in
    let x = c.loop-x.x in
    let next = entry g.kept.now.nexts x in
    making-room (finished_in g s at (own && ltb g.named.now.n x) (with_name prefix x))
    (chosen_left g s at c.args.k own prefix next) c.loop-x.invariant.0
    (last-next g s at c.args.k own prefix x next (c.if-k-arity-2.true ∙ c.arity_of-arity.ensures)
    (omega (arith, c.loop-x-test.true)) refl) c.requires.room

pub choose-requires : goal.choose-requires
choose-requires t c =
    let g = c.args.names.now in
    let s = c.args.transitions.now in
    let at = c.args.at in
    let own = c.args.choice.own in
    let prefix = c.args.choice.prefix in
    let x = c.loop-x.x in
    let next = entry g.kept.now.nexts x in (
      omega (
        arith,
        c.decreases,
        c.requires.readable.narrow,
        c.arity_of-arity.ensures,
        c.requires.k_bound,
        c.if-k-arity.false,
      ),
      (
        c.requires.readable,
        (
          omega (arith, c.arity_of-arity.ensures, c.requires.k_bound, c.if-k-arity.false),
          (
            digit-below c.args.k prefix x c.requires.prefix_bound c.loop-x.invariant.1,
            making-room (choices_from g s at (c.args.k + 1) (own && ltb g.named.now.n x) (with_name prefix x))
                (chosen_left g s at c.args.k own prefix next) c.loop-x.invariant.0
                (chosen-next g s at c.args.k own prefix x next (omega (arith, c.loop-x-test.true)) refl)
                c.requires.room,
          ),
        ),
      ),
    )

pub loop-x-smaller : goal.loop-x-smaller
loop-x-smaller t c =
    rw c.index-x-in-loop-x.ensures.value
    (chain-less c.loop-x.x c.args.names.now.rises (omega (arith, c.loop-x-test.true)) c.loop-x.invariant.1)

pub loop-x-preserved : goal.loop-x-preserved
loop-x-preserved t c =
    let g = c.args.names.now in
    let s = c.args.transitions.now in
    let at = c.args.at in
    let own = c.args.choice.own in
    let prefix = c.args.choice.prefix in
    let x = c.loop-x.x in
    let next = c.index-x-in-loop-x.result in
    let rest = chosen_left g s at c.args.k own prefix next in
    elim c.if-k-arity-2.branch [
      | then-k-arity-2 w ↦ (
        rw w.entries-is (making-next rest c.loop-x.invariant.0
            (last-next g s at c.args.k own prefix x next (w.if-k-arity-2.true ∙ c.arity_of-arity.ensures)
            (omega (arith, c.loop-x-test.true)) c.index-x-in-loop-x.ensures.value)
            w.finish-then-k-arity-2.ensures.appended w.finish-then-k-arity-2.ensures.same_arrays),
        c.index-x-in-loop-x.ensures.upper_bound,
      )
      | else-k-arity-2 w ↦ (
        rw w.entries-is (making-next rest c.loop-x.invariant.0
            (chosen-next g s at c.args.k own prefix x next (omega (arith, c.loop-x-test.true))
            c.index-x-in-loop-x.ensures.value) w.choose.ensures.appended w.choose.ensures.same_arrays),
        c.index-x-in-loop-x.ensures.upper_bound,
      )
    ]

pub returns-clause-appended : goal.returns-clause-appended
returns-clause-appended t c =
    making-end c.loop-x.invariant.0
    (chosen-end c.args.names.now c.args.transitions.now c.args.at c.args.k c.args.choice.own c.args.choice.prefix
    c.loop-x.x (omega (arith, c.loop-x-test.false)))
