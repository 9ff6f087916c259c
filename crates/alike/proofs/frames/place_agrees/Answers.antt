-- `alike::frames::place_agrees` meets its contract: true for another child; else the parent's number is above j, so
-- its name is known.
use native.Mathlib.Omega.{arith}
use mathlib.Core.Path.{◌∙◌, refl, sym}
use Rattle.alike.proofs.FrameNames.{place_other, place-own}
use Rattle.alike.proofs.frames.place_agrees.Goals as goal

pub overflow_add-i : goal.overflow_add-i
overflow_add-i c =
    omega (arith, c.args.setting.now.shaped.few, c.args.setting.now.shaped.narrow c.args.i (omega arith))

pub bounds-setting-i : goal.bounds-setting-i
bounds-setting-i c =
    omega (arith, c.args.setting.now.shaped.few, c.args.setting.now.shaped.narrow c.args.i (omega arith))

pub returns-then-from-a : goal.returns-then-from-a
returns-then-from-a c =
    λ A t ts N j e holds known above sub. place_other A N ts c.args.setting.now.subtrees.now.labels c.args.setting.now.subtrees.now.arities c.args.setting.now.subtrees.now.children c.args.a c.args.x c.args.i c.args.k (λ z. c.if-from-a.true (c.from.ensures ∙ z))

pub frame_name-name-requires : goal.frame_name-name-requires
frame_name-name-requires c = record {
  i_lt_m = c.requires.i_lt_m;
  k_bound = c.requires.k_bound;
  numbered = c.requires.numbered;
}

pub returns : goal.returns
returns c =
    λ A t ts N j e holds known above sub. place-own A N ts c.args.setting.now.subtrees.now.labels c.args.setting.now.subtrees.now.arities c.args.setting.now.subtrees.now.children c.args.a c.args.x c.args.i c.args.k
    c.args.setting.now.shaped c.requires.i_lt_m c.requires.k_bound known above (sym c.from.ensures ∙ c.if-from-a.false) refl (c.frame_name-name.ensures A t ts N j e holds known sub)
