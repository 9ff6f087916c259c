-- Each result is that of the scan, which is exact.
use mathlib.Core.Path.{◌∙◌, sym}
use Rattle.uses.proofs.Exact.{uses-exact, uses-same}
use Rattle.uses.proofs.uses_agree.Goals as goal

pub returns-then-p-q : goal.returns-then-p-q
returns-then-p-q c =
    λ A t ts F holds frames. uses-same A t F c.args.p c.args.q c.if-p-q.true

pub returns-then-not-hint_agrees : goal.returns-then-not-hint_agrees
returns-then-not-hint_agrees c =
    λ A t ts F holds frames. sym (c.hint_agrees.ensures.refused c.if-not-hint_agrees.true) ∙ uses-exact
    c.args.setting.now.searchable c.args.setting.now.over holds c.args.frames.first c.args.frames.second F frames c.args.p c.args.q

pub returns-then-not-hint_agrees-2 : goal.returns-then-not-hint_agrees-2
returns-then-not-hint_agrees-2 c =
    λ A t ts F holds frames. sym (c.hint_agrees-2.ensures.refused c.if-not-hint_agrees-2.true) ∙ uses-exact
    c.args.setting.now.searchable c.args.setting.now.over holds c.args.frames.first c.args.frames.second F frames c.args.p c.args.q

pub returns-then-walk_agrees : goal.returns-then-walk_agrees
returns-then-walk_agrees c =
    λ A t ts F holds frames. sym (c.walk_agrees.ensures c.if-walk_agrees.true) ∙ uses-exact
    c.args.setting.now.searchable c.args.setting.now.over holds c.args.frames.first c.args.frames.second F frames c.args.p c.args.q

pub returns : goal.returns
returns c =
    λ A t ts F holds frames. c.transitions_agree.ensures ∙ uses-exact c.args.setting.now.searchable c.args.setting.now.over holds
    c.args.frames.first c.args.frames.second F frames c.args.p c.args.q
